pub mod Refusals
pub mod Sides
pub mod Registrations
pub mod Pairs
pub mod Offers
pub mod Totals
pub mod Moves
pub mod Units
