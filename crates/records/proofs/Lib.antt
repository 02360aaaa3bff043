pub mod Listing
pub mod Playing
