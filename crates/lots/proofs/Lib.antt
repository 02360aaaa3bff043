pub mod Lists
pub mod Summing
pub mod Costing
pub mod Runs
pub mod Prices
pub mod Placing
pub mod Filling
