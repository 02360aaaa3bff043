pub mod Sums
pub mod Spans
pub mod Lots
pub mod Values
pub mod Standings
pub mod Theorems
