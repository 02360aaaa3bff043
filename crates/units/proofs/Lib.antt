pub mod Checking
pub mod Taking
pub mod Keeping
pub mod Held
