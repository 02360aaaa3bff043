pub mod Bytes
pub mod Frames
pub mod Readers
pub mod Kinds
pub mod Decoding
pub mod Records
pub mod Playing
pub mod Faults
