pub mod Lent
pub mod Parts
pub mod Tallies
pub mod Bytes
pub mod Marks
pub mod Lawful
pub mod Limiting
