pub mod Order
pub mod Points
pub mod Passing
pub mod Looks
pub mod Splices
pub mod Turns
pub mod Keeps
pub mod Lawful
