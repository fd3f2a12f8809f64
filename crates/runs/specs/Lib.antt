pub mod Rows
pub mod Parts
pub mod Lent
pub mod Reach
pub mod Lists
pub mod Soundness
pub mod Laws
