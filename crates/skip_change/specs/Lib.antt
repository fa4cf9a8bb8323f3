pub mod Changing
pub mod Headers
