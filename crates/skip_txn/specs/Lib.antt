pub mod Bounds
pub mod Places
pub mod Room
pub mod Sessions
