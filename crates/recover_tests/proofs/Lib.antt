pub mod Files
pub mod Lefts
