pub mod Changed
pub mod Sound
pub mod Tying
pub mod Views
