pub mod Heads
pub mod Laws
pub mod Levels
pub mod Repair
pub mod Tie
