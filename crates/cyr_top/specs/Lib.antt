pub mod Actions
pub mod Asked
pub mod Converting
pub mod Crashes
pub mod Rebuilding
pub mod Repacking
pub mod Stated
