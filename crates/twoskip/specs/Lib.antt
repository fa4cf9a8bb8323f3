pub mod Filling
pub mod Opening
pub mod Repacking
pub mod TieLaws
