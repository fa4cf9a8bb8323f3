pub mod Fields
pub mod Flaws
pub mod Laws
pub mod Sizes
pub mod Spelling
