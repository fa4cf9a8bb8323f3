pub mod Repacking
