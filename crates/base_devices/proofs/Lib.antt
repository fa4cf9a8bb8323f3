pub mod FrameLemmas
pub mod Lengths
pub mod Moments
