pub mod Answered
mod FromPlaces
mod Hops
mod Left
mod LevelZero
mod Measure
mod Prefixes
pub mod Reading
mod Top
mod TwoLevels
mod Walking
