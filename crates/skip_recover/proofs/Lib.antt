pub mod Bases
pub mod Finishing
pub mod Leading
pub mod Nexts
pub mod Passing
pub mod Runs
pub mod TidyHeads
pub mod Walking
