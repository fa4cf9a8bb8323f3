pub mod Doing
pub mod Printing
pub mod Tasks
pub mod ToolNotes
