pub mod Commands
pub mod JobOf
pub mod Numbers
pub mod PathsOf
pub mod Reading
