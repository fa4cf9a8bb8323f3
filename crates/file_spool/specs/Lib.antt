pub mod FileSpool
