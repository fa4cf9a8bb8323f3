pub mod CheckWord
