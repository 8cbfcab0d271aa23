pub mod Columns
pub mod FromColumns
pub mod Places
pub mod Views
pub mod WholeSeconds
