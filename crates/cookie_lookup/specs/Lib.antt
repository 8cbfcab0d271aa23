pub mod RowFilter
pub mod Groups
pub mod SearchView
pub mod Positions
pub mod Candidates
