pub mod Entries
pub mod Layout
pub mod Borrows
pub mod RetainsTo
