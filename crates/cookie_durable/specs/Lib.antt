pub mod Checks
pub mod DatabaseFiles
pub mod Durable
pub mod Numbering
pub mod Replacing
pub mod SavedTables
pub mod Sessions
pub mod Sweeping
