pub mod CallViews
pub mod Insertions
pub mod Merging
pub mod Overlaid
pub mod Responses
pub mod SecureIndexes
