pub mod EndedLines
pub mod ReadAlike
pub mod SetLines
