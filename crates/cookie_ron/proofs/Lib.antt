mod Bools
pub mod CharFronts
pub mod Chars
pub mod Digits
pub mod EndsRead
pub mod FieldFronts
pub mod Fronts
mod HasRule
pub mod ListFronts
mod MomentTexts
mod OneResult
pub mod Onto
pub mod Powers
mod PrintedBack
mod PrintedChars
mod PrintedLists
pub mod RonResults
pub mod SignFronts
pub mod TextFronts
