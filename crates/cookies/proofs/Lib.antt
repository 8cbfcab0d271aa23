pub mod OtherNames
pub mod SafeTexts
pub mod ShownValues
