pub mod Spelling
pub mod Language
pub mod Vocabulary
pub mod FileNames
pub mod PutKeys
pub mod LineTexts
pub mod LineReading
