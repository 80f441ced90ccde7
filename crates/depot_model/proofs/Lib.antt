pub mod of_texts
pub mod lists
pub mod of_updates
pub mod examples
pub mod of_journals
