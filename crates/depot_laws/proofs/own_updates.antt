-- What a node writes itself.
pub mod Nexts
pub mod OwnSteps
pub mod OwnTexts
pub mod OwnAgree
pub mod Puts
pub mod Once
pub mod OwnVouchers
pub mod OwnContent
pub mod OwnOrder
