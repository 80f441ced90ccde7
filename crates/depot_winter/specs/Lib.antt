pub mod Signer
pub mod TreeSigning
pub mod Smaller
pub mod Tree
pub mod KeptBottom
