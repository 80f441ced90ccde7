-- Contradictions, proofs and who is convicted.
pub mod Contrary
pub mod GoodProofs
pub mod Convictions
pub mod ContraryConvict
pub mod Exposures
pub mod HollowTexts
