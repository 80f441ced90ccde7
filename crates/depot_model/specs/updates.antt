-- Updates: their order, histories, contradictions.
pub mod Order
pub mod Contradictions
pub mod Judgement
pub mod Conviction
pub mod History
pub mod Changes
pub mod Chains
pub mod LatestList
