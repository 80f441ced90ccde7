pub mod Lanes
pub mod ChainItems
pub mod KeptRows
pub mod Spots
pub mod Numbered
pub mod KeyLists
pub mod LatestItems
