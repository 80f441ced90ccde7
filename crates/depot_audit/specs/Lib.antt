pub mod Tables
pub mod MetTexts
pub mod TracedWorlds
pub mod Lookups
pub mod Shows
pub mod OneNode
pub mod InTurn
