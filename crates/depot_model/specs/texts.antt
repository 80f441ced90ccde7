-- The texts of what is signed, kept and sent.
pub mod Contents
pub mod Texts
pub mod Plain
pub mod Winternitz
pub mod Roster
pub mod RosterText
pub mod Log
pub mod Lines
pub mod Records
pub mod Frames
pub mod TextFacts
