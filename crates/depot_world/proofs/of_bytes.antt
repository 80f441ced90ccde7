-- All that a schedule makes is made of bytes.
pub mod OnlyBytes
pub mod ByteTexts
pub mod ByteJournals
pub mod ByteFeeds
pub mod ByteSignatures
pub mod ByteOwn
pub mod ByteBundles
pub mod ByteLabels
