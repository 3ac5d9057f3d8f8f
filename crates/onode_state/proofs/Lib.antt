pub mod ShardRows
pub mod ReadShards
pub mod States
pub mod FoundPages
pub mod OnodeRows
pub mod FoundObjects
