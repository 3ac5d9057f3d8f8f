pub mod Taking
pub mod Adding
pub mod TextLemmas
pub mod ReplyLemmas
pub mod IndexLemmas
pub mod DumpLemmas
pub mod FsckLemmas
pub mod HexLemmas
