pub mod Memory
pub mod MemoryLaws
pub mod Frames
pub mod FrameLaws
pub mod Packed
pub mod Blocks
pub mod Lending
pub mod WriteLaws
