pub mod Flags
pub mod TickSets
pub mod Parts
pub mod Indexing
pub mod Walking
pub mod Placing
pub mod Marking
pub mod FromBlank
