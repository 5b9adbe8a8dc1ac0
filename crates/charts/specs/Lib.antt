pub mod TickSets
pub mod Parts
pub mod Indexes
pub mod Charts
