pub mod Parts
pub mod Chains
pub mod Removals
pub mod Insertions
pub mod Additions
pub mod WholeFronts
pub mod Taking
