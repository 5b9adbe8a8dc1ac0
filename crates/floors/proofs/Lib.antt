pub mod Bounds
pub mod Cells
pub mod LaneTables
pub mod Tables
