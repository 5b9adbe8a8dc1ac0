pub mod Floors
pub mod Grids
pub mod Lanes
pub mod MoveTables
pub mod Refusals
pub mod Shut
