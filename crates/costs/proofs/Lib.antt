pub mod ZonesAreSets
pub mod Puts
