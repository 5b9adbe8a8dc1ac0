pub mod Checking
pub mod Instances
pub mod Adding
pub mod Counting
pub mod Opening
pub mod OnePrints
