pub mod OnePrints
