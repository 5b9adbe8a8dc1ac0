pub mod Views
pub mod Conditions
pub mod Texts
pub mod Faults
pub mod Rights
pub mod Carts
pub mod Pages
pub mod Printed
