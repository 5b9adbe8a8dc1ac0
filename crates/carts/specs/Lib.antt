pub mod Carts
pub mod Drafts
