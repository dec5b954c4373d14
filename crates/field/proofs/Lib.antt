pub mod Shift
pub mod Laws
