pub mod Passed
pub mod Signs
pub mod Laws
