pub mod Curators
pub mod Desks
pub mod Laws
