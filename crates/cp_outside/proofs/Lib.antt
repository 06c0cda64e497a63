mod Named
mod WritesInTurn
pub mod Telling
