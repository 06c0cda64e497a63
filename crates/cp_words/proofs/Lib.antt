mod Getters
mod Turns
mod Leaf
mod Fitting
mod Rows
mod Written
