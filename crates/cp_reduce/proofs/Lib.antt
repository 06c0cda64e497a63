mod Expanding
mod Finding
mod Reducing
mod Telling
