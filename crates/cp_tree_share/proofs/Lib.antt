mod Apart
mod At
mod Halved
mod InPlace
mod Read
