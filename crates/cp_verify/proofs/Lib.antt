mod Comparing
mod Working
mod Found
