mod Filled
mod Left
mod Opened
mod Values
