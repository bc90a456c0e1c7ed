mod Gaining
mod Tying
mod Closed
mod Works
mod Ending
mod Portions
