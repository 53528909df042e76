mod Turning
mod Parts
mod Single
