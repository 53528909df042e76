mod Writing
mod Playing
mod Checked
