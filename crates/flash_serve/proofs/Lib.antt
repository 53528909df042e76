mod Ending
mod Passing
mod Rising
