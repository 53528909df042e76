mod Blocks
mod Masks
