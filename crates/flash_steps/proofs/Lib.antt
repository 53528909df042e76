mod Others
mod Deleting
mod Counting
mod Flushing
mod Refusing
mod Numbering
