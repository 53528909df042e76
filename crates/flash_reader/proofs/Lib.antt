mod LineCuts
mod Scans
mod Awaited
mod Skips
