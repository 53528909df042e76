mod Answering
mod Deciding
mod FirstLine
mod Results
mod Runs
