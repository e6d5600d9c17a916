mod Places
mod Counting
mod Marking
