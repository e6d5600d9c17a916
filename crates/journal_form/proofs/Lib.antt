mod Moments
mod Updating
mod Steps
