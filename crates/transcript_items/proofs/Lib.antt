mod Fills
mod Ways
