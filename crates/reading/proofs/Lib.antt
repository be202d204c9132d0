mod Heads
mod Gates
mod Texts
