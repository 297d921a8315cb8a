-- Theorems is the front door.
mod Bytes
mod Captures
mod Theorems
