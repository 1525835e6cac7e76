mod Cycles
mod Moving
mod Words
