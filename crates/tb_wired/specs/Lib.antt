pub mod Wired
