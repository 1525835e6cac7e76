pub mod OnFiles
