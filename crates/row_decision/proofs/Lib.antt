pub mod Numbers
pub mod Graphs
pub mod Adding
pub mod Fronted
pub mod Runs
pub mod Conjoined
