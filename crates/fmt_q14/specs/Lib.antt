pub mod Q14
