pub mod Simulating
