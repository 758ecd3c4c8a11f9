pub mod Nearing
