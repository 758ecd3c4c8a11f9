pub mod Cells
pub mod LogRows
pub mod Placed
pub mod Told
pub mod WideNumbers
