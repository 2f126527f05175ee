pub mod Arguments
pub mod AsciiLines
pub mod WordRows
