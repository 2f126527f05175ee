pub mod ReaderRefusals
pub mod ReaderProofs
pub mod PairReads
pub mod StoreCalls
pub mod StoreParts
pub mod StoreMulti
pub mod ShownLists
pub mod HistoricalRoots
