pub mod StoreValue
pub mod StoreProof
pub mod StoreLaws
pub mod StoreRows
pub mod StoreCode
pub mod StoreReads
