pub mod ElementPlans
pub mod Input
pub mod ProofRefusals
pub mod RangePlans
