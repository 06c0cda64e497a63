mod Calls
mod EffectLemmas
mod Found
mod Gathered
mod Losing
mod LostLemmas
pub mod Marking
mod Netting
pub mod Noting
mod OriginLemmas
mod OriginRows
pub mod Reaches
mod ReducedRows
mod Runs
mod Sets
mod SparseLemmas
mod Standing
