-- The context of a right side.
pub use Rattle.vlog_refusals.proofs.SideLemmas.{context_is}
