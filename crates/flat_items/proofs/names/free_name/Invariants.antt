use Rattle.flat_items.proofs.Common.{List, ℕ, codes, string_bytes, what_of, IsFree}
use Rattle.flat_items.proofs.names.free_name.Given as goal

abbrev pub invariant-zeros : goal.invariant-zeros
invariant-zeros l = (name : List ℕ) → IsFree (what_of l.own) l.number (string_bytes l.prefix) name → IsFree (what_of l.own) l.number (codes "genblk") name
