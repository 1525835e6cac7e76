use Rattle.signal_masks.proofs.Common.{◌≡◌, ℕ, ◌||◌, take, names_of, senses, all_reads, bits_in}
use Rattle.signal_masks.proofs.reads.+reads.Given as goal

abbrev pub invariant-reads_of_all-loop-expr : goal.invariant-reads_of_all-loop-expr
invariant-reads_of_all-loop-expr l = (n i : ℕ) → bits_in l.masks n i ≡ (bits_in l.fn.masks n i || all_reads (senses (names_of l.scope) (take l.expr-index l.exprs)) n i)
