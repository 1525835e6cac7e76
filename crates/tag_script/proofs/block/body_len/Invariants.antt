use Rattle.tag_script.proofs.Common.{◌≡◌, ◌+◌, drop, prefix_len, is_further}
use Rattle.tag_script.proofs.block.body_len.Given as goal

abbrev pub invariant-loop-i : goal.invariant-loop-i
invariant-loop-i l = l.i + prefix_len (is_further l.indent) (drop l.i l.rows) ≡ prefix_len (is_further l.indent) l.rows
