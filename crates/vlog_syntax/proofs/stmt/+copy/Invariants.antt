use Rattle.std.proofs.Common.{◌≡◌, take}
use Rattle.vlog_syntax.proofs.stmt.+copy.Given as goal

abbrev pub invariant-copy_statements-loop-statement : goal.invariant-copy_statements-loop-statement
invariant-copy_statements-loop-statement l = l.copies ≡ take l.statement-index l.statements

abbrev pub invariant-copy_items-loop-item : goal.invariant-copy_items-loop-item
invariant-copy_items-loop-item l = l.copies ≡ take l.item-index l.items
