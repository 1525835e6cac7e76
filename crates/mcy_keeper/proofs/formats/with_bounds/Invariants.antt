use Rattle.std.proofs.Common.{◌≡◌, take}
use Rattle.mcy_keeper.specs.Books.{with_bounds}
use Rattle.mcy_keeper.proofs.formats.with_bounds.Given as goal

abbrev pub invariant-loop-place : goal.invariant-loop-place
invariant-loop-place l = l.rows.items ≡ with_bounds l.bounds (take l.place l.entries)
