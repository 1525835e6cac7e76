use Rattle.result_book.proofs.Common.{◌≡◌, take}
use Rattle.result_book.proofs.check.first_difference.Given as goal

abbrev pub invariant-loop-place : goal.invariant-loop-place
invariant-loop-place l = take l.place l.kept ≡ take l.place l.derived
