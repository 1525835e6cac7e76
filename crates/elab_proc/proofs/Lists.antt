-- Lists of what the items of a list give, one item more at a time.
use Rattle.elab_proc.proofs.Common.{◌≡◌, zero, suc, ℕ, ◌<◌, List, [], ◌∷◌, ◌++◌, map, sym, ap, ◌∙◌, arith, length, get_or, take, append_assoc, append-nil, LeftSide, Part, concatenated, parts_of}
pub use Rattle.vlog_refusals.proofs.Lists.{flat_take, map_take}

pub parts_take : (xs : List LeftSide) (k : ℕ) (x : LeftSide) → x ≡ get_or xs k x → k < length xs → concatenated (map parts_of (take (suc k) xs)) ≡ concatenated (map parts_of (take k xs)) ++ parts_of x
parts_take [] k x is h = absurd (omega arith)
parts_take (y ∷ ys) zero x is h = append-nil (parts_of y) ∙ ap parts_of (sym is)
parts_take (y ∷ ys) (suc k) x is h = ap (λ (l : List Part). parts_of y ++ l) (parts_take ys k x is (omega arith)) ∙ sym (append_assoc (parts_of y) (concatenated (map parts_of (take k ys))) (parts_of x))
