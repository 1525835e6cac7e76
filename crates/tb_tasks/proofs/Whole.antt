-- Arguments that have a shape, where only some of them are taken.
use Rattle.std.proofs.Common.{◌≡◌, zero, suc, ℕ, ◌-◌, ◌<◌, List, [], ◌∷◌, subst, sym, arith, length, get_or, take, drop}
use Rattle.vlog_syntax.specs.declared.stmt.Argument.{Argument}
use Rattle.vlog_meaning.specs.Scopes.{Names}
use Rattle.tb_tasks.specs.Tasks.{IsWholeArgument, AreWhole}

whole_drop : (names : Names) (n : ℕ) (xs : List Argument) → AreWhole names xs → AreWhole names (drop n xs)
whole_drop names zero xs all = all
whole_drop names (suc n) [] all = all
whole_drop names (suc n) (x ∷ xs) all = whole_drop names n xs all.1

whole_take : (names : Names) (n : ℕ) (xs : List Argument) → AreWhole names xs → AreWhole names (take n xs)
whole_take names zero xs all = tt
whole_take names (suc n) [] all = tt
whole_take names (suc n) (x ∷ xs) all = (all.0, whole_take names n xs all.1)

-- the arguments from a place on
pub whole_from : (names : Names) (n : ℕ) (xs : List Argument) → AreWhole names xs → AreWhole names (take (length xs - n) (drop n xs))
whole_from names n xs all = whole_take names (length xs - n) (drop n xs) (whole_drop names n xs all)

-- the argument at a place
pub whole_at : (names : Names) (xs : List Argument) (k : ℕ) (x : Argument) → x ≡ get_or xs k x → k < length xs → AreWhole names xs → IsWholeArgument names x
whole_at names [] k x is h all = absurd (omega arith)
whole_at names (y ∷ ys) zero x is h all = subst (IsWholeArgument names) (sym is) all.0
whole_at names (y ∷ ys) (suc k) x is h all = whole_at names ys k x is (omega arith) all.1
