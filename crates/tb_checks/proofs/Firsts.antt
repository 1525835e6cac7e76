-- The first fault of parts, one after the other.
use Rattle.tb_checks.proofs.Common.{◌≡◌, suc, ℕ, ◌<◌, List, ◌++◌, sym, subst, length, get_or, take, Option, flat_map, BenchFault, IsFirst}
use Rattle.vlog_refusals.proofs.Lists.{flat_take}

-- the earlier of two stands first in both lists
abbrev pub Joins : Option BenchFault → Option BenchFault → Option BenchFault → Type 0
Joins a b r = (xs ys : List BenchFault) → IsFirst xs a → IsFirst ys b → IsFirst (xs ++ ys) r

pub two : (l xs ys : List BenchFault) (a b r : Option BenchFault) → l ≡ xs ++ ys → Joins a b r → IsFirst xs a → IsFirst ys b → IsFirst l r
two l xs ys a b r is joins i j = subst (λ (z : List BenchFault). IsFirst z r) (sym is) (joins xs ys i j)

pub same : (l m : List BenchFault) (o : Option BenchFault) → l ≡ m → IsFirst m o → IsFirst l o
same l m o is i = subst (λ (z : List BenchFault). IsFirst z o) (sym is) i

-- what is wrong in a part that is taken out of its box
pub moved : {A : Type 0} (g : A → List BenchFault) (x y : A) (o : Option BenchFault) → x ≡ y → IsFirst (g x) o → IsFirst (g y) o
moved {A} g x y o is i = subst (λ (z : A). IsFirst (g z) o) is i

-- one member of a list more
pub more : {A : Type 0} (g : A → List BenchFault) (xs : List A) (k : ℕ) (x : A) (a b r : Option BenchFault) → x ≡ get_or xs k x → k < length xs → IsFirst (flat_map g (take k xs)) a → IsFirst (g x) b → Joins a b r → IsFirst (flat_map g (take (suc k) xs)) r
more g xs k x a b r is h i j joins = two (flat_map g (take (suc k) xs)) (flat_map g (take k xs)) (g x) a b r (flat_take g xs k x is h) joins i j
