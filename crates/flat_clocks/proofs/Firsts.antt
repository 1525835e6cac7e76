-- The first of what is refused in parts, one after the other.
use Rattle.flat_clocks.proofs.Common.{◌≡◌, suc, ℕ, ◌<◌, List, ◌++◌, sym, subst, length, get_or, take, Option, flat_map, Refusal, IsFirst}
use Rattle.elab_proc.proofs.Lists.{flat_take}

-- the earlier of two stands first in both lists
abbrev pub Joins : Option Refusal → Option Refusal → Option Refusal → Type 0
Joins a b r = (xs ys : List Refusal) → IsFirst xs a → IsFirst ys b → IsFirst (xs ++ ys) r

pub two : (l xs ys : List Refusal) (a b r : Option Refusal) → l ≡ xs ++ ys → Joins a b r → IsFirst xs a → IsFirst ys b → IsFirst l r
two l xs ys a b r is joins i j = subst (λ (z : List Refusal). IsFirst z r) (sym is) (joins xs ys i j)

pub same : (l m : List Refusal) (o : Option Refusal) → l ≡ m → IsFirst m o → IsFirst l o
same l m o is i = subst (λ (z : List Refusal). IsFirst z o) (sym is) i

-- what is refused in a part that is taken out of its box
pub moved : {A : Type 0} (g : A → List Refusal) (x y : A) (o : Option Refusal) → x ≡ y → IsFirst (g x) o → IsFirst (g y) o
moved {A} g x y o is i = subst (λ (z : A). IsFirst (g z) o) is i

-- one member of a list more
pub more : {A : Type 0} (g : A → List Refusal) (xs : List A) (k : ℕ) (x : A) (a b r : Option Refusal) → x ≡ get_or xs k x → k < length xs → IsFirst (flat_map g (take k xs)) a → IsFirst (g x) b → Joins a b r → IsFirst (flat_map g (take (suc k) xs)) r
more g xs k x a b r is h i j joins = two (flat_map g (take (suc k) xs)) (flat_map g (take k xs)) (g x) a b r (flat_take g xs k x is h) joins i j
