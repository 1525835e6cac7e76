-- The first left side that writes a net on a loop, and why there is no netlist.
use Rattle.elab_finish.proofs.Common.{◌≡◌, ℕ, zero, suc, ◌+◌, ◌<◌, ◌≤◌, List, [], ◌∷◌, length, get_or, slice_get, Option, Some, refl, sym, subst, inl, inr, arith, cases_lt, RawNetlist, Building}
use Rattle.elab_finish.proofs.Common.{loop_goes, contains_get, DesignError, Left, next_of, IsLoopFree, IsLeftLooped, IsFirstLooped, AreCovered, JoinedAreCovered, IsEnding, IsOver, IsRefused}
use Rattle.elab_finish.specs.declared.error.DesignError.TheVariants.{Loop, TooMany, Twice, Memory}
use Rattle.elab_finish.proofs.Joined.{bit_there, joined_on}

-- Bits, one after the other.

-- Left sides, one after the other.

abbrev pub NoneOf : Building → List Left → ℕ → Type 0
NoneOf b lefts k = (i : ℕ) (x : Left) → i < k → slice_get lefts i ≡ Some x → IsLeftLooped b x → ⊥

pub lefts_later : (b : Building) (lefts : List Left) (k : ℕ) (x : Left) → x ≡ get_or lefts k x → k < length lefts → NoneOf b lefts k → (IsLeftLooped b x → ⊥) → NoneOf b lefts (k + 1)
lefts_later b lefts k x is less before not i y small at loop = elim (cases_lt i k) [
  | inl earlier ↦ before i y earlier at loop
  | inr over ↦
      let same : i ≡ k = omega (arith, small, over) in
      let one : x ≡ y = bit_there lefts k x y is less (subst (λ (j : ℕ). slice_get lefts j ≡ Some y) same at) in
      not (subst (λ (z : Left). IsLeftLooped b z) (sym one) loop)
]

pub first_left : (b : Building) (lefts : List Left) (k : ℕ) (x : Left) → x ≡ get_or lefts k x → k < length lefts → NoneOf b lefts k → IsLeftLooped b x → IsFirstLooped b lefts x
first_left b [] k x is less none here = absurd (omega (arith, less))
first_left b (y ∷ more) zero x is less none here = inl (subst (λ (z : Left). IsLeftLooped b z) is here, sym is)
first_left b (y ∷ more) (suc k) x is less none here = inr (none zero y (omega arith) refl, first_left b more k x is (omega (arith, less)) (λ i z small at. none (suc i) z (omega (arith, small)) at) here)

pub free_of_loops : (b : Building) (lefts : List Left) (k : ℕ) → length lefts ≤ k → NoneOf b lefts k → AreCovered b lefts → IsLoopFree b
free_of_loops b lefts k all none covered n loop =
    let t = covered n loop in
    let at = contains_get lefts t.0 t.1 in
    none at.0 t.0 (let less = inside lefts at.0 t.0 at.1 in omega (arith, all, less)) at.1 t.2
  where
    inside : (xs : List Left) (i : ℕ) (x : Left) → slice_get xs i ≡ Some x → i < length xs
    inside [] i x e = absurd cc
    inside (y ∷ more) zero x e = omega arith
    inside (y ∷ more) (suc i) x e = let less = inside more i x e in omega (arith, less)

-- What refuses the netlist.

pub over_refused : (b : Building) (name : List ℕ) (clocked : Option (List ℕ)) (ins outs declared : List ℕ) (lefts : List Left) (netlist : RawNetlist) (e : DesignError) → IsEnding b name clocked ins outs declared netlist → IsOver b netlist e → IsRefused b name clocked ins outs declared lefts e
over_refused b name clocked ins outs declared lefts netlist (Loop span) ending over = inr (netlist, ending, over)
over_refused b name clocked ins outs declared lefts netlist (TooMany kind) ending over = (netlist, ending, over)
over_refused b name clocked ins outs declared lefts netlist (Twice span) ending over = (netlist, ending, over)
over_refused b name clocked ins outs declared lefts netlist Memory ending over = tt

-- Each loop is of joined nets.
pub joined_covered : JoinedAreCovered
joined_covered b lefts each n loop =
    let on = loop_goes (next_of b) n loop in
    let t = each n (joined_on b n on.0 on.1) in
    (t.0, t.1, (n, t.2, loop))
