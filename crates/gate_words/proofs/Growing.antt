-- Gates that were added after others.
use Rattle.gate_words.proofs.Common.{◌≡◌, ℕ, suc, ◌+◌, ◌≤◌, Bool, List, [], ◌∷◌, ◌++◌, length, refl, sym, ap, subst, ◌∙◌, append_assoc, arith, All, length-append, append-nil, All-weaker, Values}
use Rattle.gate_words.proofs.Common.{GateLit, Fixed, Var, Gates, count, IsLit, HoldFrom, Hold, Adds, Operation, And, Or, Xor, Mux, Made, MadeRow, IsOperation, Grows, AddsBits, AddsLit}
use Rattle.gate_list.specs.declared.gate.Gate.{Gate}

hold-front : (next : ℕ) (xs found : List Gate) (values : Values) → HoldFrom next (xs ++ found) values → HoldFrom next xs values
hold-front next [] found values holds = tt
hold-front next (x ∷ xs) found values holds = (holds.0, hold-front (suc next) xs found values holds.1)

pub hold-before : {old new : Gates} {most : ℕ} → Grows old new most → (values : Values) → Hold new values → Hold old values
hold-before {old} {new} g values holds =
    let grown : HoldFrom (suc new.free) (old.made ++ g.added) values = subst (λ (l : List Gate). HoldFrom (suc new.free) l values) g.grown holds in
    hold-front (suc old.free) old.made g.added values (subst (λ (n : ℕ). HoldFrom (suc n) (old.made ++ g.added) values) g.free grown)

pub grows-none : (gates : Gates) (most : ℕ) → Grows gates gates most
grows-none gates most = record { free = refl; added = []; grown = sym (append-nil gates.made); few = omega arith }

pub grows-then : {a b c : Gates} {m n : ℕ} (k : ℕ) → Grows a b m → Grows b c n → m + n ≤ k → Grows a c k
grows-then {a} k f g le = record {
  free = g.free ∙ f.free;
  added = f.added ++ g.added;
  grown = g.grown ∙ ap (λ (l : List Gate). l ++ g.added) f.grown ∙ append_assoc a.made f.added g.added;
  few = omega (arith, length-append f.added g.added, f.few, g.few, le);
}

pub grows-most : {a b : Gates} {m : ℕ} (k : ℕ) → Grows a b m → m ≤ k → Grows a b k
grows-most k f le = record { free = f.free; added = f.added; grown = f.grown; few = omega (arith, f.few, le) }

pub grows-adds : {old new : Gates} {lit : GateLit} {f : Values → Bool} → Adds old new lit f → Grows old new 1
grows-adds adds = record { free = adds.free; added = adds.added; grown = adds.grown; few = adds.one }

pub grown-length : {old new : Gates} {most : ℕ} → Grows old new most → (length old.made ≤ length new.made) × (length new.made ≤ length old.made + most)
grown-length {old} {new} g =
    let e : length new.made ≡ length (old.made ++ g.added) = ap (λ (l : List Gate). length l) g.grown in
    let s = length-append old.made g.added in
    (omega (arith, e, s), omega (arith, e, s, g.few))

pub count-grown : {old new : Gates} {most : ℕ} → Grows old new most → count old ≤ count new
count-grown g = omega (arith, g.free, (grown-length g).0)

pub lit-more : (m n : ℕ) → m ≤ n → (x : GateLit) → IsLit m x → IsLit n x
lit-more m n le (Fixed b) is = tt
lit-more m n le (Var l) is = (is.0, omega (arith, is.1, le))

pub lit-later : {old new : Gates} {most : ℕ} → Grows old new most → (x : GateLit) → IsLit (count old) x → IsLit (count new) x
lit-later {old} {new} g x is = lit-more (count old) (count new) (count-grown g) x is

pub lits-later : {old new : Gates} {most : ℕ} → Grows old new most → (bits : List GateLit) → All (IsLit (count old)) bits → All (IsLit (count new)) bits
lits-later {old} {new} g bits are = All-weaker (IsLit (count old)) (IsLit (count new)) (λ x is. lit-later g x is) bits are

pub operation-later : {old new : Gates} {most : ℕ} → Grows old new most → (operation : Operation) → IsOperation (count old) operation → IsOperation (count new) operation
operation-later g And is = tt
operation-later g Or is = tt
operation-later g Xor is = tt
operation-later g (Mux s) is = lit-later g s is

-- what is made adds what its definition adds
pub row-told : {old new : Gates} {bits : List GateLit} {width most : ℕ} {Is : Values → List Bool → Type 0} (m : MadeRow) → record { gates = new; bits = bits } ≡ m → AddsBits old m.gates m.bits width most Is → AddsBits old new bits width most Is
row-told {old} {new} {bits} {width} {most} {Is} m made adds = subst (λ (r : MadeRow). AddsBits old r.gates r.bits width most Is) (sym made) adds

pub lit-told : {old new : Gates} {lit : GateLit} {most : ℕ} {f : Values → Bool} (m : Made) → record { gates = new; lit = lit } ≡ m → AddsLit old m.gates m.lit most f → AddsLit old new lit most f
lit-told {old} {new} {lit} {most} {f} m made adds = subst (λ (r : Made). AddsLit old r.gates r.lit most f) (sym made) adds
