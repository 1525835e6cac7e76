-- The first place at which two lists, or two steps, differ.
use Rattle.equiv_test.proofs.Common.{◌≡◌, ◌≢◌, ℕ, suc, ◌+◌, ◌<◌, ◌≤◌, List, [], ◌∷◌, length, map, get_or, Some, refl, sym, ap, subst, ◌∙◌, inl, inr, arith, slice_get, length-map, Word, Bit, Port}
use Rattle.equiv_test.proofs.Common.{Register, number, Nets, plain, values, Holds, bits_at, q_bits, shown, taken, Plan, IsSound, AllWide, AllRegistersFit, all_bits, OneAnswerBySight, HaveWidths}
use Rattle.equiv_test.proofs.Common.{Differ, AreSameWide, DifferFirst}
use Rattle.std.proofs.lemmas.Bool.{cases_lt}
use Rattle.std.proofs.lemmas.Option.{slice_get-get_or, same_Some}
use Rattle.netlist_core.proofs.Settles.{plain-causal}

-- numbers that are the same up to a place at which they aren't
pub differ-first : (xs ys : List ℕ) (place : ℕ) → place < length xs → place < length ys → get_or xs place 0 ≢ get_or ys place 0 → ((k : ℕ) → k < place → slice_get xs k ≡ slice_get ys k) → DifferFirst xs ys place
differ-first xs ys place in_xs in_ys apart before = record {
  here = λ same. apart (same_Some (get_or xs place 0) (get_or ys place 0) (sym (slice_get-get_or xs place 0 in_xs) ∙ same ∙ slice_get-get_or ys place 0 in_ys));
  before = λ k less differ. differ (before k less);
}

pub same-at : (xs ys : List ℕ) (place : ℕ) → place < length xs → place < length ys → get_or xs place 0 ≡ get_or ys place 0 → slice_get xs place ≡ slice_get ys place
same-at xs ys place in_xs in_ys same = slice_get-get_or xs place 0 in_xs ∙ ap Some same ∙ sym (slice_get-get_or ys place 0 in_ys)

-- the same numbers up to a place
abbrev pub SameUpTo : List ℕ → List ℕ → ℕ → Type 0
SameUpTo xs ys place = (k : ℕ) → k < place → slice_get xs k ≡ slice_get ys k

pub same-more : (xs ys : List ℕ) (place : ℕ) → place < length xs → place < length ys → get_or xs place 0 ≡ get_or ys place 0 → SameUpTo xs ys place → SameUpTo xs ys (place + 1)
same-more xs ys place in_xs in_ys same before k less = elim (cases_lt k place) [
  | inl below ↦ before k below
  | inr past ↦ (let here : place ≡ k = omega (arith, past, less) in subst (λ (n : ℕ). slice_get xs n ≡ slice_get ys n) here (same-at xs ys place in_xs in_ys same))
]

pub same-lists : (xs ys : List ℕ) → length xs ≡ length ys → ((k : ℕ) → k < length xs → slice_get xs k ≡ slice_get ys k) → xs ≡ ys
same-lists [] [] long same = refl
same-lists [] (y ∷ ys) long same = absurd (omega (arith, long))
same-lists (x ∷ xs) [] long same = absurd (omega (arith, long))
same-lists (x ∷ xs) (y ∷ ys) long same =
    let head : x ≡ y = same_Some x y (same 0 (omega arith)) in
    let tail : xs ≡ ys = same-lists xs ys (omega (arith, long)) (λ k inside. same (suc k) (omega (arith, inside))) in
    λ i. head i ∷ tail i

-- As many numbers as there are outputs, and registers.
pub shown-long : (nets : Nets) (ports : List Port) → length (map (λ bits. number (values nets bits)) (bits_at ports)) ≡ length ports
shown-long nets ports = length-map (bits_at ports) (λ bits. number (values nets bits)) ∙ length-map ports (λ (p : Port). p.bits)

pub taken-long : (nets : Nets) (k : ℕ) (registers : List Register) → length (taken (plain nets) k registers) ≡ length registers
taken-long nets k [] = refl
taken-long nets k (r ∷ more) = ap suc (taken-long nets (k + 1) more)

-- Ports have a bit each.
pub ports-few : (ports : List Port) → AllWide (bits_at ports) → length ports ≤ all_bits (bits_at ports)
ports-few [] wide = omega arith
ports-few (p ∷ more) wide = (let rest = ports-few more wide.2 in let some = wide.0 in omega (arith, rest, some))

pub registers-wide : (registers : List Register) → AllRegistersFit registers → AllWide (q_bits registers)
registers-wide [] fit = tt
registers-wide (r ∷ more) fit = ((let same = fit.1 in let some = r.start.some in omega (arith, same, some)), (let same = fit.1 in let narrow = r.start.narrow in omega (arith, same, narrow)), registers-wide more fit.2)

-- words of the widths of ports are words of the widths of others that are as wide
pub have-same : (ps qs : List (List Bit)) (words : List Word) → AreSameWide ps qs → HaveWidths ps words → HaveWidths qs words
have-same [] [] words e have = have
have-same [] (q ∷ qs) words e have = absurd (cc)
have-same (p ∷ ps) [] words e have = absurd (cc)
have-same (p ∷ ps) (q ∷ qs) [] e have = absurd have
have-same (p ∷ ps) (q ∷ qs) (w ∷ words) e have =
    let head : length p ≡ length q = cc in
    let tail : AreSameWide ps qs = cc in
    (have.0 ∙ head, have-same ps qs words tail have.1)

-- Netlists with one step that shows the same and leaves the same in the registers don't differ.
pub not-differ : OneAnswerBySight → (a b : Plan) → IsSound a → IsSound b → (inputs state : List ℕ) (x y : Nets) → Holds (plain x) x a.raw inputs state → Holds (plain y) y b.raw inputs state → shown (plain x) a.raw ≡ shown (plain y) b.raw → taken (plain x) 0 a.raw.registers ≡ taken (plain y) 0 b.raw.registers → ¬ Differ a.raw b.raw inputs state
not-differ answers a b sound_a sound_b inputs state x y in_x in_y outputs next differ =
    let at_a = answers a plain sound_a (plain-causal a.raw) inputs state differ.first x differ.in_first in_x in
    let at_b = answers b plain sound_b (plain-causal b.raw) inputs state y differ.second in_y differ.in_second in
    differ.apart (record { outputs = at_a.0 ∙ outputs ∙ at_b.0; next = at_a.1 ∙ next ∙ at_b.1 })
