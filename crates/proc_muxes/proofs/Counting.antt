-- How many cells are there after statements.
use Rattle.proc_muxes.proofs.Common.{◌≡◌, ℕ, zero, suc, ◌+◌, Bool, true, false, List, [], ◌∷◌, ◌++◌, length, Option, Some, None, nat_lt, refl, ◌∙◌, ap, inl, inr, arith, if◌then◌else◌, length-append}
use Rattle.proc_muxes.proofs.Common.{leb_tells, Span, Bit, CellKind, Put, Ror, Mux, Eq, Lor, first_token, Expr, Names, sense, assigned, bits_of, Part, Vector, parts_of, part_vector, parts_width}
use Rattle.proc_muxes.proofs.Common.{Assigning, Test, Selection, Steps, Done, Assign, Choose, Case, Refuse, Arms, Otherwise, Arm, dont_care, Target, targets, arms_targets, Building, fresh_bits, made}
use Rattle.proc_muxes.proofs.Common.{count, Work, held, with_held, AddsCell, Index, variable_index, PutsBits, PutsPart, PutsParts, BuildsAssign, BuildsBit, BuildsTest, distinct, choices, ChoosesAll}
use Rattle.proc_muxes.proofs.Common.{restored, kept, mattering, case_shape, BuildsEqual, BuildsLabel, BuildsMore, BuildsMatch, Builds, BuildsArms, put_cells, puts_cells, assign_cells, equal_cells}
use Rattle.proc_muxes.proofs.Common.{label_cells, labels_cells, match_cells, cells_of, arms_cells, test_cells}
use Rattle.proc_muxes.proofs.Piecing.{indices-counted}

pub cell-counted : (kind : CellKind) (ports : List (List Bit)) (w : ℕ) (at : Span) (a b : Building) → AddsCell kind ports w at a b → length b.cells ≡ length a.cells + 1
cell-counted kind ports w at a b f = ap (λ (m : Building). length m.cells) f.1 ∙ simp length-append

held-counted : (kind : Bool) (n : ℕ) (bits : List Bit) (a : Work) → length (with_held kind n bits a).building.cells ≡ length a.building.cells
held-counted true n bits a = refl
held-counted false n bits a = refl

-- Assignments.

bits-counted : (kind : Bool) (names : Names) (v : Vector) (p : Part) (bits index : List Bit) (i : Option Index) (a b : Work) → PutsBits kind names v p.select bits index i a b → length b.building.cells ≡ length a.building.cells + put_cells i
bits-counted kind names v p bits index None a b f =
    let e : length b.building.cells ≡ length a.building.cells = ap (λ (w : Work). length w.building.cells) f ∙ held-counted kind v.number _ a in
    omega (arith, e)
bits-counted kind names v p bits index (Some i) a b f =
    let e : length b.building.cells ≡ length f.1.cells = ap (λ (w : Work). length w.building.cells) f.3 ∙ held-counted kind v.number (fresh_bits a.building.nets v.width) (record a { building = f.1 }) in
    let g = cell-counted Put (held a kind v.number ∷ index ∷ bits ∷ []) v.width i.place a.building f.1 f.2 in
    omega (arith, e, g)

part-counted : (kind : Bool) (names : Names) (p : Part) (o : Option Vector) (bits index : List Bit) (a b : Work) → PutsPart kind names p o bits index a b → length b.building.cells ≡ length a.building.cells + put_cells (variable_index names p.select)
part-counted kind names p None bits index a b f = absurd f
part-counted kind names p (Some v) bits index a b f = bits-counted kind names v p bits index (variable_index names p.select) a b f.2

pub parts-counted : (kind : Bool) (names : Names) (ps : List Part) (bits : List Bit) (indices : List (List Bit)) (a b : Work) → PutsParts kind names ps bits indices a b → length b.building.cells ≡ length a.building.cells + puts_cells names ps
parts-counted kind names [] bits indices a b f =
    let e : length b.building.cells ≡ length a.building.cells = ap (λ (w : Work). length w.building.cells) f in
    omega (arith, e)
parts-counted kind names (p ∷ ps) bits [] a b f = absurd f
parts-counted kind names (p ∷ ps) bits (index ∷ indices) a b f =
    let first = parts-counted kind names ps _ indices a f.0 f.1 in
    let here = part-counted kind names p (part_vector names p) _ index f.0 b f.2 in
    omega (arith, first, here)

assign-counted : (s : Assigning) (a b : Work) → BuildsAssign s a b → length b.building.cells ≡ length a.building.cells + assign_cells s
assign-counted s a b f =
    let ps : List Part = parts_of s.left in
    let right = count a.building f.0 f.2 _ _ (made s.names s.right (assigned (sense s.names s.right) (parts_width s.names ps))) f.4 in
    let indices = indices-counted s.names ps f.0 f.1 f.3 f.5 in
    let puts = parts-counted s.is_blocking s.names ps _ f.3 (record a { building = f.1 }) b f.6 in
    omega (arith, right, indices, puts)

-- Conditions and choices.

bit-counted : (at : Span) (bits : List Bit) (a b : Building) (test : List Bit) → BuildsBit at bits a b test → length b.cells ≡ length a.cells + (if nat_lt 1 (length bits) then 1 else 0)
bit-counted at bits a b test (inl f) =
    let e : length b.cells ≡ length a.cells = ap (λ (m : Building). length m.cells) f.1 in
    rw f.0 (omega (arith, e))
bit-counted at bits a b test (inr f) =
    let g = cell-counted Ror (bits ∷ []) 1 at a b f.1 in
    elim (leb_tells 2 (length bits)) [
      | inl h ↦ rw h.0 g
      | inr h ↦ absurd (let k = h.1 in let wide = f.0 in omega arith)
    ]

pub test-counted : (c : Test) (a b : Work) (test : List Bit) → BuildsTest c a b test → length b.building.cells ≡ length a.building.cells + test_cells c.names c.condition
test-counted c a b test f =
    let own = count a.building f.0 f.2 _ _ (made c.names c.condition (sense c.names c.condition).shape) f.3 in
    let bit : length f.1.cells ≡ length f.0.cells + (if nat_lt 1 (sense c.names c.condition).shape.width then 1 else 0) = rw (← f.3.long) (bit-counted (first_token c.condition) f.2 f.0 f.1 test f.4) in
    let last : length b.building.cells ≡ length f.1.cells = ap (λ (w : Work). length w.building.cells) f.5 in
    omega (arith, own, bit, last)

choices-counted : (at : Span) (test : List Bit) (y : Work) (ks : List Target) (a b : Work) → ChoosesAll at test (choices y ks) a b → length b.building.cells ≡ length a.building.cells + length ks
choices-counted at test y [] a b f =
    let e : length b.building.cells ≡ length a.building.cells = ap (λ (w : Work). length w.building.cells) f in
    omega (arith, e)
choices-counted at test y (x ∷ more) a b f =
    let g = f.1 in
    let here : length f.0.building.cells ≡ length g.2.cells = ap (λ (w : Work). length w.building.cells) g.4 ∙ held-counted x.is_blocking x.number _ (record a { building = g.2 }) in
    let cell = cell-counted Mux (test ∷ held a x.is_blocking x.number ∷ held y x.is_blocking x.number ∷ []) (length (held a x.is_blocking x.number)) at a.building g.2 g.3 in
    let later = choices-counted at test y more f.0 b f.2 in
    omega (arith, here, cell, later)

-- Labels.

equal-counted : (n : ℕ) (xs ys : List Bit) (at : Span) (a b : Building) (test : List Bit) → BuildsEqual n xs ys at a b test → length b.cells ≡ length a.cells + equal_cells n
equal-counted zero xs ys at a b test f =
    let e : length b.cells ≡ length a.cells = ap (λ (m : Building). length m.cells) f.0 in
    omega (arith, e)
equal-counted (suc n) xs ys at a b test f = cell-counted Eq (xs ∷ ys ∷ []) 1 at a b f.0

pub label-counted : (c : Selection) (selector : List Bit) (x : Expr) (a b : Building) (test : List Bit) → BuildsLabel c selector x a b test → length b.cells ≡ length a.cells + label_cells c x
label-counted c selector x a b test f =
    let own = count a f.0 f.1 _ _ (made c.names x (case_shape c)) f.2 in
    let ignored : List Bool = bits_of c.width (dont_care c.kind x) in
    let cell = equal-counted (mattering ignored) (kept ignored selector) (kept ignored f.1) (first_token x) f.0 b test f.3 in
    omega (arith, own, cell)

more-counted : (c : Selection) (selector : List Bit) (xs : List Expr) (before : List Bit) (a b : Building) (test : List Bit) → BuildsMore c selector xs before a b test → length b.cells ≡ length a.cells + labels_cells c xs
more-counted c selector [] before a b test f =
    let e : length b.cells ≡ length a.cells = ap (λ (m : Building). length m.cells) f.0 in
    omega (arith, e)
more-counted c selector (x ∷ more) before a b test f =
    let here = label-counted c selector x a f.0 f.2 f.3 in
    let cell = cell-counted Lor (before ∷ f.2 ∷ []) 1 (first_token x) f.0 f.1 f.4 in
    let later = more-counted c selector more (fresh_bits f.0.nets 1) f.1 b test f.5 in
    omega (arith, here, cell, later)

pub match-counted : (c : Selection) (selector : List Bit) (xs : List Expr) (a b : Building) (test : List Bit) → BuildsMatch c selector xs a b test → length b.cells ≡ length a.cells + match_cells c xs
match-counted c selector [] a b test f = absurd f
match-counted c selector (x ∷ more) a b test f =
    let here = label-counted c selector x a f.0 f.1 f.2 in
    let later = more-counted c selector more f.1 f.0 b test f.3 in
    omega (arith, here, later)

-- Steps.

mutual
  pub builds-counted : (steps : Steps) (a b : Work) → Builds steps a b → length b.building.cells ≡ length a.building.cells + cells_of steps
  builds-counted Done a b f =
      let e : length b.building.cells ≡ length a.building.cells = ap (λ (w : Work). length w.building.cells) f in
      omega (arith, e)
  builds-counted (Assign s more) a b f =
      let here = assign-counted s a f.0 f.1 in
      let later = builds-counted more f.0 b f.2 in
      omega (arith, here, later)
  builds-counted (Choose at c then_part else_part more) a b f =
      let test = test-counted c a f.0 f.4 f.5 in
      let first = builds-counted then_part f.0 f.1 f.6 in
      let second = builds-counted else_part (restored f.0 f.1) f.2 f.7 in
      let muxes = choices-counted at f.4 f.1 (distinct (targets then_part ++ targets else_part)) f.2 f.3 f.8 in
      let later = builds-counted more f.3 b f.9 in
      omega (arith, test, first, second, muxes, later)
  builds-counted (Case c arms bodies more) a b f =
      let own = count a.building f.0 f.2 _ _ (made c.names c.selector (case_shape c)) f.3 in
      let here = arms-counted c f.2 arms (record a { building = f.0 }) f.1 f.4 in
      let later = builds-counted more f.1 b f.5 in
      omega (arith, own, here, later)
  builds-counted (Refuse x more) a b f = absurd f

  pub arms-counted : (c : Selection) (selector : List Bit) (arms : Arms) (a b : Work) → BuildsArms c selector arms a b → length b.building.cells ≡ length a.building.cells + arms_cells c arms
  arms-counted c selector (Otherwise body) a b f = builds-counted body a b f
  arms-counted c selector (Arm at labels body others) a b f =
      let test = match-counted c selector labels a.building f.0 f.3 f.4 in
      let first = builds-counted body (record a { building = f.0 }) f.1 f.5 in
      let second = arms-counted c selector others (restored (record a { building = f.0 }) f.1) f.2 f.6 in
      let muxes = choices-counted at f.3 f.1 (distinct (targets body ++ arms_targets others)) f.2 b f.7 in
      omega (arith, test, first, second, muxes)
