-- What is built of statements is what they lay.
use Rattle.proc_muxes.proofs.Common.{◌≡◌, ℕ, zero, suc, Bool, false, List, [], ◌∷◌, ◌++◌, take, drop, length, Option, Some, None, ◌∙◌, ap, inl, inr, arith, Result, Ok, Err, leb_tells, Span, Bit, Lor}
use Rattle.proc_muxes.proofs.Common.{first_token, Expr, Names, sense, bits_of, Select, Part, Vector, part_vector, parts_of, parts_width, Target, targets, arms_targets, Assigning, Test, Selection}
use Rattle.proc_muxes.proofs.Common.{Steps, Done, Assign, Choose, Case, Refuse, Arms, Otherwise, Arm, dont_care, Building, fresh_bits, ElabError, Laid, showing, cell, reduced, index_bits, Change}
use Rattle.proc_muxes.proofs.Common.{Choice, Work, held, with_held, Index, variable_index, BuildsIndex, BuildsIndices, PutsBits, PutsPart, PutsParts, BuildsAssign, BuildsBit, BuildsTest, distinct}
use Rattle.proc_muxes.proofs.Common.{choices, Chooses, ChoosesAll, restored, kept, mattering, BuildsEqual, BuildsLabel, BuildsMore, BuildsMatch, Builds, BuildsArms, Built}
use Rattle.std.specs.Prelude.{IfOk}
use Rattle.proc_muxes.specs.Laid.{with_cells, lay_index, LaidIndices, with_index, lay_indices, lay_put, lay_part, lay_parts, lay_left, lay_assign, lay_test, lay_mux, lay_muxes, lay_equal, lay_label}
use Rattle.proc_muxes.specs.Laid.{lay_labels, lay_match, lay_steps, lay_items}

-- Assignments.

index-laid : (names : Names) (i : Option Index) (a b : Building) (index : List Bit) → BuildsIndex names i a b index → showing b index ≡ lay_index names i a
index-laid names None a b index f = λ j. showing (f.0 j) (f.1 j)
index-laid names (Some i) a b index f = ap (showing b) f.3 ∙ ap (λ (l : Laid). showing l.after (index_bits (sense names i.expr).shape l.bits)) f.2

abbrev laid : Building → List (List Bit) → LaidIndices
laid b indices = record { after = b; bits = indices }

indices-laid : (names : Names) (ps : List Part) (a b : Building) (indices : List (List Bit)) → BuildsIndices names ps a b indices → laid b indices ≡ lay_indices names ps a
indices-laid names [] a b indices f = λ j. laid (f.0 j) (f.1 j)
indices-laid names (p ∷ ps) a b indices f =
    ap (laid b) f.5
    ∙ ap (with_index f.1) (indices-laid names ps f.0 b f.2 f.4)
    ∙ ap (λ (l : Laid). with_index l.bits (lay_indices names ps l.after)) (index-laid names (variable_index names p.select) a f.0 f.1 f.3)

put-laid : (kind : Bool) (names : Names) (v : Vector) (s : Select) (bits index : List Bit) (i : Option Index) (a b : Work) → PutsBits kind names v s bits index i a b → b ≡ lay_put kind names v s bits index i a
put-laid kind names v s bits index None a b f = f
put-laid kind names v s bits index (Some i) a b f = f.3 ∙ ap (λ (m : Building). with_held kind v.number (fresh_bits a.building.nets v.width) (with_cells m a)) f.2.1

part-laid : (kind : Bool) (names : Names) (p : Part) (o : Option Vector) (bits index : List Bit) (a b : Work) → PutsPart kind names p o bits index a b → b ≡ lay_part kind names p o bits index a
part-laid kind names p None bits index a b f = absurd f
part-laid kind names p (Some v) bits index a b f = put-laid kind names v p.select bits index (variable_index names p.select) a b f.2

parts-laid : (kind : Bool) (names : Names) (ps : List Part) (bits : List Bit) (indices : List (List Bit)) (a b : Work) → PutsParts kind names ps bits indices a b → b ≡ lay_parts kind names ps bits indices a
parts-laid kind names [] bits indices a b f = f
parts-laid kind names (p ∷ ps) bits [] a b f = absurd f
parts-laid kind names (p ∷ ps) bits (index ∷ indices) a b f =
    let rest : ℕ = parts_width names ps in
    part-laid kind names p (part_vector names p) (drop rest bits) index f.0 b f.2
    ∙ ap (lay_part kind names p (part_vector names p) (drop rest bits) index) (parts-laid kind names ps (take rest bits) indices a f.0 f.1)

pub assign-laid : (s : Assigning) (a b : Work) → BuildsAssign s a b → b ≡ lay_assign s a
assign-laid s a b f =
    let ps : List Part = parts_of s.left in
    parts-laid s.is_blocking s.names ps (take (parts_width s.names ps) f.2) f.3 (with_cells f.1 a) b f.6
    ∙ ap (λ (l : LaidIndices). lay_left s f.2 l a) (indices-laid s.names ps f.0 f.1 f.3 f.5)
    ∙ ap (λ (l : Laid). lay_left s l.bits (lay_indices s.names ps l.after) a) f.7

-- Choices.

bit-laid : (at : Span) (bits : List Bit) (a b : Building) (test : List Bit) → BuildsBit at bits a b test → showing b test ≡ reduced (length bits) at (showing a bits)
bit-laid at bits a b test (inl f) = rw f.0 (λ j. showing (f.1 j) (f.2 j))
bit-laid at bits a b test (inr f) = elim (leb_tells 2 (length bits)) [
  | inl h ↦ rw h.0 (λ j. showing (f.1.1 j) (f.2 j))
  | inr h ↦ absurd (let k = h.1 in let wide = f.0 in omega arith)
]

test-shown : (c : Test) (a b : Work) (test : List Bit) (f : BuildsTest c a b test) → showing f.1 test ≡ lay_test c a.building
test-shown c a b test f =
    let at : Span = first_token c.condition in
    bit-laid at f.2 f.0 f.1 test f.4
    ∙ ap (λ (n : ℕ). reduced n at (showing f.0 f.2)) f.3.long
    ∙ ap (reduced (sense c.names c.condition).shape.width at) f.6

mux-laid : (at : Span) (test : List Bit) (x : Choice) (a b : Work) → Chooses at test x a b → b ≡ lay_mux at test x a
mux-laid at test x a b f = f.4 ∙ ap (λ (m : Building). with_held x.is_blocking x.number (fresh_bits a.building.nets (length (held a x.is_blocking x.number))) (with_cells m a)) f.3.1

muxes-laid : (at : Span) (test : List Bit) (xs : List Choice) (a b : Work) → ChoosesAll at test xs a b → b ≡ lay_muxes at test xs a
muxes-laid at test [] a b f = f
muxes-laid at test (x ∷ more) a b f = muxes-laid at test more f.0 b f.2 ∙ ap (lay_muxes at test more) (mux-laid at test x a f.0 f.1)

-- both parts of a choice, and its muxes
abbrev pub both : Span → (ks : List Target) → (first second : Work → Work) → (test : List Bit) → Work → Work
both at ks first second test t = lay_muxes at test (choices (first t) ks) (second (restored t (first t)))

both-laid : (at : Span) (ks : List Target) (first second : Work → Work) (test : List Bit) (t y n m : Work) → y ≡ first t → n ≡ second (restored t y) → ChoosesAll at test (choices y ks) n m → m ≡ both at ks first second test t
both-laid at ks first second test t y n m is_first is_second f =
    muxes-laid at test (choices y ks) n m f
    ∙ ap (lay_muxes at test (choices y ks)) is_second
    ∙ ap (λ (w : Work). lay_muxes at test (choices w ks) (second (restored t w))) is_first

-- Cases.

equal-laid : (n : ℕ) (xs ys : List Bit) (at : Span) (a b : Building) (test : List Bit) → BuildsEqual n xs ys at a b test → showing b test ≡ lay_equal n xs ys at a
equal-laid zero xs ys at a b test f = λ j. showing (f.0 j) (f.1 j)
equal-laid (suc n) xs ys at a b test f = λ j. showing (f.0.1 j) (f.1 j)

label-laid : (c : Selection) (selector : List Bit) (x : Expr) (a b : Building) (test : List Bit) → BuildsLabel c selector x a b test → showing b test ≡ lay_label c selector x a
label-laid c selector x a b test f =
    let ignored : List Bool = bits_of c.width (dont_care c.kind x) in
    equal-laid (mattering ignored) (kept ignored selector) (kept ignored f.1) (first_token x) f.0 b test f.3
    ∙ ap (λ (l : Laid). lay_equal (mattering ignored) (kept ignored selector) (kept ignored l.bits) (first_token x) l.after) f.4

-- the cell that joins a label to those before
abbrev joined : Span → (before : List Bit) → Laid → Laid
joined at before found = cell Lor false (before ∷ found.bits ∷ []) 1 at found.after

labels-laid : (c : Selection) (selector : List Bit) (xs : List Expr) (before : List Bit) (a b : Building) (test : List Bit) → BuildsMore c selector xs before a b test → showing b test ≡ lay_labels c selector xs (showing a before)
labels-laid c selector [] before a b test f = λ j. showing (f.0 j) (f.1 j)
labels-laid c selector (x ∷ more) before a b test f =
    labels-laid c selector more (fresh_bits f.0.nets 1) f.1 b test f.5
    ∙ ap (λ (m : Building). lay_labels c selector more (showing m (fresh_bits f.0.nets 1))) f.4.1
    ∙ ap (λ (l : Laid). lay_labels c selector more (joined (first_token x) before l)) (label-laid c selector x a f.0 f.2 f.3)

match-laid : (c : Selection) (selector : List Bit) (xs : List Expr) (a b : Building) (test : List Bit) → BuildsMatch c selector xs a b test → showing b test ≡ lay_match c selector xs a
match-laid c selector [] a b test f = absurd f
match-laid c selector (x ∷ more) a b test f = labels-laid c selector more f.1 f.0 b test f.3 ∙ ap (lay_labels c selector more) (label-laid c selector x a f.0 f.1 f.2)

-- Statements.

mutual
  pub steps-laid : (steps : Steps) (a b : Work) → Builds steps a b → b ≡ lay_steps steps a
  steps-laid Done a b f = f
  steps-laid (Assign s more) a b f = steps-laid more f.0 b f.2 ∙ ap (lay_steps more) (assign-laid s a f.0 f.1)
  steps-laid (Choose at c then_part else_part more) a b f =
      let t : Work = f.0 in
      let y : Work = f.1 in
      let ks : List Target = distinct (targets then_part ++ targets else_part) in
      let shown : showing f.5.1 f.4 ≡ lay_test c a.building = test-shown c a t f.4 f.5 in
      let whole : f.3 ≡ both at ks (lay_steps then_part) (lay_steps else_part) f.4 t = both-laid at ks (lay_steps then_part) (lay_steps else_part) f.4 t y f.2 f.3 (steps-laid then_part t y f.6) (steps-laid else_part (restored t y) f.2 f.7) f.8 in
      steps-laid more f.3 b f.9
      ∙ ap (lay_steps more) whole
      ∙ ap (λ (w : Work). lay_steps more (both at ks (lay_steps then_part) (lay_steps else_part) f.4 w)) f.5.5
      ∙ ap (λ (l : Laid). lay_steps more (both at ks (lay_steps then_part) (lay_steps else_part) l.bits (with_cells l.after a))) shown
  steps-laid (Case c arms bodies more) a b f =
      steps-laid more f.1 b f.5
      ∙ ap (lay_steps more) (items-laid c f.2 arms (with_cells f.0 a) f.1 f.4)
      ∙ ap (λ (l : Laid). lay_steps more (lay_items c l.bits arms (with_cells l.after a))) f.6
  steps-laid (Refuse x more) a b f = absurd f

  items-laid : (c : Selection) (selector : List Bit) (arms : Arms) (a b : Work) → BuildsArms c selector arms a b → b ≡ lay_items c selector arms a
  items-laid c selector (Otherwise body) a b f = steps-laid body a b f
  items-laid c selector (Arm at labels body others) a b f =
      let t : Work = with_cells f.0 a in
      let y : Work = f.1 in
      let ks : List Target = distinct (targets body ++ arms_targets others) in
      both-laid at ks (lay_steps body) (lay_items c selector others) f.3 t y f.2 b (steps-laid body t y f.5) (items-laid c selector others (restored t y) f.2 f.6) f.7
      ∙ ap (λ (l : Laid). both at ks (lay_steps body) (lay_items c selector others) l.bits (with_cells l.after a)) (match-laid c selector labels a.building f.0 f.3 f.4)

-- what a call has built
pub result-laid : (steps : Steps) (a b : Work) (r : Result (List Change) ElabError) → IfOk r (λ l. Built steps a b l) → IfOk r (λ l. b ≡ lay_steps steps a)
result-laid steps a b (Ok l) f = steps-laid steps a b f.builds
result-laid steps a b (Err e) f = tt
