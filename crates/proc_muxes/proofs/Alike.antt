-- What statements lay goes by the builder, and by the bits that wait for those variables alone to which they have nonblocking
-- assignments.
use Rattle.proc_muxes.proofs.Common.{◌≡◌, ℕ, Bool, true, false, ◌&&◌, ◌||◌, List, [], ◌∷◌, ◌++◌, take, drop, length, nat_eq, Option, Some, None, refl, sym, ◌∙◌, ap, subst, if◌then◌else◌, Span, Bit}
use Rattle.proc_muxes.proofs.Common.{Mux, Put, Names, nothing, bit_same, Select, Part, Vector, part_vector, parts_of, parts_width, places, written, Target, targets, arms_targets, part_targets}
use Rattle.proc_muxes.proofs.Common.{parts_targets, Assigning, Selection, Steps, Done, Assign, Choose, Case, Refuse, Arms, Otherwise, Arm, Building, signal, with_signal, Laid, cell, lay, Choice, Work}
use Rattle.proc_muxes.proofs.Common.{held, with_held, Index, variable_index, distinct_after, distinct, choices, stands, restored, case_shape, WaitAlike, LaidByWhatWaits, exact_unsigned_eq}
use Rattle.proc_muxes.proofs.Laying.{both}
use Rattle.proc_muxes.specs.Laid.{with_cells, showing_in, LaidIndices, lay_indices, lay_put, lay_part, lay_parts, lay_left, lay_right, lay_assign, lay_test, lay_muxes, lay_match, lay_steps, lay_items}

-- the same builder, and the same bits that wait for certain variables
pub record Alike (D : ℕ → Type 0) (a b : Work) : Type 0 where
  pub same : a.building ≡ b.building
  pub waits : (n : ℕ) → D n → a.pending n ≡ b.pending n

-- these variables are among the certain ones, where they have nonblocking assignments
abbrev pub Within : (ℕ → Type 0) → List Target → Type 0
Within D [] = Unit {0}
Within D (x ∷ more) = (x.is_blocking ≡ false → D x.number) × Within D more

module _ (D : ℕ → Type 0) where
  within-left : (xs ys : List Target) → Within D (xs ++ ys) → Within D xs
  within-left [] ys w = tt
  within-left (x ∷ xs) ys w = (w.0, within-left xs ys w.1)

  within-right : (xs ys : List Target) → Within D (xs ++ ys) → Within D ys
  within-right [] ys w = w
  within-right (x ∷ xs) ys w = within-right xs ys w.1

  within-both : (xs ys : List Target) → Within D xs → Within D ys → Within D (xs ++ ys)
  within-both [] ys v w = w
  within-both (x ∷ xs) ys v w = (v.0, within-both xs ys v.1 w)

  within-after : (seen xs : List Target) → Within D xs → Within D (distinct_after seen xs)
  within-after seen [] w = tt
  within-after seen (x ∷ xs) w = go (stands x.is_blocking seen x.number) (within-after seen xs w.1) (within-after (x ∷ seen) xs w.1) where
    go : (b : Bool) → Within D (distinct_after seen xs) → Within D (distinct_after (x ∷ seen) xs) → Within D (if b then distinct_after seen xs else x ∷ distinct_after (x ∷ seen) xs)
    go true f g = f
    go false f g = (w.0, g)

  pub within-stands : (xs : List Target) (n : ℕ) → Within D xs → stands false xs n ≡ true → D n
  within-stands [] n w e = absurd cc
  within-stands (x ∷ xs) n w e = go x.is_blocking (nat_eq x.number n) refl refl (within-stands xs n w.1) where
    go : (kind is : Bool) → x.is_blocking ≡ kind → nat_eq x.number n ≡ is → (stands false xs n ≡ true → D n) → D n
    go kind false f g later = later (sym (ap (λ (b : Bool). (b && bit_same false x.is_blocking) || stands false xs n) g) ∙ e)
    go true true f g later = later (sym (λ j. (g j && bit_same false (f j)) || stands false xs n) ∙ e)
    go false true f g later = subst D (exact_unsigned_eq x.number n g) (w.0 f)

  -- What a variable has.

  held-alike : (kind : Bool) (n : ℕ) (a b : Work) → Alike D a b → (kind ≡ false → D n) → held a kind n ≡ held b kind n
  held-alike true n a b s h = ap (λ (x : Building). signal x n) s.same
  held-alike false n a b s h = s.waits n (h refl)

  given-alike : (kind : Bool) (n : ℕ) (xs ys : List Bit) (a b : Work) → xs ≡ ys → Alike D a b → Alike D (with_held kind n xs a) (with_held kind n ys b)
  given-alike true n xs ys a b e s = record { same = λ j. with_signal n (e j) (s.same j); waits = s.waits }
  given-alike false n xs ys a b e s = record { same = s.same; waits = λ m d j. if nat_eq m n then e j else s.waits m d j }

  shown-alike : (kind : Bool) (n : ℕ) (y z : Laid) (a b : Work) → y ≡ z → Alike D a b → Alike D (showing_in kind n y a) (showing_in kind n z b)
  shown-alike kind n y z a b e s =
      given-alike kind n y.bits z.bits (with_cells y.after a) (with_cells z.after b) (ap (λ (l : Laid). l.bits) e) (record { same = ap (λ (l : Laid). l.after) e; waits = s.waits })

  cells-alike : (x : Building) (a b : Work) → Alike D a b → Alike D (with_cells x a) (with_cells x b)
  cells-alike x a b s = record { same = refl; waits = s.waits }

  restored-alike : (t u y z : Work) → Alike D t u → Alike D y z → Alike D (restored t y) (restored u z)
  restored-alike t u y z s r = record { same = λ j. record (r.same j) { signals = (s.same j).signals }; waits = s.waits }

  -- Assignments.

  put-alike : (kind : Bool) (names : Names) (v : Vector) (s : Select) (bits index : List Bit) (i : Option Index) (a b : Work) → (kind ≡ false → D v.number) → Alike D a b → Alike D (lay_put kind names v s bits index i a) (lay_put kind names v s bits index i b)
  put-alike kind names v s bits index None a b d r =
      let f : List Bit → List Bit = λ (l : List Bit). written l (places names nothing v s) bits in
      given-alike kind v.number (f (held a kind v.number)) (f (held b kind v.number)) a b (ap f (held-alike kind v.number a b r d)) r
  put-alike kind names v s bits index (Some i) a b d r =
      let y : List Bit → Building → Laid = λ (l : List Bit) (x : Building). cell Put false (l ∷ index ∷ bits ∷ []) v.width i.place x in
      let e : held a kind v.number ≡ held b kind v.number = held-alike kind v.number a b r d in
      shown-alike kind v.number (y (held a kind v.number) a.building) (y (held b kind v.number) b.building) a b (λ j. y (e j) (r.same j)) r

  part-alike : (kind : Bool) (names : Names) (p : Part) (o : Option Vector) (bits index : List Bit) (a b : Work) → Within D (part_targets kind p o) → Alike D a b → Alike D (lay_part kind names p o bits index a) (lay_part kind names p o bits index b)
  part-alike kind names p None bits index a b w r = r
  part-alike kind names p (Some v) bits index a b w r = put-alike kind names v p.select bits index (variable_index names p.select) a b w.0 r

  parts-alike : (kind : Bool) (names : Names) (ps : List Part) (bits : List Bit) (indices : List (List Bit)) (a b : Work) → Within D (parts_targets kind names ps) → Alike D a b → Alike D (lay_parts kind names ps bits indices a) (lay_parts kind names ps bits indices b)
  parts-alike kind names [] bits indices a b w r = r
  parts-alike kind names (p ∷ ps) bits [] a b w r = r
  parts-alike kind names (p ∷ ps) bits (index ∷ indices) a b w r =
      let rest : ℕ = parts_width names ps in
      let xs : List Target = part_targets kind p (part_vector names p) in
      part-alike kind names p (part_vector names p) (drop rest bits) index (lay_parts kind names ps (take rest bits) indices a) (lay_parts kind names ps (take rest bits) indices b) (within-left xs (parts_targets kind names ps) w)
      (parts-alike kind names ps (take rest bits) indices a b (within-right xs (parts_targets kind names ps) w) r)

  assign-alike : (s : Assigning) (a b : Work) → Within D (parts_targets s.is_blocking s.names (parts_of s.left)) → Alike D a b → Alike D (lay_assign s a) (lay_assign s b)
  assign-alike s a b w r =
      let ps : List Part = parts_of s.left in
      let right : Laid = lay_right s a.building in
      let i : LaidIndices = lay_indices s.names ps right.after in
      let here : Alike D (lay_assign s a) (lay_left s right.bits i b) = parts-alike s.is_blocking s.names ps (take (parts_width s.names ps) right.bits) i.bits (with_cells i.after a) (with_cells i.after b) w (cells-alike i.after a b r) in
      subst (λ (x : Building). Alike D (lay_assign s a) (lay_left s (lay_right s x).bits (lay_indices s.names ps (lay_right s x).after) b)) r.same here

  -- Choices.

  choices-alike : (y z : Work) (ks : List Target) → Within D ks → Alike D y z → choices y ks ≡ choices z ks
  choices-alike y z [] w r = refl
  choices-alike y z (x ∷ ks) w r = λ j. record { number = x.number; is_blocking = x.is_blocking; bits = held-alike x.is_blocking x.number y z r w.0 j } ∷ choices-alike y z ks w.1 r j

  muxes-alike : (at : Span) (test : List Bit) (y : Work) (ks : List Target) (a b : Work) → Within D ks → Alike D a b → Alike D (lay_muxes at test (choices y ks) a) (lay_muxes at test (choices y ks) b)
  muxes-alike at test y [] a b w r = r
  muxes-alike at test y (x ∷ ks) a b w r =
      let k : Bool = x.is_blocking in
      let f : List Bit → Building → Laid = λ (l : List Bit) (m : Building). cell Mux false (test ∷ l ∷ held y k x.number ∷ []) (length l) at m in
      let e : held a k x.number ≡ held b k x.number = held-alike k x.number a b r w.0 in
      muxes-alike at test y ks (showing_in k x.number (f (held a k x.number) a.building) a) (showing_in k x.number (f (held b k x.number) b.building) b) w.1
      (shown-alike k x.number (f (held a k x.number) a.building) (f (held b k x.number) b.building) a b (λ j. f (e j) (r.same j)) r)

  both-alike : (at : Span) (ks : List Target) (first second : Work → Work) (test : List Bit) (t u : Work) → Within D ks → ((a b : Work) → Alike D a b → Alike D (first a) (first b)) → ((a b : Work) → Alike D a b → Alike D (second a) (second b)) → Alike D t u → Alike D (both at ks first second test t) (both at ks first second test u)
  both-alike at ks first second test t u w f g r =
      let y : Work = first t in
      let z : Work = first u in
      let n : Work = second (restored t y) in
      let m : Work = second (restored u z) in
      let s : Alike D y z = f t u r in
      let muxed : Alike D (lay_muxes at test (choices y ks) n) (lay_muxes at test (choices y ks) m) = muxes-alike at test y ks n m w (g (restored t y) (restored u z) (restored-alike t u y z r s)) in
      subst (λ (l : List Choice). Alike D (lay_muxes at test (choices y ks) n) (lay_muxes at test l m)) (choices-alike y z ks w s) muxed

  -- Statements.

  mutual
    pub steps-alike : (steps : Steps) (a b : Work) → Within D (targets steps) → Alike D a b → Alike D (lay_steps steps a) (lay_steps steps b)
    steps-alike Done a b w r = r
    steps-alike (Assign s more) a b w r =
        let xs : List Target = parts_targets s.is_blocking s.names (parts_of s.left) in
        steps-alike more (lay_assign s a) (lay_assign s b) (within-right xs (targets more) w) (assign-alike s a b (within-left xs (targets more) w) r)
    steps-alike (Choose at c p q more) a b w r =
        let ps : List Target = targets p in
        let qs : List Target = targets q in
        let wp : Within D ps = within-left ps (qs ++ targets more) w in
        let rest : Within D (qs ++ targets more) = within-right ps (qs ++ targets more) w in
        let wq : Within D qs = within-left qs (targets more) rest in
        let ks : List Target = distinct (ps ++ qs) in
        let wk : Within D ks = within-after [] (ps ++ qs) (within-both ps qs wp wq) in
        let f : Building → Work → Work = λ (x : Building) (v : Work). both at ks (lay_steps p) (lay_steps q) (lay_test c x).bits (with_cells (lay_test c x).after v) in
        let t : Laid = lay_test c a.building in
        let here : Alike D (f a.building a) (f a.building b) = both-alike at ks (lay_steps p) (lay_steps q) t.bits (with_cells t.after a) (with_cells t.after b) wk (λ u v s. steps-alike p u v wp s) (λ u v s. steps-alike q u v wq s) (cells-alike t.after a b r) in
        steps-alike more (f a.building a) (f b.building b) (within-right qs (targets more) rest) (subst (λ (x : Building). Alike D (f a.building a) (f x b)) r.same here)
    steps-alike (Case c arms bodies more) a b w r =
        let xs : List Target = arms_targets arms in
        let f : Building → Work → Work = λ (x : Building) (v : Work). lay_items c (lay c.names c.selector (case_shape c) x).bits arms (with_cells (lay c.names c.selector (case_shape c) x).after v) in
        let t : Laid = lay c.names c.selector (case_shape c) a.building in
        let here : Alike D (f a.building a) (f a.building b) = items-alike c t.bits arms (with_cells t.after a) (with_cells t.after b) (within-left xs (targets more) w) (cells-alike t.after a b r) in
        steps-alike more (f a.building a) (f b.building b) (within-right xs (targets more) w) (subst (λ (x : Building). Alike D (f a.building a) (f x b)) r.same here)
    steps-alike (Refuse x more) a b w r = r

    items-alike : (c : Selection) (selector : List Bit) (arms : Arms) (a b : Work) → Within D (arms_targets arms) → Alike D a b → Alike D (lay_items c selector arms a) (lay_items c selector arms b)
    items-alike c selector (Otherwise body) a b w r = steps-alike body a b w r
    items-alike c selector (Arm at labels body others) a b w r =
        let ps : List Target = targets body in
        let qs : List Target = arms_targets others in
        let wp : Within D ps = within-left ps qs w in
        let wq : Within D qs = within-right ps qs w in
        let ks : List Target = distinct (ps ++ qs) in
        let f : Building → Work → Work = λ (x : Building) (v : Work). both at ks (lay_steps body) (lay_items c selector others) (lay_match c selector labels x).bits (with_cells (lay_match c selector labels x).after v) in
        let t : Laid = lay_match c selector labels a.building in
        let here : Alike D (f a.building a) (f a.building b) = both-alike at ks (lay_steps body) (lay_items c selector others) t.bits (with_cells t.after a) (with_cells t.after b) (within-after [] (ps ++ qs) w) (λ u v s. steps-alike body u v wp s) (λ u v s. items-alike c selector others u v wq s) (cells-alike t.after a b r) in
        subst (λ (x : Building). Alike D (f a.building a) (f x b)) r.same here

-- what waits alike is among the variables for which the same bits wait
within-them : (a b : Work) (xs : List Target) → WaitAlike a b xs → Within (λ n. a.pending n ≡ b.pending n) xs
within-them a b [] h = tt
within-them a b (x ∷ xs) h = (h.0, within-them a b xs h.1)

-- and waits alike afterwards
wait-again : (a b y z : Work) (xs : List Target) → WaitAlike a b xs → Alike (λ n. a.pending n ≡ b.pending n) y z → WaitAlike y z xs
wait-again a b y z [] h r = tt
wait-again a b y z (x ∷ xs) h r = (λ e. r.waits x.number (h.0 e), wait-again a b y z xs h.1 r)

pub laid-by-what-waits : LaidByWhatWaits
laid-by-what-waits steps a b same h =
    let r = steps-alike (λ n. a.pending n ≡ b.pending n) steps a b (within-them a b (targets steps) h) (record { same = same; waits = λ n e. e }) in
    (r.same, wait-again a b (lay_steps steps a) (lay_steps steps b) (targets steps) h r)
