-- Two runs of a process that have some bits in common keep the bits that it covers in common.
use Rattle.vlog_effects.proofs.Common.{◌≡◌, ℕ, ◌+◌, ◌<◌, ◌^◌, max, Bool, true, false, not, ◌&&◌, ◌||◌, List, [], ◌∷◌, ◌++◌, take, drop, length, Option, Some, None, nat_eq, get_or, refl, sym, ◌∙◌, ap}
use Rattle.vlog_effects.proofs.Common.{subst, arith, if◌then◌else◌, Expr, Decl, Signal, Constant, integer, Names, Store, IsWithin, Bits, no_bits, either, sense, is_empty, own, width_of, is_signed_of}
use Rattle.vlog_effects.proofs.Common.{value, is_constant, reads, number, bits_of, Select, Whole, Bit, Range, Indexed, Part, Vector, parts_of, part_vector, part_width, width_by, parts_width}
use Rattle.vlog_effects.proofs.Common.{select_width, bits_from, places, written, Assigning, Selection, Steps, Done, Assign, Choose, Case, Refuse, Arms, Otherwise, Arm, dont_care, Values, numbers}
use Rattle.vlog_effects.proofs.Common.{Update, State, put, put_all, part_updates, updates_of, right_bits, assigned, holds, agree, sized_bits, matches, effect, arm_effect, IsBlocking, AreBlocking}
use Rattle.vlog_effects.proofs.Common.{all_of, stands_in, is_fixed, index_reads, part_covers, parts_cover, covered, arms_covered, missed, all_missed, parts_missed, early, arms_early}
use Rattle.vlog_meaning.specs.declared.fault.Fault.{Fault}
use Rattle.std.proofs.lemmas.List.{length-drop, length-take-le}
use Rattle.std.proofs.Math.Bool.{or-false}
use Rattle.vlog_meaning.proofs.Settled.{settled}
use Rattle.vlog_meaning.proofs.Reading.{rests_on_reads}
use Rattle.vlog_effects.proofs.Bools.{or-left, or-right, or-again, and-left, and-right, there}
use Rattle.vlog_effects.proofs.Numbers.{bit_value, number-small, bit_at-number, length-bits_of}
use Rattle.vlog_effects.proofs.Writing.{written-at, written-stands, length-written, length-bits_from}
use Rattle.vlog_effects.proofs.Sizes.{IsSized, AreSized, Sized, SizedArms}

-- Two states with these sizes of signals, and the same values at these bits. Nothing is scheduled.
pub record Alike (size : ℕ → ℕ) (b : Bits) (s u : State) : Type 0 where
  pub first : (n : ℕ) → length (s.now n) ≡ size n
  pub second : (n : ℕ) → length (u.now n) ≡ size n
  pub same : (n i : ℕ) → b n i ≡ true → get_or (s.now n) i false ≡ get_or (u.now n) i false
  pub none : s.scheduled ≡ []
  pub none_too : u.scheduled ≡ []

alike-to : (size : ℕ → ℕ) (b c : Bits) (s u : State) → ((n i : ℕ) → c n i ≡ true → b n i ≡ true) → Alike size b s u → Alike size c s u
alike-to size b c s u f al = record { first = al.first; second = al.second; same = λ n i e. al.same n i (f n i e); none = al.none; none_too = al.none_too }

-- Expressions.

within : (size : ℕ → ℕ) (store : Values) (d : Option Decl) → ((n : ℕ) → length (store n) ≡ size n) → IsSized size d → IsWithin (numbers store) d
within size store (Some (Signal width low is_signed n)) l k = subst (λ (w : ℕ). number (store n) < 2 ^ w) (l n ∙ k) (number-small (store n))
within size store (Some (Constant value low is_signed)) l k = tt
within size store None l k = tt

reads-same : (size : ℕ → ℕ) (names : Names) (e : Expr) (w : ℕ) (g : Bool) (b : Bits) (s u : State) → AreSized size names → ((n i : ℕ) → missed names e b n i ≡ false) → Alike size b s u → value names (numbers s.now) w g e ≡ value names (numbers u.now) w g e
reads-same size names e w g b s u k m al =
    rests_on_reads names e (numbers s.now) (numbers u.now) (λ name. within size s.now (names name) al.first (k name)) (λ name. within size u.now (names name) al.second (k name))
    (λ n i r. bit_at-number (s.now n) i ∙ ap bit_value (al.same n i (there (reads names e n i) (b n i) (m n i) r)) ∙ sym (bit_at-number (u.now n) i))
    (record { width = w; is_signed = g })

-- an index reads by its own shape
own-same : (size : ℕ → ℕ) (names : Names) (e : Expr) (b : Bits) (s u : State) → AreSized size names → ((n i : ℕ) → missed names e b n i ≡ false) → Alike size b s u → own (numbers s.now) (sense names e) ≡ own (numbers u.now) (sense names e)
own-same size names e b s u k m al = reads-same size names e (width_of names e) (is_signed_of names e) b s u k m al

no-signals : (names : Names) (e : Expr) → is_constant names e ≡ true → (sense names e).signals ≡ []
no-signals names e f = go (sense names e).signals f where
  go : (xs : List Fault) → is_empty xs ≡ true → xs ≡ []
  go [] g = refl
  go (x ∷ xs) g = cc

pub value-constant : (names : Names) (e : Expr) (a b : Store) (w : ℕ) (g : Bool) → is_constant names e ≡ true → value names a w g e ≡ value names b w g e
value-constant names e a b w g f = settled names e (no-signals names e f) a (record { width = w; is_signed = g }) ∙ sym (settled names e (no-signals names e f) b (record { width = w; is_signed = g }))

own-constant : (names : Names) (e : Expr) (a b : Store) → is_constant names e ≡ true → own a (sense names e) ≡ own b (sense names e)
own-constant names e a b f = value-constant names e a b (width_of names e) (is_signed_of names e) f

-- Left sides.

fixed-places : (names : Names) (v : Vector) (s : Select) (a b : Store) → is_fixed names s ≡ true → places names a v s ≡ places names b v s
fixed-places names v Whole a b e = refl
fixed-places names v (Bit at i) a b e = ap (λ (t : ℕ). bits_from v (integer (sense names i).shape t) 1) (own-constant names i a b e)
fixed-places names v (Range at msb lsb) a b e = refl
fixed-places names v (Indexed at base count) a b e = ap (λ (t : ℕ). bits_from v (integer (sense names base).shape t) (select_width names v (Indexed at base count))) (own-constant names base a b e)

-- the places are the same in both, where the index reads nothing that is not assigned
places-same : (size : ℕ → ℕ) (names : Names) (v : Vector) (sel : Select) (b : Bits) (s u : State) → AreSized size names → ((n i : ℕ) → (index_reads names sel n i && not (b n i)) ≡ false) → Alike size b s u → places names (numbers s.now) v sel ≡ places names (numbers u.now) v sel
places-same size names v Whole b s u k m al = refl
places-same size names v (Bit at x) b s u k m al = ap (λ (t : ℕ). bits_from v (integer (sense names x).shape t) 1) (own-same size names x b s u k m al)
places-same size names v (Range at msb lsb) b s u k m al = refl
places-same size names v (Indexed at base count) b s u k m al = ap (λ (t : ℕ). bits_from v (integer (sense names base).shape t) (select_width names v (Indexed at base count))) (own-same size names base b s u k m al)

part-same : (size : ℕ → ℕ) (names : Names) (p : Part) (v : Option Vector) (bits : List Bool) (b : Bits) (s u : State) → AreSized size names → ((n i : ℕ) → (index_reads names p.select n i && not (b n i)) ≡ false) → Alike size b s u → part_updates names s.now p v bits ≡ part_updates names u.now p v bits
part-same size names p None bits b s u k m al = refl
part-same size names p (Some v) bits b s u k m al = ap (λ (ps : List (Option ℕ)). record { number = v.number; places = ps; bits = bits } ∷ []) (places-same size names v p.select b s u k m al)

-- what a left side writes is the same in both
updates-same : (size : ℕ → ℕ) (names : Names) (ps : List Part) (bits : List Bool) (b : Bits) (s u : State) → AreSized size names → ((n i : ℕ) → parts_missed names ps b n i ≡ false) → Alike size b s u → updates_of names s.now ps bits ≡ updates_of names u.now ps bits
updates-same size names [] bits b s u k m al = refl
updates-same size names (p ∷ ps) bits b s u k m al =
    let rest : ℕ = parts_width names ps in
    let here : Bits = λ n i. index_reads names p.select n i && not (b n i) in
    ap (λ (us : List Update). us ++ part_updates names s.now p (part_vector names p) (drop rest bits)) (updates-same size names ps (take rest bits) b s u k (λ n i. or-right (here n i) (parts_missed names ps b n i) (m n i)) al) ∙
    ap (λ (us : List Update). updates_of names u.now ps (take rest bits) ++ us) (part-same size names p (part_vector names p) (drop rest bits) b s u k (λ n i. or-left (here n i) (parts_missed names ps b n i) (m n i)) al)

-- the bits that updates write
abbrev update_covers : Update → Bits
update_covers u = λ n i. nat_eq n u.number && stands_in u.places i

abbrev updates_cover : List Update → Bits
updates_cover [] = no_bits
updates_cover (u ∷ us) = either (update_covers u) (updates_cover us)

-- each update has a bit for each of its places
abbrev AreFull : List Update → Type 0
AreFull [] = Unit {0}
AreFull (u ∷ us) = (length u.places ≡ length u.bits) × AreFull us

length-choice : (c : Bool) (xs ys : List Bool) (n : ℕ) → length xs ≡ n → length ys ≡ n → length (if c then xs else ys) ≡ n
length-choice true xs ys n e f = e
length-choice false xs ys n e f = f

alike-put : (size : ℕ → ℕ) (x : Update) (b : Bits) (s u : State) → length x.places ≡ length x.bits → Alike size b s u → Alike size (either b (update_covers x)) (put true x s) (put true x u)
alike-put size x b s u full al = record {
  first = λ n. length-choice (nat_eq n x.number) _ (s.now n) (size n) (length-written (s.now n) x.places x.bits ∙ al.first n) (al.first n);
  second = λ n. length-choice (nat_eq n x.number) _ (u.now n) (size n) (length-written (u.now n) x.places x.bits ∙ al.second n) (al.second n);
  same = λ n i e. go n i (nat_eq n x.number) (b n i) refl e;
  none = al.none;
  none_too = al.none_too;
} where
  equal : (n : ℕ) → length (s.now n) ≡ length (u.now n)
  equal n = al.first n ∙ sym (al.second n)

  go : (n i : ℕ) (c d : Bool) → b n i ≡ d → (d || (c && stands_in x.places i)) ≡ true → get_or (if c then written (s.now n) x.places x.bits else s.now n) i false ≡ get_or (if c then written (u.now n) x.places x.bits else u.now n) i false
  go n i true true f e = written-at (s.now n) (u.now n) x.places x.bits i (equal n) (al.same n i f)
  go n i true false f e = written-stands (s.now n) (u.now n) x.places x.bits i (equal n) (omega arith) e
  go n i false true f e = al.same n i f
  go n i false false f e = cc

alike-puts : (size : ℕ → ℕ) (us : List Update) (b : Bits) (s u : State) → AreFull us → Alike size b s u → Alike size (either b (updates_cover us)) (put_all true us s) (put_all true us u)
alike-puts size [] b s u full al = alike-to size b (either b no_bits) s u (λ n i e. sym (or-false (b n i)) ∙ e) al
alike-puts size (x ∷ us) b s u full al =
    alike-to size (either (either b (update_covers x)) (updates_cover us)) (either b (updates_cover (x ∷ us))) _ _ (λ n i e. or-again (b n i) (update_covers x n i) (updates_cover us n i) ∙ e)
    (alike-puts size us (either b (update_covers x)) (put true x s) (put true x u) full.1 (alike-put size x b s u full.0 al))

cover-both : (us vs : List Update) (n i : ℕ) → updates_cover (us ++ vs) n i ≡ (updates_cover us n i || updates_cover vs n i)
cover-both [] vs n i = refl
cover-both (u ∷ us) vs n i = ap (λ (c : Bool). update_covers u n i || c) (cover-both us vs n i) ∙ sym (or-again (update_covers u n i) (updates_cover us n i) (updates_cover vs n i))

or-turned : (a b c d : Bool) → (c ≡ true → b ≡ true) → (d ≡ true → a ≡ true) → (c || d) ≡ true → (a || b) ≡ true
or-turned true b c d f g e = refl
or-turned false b true d f g e = f refl
or-turned false b false d f g e = absurd-of (g e) where
  absurd-of : false ≡ true → b ≡ true
  absurd-of h = cc

both-true : (a b : Bool) → a ≡ true → b ≡ true → ((a && b) || false) ≡ true
both-true true true e f = refl
both-true true false e f = f
both-true false b e f = e

part-covers : (names : Names) (store : Values) (p : Part) (v : Option Vector) (bits : List Bool) (n i : ℕ) → part_covers names p v n i ≡ true → updates_cover (part_updates names store p v bits) n i ≡ true
part-covers names store p None bits n i e = e
part-covers names store p (Some v) bits n i e =
    let zeros : Store = λ m. 0 in
    let rest : Bool = is_fixed names p.select && stands_in (places names zeros v p.select) i in
    let inner : rest ≡ true = and-right (nat_eq n v.number) rest e in
    let fixed : is_fixed names p.select ≡ true = and-left (is_fixed names p.select) (stands_in (places names zeros v p.select) i) inner in
    let stands : stands_in (places names zeros v p.select) i ≡ true = and-right (is_fixed names p.select) (stands_in (places names zeros v p.select) i) inner in
    both-true (nat_eq n v.number) (stands_in (places names (numbers store) v p.select) i) (and-left (nat_eq n v.number) rest e)
    (ap (λ (ps : List (Option ℕ)). stands_in ps i) (fixed-places names v p.select (numbers store) zeros fixed) ∙ stands)

-- what parts cover their updates write
parts-cover : (names : Names) (store : Values) (ps : List Part) (bits : List Bool) (n i : ℕ) → parts_cover names ps n i ≡ true → updates_cover (updates_of names store ps bits) n i ≡ true
parts-cover names store [] bits n i e = e
parts-cover names store (p ∷ ps) bits n i e =
    let rest : ℕ = parts_width names ps in
    let low : List Update = updates_of names store ps (take rest bits) in
    let high : List Update = part_updates names store p (part_vector names p) (drop rest bits) in
    cover-both low high n i ∙
    or-turned (updates_cover low n i) (updates_cover high n i) (part_covers names p (part_vector names p) n i) (parts_cover names ps n i)
    (part-covers names store p (part_vector names p) (drop rest bits) n i) (parts-cover names store ps (take rest bits) n i) e

full-both : (us vs : List Update) → AreFull us → AreFull vs → AreFull (us ++ vs)
full-both [] vs k l = l
full-both (u ∷ us) vs k l = (k.0, full-both us vs k.1 l)

part-full : (names : Names) (store : Values) (p : Part) (v : Option Vector) (bits : List Bool) → length bits ≡ width_by names p.select v → AreFull (part_updates names store p v bits)
part-full names store p None bits e = tt
part-full names store p (Some v) bits e = (length-bits_from v _ (select_width names v p.select) ∙ sym e, tt)

updates-full : (names : Names) (store : Values) (ps : List Part) (bits : List Bool) → length bits ≡ parts_width names ps → AreFull (updates_of names store ps bits)
updates-full names store [] bits e = tt
updates-full names store (p ∷ ps) bits e =
    let rest : ℕ = parts_width names ps in
    let w : ℕ = part_width names p in
    let whole : length bits ≡ w + rest = e in
    full-both _ _ (updates-full names store ps (take rest bits) (length-take-le rest bits (omega arith)))
    (part-full names store p (part_vector names p) (drop rest bits) (length-drop rest bits ∙ omega arith))

alike-assigned : (size : ℕ → ℕ) (a : Assigning) (b : Bits) (s u : State) → AreSized size a.names → a.is_blocking ≡ true → ((n i : ℕ) → either (missed a.names a.right b) (parts_missed a.names (parts_of a.left) b) n i ≡ false) → Alike size b s u → Alike size (either b (parts_cover a.names (parts_of a.left))) (assigned a s) (assigned a u)
alike-assigned size a b s u k kind m al =
    let ps : List Part = parts_of a.left in
    let w : ℕ = parts_width a.names ps in
    let wide : ℕ = max w (width_of a.names a.right) in
    let g : Bool = is_signed_of a.names a.right in
    let right : List Bool = right_bits a.names w a.right s.now in
    let same : right ≡ right_bits a.names w a.right u.now = ap (λ (v : ℕ). bits_of w v) (reads-same size a.names a.right wide g b s u k (λ n i. or-left (missed a.names a.right b n i) (parts_missed a.names ps b n i) (m n i)) al) in
    let us : List Update = updates_of a.names s.now ps right in
    let equal : us ≡ updates_of a.names u.now ps (right_bits a.names w a.right u.now) =
    updates-same size a.names ps right b s u k (λ n i. or-right (missed a.names a.right b n i) (parts_missed a.names ps b n i) (m n i)) al ∙
    ap (λ (bits : List Bool). updates_of a.names u.now ps bits) same in
    let c : Bits = either b (parts_cover a.names ps) in
    let both : Alike size c (put_all true us s) (put_all true us u) =
    alike-to size (either b (updates_cover us)) c _ _ (λ n i. or-more (b n i) (parts_cover a.names ps n i) (updates_cover us n i) (parts-cover a.names s.now ps right n i))
    (alike-puts size us b s u (updates-full a.names s.now ps right (length-bits_of w _)) al) in
    let P : List Update → Type 0 = λ (vs : List Update). Alike size c (put_all true us s) (put_all true vs u) in
    let Q : Bool → Type 0 = λ (k : Bool). Alike size c (put_all k us s) (put_all k (updates_of a.names u.now ps (right_bits a.names w a.right u.now)) u) in
    subst Q (sym kind) (subst P equal both) where
      or-more : (x y z : Bool) → (y ≡ true → z ≡ true) → (x || y) ≡ true → (x || z) ≡ true
      or-more true y z f e = refl
      or-more false y z f e = f e

-- Choices and cases.

alike-choice : (size : ℕ → ℕ) (h k : Bool) (b c : Bits) (s u x y : State) → h ≡ k → Alike size b s u → Alike size c x y → Alike size (all_of b c) (if h then s else x) (if k then u else y)
alike-choice size true true b c s u x y e al bl = alike-to size b (all_of b c) s u (λ n i f. and-left (b n i) (c n i) f) al
alike-choice size true false b c s u x y e al bl = cc
alike-choice size false true b c s u x y e al bl = cc
alike-choice size false false b c s u x y e al bl = alike-to size c (all_of b c) x y (λ n i f. and-right (b n i) (c n i) f) bl

sized-same : (size : ℕ → ℕ) (c : Selection) (x : Expr) (b : Bits) (s u : State) → AreSized size c.names → ((n i : ℕ) → missed c.names x b n i ≡ false) → Alike size b s u → sized_bits c s.now x ≡ sized_bits c u.now x
sized-same size c x b s u k m al = ap (λ (v : ℕ). bits_of c.width v) (reads-same size c.names x c.width c.is_signed b s u k m al)

matches-same : (size : ℕ → ℕ) (c : Selection) (xs : List Expr) (b : Bits) (s u : State) → AreSized size c.names → sized_bits c s.now c.selector ≡ sized_bits c u.now c.selector → ((n i : ℕ) → all_missed c.names xs b n i ≡ false) → Alike size b s u → matches c s.now xs ≡ matches c u.now xs
matches-same size c [] b s u k sel m al = refl
matches-same size c (x ∷ more) b s u k sel m al =
    let here : sized_bits c s.now x ≡ sized_bits c u.now x = sized-same size c x b s u k (λ n i. or-left (missed c.names x b n i) (all_missed c.names more b n i) (m n i)) al in
    let later : matches c s.now more ≡ matches c u.now more = matches-same size c more b s u k sel (λ n i. or-right (missed c.names x b n i) (all_missed c.names more b n i) (m n i)) al in
    ap (λ (t : List Bool). agree (bits_of c.width (dont_care c.kind x)) t (sized_bits c s.now x) || matches c s.now more) sel ∙
    ap (λ (t : List Bool). agree (bits_of c.width (dont_care c.kind x)) (sized_bits c u.now c.selector) t || matches c s.now more) here ∙
    ap (λ (t : Bool). agree (bits_of c.width (dont_care c.kind x)) (sized_bits c u.now c.selector) (sized_bits c u.now x) || t) later

mutual
  pub alike-effect : (size : ℕ → ℕ) (steps : Steps) (b : Bits) (s u : State) → Sized size steps → IsBlocking steps → ((n i : ℕ) → early steps b n i ≡ false) → Alike size b s u → Alike size (covered steps b) (effect steps s) (effect steps u)
  alike-effect size Done b s u z k e al = al
  alike-effect size (Assign a more) b s u z k e al =
      let c : Bits = either b (parts_cover a.names (parts_of a.left)) in
      let here : Bits = either (missed a.names a.right b) (parts_missed a.names (parts_of a.left) b) in
      alike-effect size more c (assigned a s) (assigned a u) z.1 k.1 (λ n i. or-right (here n i) (early more c n i) (e n i)) (alike-assigned size a b s u z.0 k.0 (λ n i. or-left (here n i) (early more c n i) (e n i)) al)
  alike-effect size (Choose at d then_part else_part more) b s u z k e al =
      let c : Bits = all_of (covered then_part b) (covered else_part b) in
      let test : Bits = missed d.names d.condition b in
      let parts : Bits = either (early then_part b) (early else_part b) in
      let front : (n i : ℕ) → either test parts n i ≡ false = λ n i. or-left (either test parts n i) (early more c n i) (e n i) in
      let inner : (n i : ℕ) → parts n i ≡ false = λ n i. or-right (test n i) (parts n i) (front n i) in
      let same : holds d s.now ≡ holds d u.now = ap (λ (v : ℕ). not (nat_eq v 0)) (reads-same size d.names d.condition (width_of d.names d.condition) (is_signed_of d.names d.condition) b s u z.0 (λ n i. or-left (test n i) (parts n i) (front n i)) al) in
      let first = alike-effect size then_part b s u z.1 k.0 (λ n i. or-left (early then_part b n i) (early else_part b n i) (inner n i)) al in
      let second = alike-effect size else_part b s u z.2 k.1 (λ n i. or-right (early then_part b n i) (early else_part b n i) (inner n i)) al in
      alike-effect size more c _ _ z.3 k.2 (λ n i. or-right (either test parts n i) (early more c n i) (e n i)) (alike-choice size (holds d s.now) (holds d u.now) (covered then_part b) (covered else_part b) (effect then_part s) (effect then_part u) (effect else_part s) (effect else_part u) same first second)
  alike-effect size (Case d arms bodies more) b s u z k e al =
      let c : Bits = arms_covered arms b in
      let sel : Bits = missed d.names d.selector b in
      let inner : Bits = arms_early d arms b in
      let front : (n i : ℕ) → either sel inner n i ≡ false = λ n i. or-left (either sel inner n i) (early more c n i) (e n i) in
      let selector : sized_bits d s.now d.selector ≡ sized_bits d u.now d.selector = sized-same size d d.selector b s u z.0 (λ n i. or-left (sel n i) (inner n i) (front n i)) al in
      alike-effect size more c _ _ z.2 k.1 (λ n i. or-right (either sel inner n i) (early more c n i) (e n i)) (alike-arms size d arms b s u z.0 z.1 k.0 selector (λ n i. or-right (sel n i) (inner n i) (front n i)) al)
  alike-effect size (Refuse x more) b s u z k e al = alike-effect size more b s u z k e al

  pub alike-arms : (size : ℕ → ℕ) (d : Selection) (arms : Arms) (b : Bits) (s u : State) → AreSized size d.names → SizedArms size arms → AreBlocking arms → sized_bits d s.now d.selector ≡ sized_bits d u.now d.selector → ((n i : ℕ) → arms_early d arms b n i ≡ false) → Alike size b s u → Alike size (arms_covered arms b) (arm_effect d arms s) (arm_effect d arms u)
  alike-arms size d (Otherwise body) b s u w z k sel e al = alike-effect size body b s u z k e al
  alike-arms size d (Arm at labels body others) b s u w z k sel e al =
      let label : Bits = all_missed d.names labels b in
      let parts : Bits = either (early body b) (arms_early d others b) in
      let inner : (n i : ℕ) → parts n i ≡ false = λ n i. or-right (label n i) (parts n i) (e n i) in
      let same : matches d s.now labels ≡ matches d u.now labels = matches-same size d labels b s u w sel (λ n i. or-left (label n i) (parts n i) (e n i)) al in
      alike-choice size (matches d s.now labels) (matches d u.now labels) (covered body b) (arms_covered others b) (effect body s) (effect body u) (arm_effect d others s) (arm_effect d others u) same
      (alike-effect size body b s u z.0 k.0 (λ n i. or-left (early body b n i) (arms_early d others b n i) (inner n i)) al)
      (alike-arms size d others b s u w z.1 k.1 sel (λ n i. or-right (early body b n i) (arms_early d others b n i) (inner n i)) al)
