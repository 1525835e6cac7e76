-- A value depends on the bits that are read.
use Rattle.vlog_meaning.proofs.Common.{◌≡◌, ℕ, ◌<◌, ◌^◌, Bool, true, false, ◌&&◌, ◌||◌, ◌==◌, ℤ, pos, ◌-ℤ◌, List, [], ◌∷◌, map, refl, sym, subst, arith, nat_lt, Option, None, Some, slice_get}
use Rattle.vlog_meaning.proofs.Common.{nat_tests, pow_pos, same_from_bits_below, Word, Expr, Expr-F, roll-Expr, fold-roll-Expr, ind-Expr, map-Expr, Fault, Function, Signed, Unsigned, Clog2, Random}
use Rattle.vlog_meaning.proofs.Common.{Time, Decl, Signal, Constant, Shape, function_of, window, natural, sizing, left_context, right_context, operand_context, Names, Store, decl_low, decl_value}
use Rattle.vlog_meaning.proofs.Common.{store_of, word_bits, FitsWidth, FitsWord, IsWithin, AreWithin, Bits, Sense, sense, senses, step, index_of, either, all_reads, name_bits, part_bits, select_bits}
use Rattle.vlog_meaning.proofs.Common.{is_among, constant_integer, joined, call_value, Agree, RestsOnReads, WordsAreWithin}
use Rattle.vlog_syntax.specs.declared.expr.Expr.TheOpen as e
use Rattle.vlog_meaning.proofs.Settled.{settled}
use Rattle.vlog_meaning.proofs.Windows.{window_same}

abbrev Rests : Names → Expr → Type 0
Rests names x = RestsOnReads names (sense names x)

-- an expression with the proof for it
abbrev Proved : Names → Type 0
Proved names = (x : Expr) × Rests names x

these_hold : (a b : Bool) → a ≡ true → a || b ≡ true
these_hold true b h = refl
these_hold false b h = cc

pub those_hold : (a b : Bool) → b ≡ true → a || b ≡ true
those_hold true b h = refl
those_hold false b h = h

pub these_agree : (p q : Bits) (s t : Store) → Agree (either p q) s t → Agree p s t
these_agree p q s t agree number at h = agree number at (these_hold (p number at) (q number at) h)

pub those_agree : (p q : Bits) (s t : Store) → Agree (either p q) s t → Agree q s t
those_agree p q s t agree number at h = agree number at (those_hold (p number at) (q number at) h)

named : (number at width : ℕ) → at < width → number == number && nat_lt at width ≡ true
named number at width h = grind (arith, nat_tests)

named_among : (number at width : ℕ) (b : Bool) → at < width → b ≡ true → (number == number && nat_lt at width) && b ≡ true
named_among number at width b h e = rw (named number at width h, e) refl

pub name_same : (d : Option Decl) (s t : Store) → IsWithin s d → IsWithin t d → Agree (name_bits d) s t → decl_value s d ≡ decl_value t d
name_same (Some (Signal width low is_signed number)) s t within within_too agree = same_from_bits_below width (s number) (t number) within within_too (λ i h. agree number i (named number i width h))
name_same (Some (Constant value low is_signed)) s t within within_too agree = refl
name_same None s t within within_too agree = refl

pub part_same : (d : Option Decl) (from : ℤ) (size : ℕ) (s t : Store) → IsWithin s d → IsWithin t d → Agree (part_bits d from size) s t → window from size (decl_value s d) ≡ window from size (decl_value t d)
part_same (Some (Signal width low is_signed number)) from size s t within within_too agree = window_same from size width (s number) (t number) within within_too (λ i h e. agree number i (named_among number i width (is_among from size i) h e))
part_same (Some (Constant value low is_signed)) from size s t within within_too agree = refl
part_same None from size s t within within_too agree = refl

module _ (names : Names) (s t : Store) (within : AreWithin names s) (within_too : AreWithin names t) where
  -- a select, whose place is constant or not
  select_same : (d : Option Decl) (x : Expr) (size : ℕ) → IsWithin s d → IsWithin t d → Rests names x → Agree (select_bits d (sense names x) size) s t → window (index_of s (sense names x) -ℤ pos (decl_low d)) size (decl_value s d) ≡ window (index_of t (sense names x) -ℤ pos (decl_low d)) size (decl_value t d)
  select_same d x size w w_too rests agree = go (sense names x).signals refl
    where
      go : (signals : List Fault) → (sense names x).signals ≡ signals → window (index_of s (sense names x) -ℤ pos (decl_low d)) size (decl_value s d) ≡ window (index_of t (sense names x) -ℤ pos (decl_low d)) size (decl_value t d)
      go [] is =
          let bits : Agree (part_bits d (constant_integer (sense names x) -ℤ pos (decl_low d)) size) s t = rw is at agree in
          rw (settled names x is s (sense names x).shape, settled names x is t (sense names x).shape) (part_same d _ size s t w w_too bits)
      go (y ∷ ys) is =
          let bits : Agree (either (name_bits d) (sense names x).reads) s t = rw is at agree in
          rw (rests s t within within_too (those_agree (name_bits d) (sense names x).reads s t bits) (sense names x).shape, name_same d s t w w_too (these_agree (name_bits d) (sense names x).reads s t bits)) refl

  joined_same : (xs : List (Proved names)) → Agree (all_reads (senses names (map (λ w. w.0) xs))) s t → joined s (senses names (map (λ w. w.0) xs)) ≡ joined t (senses names (map (λ w. w.0) xs))
  joined_same [] agree = refl
  joined_same (w ∷ more) agree =
      let these = (sense names w.0).reads in
      let those = all_reads (senses names (map (λ w. w.0) more)) in
      rw (w.1 s t within within_too (these_agree these those s t agree) (sense names w.0).shape, joined_same more (those_agree these those s t agree)) refl

  call_same : (f : Option Function) (xs : List (Proved names)) (c : Shape) → Agree (all_reads (senses names (map (λ w. w.0) xs))) s t → call_value f (senses names (map (λ w. w.0) xs)) s c ≡ call_value f (senses names (map (λ w. w.0) xs)) t c
  call_same (Some Signed) [] c agree = refl
  call_same (Some Signed) (w ∷ []) c agree = rw (w.1 s t within within_too (these_agree (sense names w.0).reads (all_reads []) s t agree) (sense names w.0).shape) refl
  call_same (Some Signed) (w ∷ x ∷ more) c agree = refl
  call_same (Some Unsigned) [] c agree = refl
  call_same (Some Unsigned) (w ∷ []) c agree = rw (w.1 s t within within_too (these_agree (sense names w.0).reads (all_reads []) s t agree) (sense names w.0).shape) refl
  call_same (Some Unsigned) (w ∷ x ∷ more) c agree = refl
  call_same (Some Clog2) [] c agree = refl
  call_same (Some Clog2) (w ∷ []) c agree = refl
  call_same (Some Clog2) (w ∷ x ∷ more) c agree = refl
  call_same (Some Random) xs c agree = refl
  call_same (Some Time) xs c agree = refl
  call_same None xs c agree = refl

from_step : (names : Names) (x : Expr-F Expr) → RestsOnReads names (step names (map-Expr Expr Sense (sense names) x)) → Rests names (roll-Expr x)
from_step names x rests = subst (RestsOnReads names) (sym (fold-roll-Expr Sense (step names) x)) rests

layer : (names : Names) (y : Expr-F (Proved names)) → RestsOnReads names (step names (map-Expr Expr Sense (sense names) (map-Expr (Proved names) Expr (λ (w : Proved names). w.0) y)))
layer names (e.Number n) s t w u agree c = refl
layer names (e.Name n) s t w u agree c = rw (name_same (names n.name) s t (w n.name) (u n.name) agree) refl
layer names (e.BitSelect n p i) s t w u agree c = select_same names s t w u (names n.name) i.0 1 (w n.name) (u n.name) i.1 agree
layer names (e.PartSelect n p m l) s t w u agree c = part_same (names n.name) _ _ s t (w n.name) (u n.name) agree
layer names (e.IndexedPartSelect n p b k) s t w u agree c = select_same names s t w u (names n.name) b.0 (natural (constant_integer (sense names k.0))) (w n.name) (u n.name) b.1 agree
layer names (e.Parenthesized p i) s t w u agree c = i.1 s t w u agree c
layer names (e.Unary p op i) s t w u agree c = rw (i.1 s t w u agree (operand_context op (sense names i.0).shape c)) refl
layer names (e.Binary p op i j) s t w u agree c =
    let these = (sense names i.0).reads in
    let those = (sense names j.0).reads in
    rw (i.1 s t w u (these_agree these those s t agree) (left_context (sizing op) (sense names i.0).shape (sense names j.0).shape c), j.1 s t w u (those_agree these those s t agree) (right_context (sizing op) (sense names i.0).shape (sense names j.0).shape c)) refl
layer names (e.Conditional p x i j) s t w u agree c =
    let these = (sense names i.0).reads in
    let those = (sense names j.0).reads in
    let rest = those_agree (sense names x.0).reads (either these those) s t agree in
    rw (x.1 s t w u (these_agree (sense names x.0).reads (either these those) s t agree) (sense names x.0).shape, i.1 s t w u (these_agree these those s t rest) c, j.1 s t w u (those_agree these those s t rest) c) refl
layer names (e.Concatenation p ps) s t w u agree c = joined_same names s t w u ps agree
layer names (e.MultipleConcatenation p k ps) s t w u agree c = rw (joined_same names s t w u ps agree) refl
layer names (e.SystemFunctionCall n ps) s t w u agree c = call_same names s t w u (function_of n.name) ps c agree

pub rests_on_reads : (names : Names) (x : Expr) → RestsOnReads names (sense names x)
rests_on_reads names = ind-Expr (Rests names) (λ x y is. from_step names x (subst (λ (z : Expr-F Expr). RestsOnReads names (step names (map-Expr Expr Sense (sense names) z))) is (layer names y)))

-- a word that fits a signal
word_within : (width : ℕ) (o : Option Word) → FitsWidth width o → word_bits o < 2 ^ width
word_within width (Some word) fits = subst (λ (w : ℕ). word.bits < 2 ^ w) fits word.fits
word_within width None fits = pow_pos width

decl_within : (words : List Word) (d : Option Decl) → FitsWord words d → IsWithin (store_of words) d
decl_within words (Some (Signal width low is_signed number)) fits = word_within width (slice_get words number) fits
decl_within words (Some (Constant value low is_signed)) fits = tt
decl_within words None fits = tt

pub words_within : WordsAreWithin
words_within names words fits = λ name. decl_within words (names name) (fits name)
