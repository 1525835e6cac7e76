-- Scenes that have the declared signals.
use Rattle.tb_evaluator.proofs.Common.{◌≡◌, ℕ, zero, suc, ◌+◌, ◌<◌, ◌≤◌, ◌^◌, List, [], ◌∷◌, map, slice_index, slice_get, Option, Some, None, refl, ap, sym, ◌∙◌, arith, All, All-nil, All-cons, Names}
use Rattle.tb_evaluator.proofs.Common.{store_of, word_bits, FitsWidth, FitsWord, FitsSignals, Update, World, Fits, IsOfSignal, AreOfSignals, store_in, HasSignal, HasSignals}
use Rattle.mcy_base.specs.declared.word.Word.{Word}
use Rattle.vlog_meaning.specs.declared.scope.Decl.{Decl}
use Rattle.vlog_meaning.specs.declared.scope.Decl.TheVariants.{Signal, Constant}
use Rattle.vlog_effects.specs.LeftSides.{Vector, vector_of}
use Rattle.std.proofs.lemmas.Option.{none-some}
use Rattle.tb_assigns.proofs.Checked.{same_vector}

width_at : (ws : List Word) (k width : ℕ) → slice_index (map (λ w. w.width) ws) k ≡ width → FitsWidth width (slice_get ws k)
width_at [] k width is = tt
width_at (x ∷ xs) zero width is = is
width_at (x ∷ xs) (suc k) width is = width_at xs k width is

bits_at : (ws : List Word) (k : ℕ) → word_bits (slice_get ws k) ≡ slice_index (map (λ w. w.bits) ws) k
bits_at [] k = refl
bits_at (x ∷ xs) zero = refl
bits_at (x ∷ xs) (suc k) = bits_at xs k

word_fits : (ws : List Word) (widths : List ℕ) → map (λ x. x.width) ws ≡ widths → (d : Option Decl) → HasSignal widths d → FitsWord ws d
word_fits ws widths is (Some (Signal width low is_signed number)) has = width_at ws number width (ap (λ (ks : List ℕ). slice_index ks number) is ∙ has.1)
word_fits ws widths is (Some (Constant value low is_signed)) has = tt
word_fits ws widths is None has = tt

pub signals_fit : (names : Names) (ws : List Word) (widths : List ℕ) → map (λ x. x.width) ws ≡ widths → HasSignals names widths → FitsSignals names ws
signals_fit names ws widths is has name = word_fits ws widths is (names name) (has name)

pub same_store : (ws : List Word) (w : World) → map (λ x. x.bits) ws ≡ w.store → store_of ws ≡ store_in w
same_store ws w is = λ i k. (bits_at ws k ∙ ap (λ (ns : List ℕ). slice_index ns k) is) i

-- An update that fits.

signal_fits : (widths : List ℕ) (u : Update) (v : Vector) (d : Option Decl) → vector_of d ≡ Some v → HasSignal widths d → u.signal ≡ v.number → 1 ≤ u.width → u.low + u.width ≤ v.width → u.value < 2 ^ u.width → Fits widths u
signal_fits widths u v (Some (Signal width low is_signed number)) is has signal some inside value =
    let same : record { number = number; width = width; low = low } ≡ v = same_vector (record { number = number; width = width; low = low }) v is in
    let number_is : number ≡ v.number = ap (λ (x : Vector). x.number) same in
    let width_is : width ≡ v.width = ap (λ (x : Vector). x.width) same in
    let here : u.signal ≡ number = signal ∙ sym number_is in
    let wide : slice_index widths u.signal ≡ v.width = ap (λ (k : ℕ). slice_index widths k) here ∙ has.1 ∙ width_is in
    record { known = omega (arith, here, has.0); some = some; inside = omega (arith, inside, wide); value = value }
signal_fits widths u v (Some (Constant value low is_signed)) is has signal some inside below = absurd (none-some v is)
signal_fits widths u v None is has signal some inside below = absurd (none-some v is)

pub update_fits : (names : Names) (widths : List ℕ) (u : Update) → HasSignals names widths → IsOfSignal names u → Fits widths u
update_fits names widths u has of = signal_fits widths u of.vector (names of.name) of.declared (has of.name) of.signal of.some of.within of.value

pub updates_fit : (names : Names) (widths : List ℕ) (us : List Update) → HasSignals names widths → AreOfSignals names us → All (Fits widths) us
updates_fit names widths [] has of = All-nil (Fits widths)
updates_fit names widths (u ∷ us) has of = All-cons (Fits widths) u us (update_fits names widths u has of.0) (updates_fit names widths us has of.1)
