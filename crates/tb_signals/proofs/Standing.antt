-- What is opened by itself stands, and signals that are added keep the others.
use Rattle.std.proofs.Common.{◌≡◌, ℕ, zero, suc, ◌+◌, ◌<◌, ◌≤◌, Bool, true, false, List, [], ◌∷◌, ◌++◌, length, map, get_or, Option, None, Some, refl, sym, ◌∙◌, subst, ap, length-append, if◌then◌else◌, arith}
use Rattle.std.proofs.lemmas.List.{length-map, map-append}
use Rattle.std.specs.Prelude.{slice_get, slice_index, slice_set}
use Rattle.std.specs.Str.{bytes_eq}
use Rattle.mcy_base.specs.declared.word.Word.{Word}
use Rattle.vlog_meaning.specs.declared.scope.Decl.{Decl}
use Rattle.vlog_meaning.specs.declared.scope.Decl.TheVariants as d
use Rattle.vlog_meaning.specs.Scopes.{Names, with_name, decl_shape}
use Rattle.vlog_meaning.specs.Operators.{IsSized}
use Rattle.elab_proc.specs.Refusals.{AreSized as EachSized}
use Rattle.flat_scopes.specs.declared.signal.Signal.{Signal}
use Rattle.flat_scopes.specs.Openings.{unopened}
use Rattle.flat_instances.specs.Instances.{no_names}
use Rattle.flat_items.specs.Replacing.{top_head}
use Rattle.flat_laws.specs.Sound.{AreSized, HasBits, NamesSignal}
use Rattle.flat_laws.proofs.Opening.{Keeps}
use Rattle.flat_laws.proofs.Opened.{kept_module}
use Rattle.flat_laws.proofs.Entering.{unopened_kept}
use Rattle.tb_evaluator.specs.Meanings.{HasSignal, HasSignals}
use Rattle.tb_signals.specs.Tables.{hidden_decl}
use Rattle.tb_signals.specs.Opened.{OpenedStand}

pub opened_stand : OpenedStand
opened_stand m o opens =
    let kept : Keeps (unopened no_names []) o = kept_module (unopened no_names []) (unopened no_names []) o (top_head m) no_names m opens (unopened_kept no_names [] tt (λ name. tt)) in
    record { sized = kept.sized; names = kept.names }

-- What is declared has a number of its width.

named : (signals : List Signal) (k width low : ℕ) → HasBits width low (slice_get signals k) → (k < length (map (λ s. s.bits.width) signals)) × (slice_index (map (λ s. s.bits.width) signals) k ≡ width)
named [] k width low h = absurd h
named (s ∷ more) zero width low h = (omega arith, h.0)
named (s ∷ more) (suc k) width low h = let rest = named more k width low h in (omega (arith, rest.0), rest.1)

stands : (signals : List Signal) (x : Option Decl) → NamesSignal signals x → HasSignal (map (λ s. s.bits.width) signals) x
stands signals (Some (d.Signal width low is_signed k)) h = named signals k width low h
stands signals (Some (d.Constant value low is_signed)) h = tt
stands signals None h = tt

-- One signal more.

at_front : (xs : List ℕ) (y k : ℕ) → k < length xs → slice_index (xs ++ y ∷ []) k ≡ slice_index xs k
at_front [] y k h = absurd (omega arith)
at_front (x ∷ xs) y zero h = refl
at_front (x ∷ xs) y (suc k) h = at_front xs y k (omega arith)

at_end : (xs : List ℕ) (y : ℕ) → slice_index (xs ++ y ∷ []) (length xs) ≡ y
at_end [] y = refl
at_end (x ∷ xs) y = at_end xs y

longer : (xs : List ℕ) (y : ℕ) → length (xs ++ y ∷ []) ≡ length xs + 1
longer xs y = length-append xs (y ∷ []) ∙ omega arith

has_more : (widths : List ℕ) (w : ℕ) (x : Option Decl) → HasSignal widths x → HasSignal (widths ++ w ∷ []) x
has_more widths w (Some (d.Signal width low is_signed k)) h = let e = longer widths w in (omega (arith, h.0, e), at_front widths w k h.0 ∙ h.1)
has_more widths w (Some (d.Constant value low is_signed)) h = tt
has_more widths w None h = tt

chosen : (widths : List ℕ) (b : Bool) (x y : Option Decl) → HasSignal widths x → HasSignal widths y → HasSignal widths (if b then x else y)
chosen widths true x y h other = h
chosen widths false x y h other = other

pub signals_hidden : (names : Names) (name : List ℕ) (widths : List ℕ) (w : ℕ) (is_signed : Bool) → HasSignals names widths → HasSignals (with_name names name (hidden_decl w is_signed (length widths))) (widths ++ w ∷ [])
signals_hidden names name widths w is_signed h = λ other.
    let e = longer widths w in
    chosen (widths ++ w ∷ []) (bytes_eq name other) (hidden_decl w is_signed (length widths)) (names other) (omega (arith, e), at_end widths w) (has_more widths w (names other) (h other))

-- A signal of a list has from 1 to 128 bits.

pub sized_at : (signals : List Signal) (k : ℕ) (s : Signal) → k < length signals → s ≡ get_or signals k s → AreSized signals → (1 ≤ s.bits.width) × (s.bits.width ≤ 128)
sized_at [] k s h is sized = absurd (omega arith)
sized_at (x ∷ more) zero s h is sized = let P : Signal → Type 0 = λ y. (1 ≤ y.bits.width) × (y.bits.width ≤ 128) in subst P (sym is) (sized.0, sized.1)
sized_at (x ∷ more) (suc k) s h is sized = sized_at more k s (omega arith) is sized.2

-- A word in the place of another.

same_widths : (words : List Word) (k : ℕ) (new : Word) → k < length words → new.width ≡ slice_index (map (λ w. w.width) words) k → map (λ w. w.width) (slice_set words k new) ≡ map (λ w. w.width) words
same_widths [] k new h is = absurd (omega arith)
same_widths (w ∷ words) zero new h is = ap (λ (n : ℕ). n ∷ map (λ w. w.width) words) is
same_widths (w ∷ words) (suc k) new h is = ap (λ ns. w.width ∷ ns) (same_widths words k new (omega arith) is)

pub widths_stay : (words : List Word) (k : ℕ) (new : Word) → k < length (map (λ w. w.width) words) → new.width ≡ slice_index (map (λ w. w.width) words) k → map (λ w. w.width) (slice_set words k new) ≡ map (λ w. w.width) words
widths_stay words k new h is = same_widths words k new (rw length-map at h) is

-- A hidden signal with its word.
pub hidden_stands : (names new : Names) (words after : List Word) (last : Word) (name : List ℕ) (is_signed : Bool) (number w : ℕ) → after ≡ words ++ last ∷ [] → last.width ≡ w → number ≡ length words → new ≡ with_name names name (hidden_decl w is_signed number) → HasSignals names (map (λ v. v.width) words) → HasSignals new (map (λ v. v.width) after)
hidden_stands names new words after last name is_signed number w items width at is h =
    let widths : List ℕ = map (λ v. v.width) words in
    let e : map (λ v. v.width) after ≡ widths ++ w ∷ [] = ap (λ vs. map (λ v. v.width) vs) items ∙ map-append (λ v. v.width) words (last ∷ []) ∙ ap (λ (n : ℕ). widths ++ n ∷ []) width in
    let m : number ≡ length widths = at ∙ sym (length-map words (λ v. v.width)) in
    let same : new ≡ with_name names name (hidden_decl w is_signed (length widths)) = is ∙ ap (λ (n : ℕ). with_name names name (hidden_decl w is_signed n)) m in
    let P : Names → Type 0 = λ ns. HasSignals ns (map (λ v. v.width) after) in
    let Q : List ℕ → Type 0 = λ ws. HasSignals (with_name names name (hidden_decl w is_signed (length widths))) ws in
    subst P (sym same) (subst Q (sym e) (signals_hidden names name widths w is_signed h))

-- Each declared name has from 1 to 128 bits.

word_sized : (words : List Word) (k width : ℕ) → k < length (map (λ v. v.width) words) → slice_index (map (λ v. v.width) words) k ≡ width → (1 ≤ width) × (width ≤ 128)
word_sized [] k width h is = absurd (omega arith)
word_sized (w ∷ words) zero width h is = let P : ℕ → Type 0 = λ n. (1 ≤ n) × (n ≤ 128) in subst P is (w.some, w.narrow)
word_sized (w ∷ words) (suc k) width h is = word_sized words k width (omega arith) is

decl_sized : (words : List Word) (x : Option Decl) → HasSignal (map (λ v. v.width) words) x → IsSized (decl_shape x)
decl_sized words (Some (d.Signal width low is_signed k)) h = let r = word_sized words k width h.0 h.1 in record { some = r.0; narrow = r.1 }
decl_sized words (Some (d.Constant value low is_signed)) h = record { some = value.some; narrow = value.narrow }
decl_sized words None h = record { some = omega arith; narrow = omega arith }

pub names_sized : (names : Names) (words : List Word) → HasSignals names (map (λ v. v.width) words) → EachSized names
names_sized names words h = λ name. decl_sized words (names name) (h name)
