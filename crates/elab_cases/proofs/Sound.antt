-- Names that are declared in the scope and in the builder.
use Rattle.std.proofs.Common.{◌≡◌, ℕ, zero, suc, ◌+◌, ◌<◌, ◌≤◌, Bool, true, false, List, [], ◌∷◌, ◌++◌, length, Option, Some, None, refl, sym, ap, ◌∙◌, subst, arith}
use Rattle.std.specs.Prelude.{slice_index_or, if◌then◌else◌}
use Rattle.std.specs.Str.{bytes_eq}
use Rattle.std.proofs.lemmas.List.{length-append}
use Rattle.mcy_base.specs.declared.span.Span.{Span}
use Rattle.mcy_base.specs.declared.word.Word.{Word}
use Rattle.netlist_core.specs.declared.bit.Bit.{Bit}
use Rattle.vlog_meaning.specs.declared.scope.Decl.{Decl}
use Rattle.vlog_meaning.specs.declared.scope.Decl.TheVariants.{Signal, Constant}
use Rattle.vlog_meaning.specs.Operators.{IsSized}
use Rattle.vlog_meaning.specs.Scopes.{Names, with_name, decl_shape}
use Rattle.net_builder.specs.Building.{Building, AllBelow, IsSignal, HasSignals, fresh_bits, signal, with_declared}
use Rattle.flat_runs.proofs.Growing.{declared_stand}
use Rattle.flat_runs.proofs.Signals.{declared_own}
use Rattle.elab_proc.specs.Refusals.{AreSized}
use Rattle.flat_assigns.specs.Built.{IsReady}
use Rattle.net_builder.proofs.Parts.{length_fresh, below_later, fresh_below}
use Rattle.elab_expr.proofs.Growing.{signal_kept}

-- A signal that is declared.

declared_ready : (b : Building) (name : List ℕ) (span : Span) (width : ℕ) → IsReady b → IsReady (with_declared b name span width)
declared_ready b name span width h = record {
  own = declared_own b name span width h.own;
  stands = declared_stand b name span width h.stands;
}

index_left : (xs ys : List (List Bit)) (k : ℕ) → k < length xs → slice_index_or (xs ++ ys) k [] ≡ slice_index_or xs k []
index_left [] ys k less = absurd (omega arith)
index_left (x ∷ xs) ys zero less = refl
index_left (x ∷ xs) ys (suc k) less = index_left xs ys k (omega arith)

index_last : (xs : List (List Bit)) (y : List Bit) → slice_index_or (xs ++ y ∷ []) (length xs) [] ≡ y
index_last [] y = refl
index_last (x ∷ xs) y = index_last xs y

stays_signal : (b : Building) (name : List ℕ) (span : Span) (width : ℕ) (d : Option Decl) → IsSignal b d → IsSignal (with_declared b name span width) d
stays_signal b name span width None h = tt
stays_signal b name span width (Some (Constant value low is_signed)) h = tt
stays_signal b name span width (Some (Signal w low is_signed k)) h =
    let y : List Bit = fresh_bits b.nets width in
    let same = index_left b.signals (y ∷ []) k h.0 in
    let long = length-append b.signals (y ∷ []) in
    let le : b.nets ≤ b.nets + width = omega arith in
    (omega (arith, long, h.0), ap length same ∙ h.1, subst (AllBelow (b.nets + width)) (sym same) (below_later b.nets (b.nets + width) (signal b k) le h.2))

new_signal : (b : Building) (name : List ℕ) (span : Span) (width low : ℕ) (is_signed : Bool) (k : ℕ) → k ≡ length b.signals → IsSignal (with_declared b name span width) (Some (Signal width low is_signed k))
new_signal b name span width low is_signed k is =
    let y : List Bit = fresh_bits b.nets width in
    let same : slice_index_or (b.signals ++ y ∷ []) k [] ≡ y = ap (λ (j : ℕ). slice_index_or (b.signals ++ y ∷ []) j []) is ∙ index_last b.signals y in
    let long = length-append b.signals (y ∷ []) in
    (omega (arith, long, is), ap length same ∙ length_fresh b.nets width, subst (AllBelow (b.nets + width)) (sym same) (fresh_below b.nets width))

declared_signals : (names after : Names) (b : Building) (name : List ℕ) (span : Span) (width low : ℕ) (is_signed : Bool) (k : ℕ) → k ≡ length b.signals → after ≡ with_name names name (Some (Signal width low is_signed k)) → HasSignals names b → HasSignals after (with_declared b name span width)
declared_signals names after b name span width low is_signed k is e h = subst (λ (n : Names). HasSignals n (with_declared b name span width)) (sym e) (λ other. go other (bytes_eq name other)) where
  go : (other : List ℕ) (same : Bool) → IsSignal (with_declared b name span width) (if same then Some (Signal width low is_signed k) else names other)
  go other true = new_signal b name span width low is_signed k is
  go other false = stays_signal b name span width (names other) (h other)

-- A constant.

constant_signals : (names after : Names) (b : Building) (name : List ℕ) (value : Word) (low : ℕ) (is_signed : Bool) → after ≡ with_name names name (Some (Constant value low is_signed)) → HasSignals names b → HasSignals after b
constant_signals names after b name value low is_signed e h = subst (λ (n : Names). HasSignals n b) (sym e) (λ other. go other (bytes_eq name other)) where
  go : (other : List ℕ) (same : Bool) → IsSignal b (if same then Some (Constant value low is_signed) else names other)
  go other true = tt
  go other false = h other

-- What was built.

built_signals : (names : Names) (old new : Building) → new.signals ≡ old.signals → old.nets ≤ new.nets → HasSignals names old → HasSignals names new
built_signals names old new same le h = λ name. signal_kept old new (names name) same le (h name)

-- Names with 1 to 128 bits.

sized_if : (b : Bool) (d : Decl) (o : Option Decl) → IsSized (decl_shape (Some d)) → IsSized (decl_shape o) → IsSized (decl_shape (if b then Some d else o))
sized_if true d o here there = here
sized_if false d o here there = there

sized_more : (names after : Names) (name : List ℕ) (d : Decl) → after ≡ with_name names name (Some d) → IsSized (decl_shape (Some d)) → AreSized names → AreSized after
sized_more names after name d is here sized = subst AreSized (sym is) (λ other. sized_if (bytes_eq name other) d (names other) here (sized other))

-- All of it.

abbrev Stands : Names → Building → Type 0
Stands names b = IsReady b × HasSignals names b × AreSized names

pub declared_stands : (old new : Building) (names after : Names) (name : List ℕ) (span : Span) (width low : ℕ) (is_signed : Bool) (k : ℕ) → new ≡ with_declared old name span width → k ≡ length old.signals → after ≡ with_name names name (Some (Signal width low is_signed k)) → 1 ≤ width → width ≤ 128 → Stands names old → Stands after new
declared_stands old new names after name span width low is_signed k is number says some narrow h = (
  subst IsReady (sym is) (declared_ready old name span width h.0),
  subst (HasSignals after) (sym is) (declared_signals names after old name span width low is_signed k number says h.1),
  sized_more names after name (Signal width low is_signed k) says (record { some = some; narrow = narrow }) h.2,
)

pub constant_stands : (names after : Names) (b : Building) (name : List ℕ) (value : Word) (low : ℕ) (is_signed : Bool) → after ≡ with_name names name (Some (Constant value low is_signed)) → 1 ≤ value.width → value.width ≤ 128 → Stands names b → Stands after b
constant_stands names after b name value low is_signed says some narrow h =
    (h.0, constant_signals names after b name value low is_signed says h.1, sized_more names after name (Constant value low is_signed) says (record { some = some; narrow = narrow }) h.2)

pub same_stands : (names after : Names) (b : Building) → after ≡ names → Stands names b → Stands after b
same_stands names after b same h = subst (λ (n : Names). Stands n b) (sym same) h

pub built_stands : (names : Names) (old new : Building) → IsReady new → new.signals ≡ old.signals → old.nets ≤ new.nets → Stands names old → Stands names new
built_stands names old new ready same le h = (ready, built_signals names old new same le h.1, h.2)
