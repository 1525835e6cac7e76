-- Which of several refusals is answered: the one that stands first, by its place and what is told at that place. Where no two of
-- them have one precedence, it is one.
use Rattle.std.specs.Prelude.{◌≡◌, ◌⊎◌, Bool, false, ◌==◌, nat_lt, List, [], ◌∷◌, Option, None, Some, if◌then◌else◌}
use Rattle.vlog_meaning.specs.declared.fault.Fault.{Fault}
use Rattle.vlog_meaning.specs.Answers.{rank as cause_rank}
use Rattle.vlog_refusals.specs.declared.precedence.Precedence.{Precedence}

-- a comes before b: by file, line, column, kind and what is told of it
abbrev pub precedes : Precedence → Precedence → Bool
precedes a b =
    if a.span.file == b.span.file
    then (if a.span.line == b.span.line
    then (if a.span.col == b.span.col
    then (if a.kind == b.kind then nat_lt a.detail b.detail else nat_lt a.kind b.kind)
    else nat_lt a.span.col b.span.col)
    else nat_lt a.span.line b.span.line)
    else nat_lt a.span.file b.span.file

-- the earlier of two
unfoldable pub earlier : {A : Type 0} → (A → Precedence) → Option A → Option A → Option A
earlier place None g = g
earlier place (Some f) None = Some f
earlier place (Some f) (Some g) = Some (if precedes (place g) (place f) then g else f)

abbrev pub IsAmong : {A : Type 0} → A → List A → Type 0
IsAmong f [] = ⊥
IsAmong f (x ∷ xs) = (f ≡ x) ⊎ IsAmong f xs

abbrev pub NoneBefore : {A : Type 0} → (A → Precedence) → A → List A → Type 0
NoneBefore place f [] = Unit {0}
NoneBefore place f (x ∷ xs) = (precedes (place x) (place f) ≡ false) × NoneBefore place f xs

-- None where there are none; else one of them, and none of them comes before it.
abbrev pub IsFirst : {A : Type 0} → (A → Precedence) → List A → Option A → Type 0
IsFirst place xs None = xs ≡ []
IsFirst place xs (Some f) = IsAmong f xs × NoneBefore place f xs

-- Of several just one stands first, or there is none.
abbrev pub FirstIsOne : {A : Type 0} → (A → Precedence) → Type 0
FirstIsOne {A} place = (xs : List A) (f g : Option A) → IsFirst place xs f → IsFirst place xs g → f ≡ g

-- For proofs alone.

-- what is wrong in an expression comes first at its place, by its cause
abbrev pub fault_precedence : Fault → Precedence
fault_precedence f = record { span = f.span; kind = 0; detail = cause_rank f.cause }
