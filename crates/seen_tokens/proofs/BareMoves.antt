-- Where a directive leads among bare tokens.
use Rattle.seen_tokens.proofs.Common.{◌≡◌, ℕ, Bool, true, false, ◌&&◌, not, if◌then◌else◌, List, [], ◌∷◌, map, Option, Some, None, is_some, bytes_eq, refl, sym, ap, ◌∙◌, cond, fun_ext, Span}
use Rattle.seen_tokens.proofs.Common.{MacroForm, Token, ParseError, Word, Define, Undef, Ifdef, Ifndef, Else, Elsif, Endif, Dropped, Include, Refused, is_macro_name, is_name, word_of, behind_line}
use Rattle.seen_tokens.proofs.Common.{is_on, rest_of_line, Definitions, with_text, bare}
use Rattle.vlog_expand.specs.declared.error.ParseError.TheVariants.{Unexpected, Unsupported, OpenCondition}
use Rattle.vlog_expand.specs.Conditions.{after_part, is_closed}
use Rattle.vlog_expand.specs.Moves.{State, Move, Passes, Stops, behind_else, behind_else_by, chosen_part, condition_move, define_move, definition, else_move, endif_move, fault_in, has_parameters}
use Rattle.vlog_expand.specs.Moves.{holds, innermost, is_first, move_by, other_part, other_part_by, undef_move, unless_fault, with_name}
use Rattle.seen_tokens.proofs.BareTexts.{chosen, rest_of_line_bare, behind_line_bare, fault_in_bare, has_parameters_bare, is_closed_bare, after_part_bare}

abbrev pub bare_text : Option (List Token) → Option (List Token)
bare_text None = None
bare_text (Some ts) = Some (map bare ts)

abbrev pub bare_macros : Definitions → Definitions
bare_macros macros name = bare_text (macros name)

abbrev pub bare_state : State → State
bare_state s = record { macros = bare_macros s.macros; conditions = s.conditions; rest = map bare s.rest }

abbrev pub bare_move : Move → Move
bare_move (Passes s) = Passes (bare_state s)
bare_move (Stops e) = Stops e

-- a place in a file
abbrev place_at : Definitions → List Bool → List Token → State
place_at macros conditions rest = record { macros = macros; conditions = conditions; rest = rest }

-- the same place, with other macros and another rest that are the same
same_place : (m n : Definitions) (conditions : List Bool) (r s : List Token) → m ≡ n → r ≡ s → place_at m conditions r ≡ place_at n conditions s
same_place m n conditions r s e h = ap (λ (x : Definitions). place_at x conditions r) e ∙ ap (place_at n conditions) h

defined_bare : (b : Bool) (text old : Option (List Token)) → bare_text (cond b text old) ≡ cond b (bare_text text) (bare_text old)
defined_bare true text old = refl
defined_bare false text old = refl

with_text_bare : (macros : Definitions) (name : List ℕ) (text : Option (List Token)) → with_text (bare_macros macros) name (bare_text text) ≡ bare_macros (with_text macros name text)
unfolding with_text
with_text_bare macros name text = fun_ext (λ key. sym (defined_bare (bytes_eq name key) text (macros key)))

is_some_bare : (text : Option (List Token)) → is_some (bare_text text) ≡ is_some text
is_some_bare None = refl
is_some_bare (Some ts) = refl

unless_bare : (fault : Option ParseError) (s s' : State) → s' ≡ bare_state s → unless_fault fault s' ≡ bare_move (unless_fault fault s)
unless_bare None s s' e = ap Passes e
unless_bare (Some x) s s' e = refl

definition_bare : (macros : Definitions) (conditions : List Bool) (at name : Token) (ts : List Token) → definition (bare_macros macros) conditions (bare at) (bare name) (map bare ts) ≡ bare_move (definition macros conditions at name ts)
definition_bare macros conditions at name ts =
    let line : ℕ = at.span.line in
    let text : List Token = rest_of_line line ts in
    let placed = same_place (with_text (bare_macros macros) name.text.now (Some (rest_of_line line (map bare ts)))) (bare_macros (with_text macros name.text.now (Some text))) conditions (behind_line line (map bare ts)) (map bare (behind_line line ts)) (ap (λ (x : List Token). with_text (bare_macros macros) name.text.now (Some x)) (rest_of_line_bare line ts) ∙ with_text_bare macros name.text.now (Some text)) (behind_line_bare line ts) in
    ap (λ (x : Option ParseError). unless_fault x (place_at (with_text (bare_macros macros) name.text.now (Some (rest_of_line line (map bare ts)))) conditions (behind_line line (map bare ts)))) (ap fault_in (rest_of_line_bare line ts) ∙ fault_in_bare text)
    ∙ unless_bare (fault_in text) (place_at (with_text macros name.text.now (Some text)) conditions (behind_line line ts)) _ placed

named_bare : (macros : Definitions) (conditions : List Bool) (at name : Token) (ts : List Token) →
    (if has_parameters (bare name) (map bare ts) then Stops (Unsupported at.span MacroForm) else definition (bare_macros macros) conditions (bare at) (bare name) (map bare ts))
    ≡ bare_move (if has_parameters name ts then Stops (Unsupported at.span MacroForm) else definition macros conditions at name ts)
named_bare macros conditions at name ts =
    ap (λ (b : Bool). if b then Stops (Unsupported at.span MacroForm) else definition (bare_macros macros) conditions (bare at) (bare name) (map bare ts)) (has_parameters_bare name ts)
    ∙ chosen bare_move (has_parameters name ts) (Stops (Unsupported at.span MacroForm)) (definition macros conditions at name ts) _ _ refl (definition_bare macros conditions at name ts)

define_bare : (end : Span) (macros : Definitions) (conditions : List Bool) (at : Token) (ts : List Token) → define_move end (bare_macros macros) conditions (bare at) (map bare ts) ≡ bare_move (define_move end macros conditions at ts)
unfolding is_macro_name
define_bare end macros conditions at [] = refl
define_bare end macros conditions at (name ∷ ts) =
    chosen bare_move (is_macro_name name && is_on at.span.line name) (if has_parameters name ts then Stops (Unsupported at.span MacroForm) else definition macros conditions at name ts) (Stops (Unexpected name.span)) _ _ (named_bare macros conditions at name ts) refl

-- a name is taken, and what comes behind it goes on alike
with_name_bare : (end : Span) (ts : List Token) (go go' : Token → List Token → Move) → ((t : Token) (us : List Token) → go' (bare t) (map bare us) ≡ bare_move (go t us)) → with_name end (map bare ts) go' ≡ bare_move (with_name end ts go)
with_name_bare end [] go go' same = refl
with_name_bare end (t ∷ ts) go go' same = chosen bare_move (is_name t.kind) (go t ts) (Stops (Unexpected t.span)) _ _ (same t ts) refl

undef_bare : (end : Span) (macros : Definitions) (conditions : List Bool) (ts : List Token) → undef_move end (bare_macros macros) conditions (map bare ts) ≡ bare_move (undef_move end macros conditions ts)
undef_bare end macros conditions ts =
    with_name_bare end ts (λ name us. Passes (place_at (with_text macros name.text.now None) conditions us)) (λ name us. Passes (place_at (with_text (bare_macros macros) name.text.now None) conditions us))
    (λ name us. ap Passes (same_place (with_text (bare_macros macros) name.text.now None) (bare_macros (with_text macros name.text.now None)) conditions (map bare us) (map bare us) (with_text_bare macros name.text.now None) refl))

other_by_bare : (w : Word) (macros : Definitions) (conditions : List Bool) (at : Token) (ts : List Token) → other_part_by w (bare_macros macros) conditions (bare at) (map bare ts) ≡ bare_state (other_part_by w macros conditions at ts)
other_by_bare Else macros conditions at ts = refl
other_by_bare Endif macros conditions at ts = refl
other_by_bare _ macros conditions at ts = refl

other_bare : (macros : Definitions) (conditions : List Bool) (ts : List Token) → other_part (bare_macros macros) conditions (map bare ts) ≡ bare_state (other_part macros conditions ts)
unfolding word_of
other_bare macros conditions [] = refl
other_bare macros conditions (t ∷ ts) = other_by_bare (word_of t) macros conditions t ts

chosen_part_bare : (b : Bool) (macros : Definitions) (conditions : List Bool) (ts : List Token) → chosen_part b (bare_macros macros) conditions (map bare ts) ≡ bare_state (chosen_part b macros conditions ts)
chosen_part_bare true macros conditions ts = refl
chosen_part_bare false macros conditions ts = ap (other_part (bare_macros macros) conditions) (after_part_bare ts) ∙ other_bare macros conditions (after_part ts)

opened_bare : (end : Span) (macros : Definitions) (conditions : List Bool) (wanted : Bool) (ts : List Token) →
    with_name end (map bare ts) (λ name us. Passes (chosen_part (holds wanted (is_some (bare_macros macros name.text.now))) (bare_macros macros) conditions us))
    ≡ bare_move (with_name end ts (λ name us. Passes (chosen_part (holds wanted (is_some (macros name.text.now))) macros conditions us)))
opened_bare end macros conditions wanted ts =
    with_name_bare end ts (λ name us. Passes (chosen_part (holds wanted (is_some (macros name.text.now))) macros conditions us)) (λ name us. Passes (chosen_part (holds wanted (is_some (bare_macros macros name.text.now))) (bare_macros macros) conditions us))
    (λ name us. ap (λ (b : Bool). Passes (chosen_part (holds wanted b) (bare_macros macros) conditions (map bare us))) (is_some_bare (macros name.text.now)) ∙ ap Passes (chosen_part_bare (holds wanted (is_some (macros name.text.now))) macros conditions us))

condition_bare : (end : Span) (macros : Definitions) (conditions : List Bool) (wanted : Bool) (at : Token) (ts : List Token) → condition_move end (bare_macros macros) conditions wanted (bare at) (map bare ts) ≡ bare_move (condition_move end macros conditions wanted at ts)
condition_bare end macros conditions wanted at ts =
    let opens : Move = with_name end (map bare ts) (λ name us. Passes (chosen_part (holds wanted (is_some (bare_macros macros name.text.now))) (bare_macros macros) conditions us)) in
    ap (λ (b : Bool). if is_first conditions && not b then Stops (OpenCondition at.span) else opens) (is_closed_bare ts)
    ∙ chosen bare_move (is_first conditions && not (is_closed ts)) (Stops (OpenCondition at.span)) (with_name end ts (λ name us. Passes (chosen_part (holds wanted (is_some (macros name.text.now))) macros conditions us))) _ _ refl (opened_bare end macros conditions wanted ts)

behind_else_by_bare : (w : Word) (macros : Definitions) (conditions : List Bool) (at : Token) (ts : List Token) → behind_else_by w (bare_macros macros) conditions (bare at) (map bare ts) ≡ bare_state (behind_else_by w macros conditions at ts)
behind_else_by_bare Endif macros conditions at ts = refl
behind_else_by_bare _ macros conditions at ts = refl

behind_else_bare : (macros : Definitions) (conditions : List Bool) (ts : List Token) → behind_else (bare_macros macros) conditions (map bare ts) ≡ bare_state (behind_else macros conditions ts)
unfolding word_of
behind_else_bare macros conditions [] = refl
behind_else_bare macros conditions (t ∷ ts) = behind_else_by_bare (word_of t) macros conditions t ts

else_bare : (macros : Definitions) (conditions : List Bool) (may : Option Bool) (at : Token) (ts : List Token) → else_move (bare_macros macros) conditions may (bare at) (map bare ts) ≡ bare_move (else_move macros conditions may at ts)
else_bare macros conditions (Some true) at ts = ap (λ (us : List Token). Passes (behind_else (bare_macros macros) conditions us)) (after_part_bare ts) ∙ ap Passes (behind_else_bare macros conditions (after_part ts))
else_bare macros conditions (Some false) at ts = refl
else_bare macros conditions None at ts = refl

endif_bare : (macros : Definitions) (conditions : List Bool) (may : Option Bool) (at : Token) (ts : List Token) → endif_move (bare_macros macros) conditions may (bare at) (map bare ts) ≡ bare_move (endif_move macros conditions may at ts)
endif_bare macros conditions (Some may) at ts = refl
endif_bare macros conditions None at ts = refl

pub move_bare : (w : Word) (end : Span) (macros : Definitions) (conditions : List Bool) (at : Token) (ts : List Token) → move_by w end (bare_macros macros) conditions (bare at) (map bare ts) ≡ bare_move (move_by w end macros conditions at ts)
move_bare Define end macros conditions at ts = define_bare end macros conditions at ts
move_bare Undef end macros conditions at ts = undef_bare end macros conditions ts
move_bare Ifdef end macros conditions at ts = condition_bare end macros conditions true at ts
move_bare Ifndef end macros conditions at ts = condition_bare end macros conditions false at ts
move_bare Else end macros conditions at ts = else_bare macros conditions (innermost conditions) at ts
move_bare Endif end macros conditions at ts = endif_bare macros conditions (innermost conditions) at ts
move_bare Dropped end macros conditions at ts = ap (λ (us : List Token). Passes (place_at (bare_macros macros) conditions us)) (behind_line_bare at.span.line ts)
move_bare Include end macros conditions at ts = refl
move_bare Elsif end macros conditions at ts = refl
move_bare Refused end macros conditions at ts = refl
move_bare _ end macros conditions at ts = refl
