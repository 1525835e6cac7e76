-- What each directive does (IEEE 1364-2005, 19.2 to 19.4 and 19.8).
use Rattle.std.specs.Prelude.{◌≡◌, ◌⊎◌, ◌+◌, ◌-◌, Bool, true, false, not, ◌&&◌, ◌==◌, List, [], ◌∷◌, ◌++◌, length, take, slice_get, codes, bytes_eq, Option, None, Some, is_some, if◌then◌else◌}
use Rattle.mcy_base.specs.declared.span.Span.{Span}
use Rattle.vlog_syntax.specs.declared.feature.Feature.TheVariants.{MacroForm, DirectiveName, Include as IncludeFeature}
use Rattle.vlog_token.specs.declared.token.Token.{Token}
use Rattle.vlog_expand.specs.declared.error.ParseError.{ParseError}
use Rattle.vlog_expand.specs.declared.error.ParseError.TheVariants.{Memory, Unexpected, Unsupported, OpenCondition}
use Rattle.vlog_expand.specs.declared.reading.Reading.{Reading}
use Rattle.vlog_expand.specs.declared.word.Word.{Word}
use Rattle.vlog_expand.specs.declared.word.Word.TheVariants.{Plain, Use, Define, Undef, Ifdef, Ifndef, Else, Elsif, Endif, Dropped, Include, Refused}
use Rattle.vlog_expand.specs.Words.{is_macro_name, is_name, word_of}
use Rattle.vlog_expand.specs.Lines.{behind_line, is_on, rest_of_line}
use Rattle.vlog_expand.specs.Conditions.{after_part, is_closed}
use Rattle.vlog_expand.specs.Definitions.{Definitions, definitions_of, with_text}

-- A place in a file: the macros defined there, for each condition that is open there, from the outermost on,
-- whether its `else may come, and the tokens from there on.
pub record State : Type 0 where
  pub macros : Definitions
  pub conditions : List Bool
  pub rest : List Token

-- where a directive leads, or why it is refused
pub data Move : Type 0 where
  Passes : State → Move
  Stops : ParseError → Move

-- A name is taken, with what comes behind it.
abbrev pub with_name : Span → List Token → (Token → List Token → Move) → Move
with_name end [] go = Stops (Unexpected end)
with_name end (t ∷ ts) go = if is_name t.kind then go t ts else Stops (Unexpected t.span)

-- `define. Its name stands on its line, and its text is the rest of the line. A directive in the text is refused.
abbrev pub text_fault : Word → Span → Option ParseError
text_fault Plain at = None
text_fault Use at = None
text_fault Include at = Some (Unsupported at IncludeFeature)
text_fault Elsif at = Some (Unsupported at DirectiveName)
text_fault Refused at = Some (Unsupported at DirectiveName)
text_fault _ at = Some (Unexpected at)

abbrev pub first_of : Option ParseError → Option ParseError → Option ParseError
first_of None other = other
first_of (Some e) other = Some e

abbrev pub fault_in : List Token → Option ParseError
fault_in [] = None
fault_in (t ∷ ts) = first_of (text_fault (word_of t) t.span) (fault_in ts)

-- a macro with parameters has a ( right behind its name
unfoldable pub has_parameters : Token → List Token → Bool
has_parameters name [] = false
has_parameters name (t ∷ ts) = bytes_eq t.text.now (codes "(") && is_on name.span.line t && (t.span.col == name.span.col + length name.text.now)

abbrev pub unless_fault : Option ParseError → State → Move
unless_fault None s = Passes s
unless_fault (Some e) s = Stops e

abbrev pub definition : Definitions → List Bool → Token → Token → List Token → Move
definition macros conditions at name ts =
    unless_fault (fault_in (rest_of_line at.span.line ts)) (record {
      macros = with_text macros name.text.now (Some (rest_of_line at.span.line ts));
      conditions = conditions;
      rest = behind_line at.span.line ts;
    })

abbrev pub define_move : Span → Definitions → List Bool → Token → List Token → Move
define_move end macros conditions at [] = Stops (Unexpected end)
define_move end macros conditions at (name ∷ ts) =
    if is_macro_name name && is_on at.span.line name
    then (if has_parameters name ts then Stops (Unsupported at.span MacroForm) else definition macros conditions at name ts)
    else Stops (Unexpected name.span)

-- `undef
abbrev pub undef_move : Span → Definitions → List Bool → List Token → Move
undef_move end macros conditions rest =
    with_name end rest (λ name ts. Passes (record { macros = with_text macros name.text.now None; conditions = conditions; rest = ts }))

-- The part behind an `else is taken where the part before it was not, and skipped where it was.
abbrev pub other_part_by : Word → Definitions → List Bool → Token → List Token → State
other_part_by Else macros conditions at ts = record { macros = macros; conditions = conditions ++ false ∷ []; rest = ts }
other_part_by Endif macros conditions at ts = record { macros = macros; conditions = conditions; rest = ts }
other_part_by _ macros conditions at ts = record { macros = macros; conditions = conditions ++ false ∷ []; rest = at ∷ ts }

abbrev pub other_part : Definitions → List Bool → List Token → State
other_part macros conditions [] = record { macros = macros; conditions = conditions; rest = [] }
other_part macros conditions (t ∷ ts) = other_part_by (word_of t) macros conditions t ts

abbrev pub chosen_part : Bool → Definitions → List Bool → List Token → State
chosen_part true macros conditions ts = record { macros = macros; conditions = conditions ++ true ∷ []; rest = ts }
chosen_part false macros conditions ts = other_part macros conditions (after_part ts)

abbrev pub is_first : List Bool → Bool
is_first conditions = length conditions == 0

-- `ifdef, and `ifndef where `wanted` is false
abbrev pub holds : Bool → Bool → Bool
holds true is_defined = is_defined
holds false is_defined = not is_defined

abbrev pub condition_move : Span → Definitions → List Bool → Bool → Token → List Token → Move
condition_move end macros conditions wanted at rest =
    if is_first conditions && not (is_closed rest)
    then Stops (OpenCondition at.span)
    else with_name end rest (λ name ts. Passes (chosen_part (holds wanted (is_some (macros name.text.now))) macros conditions ts))

-- the innermost condition that is open, and those round it
abbrev pub innermost : List Bool → Option Bool
innermost conditions = slice_get conditions (length conditions - 1)

abbrev pub outer : List Bool → List Bool
outer conditions = take (length conditions - 1) conditions

-- `else
abbrev pub behind_else_by : Word → Definitions → List Bool → Token → List Token → State
behind_else_by Endif macros conditions at ts = record { macros = macros; conditions = outer conditions; rest = ts }
behind_else_by _ macros conditions at ts = record { macros = macros; conditions = outer conditions ++ false ∷ []; rest = at ∷ ts }

abbrev pub behind_else : Definitions → List Bool → List Token → State
behind_else macros conditions [] = record { macros = macros; conditions = outer conditions ++ false ∷ []; rest = [] }
behind_else macros conditions (t ∷ ts) = behind_else_by (word_of t) macros conditions t ts

abbrev pub else_move : Definitions → List Bool → Option Bool → Token → List Token → Move
else_move macros conditions (Some true) at rest = Passes (behind_else macros conditions (after_part rest))
else_move macros conditions _ at rest = Stops (Unexpected at.span)

-- `endif
abbrev pub endif_move : Definitions → List Bool → Option Bool → Token → List Token → Move
endif_move macros conditions (Some may) at rest = Passes (record { macros = macros; conditions = outer conditions; rest = rest })
endif_move macros conditions None at rest = Stops (Unexpected at.span)

-- where the directive leads that stands before the rest
abbrev pub move_by : Word → Span → Definitions → List Bool → Token → List Token → Move
move_by Define end macros conditions at rest = define_move end macros conditions at rest
move_by Undef end macros conditions at rest = undef_move end macros conditions rest
move_by Ifdef end macros conditions at rest = condition_move end macros conditions true at rest
move_by Ifndef end macros conditions at rest = condition_move end macros conditions false at rest
move_by Else end macros conditions at rest = else_move macros conditions (innermost conditions) at rest
move_by Endif end macros conditions at rest = endif_move macros conditions (innermost conditions) at rest
move_by Dropped end macros conditions at rest = Passes (record { macros = macros; conditions = conditions; rest = behind_line at.span.line rest })
move_by Include end macros conditions at rest = Stops (Unsupported at.span IncludeFeature)
move_by Elsif end macros conditions at rest = Stops (Unsupported at.span DirectiveName)
move_by Refused end macros conditions at rest = Stops (Unsupported at.span DirectiveName)
move_by _ end macros conditions at rest = Passes (record { macros = macros; conditions = conditions; rest = rest })

-- For proofs alone.

-- why no name is taken
abbrev pub IsNameFault : Span → List Token → ParseError → Type 0
IsNameFault end [] e = e ≡ Unexpected end
IsNameFault end (t ∷ ts) e = (is_name t.kind ≡ false) × (e ≡ Unexpected t.span)

-- The directives so far, with the tokens behind them, are this place.
abbrev pub state_of : Reading → List Token → State
state_of reading rest = record { macros = definitions_of reading.macros; conditions = reading.conditions.items; rest = rest }

-- This refusal is the move, or there was no memory.
abbrev pub IsStop : Move → ParseError → Type 0
IsStop m e = (e ≡ Memory) ⊎ (m ≡ Stops e)
