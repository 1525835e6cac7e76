-- The section `[options]`: a key and its words on each line.
use Rattle.std.specs.Prelude.{ℕ, ◌-◌, ◌^◌, Bool, true, false, not, ◌&&◌, ◌||◌, List, [], ◌∷◌, Option, None, Some, bytes_eq, codes, length, map, nat_le, if◌then◌else◌}
use Rattle.std.specs.List.{list_all}
use Rattle.project_lines.specs.declared.error.ProjectError.{ProjectError}
use Rattle.project_lines.specs.declared.error.ProjectError.TheVariants.{BadLine, UnknownKey, Repeated, OutOfRange}
use Rattle.project_options.specs.declared.forms.OptionKey.{OptionKey}
use Rattle.project_options.specs.declared.forms.OptionKey.TheVariants.{Size, Tags, Seed, Modes, Pick, Conflicts, Cycles, Baseline, Require, Only, Skip}
use Rattle.project_lines.specs.Lines.{key_of, args_of, is_said, has_line}
use Rattle.project_lines.specs.Words.{is_name, is_among, are_all, is_one}
use Rattle.project_lines.specs.Numbers.{is_number, is_within}
use Rattle.project_lines.specs.Paths.{Known, path_of, paths_in}
use Rattle.project_options.specs.declared.options.Around.{Around as Held}
use Rattle.project_options.specs.Instances.{is_instance}
use Rattle.project_options.specs.Ranges.{file_part, is_range, is_range_within}

unfoldable pub option_key : List ℕ → Option OptionKey
option_key word =
    if bytes_eq word (codes "size") then Some Size else
    (if bytes_eq word (codes "tags") then Some Tags else
    (if bytes_eq word (codes "seed") then Some Seed else
    (if bytes_eq word (codes "modes") then Some Modes else
    (if bytes_eq word (codes "pick") then Some Pick else
    (if bytes_eq word (codes "conflicts") then Some Conflicts else
    (if bytes_eq word (codes "cycles") then Some Cycles else
    (if bytes_eq word (codes "baseline") then Some Baseline else
    (if bytes_eq word (codes "require") then Some Require else
    (if bytes_eq word (codes "only") then Some Only else
    (if bytes_eq word (codes "skip") then Some Skip else None))))))))))

unfoldable pub is_mode : List ℕ → Bool
is_mode word = bytes_eq word (codes "inv") || (bytes_eq word (codes "const0") || (bytes_eq word (codes "const1") || (bytes_eq word (codes "cnot0") || bytes_eq word (codes "cnot1"))))

unfoldable pub is_pick : List ℕ → Bool
is_pick word = bytes_eq word (codes "plain") || bytes_eq word (codes "even")

unfoldable pub is_on : List ℕ → Bool
is_on word = bytes_eq word (codes "on")

abbrev pub is_auto : List ℕ → Bool
is_auto word = bytes_eq word (codes "auto")

-- a number, or `auto`
abbrev pub is_cycles : List ℕ → Bool
is_cycles word = is_auto word || is_number word

-- no word stands there twice
abbrev pub are_once : List (List ℕ) → Bool
are_once [] = true
are_once (word ∷ more) = not (is_among word more) && are_once more

-- a number, a tag, `of` and tags, none of these twice
abbrev pub is_requirement : List (List ℕ) → Bool
is_requirement (percent ∷ tag ∷ of ∷ tags) = (is_number percent && (is_name tag && bytes_eq of (codes "of"))) && (are_all is_name tags && are_once tags)
is_requirement _ = false

-- the words have the form of the key
unfoldable pub is_option_form : OptionKey → List (List ℕ) → Bool
is_option_form Tags args = are_all is_name args
is_option_form Modes args = are_all is_mode args
is_option_form Pick args = is_one is_pick args
is_option_form Cycles args = is_one is_cycles args
is_option_form Baseline args = is_one is_on args
is_option_form Require args = is_requirement args
is_option_form Only args = are_all is_range args
is_option_form Skip args = are_all is_instance args
is_option_form _ args = is_one is_number args

-- What the rest of the file says that a line of `[options]` speaks of: the tags, the paths of `[files]`, and the design's files.
pub record Around : Type 0 where
  pub tags : List (List ℕ)
  pub known : Known
  pub design : List (List ℕ)

-- what the reader holds of it
abbrev pub around_of : Held → Around
around_of held = record { tags = map (λ tag. tag.now) held.tags.now; known = paths_in held.paths.now; design = map (λ file. file.now) held.design.now }

-- a requirement speaks of tags that there are
abbrev pub are_tags : Around → List (List ℕ) → Bool
are_tags around (percent ∷ tag ∷ of ∷ tags) = is_among tag around.tags && list_all (λ word. is_among word around.tags) tags
are_tags around _ = false

-- lines are those of a file of the design
abbrev pub is_of_design : Around → List ℕ → Bool
is_of_design around word = is_among (path_of around.known (file_part word)) around.design

-- the words speak of what there is
unfoldable pub is_option_known : Around → OptionKey → List (List ℕ) → Bool
is_option_known around Require args = are_tags around args
is_option_known around Only args = list_all (is_of_design around) args
is_option_known around _ args = true

-- a number from 1 to 1,000,000, or `auto`
abbrev pub is_cycles_range : List ℕ → Bool
is_cycles_range word = is_auto word || is_within 1 1000000 word

-- the first word is a number of percent
abbrev pub has_percent : List (List ℕ) → Bool
has_percent [] = false
has_percent (percent ∷ more) = is_within 1 100 percent

-- and their numbers are in range: a number, and how many tags, lines or instances there are
unfoldable pub is_option_range : OptionKey → List (List ℕ) → Bool
is_option_range Size args = is_one (is_within 1 10000) args
is_option_range Tags args = nat_le (length args) 32
is_option_range Seed args = is_one (is_within 0 (2 ^ 64 - 1)) args
is_option_range Modes args = true
is_option_range Pick args = true
is_option_range Conflicts args = is_one (is_within 1 100000) args
is_option_range Cycles args = is_one is_cycles_range args
is_option_range Baseline args = true
is_option_range Require args = has_percent args
is_option_range Only args = nat_le (length args) 64 && list_all is_range_within args
is_option_range Skip args = nat_le (length args) 64

abbrev pub option_args_fault : Around → OptionKey → List (List ℕ) → List (List ℕ) → ℕ → List ℕ → Option ProjectError
option_args_fault around key args earlier number line =
    if is_option_form key args && is_option_known around key args then
    (if has_line (key_of line) earlier then Some (Repeated number) else
    (if is_option_range key args then None else Some (OutOfRange number)))
    else Some (BadLine number)

abbrev pub known_option_fault : Around → OptionKey → List (List ℕ) → ℕ → List ℕ → Option ProjectError
known_option_fault around key earlier number line = option_args_fault around key (args_of line) earlier number line

abbrev pub option_key_fault : Around → Option OptionKey → List (List ℕ) → ℕ → List ℕ → Option ProjectError
option_key_fault around None earlier number line = Some (UnknownKey number)
option_key_fault around (Some key) earlier number line = known_option_fault around key earlier number line

-- what is wrong with a line of `[options]` behind these
unfoldable pub option_fault : Around → List (List ℕ) → ℕ → List ℕ → Option ProjectError
option_fault around earlier number line = if is_said line then option_key_fault around (option_key (key_of line)) earlier number line else None
