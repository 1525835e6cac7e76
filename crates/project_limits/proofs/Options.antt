-- What the good lines of `[options]` are: their words have the form of the key, speak of what there is, and are in range.
use Rattle.project_limits.proofs.Common.{◌≡◌, ℕ, ◌+◌, ◌==◌, ◌&&◌, Bool, true, false, not, if◌then◌else◌, List, [], Option, Some, None, IfSome, bytes_eq, codes, refl, subst, sym, bytes_eq-Decides}
use Rattle.project_limits.proofs.Common.{ProjectError, BadLine, Repeated, OutOfRange, Title, Options, first_fault, args_of, find_line, has_line, is_filled, is_said, key_of, gather, with_names, Part}
use Rattle.project_limits.proofs.Common.{find_part, lines_in, title_of, Around, is_option_form, is_option_known, is_option_range, option_fault, option_key, option_key_fault, lines_fault, part_fault}
use Rattle.project_limits.proofs.Common.{part_reads}
use Rattle.std.specs.Prelude.{slice_index}
use Rattle.project_options.specs.declared.forms.OptionKey.{OptionKey}
use Rattle.project_limits.proofs.Headers.{header_good, header_of_word, lines_good}
use Rattle.project_limits.proofs.Lines.{found_good}

pub record AreGood (around : Around) (key : OptionKey) (args : List (List ℕ)) : Type 0 where
  pub form : is_option_form key args ≡ true
  pub known : is_option_known around key args ≡ true
  pub range : is_option_range key args ≡ true

record AllTrue (form known range : Bool) : Type 0 where
  form_is : form ≡ true
  known_is : known ≡ true
  range_is : range ≡ true

by_tests : (form known repeated range : Bool) (number : ℕ) → (if form && known then (if repeated then Some (Repeated number) else (if range then None else Some (OutOfRange number))) else Some (BadLine number)) ≡ None → AllTrue form known range
by_tests true true true range number good = cc
by_tests true true false true number good = record { form_is = refl; known_is = refl; range_is = refl }
by_tests true true false false number good = cc
by_tests true false repeated range number good = cc
by_tests false known repeated range number good = cc

said : (b : Bool) (fault : Option ProjectError) → b ≡ true → (if b then fault else None) ≡ None → fault ≡ None
said true fault is good = good
said false fault is good = cc

module _ (around : Around) (key : OptionKey) (word : List ℕ) (named : option_key word ≡ Some key) (plain : (is_filled word && not (slice_index word 0 == 35)) ≡ true) where
  key_good : (found : Option OptionKey) (earlier : List (List ℕ)) (number : ℕ) (line : List ℕ) → found ≡ Some key → option_key_fault around found earlier number line ≡ None → AreGood around key (args_of line)
  key_good found earlier number line is good =
      let here : option_key_fault around (Some key) earlier number line ≡ None = subst (λ (k : Option OptionKey). option_key_fault around k earlier number line ≡ None) is good in
      let all : AllTrue (is_option_form key (args_of line)) (is_option_known around key (args_of line)) (is_option_range key (args_of line)) =
      by_tests (is_option_form key (args_of line)) (is_option_known around key (args_of line)) (has_line (key_of line) earlier) (is_option_range key (args_of line)) number here in
      record { form = all.form_is; known = all.known_is; range = all.range_is }

  is_one_said : (line : List ℕ) → key_of line ≡ word → is_said line ≡ true
  unfolding is_said
  is_one_said line is = subst (λ (w : List ℕ). (is_filled w && not (slice_index w 0 == 35)) ≡ true) (sym is) plain

  line_good : (earlier : List (List ℕ)) (number : ℕ) (line : List ℕ) → bytes_eq (key_of line) word ≡ true → option_fault around earlier number line ≡ None → AreGood around key (args_of line)
  unfolding option_fault
  line_good earlier number line is good =
      let same : key_of line ≡ word = (bytes_eq-Decides (key_of line) word).0 is in
      key_good (option_key (key_of line)) earlier number line (subst (λ (w : List ℕ). option_key w ≡ Some key) (sym same) named)
      (said (is_said line) (option_key_fault around (option_key (key_of line)) earlier number line) (is_one_said line same) good)

  -- the line with this key, where there is one
  abbrev pub IsFoundGood : List (List ℕ) → Type 0
  IsFoundGood lines = IfSome (find_line word lines) (λ line. AreGood around key (args_of line))

  lines_are_good : (number : ℕ) (lines : List (List ℕ)) → first_fault (option_fault around) [] number lines ≡ None → IsFoundGood lines
  unfolding find_line
  lines_are_good number lines good = found_good (option_fault around) (λ line. bytes_eq (key_of line) word) (λ line. AreGood around key (args_of line)) line_good [] number lines good

  none_good : IsFoundGood []
  unfolding find_line
  none_good = tt

  title_good : (names : List (List ℕ)) (title : Option Title) (number : ℕ) (lines : List (List ℕ)) → title ≡ Some Options → lines_fault around names title number lines ≡ None → IsFoundGood lines
  title_good names title number lines is good = lines_are_good number lines (subst (λ (t : Option Title). lines_fault around names t number lines ≡ None) is good)

  part_good : (earlier : List Part) (number : ℕ) (part : Part) → bytes_eq (key_of part.header) (codes "options") ≡ true → part_fault around earlier number part ≡ None → IsFoundGood part.lines
  part_good earlier number part is good =
      let same : key_of part.header ≡ codes "options" = (bytes_eq-Decides (key_of part.header) (codes "options")).0 is in
      title_good (with_names [] (gather (part_reads around.known) earlier)) (title_of part.header) (part.number + 1) part.lines
      (header_of_word (codes "options") earlier part.number part.header same refl (header_good around earlier number part good)) (lines_good around earlier number part good)

  section_good : (found : Option Part) → IfSome found (λ part. IsFoundGood part.lines) → IsFoundGood (elim found [ None ↦ [] | Some part ↦ part.lines ])
  section_good None good = none_good
  section_good (Some part) good = good

  pub options_good : (parts : List Part) → first_fault (part_fault around) [] 0 parts ≡ None → IsFoundGood (lines_in (codes "options") parts)
  unfolding lines_in find_part
  options_good parts good =
      section_good (find_part (codes "options") parts) (found_good (part_fault around) (λ part. bytes_eq (key_of part.header) (codes "options")) (λ part. IsFoundGood part.lines) part_good [] 0 parts good)
