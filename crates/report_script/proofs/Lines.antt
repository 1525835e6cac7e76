-- The lines of a block, one after the other.
use Rattle.report_script.proofs.Common.{◌≡◌, ℕ, ◌-◌, ◌<◌, ◌≤◌, Bool, List, [], ◌∷◌, Result, Ok, Err, drop, get_or, length, take, refl, sym, ap, ◌∙◌, arith, Row, Part, and_then, body_len, parts_of}
use Rattle.report_script.proofs.Common.{ScriptError, Head, Place, Draft, Reader, block_by, block_in, body_in, inner_indent, is_open, joined, new_draft, with_part, with_parts, Project, line}
use Rattle.tag_script.proofs.Lines.{cut_is}
use Rattle.report_script.proofs.Rooms.{block_is}

-- One line more. `more` are the lines behind it, of which the first `len` are its body, and `new` are those behind the body.

abbrev pub Whole : Project → Place → List Row → Draft → List Row → Type 0
Whole p place rows draft rest = with_parts p (body_in p place.room) place draft (parts_of place.indent rest) ≡ block_in p place.room place.indent rows

pub whole_first : (p : Project) (place : Place) (rows : List Row) (draft : Draft) → draft ≡ new_draft → Whole p place rows draft rows
unfolding block_by
whole_first p place rows draft e =
    ap (λ (d : Draft). with_parts p (body_in p place.room) place d (parts_of place.indent rows)) e ∙ sym (block_is p place.room place.indent rows)

pub whole_end : (p : Project) (place : Place) (rows : List Row) (draft : Draft) (rest : List Row) → length rest < 1 → Whole p place rows draft rest → block_in p place.room place.indent rows ≡ Ok draft
unfolding with_parts parts_of
whole_end p place rows draft [] l h = sym h
whole_end p place rows draft (row ∷ more) l h = absurd (omega arith)

step_is : (p : Project) (r : Reader) (place : Place) (draft : Draft) (part : Part) (parts : List Part) → with_parts p r place draft (part ∷ parts) ≡ and_then (with_part p r place draft part) (λ (next : Draft). with_parts p r place next parts)
unfolding with_parts
step_is p r place draft part parts = refl

module _ (p : Project) (place : Place) (rows : List Row) (draft : Draft) (rest more body new : List Row) (row : Row) (len : ℕ) (some : 1 ≤ length rest) (first : row ≡ get_or rest 0 row) (others : more ≡ take (length rest - 1) (drop 1 rest)) (many : len ≡ body_len place.indent more) (cut : body ≡ take len more) (left : new ≡ drop len more) (whole : Whole p place rows draft rest) where
  one_step : and_then (with_part p (body_in p place.room) place draft (record { row = row; body = body })) (λ (next : Draft). with_parts p (body_in p place.room) place next (parts_of place.indent new)) ≡ block_in p place.room place.indent rows
  one_step =
      sym (ap (with_parts p (body_in p place.room) place draft) (cut_is place.indent rest more body new row len some first others many cut left)
      ∙ step_is p (body_in p place.room) place draft (record { row = row; body = body }) (parts_of place.indent new))
      ∙ whole

  pub whole_more : (next : Draft) → with_part p (body_in p place.room) place draft (record { row = row; body = body }) ≡ Ok next → Whole p place rows next new
  whole_more next e = ap (λ (x : Result Draft ScriptError). and_then x (λ (next : Draft). with_parts p (body_in p place.room) place next (parts_of place.indent new))) (sym e) ∙ one_step

  pub whole_fault : (e : ScriptError) → with_part p (body_in p place.room) place draft (record { row = row; body = body }) ≡ Err e → block_in p place.room place.indent rows ≡ Err e
  whole_fault e h = sym one_step ∙ ap (λ (x : Result Draft ScriptError). and_then x (λ (next : Draft). with_parts p (body_in p place.room) place next (parts_of place.indent new))) h

-- A line with its body: `indent` is how far its body is to be indented.

module _ (p : Project) (r : Reader) (place : Place) (draft : Draft) (row : Row) (body : List Row) (open_here : Bool) (said : Head) (indent : ℕ) (opened : open_here ≡ is_open draft) (says : line open_here p place row body ≡ Ok said) (far : indent ≡ inner_indent place.indent said body) where
  with_said : (x : Result Draft ScriptError) → r indent body ≡ x → with_part p r place draft (record { row = row; body = body }) ≡ and_then x (λ (inner : Draft). Ok (joined draft row.number said inner))
  unfolding with_part
  with_said x e =
      ap (λ (y : Result Head ScriptError). and_then y (λ (s : Head). and_then (r (inner_indent place.indent s body) body) (λ (inner : Draft). Ok (joined draft row.number s inner)))) (ap (λ (b : Bool). line b p place row body) (sym opened) ∙ says)
      ∙ ap (λ (y : Result Draft ScriptError). and_then y (λ (inner : Draft). Ok (joined draft row.number said inner))) (ap (λ (i : ℕ). r i body) (sym far) ∙ e)

  pub part_fault : (e : ScriptError) → r indent body ≡ Err e → with_part p r place draft (record { row = row; body = body }) ≡ Err e
  part_fault e h = with_said (Err e) h

  pub part_is : (inner next : Draft) → r indent body ≡ Ok inner → next ≡ joined draft row.number said inner → with_part p r place draft (record { row = row; body = body }) ≡ Ok next
  part_is inner next h n = with_said (Ok inner) h ∙ ap Ok (sym n)
