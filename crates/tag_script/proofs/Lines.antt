-- The lines of a block, one after the other.
use Rattle.tag_script.proofs.Common.{◌≡◌, ℕ, suc, ◌+◌, ◌-◌, ◌<◌, ◌≤◌, Bool, true, false, List, [], ◌∷◌, Result, Ok, Err, drop, get_or, length, take, refl, sym, ap, ◌∙◌, arith, if◌then◌else◌}
use Rattle.tag_script.proofs.Common.{prefix_len, take_all, Row, Head, Known, Place, Block, ScriptError, Project, is_further, line, named}
use Rattle.tag_script.specs.Blocks.{Part, Reader, and_then, block_by, block_in, body_in, body_len, inner_indent, is_open, joined, new_block, part_of, parts_behind, parts_of, with_part, with_parts}
use Rattle.tag_script.proofs.Rooms.{block_is}

-- Parts.

behind_if : (indent : ℕ) (row : Row) (more : List Row) (b : Bool) → parts_behind indent more ≡ parts_of indent (drop (body_len indent more) more) → (if b then parts_behind indent more else part_of indent row more ∷ parts_behind indent more) ≡ parts_of indent (drop (if b then 1 + prefix_len (is_further indent) more else 0) (row ∷ more))
unfolding parts_of body_len
behind_if indent row more true h =
    let e : suc (prefix_len (is_further indent) more) ≡ 1 + prefix_len (is_further indent) more = omega arith in
    h ∙ ap (λ (k : ℕ). parts_of indent (drop k (row ∷ more))) e
behind_if indent row more false h = refl

pub behind_is : (indent : ℕ) (rows : List Row) → parts_behind indent rows ≡ parts_of indent (drop (body_len indent rows) rows)
unfolding parts_behind parts_of body_len
behind_is indent [] = refl
behind_is indent (row ∷ more) = behind_if indent row more (is_further indent row) (behind_is indent more)

cons_is : (rows more : List Row) (row : Row) → 1 ≤ length rows → row ≡ get_or rows 0 row → more ≡ take (length rows - 1) (drop 1 rows) → rows ≡ row ∷ more
cons_is [] more row l e m = absurd (omega arith)
cons_is (x ∷ xs) more row l e m = ap (λ (y : Row). y ∷ xs) (sym e) ∙ ap (λ (ys : List Row). row ∷ ys) (sym (take_all (suc (length xs) - 1) xs (omega arith)) ∙ sym m)

pub parts_more : (indent : ℕ) (row : Row) (more : List Row) → parts_of indent (row ∷ more) ≡ part_of indent row more ∷ parts_of indent (drop (body_len indent more) more)
unfolding parts_of
parts_more indent row more = ap (λ (ps : List Part). part_of indent row more ∷ ps) (behind_is indent more)

-- One line more. `more` are the lines behind it, of which the first `len` are its body, and `new` are those behind the body.

abbrev pub Whole : Project → Place → Known → List Row → Block → List Row → Type 0
Whole p place known rows block rest = with_parts p (body_in p place.room) place block (parts_of place.indent rest) ≡ block_in p place.room place.indent known rows

pub whole_first : (p : Project) (place : Place) (known : Known) (rows : List Row) (block : Block) → block ≡ new_block known → Whole p place known rows block rows
unfolding block_by
whole_first p place known rows block e =
    ap (λ (b : Block). with_parts p (body_in p place.room) place b (parts_of place.indent rows)) e ∙ sym (block_is p place.room place.indent known rows)

pub whole_end : (p : Project) (place : Place) (known : Known) (rows : List Row) (block : Block) (rest : List Row) → length rest < 1 → Whole p place known rows block rest → block_in p place.room place.indent known rows ≡ Ok block
unfolding with_parts parts_of
whole_end p place known rows block [] l h = sym h
whole_end p place known rows block (row ∷ more) l h = absurd (omega arith)

pub cut_is : (indent : ℕ) (rest more body new : List Row) (row : Row) (len : ℕ) → 1 ≤ length rest → row ≡ get_or rest 0 row → more ≡ take (length rest - 1) (drop 1 rest) → len ≡ body_len indent more → body ≡ take len more → new ≡ drop len more → parts_of indent rest ≡ record { row = row; body = body } ∷ parts_of indent new
cut_is indent rest more body new row len l e m n b d =
    ap (parts_of indent) (cons_is rest more row l e m)
    ∙ (parts_more indent row more
    ∙ (ap (λ (k : ℕ). record { row = row; body = take k more } ∷ parts_of indent (drop k more)) (sym n)
    ∙ (ap (λ (ys : List Row). record { row = row; body = ys } ∷ parts_of indent (drop len more)) (sym b)
    ∙ ap (λ (ys : List Row). record { row = row; body = body } ∷ parts_of indent ys) (sym d))))

step_is : (p : Project) (r : Reader) (place : Place) (block : Block) (part : Part) (parts : List Part) → with_parts p r place block (part ∷ parts) ≡ and_then (with_part p r place block part) (λ (next : Block). with_parts p r place next parts)
unfolding with_parts
step_is p r place block part parts = refl

module _ (p : Project) (place : Place) (known : Known) (rows : List Row) (block : Block) (rest more body new : List Row) (row : Row) (len : ℕ) (some : 1 ≤ length rest) (first : row ≡ get_or rest 0 row) (others : more ≡ take (length rest - 1) (drop 1 rest)) (many : len ≡ body_len place.indent more) (cut : body ≡ take len more) (left : new ≡ drop len more) (whole : Whole p place known rows block rest) where
  one_step : and_then (with_part p (body_in p place.room) place block (record { row = row; body = body })) (λ (next : Block). with_parts p (body_in p place.room) place next (parts_of place.indent new)) ≡ block_in p place.room place.indent known rows
  one_step =
      sym (ap (with_parts p (body_in p place.room) place block) (cut_is place.indent rest more body new row len some first others many cut left)
      ∙ step_is p (body_in p place.room) place block (record { row = row; body = body }) (parts_of place.indent new))
      ∙ whole

  pub whole_more : (next : Block) → with_part p (body_in p place.room) place block (record { row = row; body = body }) ≡ Ok next → Whole p place known rows next new
  whole_more next e = ap (λ (x : Result Block ScriptError). and_then x (λ (next : Block). with_parts p (body_in p place.room) place next (parts_of place.indent new))) (sym e) ∙ one_step

  pub whole_fault : (e : ScriptError) → with_part p (body_in p place.room) place block (record { row = row; body = body }) ≡ Err e → block_in p place.room place.indent known rows ≡ Err e
  whole_fault e h = sym one_step ∙ ap (λ (x : Result Block ScriptError). and_then x (λ (next : Block). with_parts p (body_in p place.room) place next (parts_of place.indent new))) h

-- A line with its body: `known` is what is known with its names, `indent` how far its body is to be indented.

module _ (p : Project) (r : Reader) (place : Place) (block : Block) (row : Row) (body : List Row) (known : Known) (open_here : Bool) (said : Head) (indent : ℕ) (opened : open_here ≡ is_open block.draft) (knows : known ≡ named block.known row) (says : line open_here p place known row body ≡ Ok said) (far : indent ≡ inner_indent place.indent said body) where
  said_is : line (is_open block.draft) p place (named block.known row) row body ≡ Ok said
  said_is = ap (λ (b : Bool). line b p place (named block.known row) row body) (sym opened) ∙ (ap (λ (k : Known). line open_here p place k row body) (sym knows) ∙ says)

  read_is : (x : Result Block ScriptError) → r indent known body ≡ x → r (inner_indent place.indent said body) (named block.known row) body ≡ x
  read_is x e = ap (λ (i : ℕ). r i (named block.known row) body) (sym far) ∙ (ap (λ (k : Known). r indent k body) (sym knows) ∙ e)

  with_said : (x : Result Block ScriptError) → r indent known body ≡ x → with_part p r place block (record { row = row; body = body }) ≡ and_then x (λ (inner : Block). Ok (joined block.draft block.known.assigned row.number said inner))
  unfolding with_part
  with_said x e =
      ap (λ (y : Result Head ScriptError). and_then y (λ (s : Head). and_then (r (inner_indent place.indent s body) (named block.known row) body) (λ (inner : Block). Ok (joined block.draft block.known.assigned row.number s inner)))) said_is
      ∙ ap (λ (y : Result Block ScriptError). and_then y (λ (inner : Block). Ok (joined block.draft block.known.assigned row.number said inner))) (read_is x e)

  pub part_fault : (e : ScriptError) → r indent known body ≡ Err e → with_part p r place block (record { row = row; body = body }) ≡ Err e
  part_fault e h = with_said (Err e) h

  pub part_is : (before : List ℕ) (inner next : Block) → before ≡ block.known.assigned → r indent known body ≡ Ok inner → next ≡ joined block.draft before row.number said inner → with_part p r place block (record { row = row; body = body }) ≡ Ok next
  part_is before inner next b h n = with_said (Ok inner) h ∙ (ap (λ (places : List ℕ). Ok (joined block.draft places row.number said inner)) (sym b) ∙ ap Ok (sym n))
