-- How deep the constructs of a text are, by its trees and by its steps.
use Rattle.vlog_parse.proofs.Common.{◌≡◌, ℕ, zero, suc, ◌-◌, Bool, true, false, if◌then◌else◌, List, [], ◌∷◌, ◌++◌, Option, Some, None, length, take, refl, sym, ap, ◌∙◌, append_assoc, eq-eqb, arith}
use Rattle.vlog_parse.proofs.Common.{ne_eqb, Rule, Step, Classed, Symbol, parts_of, Trees, Nil, Leaf, Node, tokens_of, steps_of, Derives, IsText, steps_for, taken, Row, behind, begun, begun_by}
use Rattle.vlog_parse.proofs.Common.{closed, depths, depths_in, ended, ended_by, is_construct, outermost, reached, settled, walked}
use Rattle.std.specs.Prelude.{◌==◌, ◌&&◌}
use Rattle.vlog_grammar.specs.declared.step.Step.TheVariants.{Take, Begin}

closed_done : (row : Row) (rows : List (Row × Rule)) → (row.parts == 0) ≡ false → closed row rows ≡ (row, rows)
closed_done row [] h = refl
closed_done row (o ∷ os) h = ap (λ (b : Bool). if b then closed (ended o.0 o.1 (settled row)) os else (row, o ∷ os)) h

pub closed_end : (row : Row) (rows : List (Row × Rule)) (whole : Row × List (Row × Rule)) → (row.parts ≡ 0 → ⊥) → closed row rows ≡ whole → (row, rows) ≡ whole
closed_end row rows whole h is = sym (closed_done row rows (ne_eqb row.parts 0 h)) ∙ is

closed_out : (row : Row) (o : Row × Rule) (os : List (Row × Rule)) → row.parts ≡ 0 → closed row (o ∷ os) ≡ closed (ended o.0 o.1 (settled row)) os
closed_out row o os h = ap (λ (b : Bool). if b then closed (ended o.0 o.1 (settled row)) os else (row, o ∷ os)) (eq-eqb row.parts 0 h)

settled-parts : (row : Row) → (settled row).parts ≡ row.parts
unfolding settled
settled-parts row = go (row.is_operator && (row.parts == row.behind)) _ refl
  where
    go : (b : Bool) (other : Row) → other.parts ≡ row.parts → (if b then other else row).parts ≡ row.parts
    go true other same = same
    go false other same = refl

begun-parts : (row : Row) (rule : Rule) → (begun row rule).parts ≡ length (parts_of rule)
unfolding begun
begun-parts row rule = go (behind rule)
  where
    go : (o : Option ℕ) → (begun_by row (length (parts_of rule)) (is_construct rule) o).parts ≡ length (parts_of rule)
    go None = refl
    go (Some n) = refl

pub ended-parts : (row : Row) (rule : Rule) (inner : Row) → (ended row rule inner).parts ≡ row.parts - 1
unfolding ended
ended-parts row rule inner = go (behind rule)
  where
    go : (o : Option ℕ) → (ended_by row inner.height (is_construct rule) o).parts ≡ row.parts - 1
    go None = refl
    go (Some n) = refl

abbrev walk_from : Row × List (Row × Rule) → List Step → List ℕ
walk_from at steps = walked at.0 at.1 steps

-- a row of trees, and what is read behind it
walked_row : (ss : List Symbol) (f : Trees) (after : List Classed) (row : Row) (o : Row × Rule) (os : List (Row × Rule)) (more : List Step) → Derives ss f after → row.parts ≡ length ss → walk_from (closed row (o ∷ os)) (steps_of f ++ more) ≡ (depths_in row f).0 ++ walk_from (closed (ended o.0 o.1 (depths_in row f).1) os) more
walked_row [] Nil after row o os more d is = ap (λ (at : Row × List (Row × Rule)). walk_from at more) (closed_out row o os is)
walked_row [] (Leaf t x f) after row o os more d is = absurd d
walked_row [] (Node r parts f) after row o os more d is = absurd d
walked_row (s ∷ ss) Nil after row o os more d is = absurd d
walked_row (s ∷ ss) (Leaf t x f) after row o os more d is =
    let now = settled row in
    let next : Row = record now { parts = now.parts - 1 } in
    let size : now.parts ≡ row.parts = settled-parts row in
    let left : next.parts ≡ length ss = omega arith in
    ap (λ (at : Row × List (Row × Rule)). walk_from at (Take t ∷ (steps_of f ++ more))) (closed_done row (o ∷ os) (ne_eqb row.parts 0 (λ none. absurd (omega (arith, none)))))
    ∙ ap (λ (ds : List ℕ). reached now ∷ ds) (walked_row ss f after next o os more d.1 left)
walked_row (s ∷ ss) (Node r parts f) after row o os more d is =
    let now = settled row in
    let inner = depths_in (begun now r) parts in
    let next : Row = ended now r inner.1 in
    let size : now.parts ≡ row.parts = settled-parts row in
    let left : next.parts ≡ length ss = omega (arith, ended-parts now r inner.1) in
    let within = closed (begun now r) ((now, r) ∷ o ∷ os) in
    ap (λ (at : Row × List (Row × Rule)). walk_from at (Begin r ∷ ((steps_of parts ++ steps_of f) ++ more))) (closed_done row (o ∷ os) (ne_eqb row.parts 0 (λ none. absurd (omega (arith, none)))))
    ∙ ap (walk_from within) (append_assoc (steps_of parts) (steps_of f) more)
    ∙ walked_row (parts_of r) parts (tokens_of f ++ after) (begun now r) (now, r) (o ∷ os) (steps_of f ++ more) d.2 (begun-parts now r)
    ∙ ap (λ (ds : List ℕ). inner.0 ++ ds) (walked_row ss f after next o os more d.3 left)
    ∙ sym (append_assoc inner.0 (depths_in next f).0 _)

pub walked_text : (text : Trees) → IsText text → walked outermost [] (steps_of text) ≡ depths text
walked_text Nil d = absurd d
walked_text (Leaf t x f) d = absurd d.0
walked_text (Node r parts Nil) d = walked_row (parts_of r) parts [] (begun (settled outermost) r) (settled outermost, r) [] [] d.2 (begun-parts (settled outermost) r)
walked_text (Node r parts (Leaf t x f)) d = absurd d.3
walked_text (Node r parts (Node q inner f)) d = absurd d.3

-- the first depths are those of the first steps
pub take-walked : (k : ℕ) (row : Row) (rows : List (Row × Rule)) (steps : List Step) → take k (walked row rows steps) ≡ walked row rows (steps_for k steps)
take-walked zero row rows steps = refl
take-walked (suc k) row rows [] = refl
take-walked (suc k) row rows (Take t ∷ steps) =
    let now = settled row in
    let next = closed (record now { parts = now.parts - 1 }) rows in
    ap (λ (ds : List ℕ). reached now ∷ ds) (take-walked k next.0 next.1 steps)
take-walked (suc k) row rows (Begin r ∷ steps) =
    let now = settled row in
    let next = closed (begun now r) ((now, r) ∷ rows) in
    take-walked (suc k) next.0 next.1 steps

-- the depths of more steps are the same at first
pub walked_on : (row : Row) (rows : List (Row × Rule)) (first behind : List Step) → (later : List ℕ) × (walked row rows (first ++ behind) ≡ walked row rows first ++ later)
walked_on row rows [] behind = (walked row rows behind, refl)
walked_on row rows (Take t ∷ first) behind =
    let now = settled row in
    let next = closed (record now { parts = now.parts - 1 }) rows in
    let on = walked_on next.0 next.1 first behind in
    (on.0, ap (λ (ds : List ℕ). reached now ∷ ds) on.1)
walked_on row rows (Begin r ∷ first) behind =
    let now = settled row in
    let next = closed (begun now r) ((now, r) ∷ rows) in
    walked_on next.0 next.1 first behind

pub length-walked : (row : Row) (rows : List (Row × Rule)) (steps : List Step) → length (walked row rows steps) ≡ length (taken steps)
length-walked row rows [] = refl
length-walked row rows (Take t ∷ steps) =
    let now = settled row in
    let next = closed (record now { parts = now.parts - 1 }) rows in
    ap suc (length-walked next.0 next.1 steps)
length-walked row rows (Begin r ∷ steps) =
    let now = settled row in
    let next = closed (begun now r) ((now, r) ∷ rows) in
    length-walked next.0 next.1 steps
