use Rattle.source_report.proofs.Common.{◌≡◌, ◌+◌, ◌<◌, ◌++◌, [], ◌∷◌, List, ℕ, map, slice_index, Option, Some, None, IfNone, refl, ap, sym, subst, ◌∙◌, append-nil, append_assoc, arith, drop_all}
use Rattle.source_report.proofs.Common.{get_or_read, length-map, lines, lines_of_parts, groups, head_text, lines_from, source_lines}
use Rattle.std.specs.Borrow.{Bor}
use Rattle.source_report.proofs.LineCounting.{row-counts}
use Rattle.source_report.proofs.Lines.{source_lines-more}
use Rattle.source_report.proofs.source.add_file.Goals as goal
use Rattle.source_report.proofs.source.add_file.Goals.{in-Some+in_ok-tags+in_ok-add_line, in_default}

none_is : {X : Type 0} (o : Option X) (P : Type 0) → ((x : X) → o ≡ Some x → ⊥) → IfNone o P → P
none_is None P apart p = p
none_is (Some x) P apart p = absurd (apart x refl)

pub loop-row-preserved : goal.loop-row-preserved
loop-row-preserved c =
    let campaign = c.args.campaign.now in
    let answers = groups c.args.campaign.now c.args.state.now.rows in
    let parts : List (Bor (List ℕ)) = c.in_ok-parts.parts.items in
    let row : ℕ = c.loop-row.row in
    elim c.match-line_at.branch [
      | in-Some+in_ok-tags+in_ok-add_line w ↦ (let below : row < c.len.result = omega (arith, c.len.ensures, c.len-row-end.ensures, c.loop-row-test.true) in
          let counted = row-counts campaign answers c.args.number c.len.result row c.in_ok-counts.counts c.in_ok-counts.ensures below in
          let many : w.index.result.now ≡ slice_index c.in_ok-counts.counts.mutations.items row = get_or_read c.in_ok-counts.counts.mutations.items row w.index.result.now (omega (arith, c.in_ok-counts.ensures.mutations.count, below)) w.index.ensures 0 in
          let line : lines_from parts row ≡ w.in-Some.line.now ∷ lines_from parts (row + 1) = subst (λ (ps : List (Bor (List ℕ))). lines_from ps row ≡ w.in-Some.line.now ∷ lines_from ps (row + 1)) c.deref.ensures.value w.in-Some.ensures.line in
          rw w.text-is (source_lines-more campaign answers c.args.number (row + 1) w.index.result.now w.deref-in-Some.result.now c.loop-row.text.items w.add_line.new.text.items w.in-Some.line.now (lines_from parts row) (lines_from parts (row + 1)) line (many ∙ counted.0) (w.deref-in-Some.ensures.value ∙ w.in_ok-tags.ensures ∙ counted.1) w.in_ok-add_line.ensures
          ∙ c.loop-row.invariant))
      | in_default w ↦ (let here : lines_from parts row ≡ [] = subst (λ (ps : List (Bor (List ℕ))). lines_from ps row ≡ []) c.deref.ensures.value (none_is c.line_at.result _ w.in_default.not-Some c.line_at.ensures.none) in
          let behind : lines_from parts (row + 1) ≡ [] = subst (λ (ps : List (Bor (List ℕ))). lines_from ps (row + 1) ≡ []) c.deref.ensures.value (none_is c.line_at.result _ w.in_default.not-Some c.line_at.ensures.none_behind) in
          rw w.text-is (ap (λ ls. c.loop-row.text.items ++ source_lines campaign answers c.args.number ((row + 1) + 1) ls) behind ∙ sym (ap (λ ls. c.loop-row.text.items ++ source_lines campaign answers c.args.number (row + 1) ls) here) ∙ c.loop-row.invariant))
    ]

pub returns : goal.returns
returns c =
    let campaign = c.args.campaign.now in
    let answers = groups c.args.campaign.now c.args.state.now.rows in
    let parts : List (Bor (List ℕ)) = c.in_ok-parts.parts.items in
    let behind : lines_from parts c.loop-row.row ≡ [] = ap lines_of_parts (drop_all c.loop-row.row (map (λ (part : Bor (List ℕ)). part.now) parts) (let long = length-map parts (λ (part : Bor (List ℕ)). part.now) in omega (arith, long, c.loop-row-test.false, c.in_ok-parts.parts.ok.0))) in
    let bytes : c.as_slice.result.now ≡ c.args.file.now.bytes = c.as_slice.ensures in
    let whole : lines_from parts 0 ≡ lines c.args.file.now.bytes = ap lines_of_parts c.in_ok-parts.ensures ∙ ap lines bytes in
    let name : c.as_bytes.result.now ≡ c.args.file.now.name = cc in
    let head : c.add_head.new.text.items ≡ c.args.text.now.items ++ head_text campaign.tags c.args.file.now.name = c.in_ok-add_head.ensures ∙ ap (λ n. c.args.text.now.items ++ head_text campaign.tags n) name in
    sym (append-nil c.loop-row.text.items)
    ∙ ap (λ ls. c.loop-row.text.items ++ source_lines campaign answers c.args.number (c.loop-row.row + 1) ls) (sym behind)
    ∙ c.loop-row.invariant
    ∙ ap (λ ls. c.add_head.new.text.items ++ source_lines campaign answers c.args.number 1 ls) whole
    ∙ ap (λ t. t ++ source_lines campaign answers c.args.number 1 (lines c.args.file.now.bytes)) head
    ∙ append_assoc c.args.text.now.items (head_text campaign.tags c.args.file.now.name) (source_lines campaign answers c.args.number 1 (lines c.args.file.now.bytes))
