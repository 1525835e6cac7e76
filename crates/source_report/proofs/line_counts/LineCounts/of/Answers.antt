use Rattle.source_report.proofs.Common.{◌≡◌, ◌^◌, ℕ, List, [], ◌∷◌, ◌++◌, length, slice_get, Some, Vec, Global, ap, sym, ◌∙◌, subst, inl, inr, arith, length-append, groups, Tag, AreCounted}
use Rattle.source_report.proofs.LineCounting.{pushed-at}
use Rattle.source_report.proofs.line_counts.LineCounts.of.Goals as goal

pub loop-tag-preserved : goal.loop-tag-preserved
loop-tag-preserved c =
    let campaign = c.args.campaign.now in
    let answers = groups c.args.campaign.now c.args.state.now.rows in
    let one : Vec ℕ Global = c.in_ok-counts_of.field-0 in
    let added : c.push.new.self.items ≡ c.loop-tag.tags.items ++ one ∷ [] = c.in_ok-push.ensures.items in
    let last : AreCounted campaign answers c.args.file c.args.lines (Some (Tag (2 ^ c.loop-tag.tag))) one.items = subst (λ bit. AreCounted campaign answers c.args.file c.args.lines (Some (Tag bit)) one.items) c.tag_bit.ensures c.in_ok-counts_of.ensures in (
      (let long = ap length added ∙ length-append c.loop-tag.tags.items (one ∷ []) in omega (arith, long, c.loop-tag.invariant.0)),
      λ tag counts at. elim (pushed-at c.loop-tag.tags.items one counts tag (subst (λ (lists : List (Vec ℕ Global)). slice_get lists tag ≡ Some counts) added at)) [
        | inl h ↦ c.loop-tag.invariant.1 tag counts h
        | inr h ↦ subst (λ (v : Vec ℕ Global). AreCounted campaign answers c.args.file c.args.lines (Some (Tag (2 ^ tag))) v.items) (sym h.1) (subst (λ n. AreCounted campaign answers c.args.file c.args.lines (Some (Tag (2 ^ n))) one.items) (sym (h.0 ∙ c.loop-tag.invariant.0)) last)
      ],
    )

pub returns : goal.returns
returns c = record {
  mutations = c.in_ok-mutations.ensures;
  count = (let long = ap length c.as_slice-tag-end.ensures in omega (arith, long, c.loop-tag.invariant.0, c.loop-tag-test.false));
  tags = c.loop-tag.invariant.1;
}
