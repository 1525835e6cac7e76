use Rattle.site_texts.proofs.Common.{◌≡◌, ◌∙◌, ◌-◌, ℕ, List, Option, Some, None, ap, arith, subst, sym, take, IsCharBoundary-after_ascii, IsCharBoundary-before_ascii, MatchOption, Source, IsLastColon}
use Rattle.site_texts.proofs.Common.{IsNoLine, IsNoSource, IsSource}
use Rattle.site_texts.proofs.Sources.{a_source, no_colon, no_file, no_number}
use Rattle.site_texts.proofs.source.source_of.Goals as goal

pub returns-in_err-at : goal.returns-in_err-at
returns-in_err-at c = subst (λ (r : Option Source). MatchOption r (IsNoSource c.args.text.now) (IsSource c.args.text.now)) (sym c.from_residual.ensures)
    (no_colon c.args.text.now (subst (λ (t : List ℕ). IsLastColon t None) c.as_bytes.ensures.value c.in_err-at.ensures))

pub returns-then-at-eq0 : goal.returns-then-at-eq0
returns-then-at-eq0 c =
    let last : IsLastColon c.args.text.now (Some c.in_ok-at.at) = subst (λ (t : List ℕ). IsLastColon t (Some c.in_ok-at.at)) c.as_bytes.ensures.value c.in_ok-at.ensures in
    no_file c.args.text.now (subst (λ (at : ℕ). IsLastColon c.args.text.now (Some at)) c.if-at-eq0.true last)

pub overflow_add-at : goal.overflow_add-at
overflow_add-at c = omega (arith, c.in_ok-at.ensures.0)

pub range_from-requires : goal.range_from-requires
range_from-requires c =
    let last : IsLastColon c.args.text.now (Some c.in_ok-at.at) = subst (λ (t : List ℕ). IsLastColon t (Some c.in_ok-at.at)) c.as_bytes.ensures.value c.in_ok-at.ensures in
    λ some. IsCharBoundary-after_ascii c.args.text.now c.in_ok-at.at c.utf8.text last.0 (omega (arith, last.1))

pub returns-in_err-line : goal.returns-in_err-line
returns-in_err-line c =
    let last : IsLastColon c.args.text.now (Some c.in_ok-at.at) = subst (λ (t : List ℕ). IsLastColon t (Some c.in_ok-at.at)) c.as_bytes.ensures.value c.in_ok-at.ensures in
    subst (λ (r : Option Source). MatchOption r (IsNoSource c.args.text.now) (IsSource c.args.text.now)) (sym c.from_residual-in_err-line.ensures)
    (no_number c.args.text.now c.in_ok-at.at last (subst IsNoLine c.range_from.ensures.value c.in_err-line.ensures))

pub range-requires-clause-start_le_end : goal.range-requires-clause-start_le_end
range-requires-clause-start_le_end c = omega arith

pub range-requires-clause-start_boundary : goal.range-requires-clause-start_boundary
range-requires-clause-start_boundary c = λ some. absurd (omega arith)

pub range-requires-clause-end_boundary : goal.range-requires-clause-end_boundary
range-requires-clause-end_boundary c =
    let last : IsLastColon c.args.text.now (Some c.in_ok-at.at) = subst (λ (t : List ℕ). IsLastColon t (Some c.in_ok-at.at)) c.as_bytes.ensures.value c.in_ok-at.ensures in
    IsCharBoundary-before_ascii c.args.text.now c.in_ok-at.at last.0 (omega (arith, last.1))

pub returns : goal.returns
returns c =
    let last : IsLastColon c.args.text.now (Some c.in_ok-at.at) = subst (λ (t : List ℕ). IsLastColon t (Some c.in_ok-at.at)) c.as_bytes.ensures.value c.in_ok-at.ensures in
    a_source c.args.text.now c.in_ok-at.at (record { file = c.range.result; line = c.in_ok-line.line }) last c.if-at-eq0.false c.in_ok-line.ensures.0 (omega (arith, c.in_ok-line.ensures.0))
    (sym c.range_from.ensures.value ∙ c.in_ok-line.ensures.1)
    (c.range.ensures.value ∙ ap (λ n. take n c.args.text.now) (let e : c.in_ok-at.at - 0 ≡ c.in_ok-at.at = omega arith in e))
