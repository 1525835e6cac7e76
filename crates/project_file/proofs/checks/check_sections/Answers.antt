use Rattle.project_file.proofs.Common.{◌≡◌, Some, None, sym, ◌∙◌, [], map, take, subst, with_names, around_of, part_at, part_fault, part_reads, seen, checks_err, fault_end, fault_here, fault_step}
use Rattle.project_lines.proofs.Reading.{reads_step}
use Rattle.project_file.proofs.Parts.{part_same}
use Rattle.project_file.proofs.checks.check_sections.Goals as goal

pub returns-in_err-check_section : goal.returns-in_err-check_section
returns-in_err-check_section c =
    let around = around_of c.args.around.now in
    let sections = c.args.sections.now in
    let i = c.loop-i.i in
    checks_err _ c.in_err-check_section.field-0.0 _ c.from_residual.ensures.1
    (λ m. fault_here seen (part_fault around) sections 0 _ i _ _ c.loop-i-test.true
    (sym (part_same _ _ _ _ _ c.loop-i.invariant.1)
    ∙ subst (λ x. part_at around c.loop-i.read (map seen (take i sections)) (seen x) ≡ Some c.in_err-check_section.field-0.0) c.index-sections-i.is (c.in_err-check_section.ensures.fault m))
    c.loop-i.invariant.0)

pub loop-i-preserved : goal.loop-i-preserved
loop-i-preserved c =
    let around = around_of c.args.around.now in
    let sections = c.args.sections.now in
    let i = c.loop-i.i in (
      fault_step seen (part_fault around) sections 0 _ i _ c.loop-i-test.true
          (sym (part_same _ _ _ _ _ c.loop-i.invariant.1)
          ∙ subst (λ x. part_at around c.loop-i.read (map seen (take i sections)) (seen x) ≡ None) c.index-sections-i.is c.in_ok-check_section.ensures.fault)
          c.loop-i.invariant.0,
      reads_step seen (part_reads around.known) [] sections i _ _ _ c.loop-i-test.true c.loop-i.invariant.1
          (subst (λ x. c.check_section.new.read ≡ with_names c.loop-i.read (part_reads around.known (seen x))) c.index-sections-i.is c.in_ok-check_section.ensures.read),
    )

pub returns : goal.returns
returns c = fault_end seen (part_fault (around_of c.args.around.now)) c.args.sections.now 0 _ c.loop-i.i c.loop-i-test.false c.loop-i.invariant.0
