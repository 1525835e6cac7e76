use Rattle.tag_script.proofs.Common.{List, map, sym, ap, ◌∙◌, err_from_is_err_and, Statement, course_of, doing, ended, followed, in_turn, start, heard, standing_of}
use Rattle.tag_script.proofs.Following.{ended_is, followed_err, followed_ok}
use Rattle.tag_script.proofs.evaluation.tags_of.Goals as goal

pub returns-in_err-end : goal.returns-in_err-end
unfolding course_of
returns-in_err-end c =
    let p = err_from_is_err_and c.from_residual.result c.from_residual.ensures.1 in
    rw (p.1, p.2) (sym (ap (λ (ys : List Statement). heard c.args.asked.now.expect.now c.args.asked.now.results (followed (in_turn (map doing ys) start) (λ standing. ended standing.tags))) (sym c.as_slice.ensures) ∙ followed_err c.args.asked.now.expect.now c.args.asked.now.results (in_turn (map doing c.as_slice.result.now) start) (λ standing. ended standing.tags) c.in_err-end.field-0.0 c.in_err-end.ensures))

pub returns : goal.returns
unfolding course_of
returns c =
    sym (ap (λ (ys : List Statement). heard c.args.asked.now.expect.now c.args.asked.now.results (followed (in_turn (map doing ys) start) (λ standing. ended standing.tags))) (sym c.as_slice.ensures) ∙ (followed_ok c.args.asked.now.expect.now c.args.asked.now.results (in_turn (map doing c.as_slice.result.now) start) (λ standing. ended standing.tags) (standing_of c.in_ok-end.end) c.in_ok-end.ensures
    ∙ ended_is c.args.asked.now.expect.now c.args.asked.now.results c.in_ok-end.end.tags))
