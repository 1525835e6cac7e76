use Rattle.tb_writers.proofs.Common.{sym, ◌∙◌, IfOk-weaker, names_of, bits_in}
use Rattle.tb_writers.proofs.Parts.{told_fits, writes_itself, writes_other}
use Rattle.tb_writers.proofs.mask.part_masks.Goals as goal

pub covered-requires : goal.covered-requires
covered-requires c = told_fits (names_of c.args.scope.now) c.args.left.now c.args.name.now c.requires.part.0 c.args.is_placed c.requires.sized c.requires.part.1.0 (sym c.in_ok-is_told.ensures ∙ c.if-branch.true)

pub returns-then-branch : goal.returns-then-branch
returns-then-branch c = IfOk-weaker c.covered.result _ _ (λ masks e p is same. writes_itself (names_of c.args.scope.now) c.args.kind c.args.left.now c.args.name.now p c.args.is_placed (bits_in masks) is same (sym c.in_ok-is_told.ensures ∙ c.if-branch.true) e) c.covered.ensures

pub returns-else-branch : goal.returns-else-branch
returns-else-branch c = IfOk-weaker c.untold_masks.result _ _ (λ masks e p is same. writes_other (names_of c.args.scope.now) c.args.kind c.args.left.now c.args.name.now p c.args.is_placed (bits_in masks) is same (sym c.in_ok-is_told.ensures ∙ c.if-branch.false) e) c.untold_masks.ensures
