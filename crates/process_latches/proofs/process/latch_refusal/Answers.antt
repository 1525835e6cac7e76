use Rattle.process_latches.proofs.Common.{Bool, sym, subst, Option, Target, IsFirst, latch_refusal, latch_refusals}
use Rattle.process_latches.proofs.process.latch_refusal.Goals as goal

pub returns-then-is_combinational : goal.returns-then-is_combinational
returns-then-is_combinational c = λ s own. subst (λ (b : Bool). IsFirst (latch_refusals b c.args.always s) c.latch_at.result) (sym c.if-is_combinational.true) (subst (λ (o : Option Target). IsFirst (latch_refusal c.args.always o) c.latch_at.result) (c.latch_in.ensures s own) c.latch_at.ensures)
