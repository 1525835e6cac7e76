use Rattle.project_tester.proofs.Common.{length, sym, subst, Prepared, IsAskable, asked_of, HasBegun}
use Rattle.std.specs.Prelude.{IfOk}
use Rattle.project_tester.proofs.tester.ProjectTester.begin.Goals as goal

pub begin-requires-clause-askable : goal.begin-requires-clause-askable
begin-requires-clause-askable c = subst (λ (p : Prepared). IsAskable (length p.campaign.mutations) p.campaign.kinds (asked_of c.args.mutation c.args.want)) (sym c.self.view_is) c.requires

pub returns : goal.returns
returns c = subst (λ (p : Prepared). IfOk c.begin.result (HasBegun p (asked_of c.args.mutation c.args.want))) c.self.view_is c.begin.ensures
