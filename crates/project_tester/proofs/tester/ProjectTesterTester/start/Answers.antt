use Rattle.project_tester.proofs.tester.ProjectTesterTester.start.Goals as goal

pub begin-requires : goal.begin-requires
begin-requires g c = c.requires

pub returns-clause-mine : goal.returns-clause-mine
returns-clause-mine g c = c.in_ok-work.ensures.is

pub returns-clause-new : goal.returns-clause-new
returns-clause-new g c = (c.in_ok-work.ensures.none, c.in_ok-work.ensures.few)
