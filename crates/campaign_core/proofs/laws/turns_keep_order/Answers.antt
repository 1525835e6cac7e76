use Rattle.campaign_core.proofs.Courses.{course_kept}
use Rattle.campaign_core.proofs.laws.turns_keep_order.Goals as goal

pub returns : goal.returns
returns g c start end events order course = course_kept g.T.Tester.gives g.T.Tester.most events start end order course
