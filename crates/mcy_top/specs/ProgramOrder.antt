-- The order in which a run adds rows.
use Rattle.std.specs.Prelude.{◌≡◌, ℕ, List}
use Rattle.mcy_keeper.specs.declared.book.Book.{Book}
use Rattle.result_book.specs.declared.goal.Goal.{Goal}
use Rattle.result_book.specs.Rows.{history}
use Rattle.result_book.specs.States.{Progress}
use Rattle.campaign_core.specs.declared.event.Event.{Event}
use Rattle.campaign_core.specs.Laws.{Program}
use Rattle.campaign_core.specs.Turns.{Turns}
use Rattle.campaign_core.specs.UnderWay.{begun}
use Rattle.campaign_plan.specs.declared.prepared.Prepared.{Prepared}
use Rattle.project_tester.specs.ProjectJobs.{may_give, most_of}

-- The rows that the other book's history has beyond this one's are, one after the other, those of the commits of a program's events:
-- from the book's history, with so many slots that are all free, each event is the one that comes next. The events may end anywhere.
-- Free are the word of each test, which is one that it may give, and the turn that gives it: before it a test has at most as many
-- turns without a word as `most_of` says.
pub record IsInOrder (c : Prepared) (aim : Goal) (jobs : ℕ) (loaded other : Book) : Type 0 where
  pub state : Progress
  pub rows_are : state.rows ≡ (history c.campaign loaded).journal
  pub events : List Event
  pub end : Turns Prepared
  pub program : Program may_give most_of (begun c.campaign aim c state jobs) events end
  pub is : (history c.campaign other).journal ≡ end.state.rows
