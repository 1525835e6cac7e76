-- The left sides of the assignments in a statement, with those of the start and the step of a `for` (IEEE 1364-2005, 9.2 and 9.6).
use Rattle.std.specs.Prelude.{List, [], ◌∷◌, ◌++◌, Option, None, Some}
use Rattle.vlog_syntax.specs.declared.left_side.LeftSide.{LeftSide}
use Rattle.vlog_syntax.specs.declared.left_side.LeftSide.TheVariants as l
use Rattle.vlog_syntax.specs.declared.stmt.Stmt.{Stmt}
use Rattle.vlog_syntax.specs.declared.stmt.Stmt.TheOpen as s
use Rattle.vlog_syntax.specs.declared.stmt.Stmt.TheOpen.{Stmt-F, CaseItem-F}
use Rattle.vlog_syntax.specs.declared.stmt.Stmt.TheFolds.{fold-Stmt, fold-CaseItem}
use Rattle.vlog_syntax.specs.declared.stmt.CaseItem.{CaseItem}
use Rattle.tb_items.specs.declared.item.BenchItem.{BenchItem}
use Rattle.tb_items.specs.declared.item.BenchItem.TheVariants as b

abbrev pub joined : List (List LeftSide) → List LeftSide
joined [] = []
joined (xs ∷ more) = xs ++ joined more

abbrev pub else_lefts : Option (List LeftSide) → List LeftSide
else_lefts None = []
else_lefts (Some xs) = xs

abbrev pub stmt_step : Stmt-F (List LeftSide) (List LeftSide) → List LeftSide
stmt_step (s.Null at) = []
stmt_step (s.SeqBlock at label body) = joined body
stmt_step (s.Conditional at condition first second) = first ++ else_lefts second
stmt_step (s.Case at kind selector items) = joined items
stmt_step (s.For at start condition step body) = start.left ∷ step.left ∷ body
stmt_step (s.While at condition body) = body
stmt_step (s.Repeat at count body) = body
stmt_step (s.Forever at body) = body
stmt_step (s.EventControl at control body) = body
stmt_step (s.DelayControl at delay body) = body
stmt_step (s.SystemTaskEnable n arguments) = []
stmt_step (s.BlockingAssignment x) = x.left ∷ []
stmt_step (s.NonblockingAssignment x) = x.left ∷ []

abbrev pub item_step : CaseItem-F (List LeftSide) (List LeftSide) → List LeftSide
item_step i = i.body

abbrev pub stmt_lefts : Stmt → List LeftSide
stmt_lefts = fold-Stmt (List LeftSide) (List LeftSide) stmt_step item_step

-- those of an item of a testbench
abbrev pub lefts_in : BenchItem → List LeftSide
lefts_in (b.Drives name x) = l.Name name ∷ []
lefts_in (b.Assigns a) = a.left ∷ []
lefts_in (b.Clocks at g) = l.Name g.clock ∷ []
lefts_in (b.Runs p) = stmt_lefts p.body
lefts_in (b.Enters port x) = l.Name port ∷ []
lefts_in (b.Leaves port left) = left ∷ []
lefts_in other = []

-- For proofs alone.

abbrev pub case_lefts : CaseItem → List LeftSide
case_lefts = fold-CaseItem (List LeftSide) (List LeftSide) stmt_step item_step
