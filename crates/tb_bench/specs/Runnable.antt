-- Parts of a bench that can run, and the designs for whose ports they are made.
use Rattle.std.specs.Prelude.{◌≡◌, ℕ, ◌<◌, List, map, length, slice_index}
use Rattle.std.specs.List.{All}
use Rattle.netlist_core.specs.declared.raw.RawNetlist.{RawNetlist}
use Rattle.netlist_core.specs.Runs.{bits_at}
use Rattle.vlog_syntax.specs.declared.stmt.Stmt.{Stmt}
use Rattle.vlog_meaning.specs.Senses.{IsWhole}
use Rattle.tb_machine.specs.Known.{AllKnown}
use Rattle.tb_machine.specs.Nodes.{IsCode, AreClosed}
use Rattle.tb_assigns.specs.Updates.{CanAssign}
use Rattle.tb_evaluator.specs.Meanings.{CanPerform, HasSignals}
use Rattle.tb_plans.specs.Plans.{ArePlans, AreNetPlans}
use Rattle.tb_settling.specs.Settling.{CanSettle}
use Rattle.tb_bench.specs.declared.parts.Waiting.{Waiting}
use Rattle.tb_bench.specs.declared.parts.Parts.{Parts}
use Rattle.tb_bench.specs.Settings.{names, widths}

-- a process whose statement's number is below the limit
abbrev pub IsBelow : ℕ → Waiting → Type 0
IsBelow limit p = p.body < limit

-- What processes do can be evaluated, they name statements and signals that there are, and the nets are in an order.
pub record IsRunnable (b : Parts) : Type 0 where
  -- the nodes are code of statements
  pub trees : List Stmt
  pub code : IsCode b.code trees
  -- each statement evaluates, assigns and prints what it can, and names statements of the code
  pub known : AllKnown (IsWhole (names b)) (CanAssign (names b)) (CanPerform (names b)) b.code
  pub closed : AreClosed b.code
  -- its plan, if it has one, tells what it evaluates
  pub plans : ArePlans (names b) b.code b.plans
  pub always : All (IsBelow (length b.code)) b.always
  pub initial : All (IsBelow (length b.code)) b.initial
  -- declared signals have a start value, of their width
  pub signals : HasSignals (names b) (widths b)
  -- the clock is one of them, and so wide
  pub clock : b.clock.signal < length b.starts
  pub high : b.clock.high.width ≡ slice_index (widths b) b.clock.signal
  -- the nets can settle
  pub nets : CanSettle (names b) (widths b) b.inputs b.outputs b.nets
  -- and the plan of an assign among them, if it has one, tells its updates
  pub net_plans : AreNetPlans (names b) b.nets.nodes b.net_plans

-- the design's ports are as wide as the signals that stand for them
pub record FitsDesign (b : Parts) (netlist : RawNetlist) : Type 0 where
  pub inputs : map (slice_index (widths b)) b.inputs ≡ map length (bits_at netlist.inputs)
  pub outputs : map (slice_index (widths b)) b.outputs ≡ map length (bits_at netlist.outputs)
