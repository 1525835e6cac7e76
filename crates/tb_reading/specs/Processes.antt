-- The processes that the items of a testbench are: what each waits for first, and the statement that it then carries out.
use Rattle.std.specs.Prelude.{◌≡◌, List, [], ◌∷◌, ◌++◌, map}
use Rattle.std.specs.List.{flat_map}
use Rattle.vlog_syntax.specs.declared.item.ProcessKind.{ProcessKind}
use Rattle.vlog_syntax.specs.declared.item.ProcessKind.TheVariants as k
use Rattle.vlog_syntax.specs.declared.stmt.CaseItem.{CaseItem}
use Rattle.vlog_syntax.specs.declared.stmt.Stmt.{Stmt, out-Stmt}
use Rattle.vlog_syntax.specs.declared.stmt.Stmt.TheOpen as s
use Rattle.vlog_syntax.specs.declared.stmt.Stmt.TheOpen.{Stmt-F}
use Rattle.tb_machine.specs.declared.event.Event.{Event}
use Rattle.tb_machine.specs.declared.event.Event.TheVariants.{Start}
use Rattle.tb_machine.specs.declared.node.Node.{Node}
use Rattle.tb_machine.specs.Steps.{event_of}
use Rattle.tb_code.specs.Codes.{Adds}
use Rattle.tb_bench.specs.declared.parts.Waiting.{Waiting}
use Rattle.tb_items.specs.declared.item.BenchItem.{BenchItem}
use Rattle.tb_items.specs.declared.item.BenchItem.TheVariants as b

-- what a process waits for first, and its statement
pub record Begun : Type 0 where
  pub event : Event
  pub body : Stmt

abbrev pub begun : Event → Stmt → Begun
begun event body = record { event = event; body = body }

-- an `always`: behind its list stands the statement that it carries out at each of these edges
abbrev pub always_layer : Stmt → Stmt-F Stmt CaseItem → Begun
always_layer whole (s.EventControl at control body) = begun (event_of control) body
always_layer whole other = begun Start whole

-- those of the kind among a process: it, or none
abbrev pub of_kind : (wanted kind : ProcessKind) → Stmt → List Begun
of_kind k.Initial k.Initial body = begun Start body ∷ []
of_kind k.Always k.Always body = always_layer body (out-Stmt body) ∷ []
of_kind wanted kind body = []

abbrev pub item_processes : ProcessKind → BenchItem → List Begun
item_processes wanted (b.Runs p) = of_kind wanted p.kind p.body
item_processes wanted other = []

-- the processes of a kind in the order of the source
abbrev pub processes : ProcessKind → List BenchItem → List Begun
processes wanted = flat_map (item_processes wanted)

-- For proofs alone.

abbrev pub bodies : List Begun → List Stmt
bodies = map (λ x. x.body)

abbrev pub events : List Begun → List Event
events = map (λ x. x.event)

-- Code becomes more, and a list of processes too, by these: each waits for its event, and its number is that of its statement.
pub record AddsWaiting (before after : List Node) (old new : List Waiting) (ps : List Begun) : Type 0 where
  pub added : List Waiting
  pub list : new ≡ old ++ added
  pub adds : Adds before after (map (λ w. w.body) added) (bodies ps)
  pub events : map (λ w. w.event) added ≡ events ps
