-- Modules are elaborated in one way: the definitions of `elab_hier` leave no choice but that of want of memory.
use Rattle.std.specs.Prelude.{◌≡◌, ◌≢◌, ℕ, ◌≤◌, List, length, Result, Ok, Err}
use Rattle.netlist_core.specs.declared.raw.RawNetlist.{RawNetlist}
use Rattle.vlog_syntax.specs.declared.module.Module.{Module}
use Rattle.net_builder.specs.Refusals.{max_cells}
use Rattle.elab_items.specs.declared.answer.ElabError.{ElabError}
use Rattle.elab_items.specs.declared.answer.ElabError.TheVariants.{Memory}
use Rattle.elab_hier.specs.Elaborations.{Elaborates}
use Rattle.elab_hier.specs.Accepted.{IsElaborated}
use Rattle.elab_hier.specs.Refusals.{IsElabRefusal}

-- Two netlists of the same modules and the same top are the same.
abbrev pub HasOneNetlist : Type 0
HasOneNetlist = (modules : List Module) (top : List ℕ) (netlist other : RawNetlist) → Elaborates modules top netlist → Elaborates modules top other → netlist ≡ other

-- Modules that have a netlist, and in which nothing is refused, are not refused.
abbrev pub NoneIsRefused : Type 0
NoneIsRefused = (modules : List Module) (top : List ℕ) (netlist : RawNetlist) (error : ElabError) → IsElaborated modules top netlist → IsElabRefusal modules top error → error ≡ Memory

-- Modules that have none are refused for one reason.
abbrev pub HasOneRefusal : Type 0
HasOneRefusal = (modules : List Module) (top : List ℕ) (error other : ElabError) → error ≢ Memory → other ≢ Memory → IsElabRefusal modules top error → IsElabRefusal modules top other → error ≡ other

-- What may be answered of modules: their netlist, or why they have none.
abbrev pub IsAnswer : List Module → (top : List ℕ) → Result RawNetlist ElabError → Type 0
IsAnswer modules top (Ok netlist) = IsElaborated modules top netlist
IsAnswer modules top (Err error) = IsElabRefusal modules top error

-- There is one answer, but for want of memory.
abbrev pub HasOneAnswer : Type 0
HasOneAnswer = (modules : List Module) (top : List ℕ) (answer other : Result RawNetlist ElabError) → answer ≢ Err Memory → other ≢ Err Memory → IsAnswer modules top answer → IsAnswer modules top other → answer ≡ other

-- a netlist has no more cells than one may have
abbrev pub FewCells : Type 0
FewCells = (modules : List Module) (top : List ℕ) (netlist : RawNetlist) → IsElaborated modules top netlist → length netlist.cells ≤ max_cells
