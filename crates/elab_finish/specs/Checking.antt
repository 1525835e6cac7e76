-- What a netlist is refused for when it is checked.
use Rattle.mcy_base.specs.declared.span.Span.{Span}
use Rattle.netlist_core.specs.declared.cell.Cell.{Cell}
use Rattle.netlist_core.specs.declared.netlist.NetError.{NetError}
use Rattle.netlist_core.specs.declared.netlist.NetError.TheVariants.{Loop, Memory}
use Rattle.netlist_core.specs.declared.raw.RawNetlist.{RawNetlist}
use Rattle.netlist_core.specs.Checked.{IsRefused}

-- For proofs alone.

abbrev pub span_of : Cell → Span
span_of cell = cell.span

-- a loop through cells, or want of memory
abbrev pub IsLoop : NetError → Type 0
IsLoop (Loop c) = Unit {0}
IsLoop Memory = Unit {0}
IsLoop other = ⊥

-- nothing else refuses the netlist
abbrev pub OnlyLoops : RawNetlist → Type 0
OnlyLoops netlist = (error : NetError) → IsRefused netlist error → IsLoop error
