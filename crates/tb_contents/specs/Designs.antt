-- The design of a testbench: the netlist's names and the ports of its top, which is opened by itself.
use Rattle.std.specs.Prelude.{◌≡◌}
use Rattle.vlog_syntax.specs.declared.module.Module.{Module}
use Rattle.netlist_core.specs.declared.raw.RawNetlist.{RawNetlist}
use Rattle.flat_scopes.specs.Views.{opened_of}
use Rattle.flat_scopes.specs.Wires.{ports_of}
use Rattle.tb_items.specs.declared.design.Design.{Design}
use Rattle.tb_signals.specs.Opened.{IsOpened}

pub record IsDesign (top : Module) (netlist : RawNetlist) (d : Design) : Type 0 where
  pub name : d.name ≡ netlist.top
  pub ports : d.ports ≡ ports_of top.ports
  pub clock : d.clock ≡ netlist.clock
  pub opened : IsOpened top (opened_of d.top)
