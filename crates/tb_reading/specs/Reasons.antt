-- Why a testbench is refused: the first fault of its first item that has one, or the first `generate` region where that stands before it;
-- else that there is no instance of the design; else that no clock is generated.
use Rattle.std.specs.Prelude.{◌≡◌, Bool, true, false, Option, None, Some}
use Rattle.mcy_base.specs.declared.span.Span.{Span}
use Rattle.vlog_syntax.specs.declared.feature.Feature.TheVariants.{Helper}
use Rattle.vlog_syntax.specs.declared.module.Module.{Module}
use Rattle.vlog_meaning.specs.Scopes.{names_of}
use Rattle.tb_faults.specs.declared.fault.BenchFault.{BenchFault}
use Rattle.tb_faults.specs.declared.fault.BenchFault.TheVariants.{Unsupported}
use Rattle.tb_faults.specs.declared.error.BenchError.{BenchError}
use Rattle.tb_faults.specs.declared.error.BenchError.TheVariants as e
use Rattle.tb_faults.specs.Faults.{error_of}
use Rattle.tb_faults.specs.Order.{earlier}
use Rattle.tb_items.specs.Items.{first_region}
use Rattle.tb_refusals.specs.Refusals.{Context, IsFirstIn, is_design, is_free, is_generator, some_item}
use Rattle.tb_reading.specs.declared.reading.Reading.{Reading}

-- on what the refusals of the items rest
abbrev pub context_in : Reading → Context
context_in r = record { names = names_of r.signals.scope; signals = r.declared.items; clock = r.clock; is_free = is_free r.items.items; outputs = r.outputs.items }

abbrev pub region_fault : Option Span → Option BenchFault
region_fault None = None
region_fault (Some at) = Some (Unsupported at Helper)

-- the first fault with a place
pub record IsFault (m : Module) (r : Reading) (fault : Option BenchFault) : Type 0 where
  pub found : Option BenchFault
  pub first : IsFirstIn (context_in r) r.items.items found
  pub told : fault ≡ earlier found (region_fault (first_region m.items))

abbrev pub answer : Option BenchFault → (has_design has_clock : Bool) → Option BenchError
answer (Some fault) design clock = Some (error_of fault)
answer None false clock = Some e.NoDesign
answer None true false = Some e.NoClock
answer None true true = None

-- the reason why it is refused, if there is one
pub record IsReason (m : Module) (r : Reading) (reason : Option BenchError) : Type 0 where
  pub fault : Option BenchFault
  pub is_fault : IsFault m r fault
  pub told : reason ≡ answer fault (some_item is_design r.items.items) (some_item is_generator r.items.items)
