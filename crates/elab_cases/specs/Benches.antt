-- Declared names, and a builder that has the signals.
use Rattle.vlog_meaning.specs.Scopes.{names_of}
use Rattle.net_builder.specs.Building.{HasSignals}
use Rattle.elab_proc.specs.Refusals.{AreSized}
use Rattle.flat_assigns.specs.Built.{IsReady}
use Rattle.elab_cases.specs.declared.bench.Bench.{Bench}

-- For proofs alone.

abbrev pub IsSound : Bench → Type 0
IsSound b = IsReady b.builder × HasSignals (names_of b.scope) b.builder × AreSized (names_of b.scope)
