-- What the code's context and its notes stand for.
use Rattle.std.specs.Prelude.{◌≡◌, List, option_copied}
use Rattle.vlog_meaning.specs.Scopes.{names_of}
use Rattle.tb_items.specs.declared.item.BenchItem.{BenchItem}
use Rattle.tb_writers.specs.Views.{written_of}
use Rattle.tb_refusals.specs.declared.context.Context as code
use Rattle.tb_refusals.specs.declared.seen.Seen.{Seen}
use Rattle.tb_refusals.specs.Refusals.{Context, is_generator, is_design, is_start, some_item, written}

abbrev pub context_of : code.Context → Context
context_of c = record { names = names_of c.scope.now; signals = c.signals.now; clock = option_copied c.clock; is_free = c.is_free; outputs = c.outputs.now }

-- For proofs alone.

-- what was noted of these items
pub record HasSeen (c : Context) (before : List BenchItem) (s : Seen) : Type 0 where
  pub generator : s.has_generator ≡ some_item is_generator before
  pub design : s.has_design ≡ some_item is_design before
  pub start : s.has_start ≡ some_item (is_start c) before
  pub writes : written_of s.writers ≡ written c before
