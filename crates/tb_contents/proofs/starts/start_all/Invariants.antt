use Rattle.std.proofs.Common.{◌≡◌, drop}
use Rattle.vlog_meaning.specs.Scopes.{names_of}
use Rattle.tb_contents.specs.Starts.{started}
use Rattle.tb_contents.proofs.starts.start_all.Given as goal

abbrev pub invariant-loop-item : goal.invariant-loop-item
invariant-loop-item l = record {
  scope : l.signals.scope ≡ l.fn.signals.scope;
  widths : l.signals.widths ≡ l.fn.signals.widths;
  values : started (names_of l.fn.signals.scope) l.fn.signals.widths l.signals.values (drop l.item-index l.items) ≡ started (names_of l.fn.signals.scope) l.fn.signals.widths l.fn.signals.values l.items;
}
