use Rattle.std.proofs.Common.{◌≡◌, ◌++◌, map, length, take, drop}
use Rattle.vlog_meaning.specs.Scopes.{names_of}
use Rattle.tb_contents.specs.Hidden.{hidden_names, numbers_from, port_widths}
use Rattle.tb_contents.proofs.hidden.hide_ports.Given as goal

abbrev pub invariant-loop-port : goal.invariant-loop-port
invariant-loop-port l = record {
  names : hidden_names l.design l.instance (names_of l.signals.scope) (length l.signals.widths) (drop l.port-index l.ports) ≡ hidden_names l.design l.instance (names_of l.fn.signals.scope) (length l.fn.signals.widths) l.ports;
  numbers : l.numbers.items ++ numbers_from (length l.signals.widths) (drop l.port-index l.ports) ≡ numbers_from (length l.fn.signals.widths) l.ports;
  widths : l.signals.widths ≡ l.fn.signals.widths ++ port_widths (take l.port-index l.ports);
  values : l.signals.values ≡ l.fn.signals.values ++ map (λ p. 0) (take l.port-index l.ports);
}
