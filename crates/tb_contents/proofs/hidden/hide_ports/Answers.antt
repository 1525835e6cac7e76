use Rattle.std.proofs.Common.{◌≡◌, ℕ, ◌+◌, ◌<◌, ◌∙◌, [], ◌∷◌, length, ap, refl, length-append, arith}
use Rattle.vlog_meaning.specs.Scopes.{names_of}
use Rattle.tb_contents.specs.Hidden.{hidden_names, numbers_from}
use Rattle.tb_contents.proofs.Listing.{port_hidden, port_numbered, ports_wide}
use Rattle.tb_contents.proofs.hidden.hide_ports.Goals as goal

pub loop-port-preserved : goal.loop-port-preserved
loop-port-preserved c =
    let d = c.args.design.now in
    let instance = c.args.instance.now in
    let ports = c.args.ports.now in
    let i = c.loop-port.port-index in
    let p = c.port-item.result in
    let at_start = c.args.signals.now in
    let before = c.loop-port.signals in
    let after = c.hide_port.new.signals in
    let hid = c.in_ok-hide_port.ensures in
    let inside : i < length ports = omega arith in
    let one_more : length after.widths ≡ length before.widths + 1 = ap (length {A = ℕ}) hid.widths ∙ length-append before.widths (length p.bits ∷ []) ∙ omega arith in
    record {
      names = port_hidden d instance (names_of before.scope) (names_of after.scope) (hidden_names d instance (names_of at_start.scope) (length at_start.widths) ports) (length before.widths) (length after.widths) ports i p inside c.port-item.is hid.names one_more c.loop-port.invariant.names;
      numbers = port_numbered c.loop-port.numbers.items c.push.new.self.items (numbers_from (length at_start.widths) ports) (length before.widths) (length after.widths) c.in_ok-hide_port.field-0 ports i p inside c.port-item.is c.in_ok-push.ensures.items hid.number one_more c.loop-port.invariant.numbers;
      widths = ports_wide at_start.widths before.widths after.widths (λ q. length q.bits) ports i p (length p.bits) inside c.port-item.is refl c.loop-port.invariant.widths hid.widths;
      values = ports_wide at_start.values before.values after.values (λ q. 0) ports i p 0 inside c.port-item.is refl c.loop-port.invariant.values hid.values;
    }
