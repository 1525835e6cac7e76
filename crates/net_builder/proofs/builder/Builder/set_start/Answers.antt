use Rattle.net_builder.proofs.Common.{◌≡◌, ◌<◌, ℕ, List, length, get_or, [], ◌∙◌, ap, map-set, Word, Building, numbers_of, with_start}
use Rattle.net_builder.proofs.Starting.{widths_start}
use Rattle.net_builder.proofs.builder.Builder.set_start.Goals as goal

pub invariant_of-self : goal.invariant_of-self
invariant_of-self c =
    let i = c.self.invariant in
    let known : c.args.number < length c.self.inside.signals.items = rw (← c.self.view_is) at c.requires.known in
    let wide : c.args.start.width ≡ length (get_or c.self.inside.signals.items c.args.number []) = rw (← c.self.view_is) at c.requires.wide in
    (i.0, i.1, i.2, i.3, i.4, widths_start c.self.inside.starts.items c.self.inside.signals.items c.args.number c.args.start i.5 known wide, i.6, i.7)

pub returns : goal.returns
returns c =
    let v : Building = record { cells = c.self.inside.cells.items; joints = c.self.inside.joints.items; registers = c.self.inside.registers.items; declared = c.self.inside.declared.items; signals = c.self.inside.signals.items; starts = numbers_of c.self.inside.starts.items; nets = c.self.inside.nets } in
    ap (λ (starts : List ℕ). record v { starts = starts }) (map-set (λ (w : Word). w.bits) c.self.inside.starts.items c.args.number c.args.start) ∙ ap (with_start c.args.number c.args.start.bits) c.self.view_is
