use Rattle.net_builder.proofs.Common.{◌<◌, length, ◌∙◌, ap, Word, Building, signal}
use Rattle.net_builder.proofs.Starting.{widths_at}
use Rattle.net_builder.proofs.builder.Builder.start.Goals as goal

pub returns-clause-width : goal.returns-clause-width
returns-clause-width c =
    let known : c.args.number < length c.self.inside.signals.items = rw (← c.self.view_is) at c.requires in
    ap (λ (w : Word). w.width) c.index.ensures ∙ widths_at c.self.inside.starts.items c.self.inside.signals.items c.args.number c.index.result.now c.self.invariant.5 known ∙ ap (λ (b : Building). length (signal b c.args.number)) c.self.view_is
