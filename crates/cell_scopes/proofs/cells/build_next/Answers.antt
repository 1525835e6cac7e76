use Rattle.cell_scopes.proofs.Common.{flat_of, built_count, builds_stand}
use Rattle.cell_scopes.proofs.Counted.{item_widths}
use Rattle.cell_scopes.proofs.cells.build_next.Goals as goal

pub returns-in-Ok-clause-stands : goal.returns-in-Ok-clause-stands
returns-in-Ok-clause-stands c =
    builds_stand _ (flat_of c.args.flat.now).places c.args.item.now c.args.builder.now c.build_item.new.builder c.in-Ok.ensures.built c.requires.stands

pub returns-in-Ok-clause-widths : goal.returns-in-Ok-clause-widths
returns-in-Ok-clause-widths c =
    item_widths _ (flat_of c.args.flat.now).places c.args.item.now c.args.builder.now c.build_item.new.builder c.in-Ok.ensures.built

pub returns-in-Ok-clause-cells : goal.returns-in-Ok-clause-cells
returns-in-Ok-clause-cells c =
    built_count _ (flat_of c.args.flat.now).places c.args.item.now c.args.builder.now c.build_item.new.builder c.in-Ok.ensures.built
