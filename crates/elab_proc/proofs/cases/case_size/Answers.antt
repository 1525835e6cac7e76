use Rattle.elab_proc.proofs.Common.{◌∷◌, flat_map, names_of, labels_in, not_supported}
use Rattle.vlog_refusals.proofs.SizeLemmas.{are_whole}
use Rattle.elab_proc.proofs.cases.case_size.Goals as goal

pub case_size-requires : goal.case_size-requires
case_size-requires c = are_whole not_supported (names_of c.args.scope.now) (c.args.selector.now ∷ flat_map labels_in c.args.items.now) c.requires
