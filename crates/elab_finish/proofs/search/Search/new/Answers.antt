use Rattle.elab_finish.proofs.Common.{next_of}
use Rattle.elab_finish.proofs.Searching.{settled_none}
use Rattle.elab_finish.proofs.search.Search.new.Goals as goal

pub returns : goal.returns
returns c = settled_none (next_of c.args.builder.now) c.args.limit c.in_ok-marks.marks.items (c.in_ok-marks.ensures.items_if_clones_equal (λ y h. h)) c.requires
