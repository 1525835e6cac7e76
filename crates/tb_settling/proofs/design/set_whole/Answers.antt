use Rattle.tb_settling.proofs.Planning.{set_applies}
use Rattle.tb_settling.proofs.design.set_whole.Goals as goal

pub returns : goal.returns
returns c = set_applies c.store.result.now c.args.scene.now c.store.ensures.values c.store.ensures.widths c.args.signal c.args.word.width c.args.word.bits c.requires.width c.set.new.self c.set.ensures
