use Rattle.tb_settling.proofs.Common.{names_of}
use Rattle.tb_settling.proofs.Scenes.{store_is}
use Rattle.tb_settling.proofs.pass.has_store.Goals as goal

pub returns : goal.returns
returns c = store_is (names_of c.args.scope.now) c.store.result.now c.args.scene.now c.store.ensures.values c.store.ensures.widths c.requires
