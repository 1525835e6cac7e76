use Rattle.tb_evaluator.proofs.Common.{store_of}
use Rattle.tb_evaluator.proofs.Served.{same_store}
use Rattle.tb_evaluator.proofs.Planning.{transferred, drawn}
use Rattle.tb_evaluator.proofs.planned.update_planned.Goals as goal

pub returns-in-Transfer : goal.returns-in-Transfer
returns-in-Transfer c = transferred c.args.writing.now c.in-Transfer.transfer c.args.scene.now (store_of c.store.result.now) _ c.in-Transfer.is c.update.ensures (same_store c.store.result.now c.args.scene.now c.store.ensures.values)

pub returns-in_ok-words-in-Draw : goal.returns-in_ok-words-in-Draw
returns-in_ok-words-in-Draw c = drawn c.args.writing.now c.in-Draw.draw c.args.scene.now c.set_words.new.self (store_of c.store-in-Draw.result.now) c.in_ok-words-in-Draw.words c.update-update.new.words _ c.in-Draw.is c.update-update.ensures (same_store c.store-in-Draw.result.now c.args.scene.now c.store-in-Draw.ensures.values) c.in_ok-words-in-Draw.ensures c.set_words.ensures
