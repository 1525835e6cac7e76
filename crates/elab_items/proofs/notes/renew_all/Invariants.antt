use Rattle.elab_items.proofs.Common.{◌≡◌, length, take, AreRenewed}
use Rattle.elab_items.proofs.notes.renew_all.Given as goal

abbrev pub invariant-loop-number : goal.invariant-loop-number
invariant-loop-number l = record {
  count : length l.written.items ≡ length l.builder.signals;
  renewed : AreRenewed l.builder l.inputs (take l.number-index l.numbers) l.fn.written.items l.written.items;
}
