use Rattle.elab_finish.proofs.Common.{inl, sym, ◌∙◌}
use Rattle.std.proofs.lemmas.Result.{on_ok_weaker}
use Rattle.elab_finish.proofs.ordering.add_slot.Goals as goal

pub returns-then-is_register : goal.returns-then-is_register
returns-then-is_register c = on_ok_weaker c.push_slot.result (λ t. inl (t.0, t.1, sym c.is_register.ensures ∙ c.if-is_register.true, t.2)) c.push_slot.ensures
