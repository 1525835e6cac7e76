use Rattle.tb_writers.proofs.Common.{ℕ, ◌||◌, slice_index_or, ap, ◌∙◌, has_bit}
use Rattle.signal_masks.proofs.Bits.{has_or}
use Rattle.tb_writers.proofs.writers.Writers.taken.Goals as goal

pub returns-in-Net : goal.returns-in-Net
returns-in-Net c = λ i. rw c.in-Net.is (has_or c.mask.result c.mask-in-Net.result i ∙ ap (λ (m : ℕ). has_bit m i || has_bit c.mask-in-Net.result i) c.mask.ensures ∙ ap (λ (m : ℕ). has_bit (slice_index_or c.args.self.now.nets c.args.number 0) i || has_bit m i) c.mask-in-Net.ensures)
