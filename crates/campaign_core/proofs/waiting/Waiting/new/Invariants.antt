use Rattle.campaign_core.proofs.Common.{◌≡◌, ◌+◌, ◌*◌, ℕ, length, slice_get, Option, Some, IsLead, block_size}
use Rattle.campaign_core.proofs.waiting.Waiting.new.Given as goal

abbrev pub invariant-loop-block : goal.invariant-loop-block
invariant-loop-block l = record {
  count : length l.leads.items ≡ l.block;
  each : (b : ℕ) (lead : Option ℕ) → slice_get l.leads.items b ≡ Some lead → IsLead l.wants.items (block_size * b) (block_size * b + block_size) lead;
}
