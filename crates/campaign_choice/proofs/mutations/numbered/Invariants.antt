use Rattle.campaign_choice.proofs.Common.{◌≡◌, slice_get, take, filter_map}
use Rattle.campaign_choice.proofs.mutations.numbered.Given as goal

abbrev pub invariant-loop-number : goal.invariant-loop-number
invariant-loop-number l = l.list.items ≡ filter_map (slice_get l.all) (take l.number-index l.numbers)
