use Rattle.campaign_reading.proofs.Common.{◌≡◌, ◌++◌, drop, map, numbers_from}
use Rattle.campaign_reading.proofs.trials.numbers_in.Given as goal

abbrev pub invariant-loop-number : goal.invariant-loop-number
invariant-loop-number l = l.numbers.items ++ numbers_from l.number (map (λ file. file.name) (drop l.number l.files)) l.names ≡ numbers_from 0 (map (λ file. file.name) l.files) l.names
