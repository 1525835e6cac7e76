use Rattle.std.proofs.Common.{◌≡◌, map, take}
use Rattle.tb_signals.proofs.table.zeros.Given as goal

abbrev pub invariant-loop-signal : goal.invariant-loop-signal
invariant-loop-signal l = record {
  widths : map (λ w. w.width) l.words.items ≡ map (λ s. s.bits.width) (take l.signal-index l.signals);
  bits : map (λ w. w.bits) l.words.items ≡ map (λ s. 0) (take l.signal-index l.signals);
}
