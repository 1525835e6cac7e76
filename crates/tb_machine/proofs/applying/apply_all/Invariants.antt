use Rattle.tb_machine.proofs.Common.{◌≡◌, map, drop, All, all_applied, Fits}
use Rattle.tb_machine.proofs.applying.apply_all.Given as goal

abbrev pub invariant-loop-update : goal.invariant-loop-update
invariant-loop-update l = record {
  widths : map (λ w. w.width) l.words.items ≡ map (λ w. w.width) l.initial.words.items;
  bits : all_applied (map (λ w. w.bits) l.words.items) (drop l.update-index l.updates) ≡ all_applied (map (λ w. w.bits) l.initial.words.items) l.updates;
  fit : All (Fits (map (λ w. w.width) l.words.items)) (drop l.update-index l.updates);
}
