use Rattle.std.proofs.Common.{◌≡◌, ◌+◌, ◌≤◌, drop}
use Rattle.script_lines.specs.Parting.{front_len}
use Rattle.script_lines.proofs.parting.front_len.Given as goal

abbrev pub invariant-loop-i : goal.invariant-loop-i
invariant-loop-i g l = record {
  value : l.i + front_len (g.S.Sign.signs l.sign) l.opened (drop l.i l.tokens) ≡ front_len (g.S.Sign.signs l.sign) 0 l.tokens;
  opened : l.opened ≤ l.i;
}
