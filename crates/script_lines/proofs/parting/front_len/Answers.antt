use Rattle.std.proofs.Common.{◌∙◌, sym, arith}
use Rattle.script_lines.proofs.Fronts.{front_end, front_here, front_next}
use Rattle.script_lines.proofs.parting.front_len.Goals as goal

pub returns-then-parts_here-clause-value : goal.returns-then-parts_here-clause-value
returns-then-parts_here-clause-value g c = omega (arith, c.loop-i.invariant.value, front_here (g.S.Sign.signs c.args.sign) c.loop-i.opened c.args.tokens.now c.loop-i.i c.index-tokens-i.result (omega arith) c.index-tokens-i.is (sym c.parts_here.ensures ∙ c.if-parts_here.true))

pub loop-i-preserved : goal.loop-i-preserved
loop-i-preserved g c = record {
  value = rw c.open_behind-opened.ensures.value (omega (arith, c.loop-i.invariant.value, front_next (g.S.Sign.signs c.args.sign) c.loop-i.opened c.args.tokens.now c.loop-i.i c.index-tokens-i.result (omega arith) c.index-tokens-i.is (sym c.parts_here.ensures ∙ c.if-parts_here.false)));
  opened = omega (arith, c.open_behind-opened.ensures.one, c.loop-i.invariant.opened);
}

pub returns-clause-value : goal.returns-clause-value
returns-clause-value g c = omega (arith, c.loop-i.invariant.value, front_end (g.S.Sign.signs c.args.sign) c.loop-i.opened c.args.tokens.now c.loop-i.i (omega arith))
