use Rattle.gate_words.proofs.Common.{◌≡◌, [], ◌∷◌, ◌++◌, ◌∙◌, ap, sym, Bool, length, arith, GateLit, negated, ordered, top_negated}
use Rattle.gate_words.proofs.Adders.{top-pushed, top-empty}
use Rattle.gate_words.proofs.sums.ordered.Goals as goal
use Rattle.gate_words.proofs.sums.ordered.Goals.{then-signed+in-Some+in_ok-push, then-signed+in_default, else-signed}

pub returns : goal.returns
returns c = elim c.if-signed.branch [
  | then-signed+in-Some+in_ok-push w ↦
      let whole : c.args.bits.now ≡ w.pop.new.self.items ++ w.in-Some.top ∷ [] = sym c.in_ok-found.ensures.items ∙ w.in-Some.ensures.items in
      let turned : ordered c.args.signed c.args.bits.now ≡ w.pop.new.self.items ++ negated w.in-Some.top ∷ [] = ap (λ (s : Bool). ordered s c.args.bits.now) w.if-signed.true ∙ ap top_negated whole ∙ top-pushed w.pop.new.self.items w.in-Some.top in
      rw w.found-is (w.in_ok-push.ensures.items ∙ ap (λ (x : GateLit). w.pop.new.self.items ++ x ∷ []) w.negated.ensures ∙ sym turned)
  | then-signed+in_default w ↦
      let whole : c.args.bits.now ≡ w.pop.new.self.items ++ [] = sym c.in_ok-found.ensures.items ∙ w.in_default.ensures.items in
      let none : length c.args.bits.now ≡ 0 = omega (arith, c.in_ok-found.ensures.len, w.in_default.ensures.cases.0) in
      rw w.found-is (top-empty c.args.bits.now w.pop.new.self.items whole none ∙ sym (ap (λ (s : Bool). ordered s c.args.bits.now) w.if-signed.true))
  | else-signed w ↦ rw w.found-is (c.in_ok-found.ensures.items ∙ sym (ap (λ (s : Bool). ordered s c.args.bits.now) w.if-signed.false))
]
