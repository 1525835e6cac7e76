use Rattle.gate_words.proofs.Common.{◌≡◌, List, length, map, true, subst, sym, ap, ◌∙◌, arith, All, length-map, GateLit, Fixed, count, IsLit, Made, negated, ordered, carry_out, less_of}
use Rattle.gate_words.proofs.Growing.{lit-more, lit-told}
use Rattle.gate_words.proofs.Adders.{lits-negated, lits-ordered, length-ordered, less-carry, less-adds}
use Rattle.gate_words.proofs.sums.is_less.Goals as goal

pub negated_row-requires : goal.negated_row-requires
negated_row-requires c = subst (λ (l : List GateLit). All (IsLit (count c.args.gates.now)) l) (sym (c.deref.ensures.value ∙ c.in_ok-second.ensures)) (lits-ordered (count c.args.gates.now) c.args.signed c.args.b.now c.requires.b)

pub carry_out-requires-clause-room : goal.carry_out-requires-clause-room
carry_out-requires-clause-room c =
    let wide : length c.deref-2.result.now ≡ length c.args.a.now = ap length (c.deref-2.ensures.value ∙ c.in_ok-first.ensures) ∙ length-ordered c.args.signed c.args.a.now in
    omega (arith, wide, c.requires.room)

pub carry_out-requires-clause-a : goal.carry_out-requires-clause-a
carry_out-requires-clause-a c = subst (λ (l : List GateLit). All (IsLit (count c.args.gates.now)) l) (sym (c.deref-2.ensures.value ∙ c.in_ok-first.ensures)) (lits-ordered (count c.args.gates.now) c.args.signed c.args.a.now c.requires.a)

pub carry_out-requires-clause-b : goal.carry_out-requires-clause-b
carry_out-requires-clause-b c =
    let second : c.deref.result.now ≡ ordered c.args.signed c.args.b.now = c.deref.ensures.value ∙ c.in_ok-second.ensures in
    let flipped : c.deref-3.result.now ≡ map negated (ordered c.args.signed c.args.b.now) = c.deref-3.ensures.value ∙ c.in_ok-flipped.ensures ∙ ap (λ (l : List GateLit). map negated l) second in
    subst (λ (l : List GateLit). All (IsLit (count c.args.gates.now)) l) (sym flipped) (lits-negated (count c.args.gates.now) (ordered c.args.signed c.args.b.now) (lits-ordered (count c.args.gates.now) c.args.signed c.args.b.now c.requires.b))

pub carry_out-requires-clause-same : goal.carry_out-requires-clause-same
carry_out-requires-clause-same c =
    let wide : length c.deref-2.result.now ≡ length c.args.a.now = ap length (c.deref-2.ensures.value ∙ c.in_ok-first.ensures) ∙ length-ordered c.args.signed c.args.a.now in
    let second : length c.deref.result.now ≡ length c.args.b.now = ap length (c.deref.ensures.value ∙ c.in_ok-second.ensures) ∙ length-ordered c.args.signed c.args.b.now in
    let flipped : length c.deref-3.result.now ≡ length c.deref.result.now = ap length (c.deref-3.ensures.value ∙ c.in_ok-flipped.ensures) ∙ length-map c.deref.result.now negated in
    wide ∙ c.requires.same ∙ sym second ∙ sym flipped

pub negated-requires : goal.negated-requires
negated-requires c =
    let first : c.deref-2.result.now ≡ ordered c.args.signed c.args.a.now = c.deref-2.ensures.value ∙ c.in_ok-first.ensures in
    let second : c.deref.result.now ≡ ordered c.args.signed c.args.b.now = c.deref.ensures.value ∙ c.in_ok-second.ensures in
    let flipped : c.deref-3.result.now ≡ map negated (ordered c.args.signed c.args.b.now) = c.deref-3.ensures.value ∙ c.in_ok-flipped.ensures ∙ ap (λ (l : List GateLit). map negated l) second in
    let made = c.in_ok-carry.ensures ∙ ap (λ (l : List GateLit). carry_out c.args.gates.now l c.deref-3.result.now (Fixed true)) first ∙ ap (λ (l : List GateLit). carry_out c.args.gates.now (ordered c.args.signed c.args.a.now) l (Fixed true)) flipped in
    let adds = lit-told (carry_out c.args.gates.now (ordered c.args.signed c.args.a.now) (map negated (ordered c.args.signed c.args.b.now)) (Fixed true)) made (less-carry c.args.signed c.args.gates.now c.args.a.now c.args.b.now c.requires.a c.requires.b c.requires.same) in
    lit-more (count c.carry_out.new.gates) 2147483647 (omega (arith, c.free.ensures.few, c.len.ensures.few)) c.in_ok-carry.carry adds.within

pub returns-clause-adds : goal.returns-clause-adds
returns-clause-adds c =
    let first : c.deref-2.result.now ≡ ordered c.args.signed c.args.a.now = c.deref-2.ensures.value ∙ c.in_ok-first.ensures in
    let second : c.deref.result.now ≡ ordered c.args.signed c.args.b.now = c.deref.ensures.value ∙ c.in_ok-second.ensures in
    let flipped : c.deref-3.result.now ≡ map negated (ordered c.args.signed c.args.b.now) = c.deref-3.ensures.value ∙ c.in_ok-flipped.ensures ∙ ap (λ (l : List GateLit). map negated l) second in
    let made = c.in_ok-carry.ensures ∙ ap (λ (l : List GateLit). carry_out c.args.gates.now l c.deref-3.result.now (Fixed true)) first ∙ ap (λ (l : List GateLit). carry_out c.args.gates.now (ordered c.args.signed c.args.a.now) l (Fixed true)) flipped in
    lit-told (less_of c.args.signed c.args.gates.now c.args.a.now c.args.b.now) (ap (λ (x : GateLit). record { gates = c.carry_out.new.gates; lit = x }) c.negated.ensures ∙ ap (λ (m : Made). record { gates = m.gates; lit = negated m.lit }) made) (less-adds c.args.signed c.args.gates.now c.args.a.now c.args.b.now c.requires.a c.requires.b c.requires.same)
