use Rattle.equiv_test.proofs.Common.{◌≡◌, ℕ, ◌+◌, ◌≤◌, List, [], length, get_or, sym, ◌∙◌, subst, arith, Word, Bit, q_bits, listed_values, wide-at}
use Rattle.equiv_test.proofs.Reading.{Laid, laid-room, laid-more, register-inside, register-at}
use Rattle.equiv_test.proofs.words.register_words.Goals as goal

pub word_from-requires-clause-wide : goal.word_from-requires-clause-wide
word_from-requires-clause-wide c =
    let all : List (List Bit) = q_bits c.args.registers.now in
    let i : ℕ = c.loop-register.register-index in
    let here : c.as_slice-width.result.now ≡ get_or all i [] = c.as_slice-width.ensures ∙ register-at c.args.registers.now i c.register-item.result c.loop-register-test.true c.register-item.is in
    subst (λ (b : List Bit). (1 ≤ length b) × (length b ≤ 128)) (sym here) (wide-at all i c.requires.wide (register-inside c.args.registers.now i c.loop-register-test.true))

pub word_from-requires-clause-few : goal.word_from-requires-clause-few
word_from-requires-clause-few c =
    let all : List (List Bit) = q_bits c.args.registers.now in
    let i : ℕ = c.loop-register.register-index in
    let here : c.as_slice-width.result.now ≡ get_or all i [] = c.as_slice-width.ensures ∙ register-at c.args.registers.now i c.register-item.result c.loop-register-test.true c.register-item.is in
    let room = laid-room (listed_values c.args.assignment.now) all c.args.first i c.loop-register.next c.loop-register.words.items c.loop-register.invariant c.as_slice-width.result.now (register-inside c.args.registers.now i c.loop-register-test.true) here in
    omega (arith, room, c.requires.few)

pub loop-register-preserved : goal.loop-register-preserved
loop-register-preserved c =
    let all : List (List Bit) = q_bits c.args.registers.now in
    let i : ℕ = c.loop-register.register-index in
    let here : c.as_slice-width.result.now ≡ get_or all i [] = c.as_slice-width.ensures ∙ register-at c.args.registers.now i c.register-item.result c.loop-register-test.true c.register-item.is in
    subst (λ (ws : List Word). Laid (listed_values c.args.assignment.now) all c.args.first (i + 1) (c.loop-register.next + length c.as_slice-width.result.now) ws) (sym {A = List Word} c.in_ok-push.ensures.items)
    (laid-more (listed_values c.args.assignment.now) all c.args.first i c.loop-register.next c.loop-register.words.items c.loop-register.invariant c.as_slice-width.result.now (register-inside c.args.registers.now i c.loop-register-test.true) here c.word_from.result c.word_from.ensures.width c.word_from.ensures.bits)
