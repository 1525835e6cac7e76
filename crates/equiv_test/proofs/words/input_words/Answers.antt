use Rattle.equiv_test.proofs.Common.{◌≡◌, ℕ, ◌+◌, ◌≤◌, List, [], length, get_or, sym, ◌∙◌, subst, arith, Word, Bit, bits_at, listed_values, wide-at}
use Rattle.equiv_test.proofs.Reading.{Laid, laid-room, laid-more, port-inside, port-at}
use Rattle.equiv_test.proofs.words.input_words.Goals as goal

pub word_from-requires-clause-wide : goal.word_from-requires-clause-wide
word_from-requires-clause-wide c =
    let all : List (List Bit) = bits_at c.args.ports.now in
    let i : ℕ = c.loop-port.port-index in
    let here : c.as_slice-width.result.now ≡ get_or all i [] = c.as_slice-width.ensures ∙ port-at c.args.ports.now i c.port-item.result c.loop-port-test.true c.port-item.is in
    subst (λ (b : List Bit). (1 ≤ length b) × (length b ≤ 128)) (sym here) (wide-at all i c.requires.wide (port-inside c.args.ports.now i c.loop-port-test.true))

pub word_from-requires-clause-few : goal.word_from-requires-clause-few
word_from-requires-clause-few c =
    let all : List (List Bit) = bits_at c.args.ports.now in
    let i : ℕ = c.loop-port.port-index in
    let here : c.as_slice-width.result.now ≡ get_or all i [] = c.as_slice-width.ensures ∙ port-at c.args.ports.now i c.port-item.result c.loop-port-test.true c.port-item.is in
    let room = laid-room (listed_values c.args.assignment.now) all c.args.next.now i c.loop-port.next c.loop-port.words.items c.loop-port.invariant c.as_slice-width.result.now (port-inside c.args.ports.now i c.loop-port-test.true) here in
    omega (arith, room, c.requires.few)

pub loop-port-preserved : goal.loop-port-preserved
loop-port-preserved c =
    let all : List (List Bit) = bits_at c.args.ports.now in
    let i : ℕ = c.loop-port.port-index in
    let here : c.as_slice-width.result.now ≡ get_or all i [] = c.as_slice-width.ensures ∙ port-at c.args.ports.now i c.port-item.result c.loop-port-test.true c.port-item.is in
    subst (λ (ws : List Word). Laid (listed_values c.args.assignment.now) all c.args.next.now (i + 1) (c.loop-port.next + length c.as_slice-width.result.now) ws) (sym {A = List Word} c.in_ok-push.ensures.items)
    (laid-more (listed_values c.args.assignment.now) all c.args.next.now i c.loop-port.next c.loop-port.words.items c.loop-port.invariant c.as_slice-width.result.now (port-inside c.args.ports.now i c.loop-port-test.true) here c.word_from.result c.word_from.ensures.width c.word_from.ensures.bits)
