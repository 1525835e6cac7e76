use Rattle.gate_words.proofs.Common.{◌≡◌, ◌+◌, ◌-◌, ◌*◌, ◌≤◌, List, length, take, drop, ap, sym, ◌∙◌, ◌⊎◌, inl, inr, arith, take_rest, length-drop, number, GateLit, lit_value, AddsBits, lit_values}
use Rattle.gate_words.proofs.Common.{moved, past_end, shift_of}
use Rattle.std.proofs.lemmas.Result.{IfOk-weaker}
use Rattle.gate_words.proofs.Growing.{grown-length, row-told}
use Rattle.gate_words.proofs.ShiftLemmas.{shift-done, shifted-adds}
use Rattle.gate_words.proofs.shifts.shifted.Goals as goal
use Rattle.gate_words.proofs.shifts.shifted.Goals.{then-loop-place-test+else-weight-bits, else-loop-place-test}

pub past_end-requires-clause-room : goal.past_end-requires-clause-room
past_end-requires-clause-room c =
    let part : length (take (length c.args.places.now - c.loop-place.place) (drop c.loop-place.place c.args.places.now)) ≡ length c.args.places.now - c.loop-place.place = ap (λ (l : List GateLit). length l) (take_rest c.args.places.now c.loop-place.place) ∙ length-drop c.loop-place.place c.args.places.now in
    let wide : length c.deref-2.result.now ≡ length c.args.bits.now = ap (λ (l : List GateLit). length l) c.deref-2.ensures.value ∙ c.loop-place.invariant.wide in
    let grown = (grown-length c.loop-place.invariant.grows).1 in
    omega (arith, part, wide, grown, c.loop-place.invariant.reached, c.requires.room, c.requires.narrow, c.requires.short)

pub returns-clause-made : goal.returns-clause-made
returns-clause-made c =
    let stop : (length c.args.places.now ≤ c.loop-place.place) ⊎ (length c.args.bits.now ≤ c.loop-place.weight) = elim c.loop-place-test.branch [ then-loop-place-test+else-weight-bits w ↦ inr w.if-weight-bits.false | else-loop-place-test w ↦ inl w.loop-place-test.false ] in
    let whole = shift-done c.args.way c.args.fill c.args.gates.now c.loop-place.gates c.args.bits.now c.args.places.now c.loop-place.place c.loop-place.weight c.loop-place.found.items c.loop-place.invariant stop in
    IfOk-weaker c.past_end.result
    (λ found. record { gates = c.past_end.new.gates; bits = found.items } ≡ past_end c.loop-place.gates c.args.fill c.deref-2.result.now (take (length c.args.places.now - c.loop-place.place) (drop c.loop-place.place c.args.places.now)))
    (λ found. record { gates = c.past_end.new.gates; bits = found.items } ≡ shift_of c.args.way c.args.fill c.args.gates.now c.args.bits.now c.args.places.now)
    (λ found made.
    made
    ∙ ap (λ (l : List GateLit). past_end c.loop-place.gates c.args.fill l (take (length c.args.places.now - c.loop-place.place) (drop c.loop-place.place c.args.places.now))) c.deref-2.ensures.value
    ∙ ap (λ (l : List GateLit). past_end c.loop-place.gates c.args.fill c.loop-place.found.items l) (take_rest c.args.places.now c.loop-place.place)
    ∙ sym whole)
    c.past_end.ensures

pub returns-clause-adds : goal.returns-clause-adds
returns-clause-adds c =
    IfOk-weaker c.past_end.result
    (λ found. record { gates = c.past_end.new.gates; bits = found.items } ≡ shift_of c.args.way c.args.fill c.args.gates.now c.args.bits.now c.args.places.now)
    (λ found. AddsBits c.args.gates.now c.past_end.new.gates found.items (length c.args.bits.now) (8 * length c.args.bits.now + length c.args.places.now) (λ values word. word ≡ moved c.args.way (number (lit_values values c.args.places.now)) (lit_value values c.args.fill) (lit_values values c.args.bits.now)))
    (λ found made. row-told (shift_of c.args.way c.args.fill c.args.gates.now c.args.bits.now c.args.places.now) made (shifted-adds c.args.way c.args.fill c.args.gates.now c.args.bits.now c.args.places.now c.requires.fill c.requires.bits c.requires.places c.requires.narrow))
    (returns-clause-made c)
