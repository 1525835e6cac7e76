-- What stands at its place in another list.
use Rattle.pair_gates.proofs.Common.{◌≡◌, ℕ, suc, List, [], ◌∷◌, Option, Some, None, refl, sym, subst, inl, inr, arith, MatchOption, Port, Register, RawNetlist, Named, AllStand, IsFirstAlone}
use Rattle.pair_gates.proofs.Common.{ports_named, registers_named, PortsDiffer, RegistersDiffer, HaveSamePorts, HaveSameRegisters}
use Rattle.std.proofs.lemmas.Option.{same_Some, none-some}

-- lists in which each item stands in the other are the same
pub stand-same : (xs ys : List Named) → AllStand xs ys → AllStand ys xs → xs ≡ ys
stand-same [] [] all also = refl
stand-same [] (y ∷ ys) all also = absurd (none-some y (also 0 (omega arith)))
stand-same (x ∷ xs) [] all also = absurd (none-some x (all 0 (omega arith)))
stand-same (x ∷ xs) (y ∷ ys) all also =
    let head : x ≡ y = sym (same_Some y x (all 0 (omega arith))) in
    let tail : xs ≡ ys = stand-same xs ys (λ i inside. all (suc i) (omega (arith, inside))) (λ i inside. also (suc i) (omega (arith, inside))) in
    λ i. head i ∷ tail i

-- What a comparison found, of lists that are the slices that were compared.
abbrev pub Told : List Named → List Named → Option (List ℕ) → Type 0
Told xs ys found = MatchOption found (AllStand xs ys) (IsFirstAlone xs ys)

none-stood : (xs ys : List Named) (found : Option (List ℕ)) → found ≡ None → Told xs ys found → AllStand xs ys
none-stood xs ys None e told = told
none-stood xs ys (Some name) e told = absurd (none-some name (sym e))

pub ports-told : (xs us ys vs : List Port) → xs ≡ us → ys ≡ vs → (found : Option (List ℕ)) → Told (ports_named xs) (ports_named ys) found → Told (ports_named us) (ports_named vs) found
ports-told xs us ys vs is also found told =
    subst (λ (l : List Port). Told (ports_named l) (ports_named vs) found) is (subst (λ (l : List Port). Told (ports_named xs) (ports_named l) found) also told)

pub ports-stood : (xs us ys vs : List Port) → xs ≡ us → ys ≡ vs → (found : Option (List ℕ)) → found ≡ None → Told (ports_named xs) (ports_named ys) found → AllStand (ports_named us) (ports_named vs)
ports-stood xs us ys vs is also found none told = none-stood (ports_named us) (ports_named vs) found none (ports-told xs us ys vs is also found told)

pub registers-told : (xs us ys vs : List Register) → xs ≡ us → ys ≡ vs → (found : Option (List ℕ)) → Told (registers_named xs) (registers_named ys) found → Told (registers_named us) (registers_named vs) found
registers-told xs us ys vs is also found told =
    subst (λ (l : List Register). Told (registers_named l) (registers_named vs) found) is (subst (λ (l : List Register). Told (registers_named xs) (registers_named l) found) also told)

pub registers-stood : (xs us ys vs : List Register) → xs ≡ us → ys ≡ vs → (found : Option (List ℕ)) → found ≡ None → Told (registers_named xs) (registers_named ys) found → AllStand (registers_named us) (registers_named vs)
registers-stood xs us ys vs is also found none told = none-stood (registers_named us) (registers_named vs) found none (registers-told xs us ys vs is also found told)

-- The last comparison of ports, where all stood in the ones before.
pub last-port : (a b : RawNetlist) (found : Option (List ℕ)) → AllStand (ports_named a.inputs) (ports_named b.inputs) → AllStand (ports_named a.outputs) (ports_named b.outputs) → AllStand (ports_named b.inputs) (ports_named a.inputs) → MatchOption found (AllStand (ports_named b.outputs) (ports_named a.outputs)) (IsFirstAlone (ports_named b.outputs) (ports_named a.outputs)) → MatchOption found (HaveSamePorts a b) (PortsDiffer a b)
last-port a b None first second third last = record { inputs = stand-same (ports_named a.inputs) (ports_named b.inputs) first third; outputs = stand-same (ports_named a.outputs) (ports_named b.outputs) second last }
last-port a b (Some name) first second third last = inr (first, inr (second, inr (third, inl last)))

-- and of registers
pub last-register : (a b : RawNetlist) (found : Option (List ℕ)) → AllStand (registers_named a.registers) (registers_named b.registers) → MatchOption found (AllStand (registers_named b.registers) (registers_named a.registers)) (IsFirstAlone (registers_named b.registers) (registers_named a.registers)) → MatchOption found (HaveSameRegisters a b) (RegistersDiffer a b)
last-register a b None first last = stand-same (registers_named a.registers) (registers_named b.registers) first last
last-register a b (Some name) first last = inr (first, inl last)
