-- The values that the free bits give to gates.
use Rattle.gate_list.proofs.Common.{◌≡◌, ◌≢◌, ℕ, suc, ◌+◌, ◌<◌, ◌⊎◌, inl, inr, Bool, true, false, not, List, [], ◌∷◌, length, refl, ap, sym, ◌∙◌, arith, ℤ, pos, negsuc, if◌then◌else◌, eqb, Values}
use Rattle.gate_list.proofs.Common.{value, Gate, And, Xor, Mux, IsLiteral, Reads, AreOrdered, gate_value, HoldFrom}
use Rattle.std.proofs.lemmas.Bool.Decides.{eqb_tells}
use Rattle.gate_list.specs.Laws.{AgreeUpTo, GatesHaveValues, GatesHaveOneValue}

-- the values, but for one variable
abbrev with_value : Values → ℕ → Bool → Values
with_value values v b = λ w. if eqb w v then b else values w

-- the values with those of gates, the first of which has this variable
abbrev lay : ℕ → List Gate → Values → Values
lay next [] values = values
lay next (gate ∷ more) values = lay (suc next) more (with_value values next (gate_value values gate))

with-other : (values : Values) (v w : ℕ) (b : Bool) → w < v → with_value values v b w ≡ values w
with-other values v w b less = by (eqb_tells w v) where
  by : ((eqb w v ≡ true) × (w ≡ v)) ⊎ ((eqb w v ≡ false) × (w ≢ v)) → with_value values v b w ≡ values w
  by (inl same) = absurd (omega (arith, less, same.1))
  by (inr other) = rw other.0 refl

with-this : (values : Values) (v : ℕ) (b : Bool) → with_value values v b v ≡ b
with-this values v b = by (eqb_tells v v) where
  by : ((eqb v v ≡ true) × (v ≡ v)) ⊎ ((eqb v v ≡ false) × (v ≢ v)) → with_value values v b v ≡ b
  by (inl same) = rw same.0 refl
  by (inr other) = absurd (other.1 refl)

lay-below : (next : ℕ) (gates : List Gate) (values : Values) (v : ℕ) → v < next → lay next gates values v ≡ values v
lay-below next [] values v less = refl
lay-below next (gate ∷ more) values v less = lay-below (suc next) more (with_value values next (gate_value values gate)) v (omega (arith, less)) ∙ with-other values next v (gate_value values gate) less

value-same : (most : ℕ) (values others : Values) (l : ℤ) → IsLiteral most l → AgreeUpTo most values others → value values l ≡ value others l
value-same most values others (pos n) is agree = agree n is.1
value-same most values others (negsuc n) is agree = ap not (agree (suc n) is.1)

gate-same : (most : ℕ) (values others : Values) (gate : Gate) → Reads most gate → AgreeUpTo most values others → gate_value values gate ≡ gate_value others gate
gate-same most values others (And a b) reads agree = rw (value-same most values others a reads.0 agree, value-same most values others b reads.1 agree) refl
gate-same most values others (Xor a b) reads agree = rw (value-same most values others a reads.0 agree, value-same most values others b reads.1 agree) refl
gate-same most values others (Mux s a b) reads agree = rw (value-same most values others s reads.0 agree, value-same most values others a reads.1 agree, value-same most values others b reads.2 agree) refl

lay-holds : (most : ℕ) (gates : List Gate) (values : Values) → AreOrdered most gates → HoldFrom (suc most) gates (lay (suc most) gates values)
lay-holds most [] values ordered = tt
lay-holds most (gate ∷ more) values ordered =
    let first : Values = with_value values (suc most) (gate_value values gate) in
    let agree : AgreeUpTo most values (lay (suc (suc most)) more first) = λ v le. sym (lay-below (suc (suc most)) more first v (omega (arith, le)) ∙ with-other values (suc most) v (gate_value values gate) (omega (arith, le))) in
    (lay-below (suc (suc most)) more first (suc most) (omega arith) ∙ (with-this values (suc most) (gate_value values gate) ∙ gate-same most values (lay (suc (suc most)) more first) gate ordered.0 agree), lay-holds (suc most) more first ordered.1)

pub have-values : GatesHaveValues
have-values gates start ordered = (lay (suc gates.free) gates.made start, (λ v le. lay-below (suc gates.free) gates.made start v (omega (arith, le))), lay-holds gates.free gates.made start ordered)

agree-next : (most : ℕ) (values others : Values) → AgreeUpTo most values others → values (suc most) ≡ others (suc most) → AgreeUpTo (suc most) values others
agree-next most values others agree last v le = by (eqb_tells v (suc most)) where
  by : ((eqb v (suc most) ≡ true) × (v ≡ suc most)) ⊎ ((eqb v (suc most) ≡ false) × (v ≢ suc most)) → values v ≡ others v
  by (inl same) = rw same.1 last
  by (inr other) = agree v (omega (arith, le, other.1))

one-from : (most : ℕ) (gates : List Gate) (values others : Values) → AreOrdered most gates → HoldFrom (suc most) gates values → HoldFrom (suc most) gates others → AgreeUpTo most values others → AgreeUpTo (most + length gates) values others
one-from most [] values others ordered hold also agree = λ v le. agree v (omega (arith, le))
one-from most (gate ∷ more) values others ordered hold also agree =
    let next : AgreeUpTo (suc most) values others = agree-next most values others agree (hold.0 ∙ (gate-same most values others gate ordered.0 agree ∙ sym also.0)) in
    λ v le. one-from (suc most) more values others ordered.1 hold.1 also.1 next v (omega (arith, le))

pub one-value : GatesHaveOneValue
one-value gates values others ordered hold also agree = one-from gates.free gates.made values others ordered hold also agree
