-- What each operation adds.
use Rattle.gate_list.proofs.Common.{◌≡◌, ℕ, zero, suc, ◌<◌, Bool, true, false, not, [], ◌∷◌, length, get_or, refl, ap, sym, subst, ◌∙◌, arith, true≢false, ℤ, pos, negsuc, neg_ℤ, int_eq, if◌then◌else◌}
use Rattle.gate_list.proofs.Common.{nat_le, list_any, position_or_len, signed_Decides, length-append, append-nil, variable, Values, value, Gate, And, Xor, Mux, GateLit, Gates, count, IsLiteral, IsLit}
use Rattle.gate_list.proofs.Common.{Reads, lit_value, gate_value, Adds, Made, negated, negated_if, same_gate, with_gate, and_of, or_of, xor_gate, differ_in_sign, xor_of, mux_at, same_lit, mux_of}
use Rattle.gate_list.specs.declared.literal.GateLit.TheVariants.{Fixed, Var}
use Rattle.gate_list.proofs.Same.{same-equal, first-passes, none-passes}
use Rattle.gate_list.proofs.Values.{hold-at, hold-last}

not-not : (b : Bool) → not (not b) ≡ b
not-not true = refl
not-not false = refl

pub value-neg : (values : Values) (l : ℤ) → 0 < variable l → value values (neg_ℤ l) ≡ not (value values l)
value-neg values (pos zero) some = absurd (omega (arith, some))
value-neg values (pos (suc n)) some = refl
value-neg values (negsuc n) some = sym (not-not (values (suc n)))

pub variable-neg : (l : ℤ) → variable (neg_ℤ l) ≡ variable l
variable-neg (pos zero) = refl
variable-neg (pos (suc n)) = refl
variable-neg (negsuc n) = refl

pub literal-neg : (most : ℕ) (l : ℤ) → IsLiteral most l → IsLiteral most (neg_ℤ l)
literal-neg most l is = rw (variable-neg l) is

pub lit-negated : (most : ℕ) (x : GateLit) → IsLit most x → IsLit most (negated x)
lit-negated most (Fixed b) is = tt
lit-negated most (Var l) is = literal-neg most l is

pub value-negated : (most : ℕ) (values : Values) (x : GateLit) → IsLit most x → lit_value values (negated x) ≡ not (lit_value values x)
value-negated most values (Fixed b) is = refl
value-negated most values (Var l) is = value-neg values l is.0

pub adds-none : (gates : Gates) (x : GateLit) → IsLit (count gates) x → Adds gates gates x (λ values. lit_value values x)
adds-none gates x is = record { free = refl; added = []; grown = sym (append-nil gates.made); one = omega arith; within = is; is = λ values holds. refl }

pub adds-as : (old new : Gates) (x : GateLit) (f g : Values → Bool) → ((values : Values) → f values ≡ g values) → Adds old new x f → Adds old new x g
adds-as old new x f g same adds = record { free = adds.free; added = adds.added; grown = adds.grown; one = adds.one; within = adds.within; is = λ values holds. adds.is values holds ∙ same values }

pub adds-negated : (old new : Gates) (x : GateLit) (f : Values → Bool) → Adds old new x f → Adds old new (negated x) (λ values. not (f values))
adds-negated old new x f adds = record { free = adds.free; added = adds.added; grown = adds.grown; one = adds.one; within = lit-negated (count new) x adds.within; is = λ values holds. value-negated (count new) values x adds.within ∙ ap not (adds.is values holds) }

-- a gate that is there, or is added
pub adds-gate : (gates : Gates) (gate : Gate) → Reads (count gates) gate → Adds gates (with_gate gates gate).gates (with_gate gates gate).lit (λ values. gate_value values gate)
adds-gate gates gate reads = by (list_any (same_gate gate) gates.made) refl where
  by : (b : Bool) → list_any (same_gate gate) gates.made ≡ b → Adds gates (with_gate gates gate).gates (with_gate gates gate).lit (λ values. gate_value values gate)
  by true there =
      let found : (position_or_len (same_gate gate) gates.made < length gates.made) × (same_gate gate (get_or gates.made (position_or_len (same_gate gate) gates.made) gate) ≡ true) = first-passes (same_gate gate) gates.made gate there in
      let equal : gate ≡ get_or gates.made (position_or_len (same_gate gate) gates.made) gate = same-equal gate (get_or gates.made (position_or_len (same_gate gate) gates.made) gate) found.1 in
      rw there (record {
        free = refl;
        added = [];
        grown = sym (append-nil gates.made);
        one = omega arith;
        within = (omega arith, omega (arith, found.0));
        is = λ values holds. ap values (omega arith) ∙ hold-at (suc gates.free) gates.made values (position_or_len (same_gate gate) gates.made) gate holds found.0 ∙ ap (gate_value values) (sym equal);
      })
  by false absent =
      let at : position_or_len (same_gate gate) gates.made ≡ length gates.made = none-passes (same_gate gate) gates.made absent in
      rw (absent, at) (record {
        free = refl;
        added = gate ∷ [];
        grown = refl;
        one = omega arith;
        within = (omega arith, simp (length-append) (omega arith));
        is = λ values holds. ap values (omega arith) ∙ hold-last (suc gates.free) gates.made gate values holds;
      })

and-false : (b : Bool) → false ≡ (if b then false else false)
and-false true = refl
and-false false = refl

and-true : (b : Bool) → b ≡ (if b then true else false)
and-true true = refl
and-true false = refl

and-same : (b : Bool) → b ≡ (if b then b else false)
and-same true = refl
and-same false = refl

and-not : (b : Bool) → false ≡ (if not b then b else false)
and-not true = refl
and-not false = refl

and-turned : (a b : Bool) → (if b then a else false) ≡ (if a then b else false)
and-turned true true = refl
and-turned true false = refl
and-turned false true = refl
and-turned false false = refl

pub adds-and : (gates : Gates) (a b : GateLit) → IsLit (count gates) a → IsLit (count gates) b → Adds gates (and_of gates a b).gates (and_of gates a b).lit (λ values. if lit_value values a then lit_value values b else false)
adds-and gates (Fixed false) b is also = adds-none gates (Fixed false) tt
adds-and gates (Fixed true) b is also = adds-none gates b also
adds-and gates (Var a) (Fixed false) is also = adds-as gates gates (Fixed false) (λ values. false) (λ values. if value values a then false else false) (λ values. and-false (value values a)) (adds-none gates (Fixed false) tt)
adds-and gates (Var a) (Fixed true) is also = adds-as gates gates (Var a) (λ values. value values a) (λ values. if value values a then true else false) (λ values. and-true (value values a)) (adds-none gates (Var a) is)
adds-and gates (Var a) (Var b) is also = by (int_eq a b) refl (int_eq a (neg_ℤ b)) refl (nat_le (variable a) (variable b)) refl where
  result : Type 0
  result = Adds gates (and_of gates (Var a) (Var b)).gates (and_of gates (Var a) (Var b)).lit (λ values. if value values a then value values b else false)

  by : (same : Bool) → int_eq a b ≡ same → (turned : Bool) → int_eq a (neg_ℤ b) ≡ turned → (ordered : Bool) → nat_le (variable a) (variable b) ≡ ordered → result
  by true same turned turn ordered order =
      let equal : a ≡ b = (signed_Decides a b).0 same in
      rw same (adds-as gates gates (Var a) (λ values. value values a) (λ values. if value values a then value values b else false) (λ values. subst (λ l. value values a ≡ (if value values a then value values l else false)) equal (and-same (value values a))) (adds-none gates (Var a) is))
  by false same true turn ordered order =
      let equal : a ≡ neg_ℤ b = (signed_Decides a (neg_ℤ b)).0 turn in
      rw (same, turn) (adds-as gates gates (Fixed false) (λ values. false) (λ values. if value values a then value values b else false) (λ values. rw (equal, value-neg values b also.0) (and-not (value values b))) (adds-none gates (Fixed false) tt))
  by false same false turn true order = rw (same, turn, order) (adds-gate gates (And a b) (is, also))
  by false same false turn false order = rw (same, turn, order) (adds-as gates (with_gate gates (And b a)).gates (with_gate gates (And b a)).lit (λ values. if value values b then value values a else false) (λ values. if value values a then value values b else false) (λ values. and-turned (value values a) (value values b)) (adds-gate gates (And b a) (also, is)))

or-morgan : (a b : Bool) → not (if not a then not b else false) ≡ (if a then true else b)
or-morgan true b = refl
or-morgan false b = not-not b

pub adds-or : (gates : Gates) (a b : GateLit) → IsLit (count gates) a → IsLit (count gates) b → Adds gates (or_of gates a b).gates (or_of gates a b).lit (λ values. if lit_value values a then true else lit_value values b)
adds-or gates a b is also =
    let made : Made = and_of gates (negated a) (negated b) in
    let inner = adds-and gates (negated a) (negated b) (lit-negated (count gates) a is) (lit-negated (count gates) b also) in
    adds-as gates made.gates (negated made.lit) (λ values. not (if lit_value values (negated a) then lit_value values (negated b) else false)) (λ values. if lit_value values a then true else lit_value values b)
    (λ values. rw (value-negated (count gates) values a is, value-negated (count gates) values b also) (or-morgan (lit_value values a) (lit_value values b)))
    (adds-negated gates made.gates made.lit (λ values. if lit_value values (negated a) then lit_value values (negated b) else false) inner)

xor-false : (b : Bool) → b ≡ (if b then not false else false)
xor-false true = refl
xor-false false = refl

xor-true : (b : Bool) → not b ≡ (if b then not true else true)
xor-true true = refl
xor-true false = refl

xor-same : (b : Bool) → false ≡ (if b then not b else b)
xor-same true = refl
xor-same false = refl

xor-not : (b : Bool) → true ≡ (if not b then not b else b)
xor-not true = refl
xor-not false = refl

xor-turned : (a b : Bool) → (if b then not a else a) ≡ (if a then not b else b)
xor-turned true true = refl
xor-turned true false = refl
xor-turned false true = refl
xor-turned false false = refl

xor-right : (a b : Bool) → not (if a then not b else b) ≡ (if a then not (not b) else not b)
xor-right true b = refl
xor-right false b = refl

xor-left : (a b : Bool) → not (if a then not b else b) ≡ (if not a then not b else b)
xor-left true b = not-not b
xor-left false b = refl

xor-both : (a b : Bool) → (if a then not b else b) ≡ (if not a then not (not b) else not b)
xor-both true b = refl
xor-both false b = sym (not-not b)

-- the gate of two variables in either order
adds-xor_gate : (gates : Gates) (m n : ℕ) → IsLiteral (count gates) (pos m) → IsLiteral (count gates) (pos n) → (ordered : Bool) → Adds gates (with_gate gates (if ordered then Xor (pos m) (pos n) else Xor (pos n) (pos m))).gates (with_gate gates (if ordered then Xor (pos m) (pos n) else Xor (pos n) (pos m))).lit (λ values. if values m then not (values n) else values n)
adds-xor_gate gates m n is also true = adds-gate gates (Xor (pos m) (pos n)) (is, also)
adds-xor_gate gates m n is also false = adds-as gates (with_gate gates (Xor (pos n) (pos m))).gates (with_gate gates (Xor (pos n) (pos m))).lit (λ values. if values n then not (values m) else values m) (λ values. if values m then not (values n) else values n) (λ values. xor-turned (values m) (values n)) (adds-gate gates (Xor (pos n) (pos m)) (also, is))

abbrev xor_made : Gates → ℤ → ℤ → Made
xor_made gates a b = let made = with_gate gates (xor_gate a b) in record made { lit = negated_if (differ_in_sign a b) made.lit }

adds-xor_made : (gates : Gates) (a b : ℤ) → IsLiteral (count gates) a → IsLiteral (count gates) b → Adds gates (xor_made gates a b).gates (xor_made gates a b).lit (λ values. if value values a then not (value values b) else value values b)
adds-xor_made gates (pos m) (pos n) is also = adds-xor_gate gates m n is also (nat_le m n)
adds-xor_made gates (pos m) (negsuc n) is also =
    let made : Made = with_gate gates (xor_gate (pos m) (negsuc n)) in
    adds-as gates made.gates (negated made.lit) (λ values. not (if values m then not (values (suc n)) else values (suc n))) (λ values. if values m then not (not (values (suc n))) else not (values (suc n))) (λ values. xor-right (values m) (values (suc n)))
    (adds-negated gates made.gates made.lit (λ values. if values m then not (values (suc n)) else values (suc n)) (adds-xor_gate gates m (suc n) is also (nat_le m (suc n))))
adds-xor_made gates (negsuc m) (pos n) is also =
    let made : Made = with_gate gates (xor_gate (negsuc m) (pos n)) in
    adds-as gates made.gates (negated made.lit) (λ values. not (if values (suc m) then not (values n) else values n)) (λ values. if not (values (suc m)) then not (values n) else values n) (λ values. xor-left (values (suc m)) (values n))
    (adds-negated gates made.gates made.lit (λ values. if values (suc m) then not (values n) else values n) (adds-xor_gate gates (suc m) n is also (nat_le (suc m) n)))
adds-xor_made gates (negsuc m) (negsuc n) is also =
    let made : Made = with_gate gates (xor_gate (negsuc m) (negsuc n)) in
    adds-as gates made.gates made.lit (λ values. if values (suc m) then not (values (suc n)) else values (suc n)) (λ values. if not (values (suc m)) then not (not (values (suc n))) else not (values (suc n))) (λ values. xor-both (values (suc m)) (values (suc n))) (adds-xor_gate gates (suc m) (suc n) is also (nat_le (suc m) (suc n)))

pub adds-xor : (gates : Gates) (a b : GateLit) → IsLit (count gates) a → IsLit (count gates) b → Adds gates (xor_of gates a b).gates (xor_of gates a b).lit (λ values. if lit_value values a then not (lit_value values b) else lit_value values b)
adds-xor gates (Fixed true) b is also = adds-negated gates gates b (λ values. lit_value values b) (adds-none gates b also)
adds-xor gates (Fixed false) b is also = adds-none gates b also
adds-xor gates (Var a) (Fixed true) is also = adds-as gates gates (negated (Var a)) (λ values. not (value values a)) (λ values. if value values a then not true else true) (λ values. xor-true (value values a)) (adds-negated gates gates (Var a) (λ values. value values a) (adds-none gates (Var a) is))
adds-xor gates (Var a) (Fixed false) is also = adds-as gates gates (Var a) (λ values. value values a) (λ values. if value values a then not false else false) (λ values. xor-false (value values a)) (adds-none gates (Var a) is)
adds-xor gates (Var a) (Var b) is also = by (int_eq a b) refl (int_eq a (neg_ℤ b)) refl where
  by : (same : Bool) → int_eq a b ≡ same → (turned : Bool) → int_eq a (neg_ℤ b) ≡ turned → Adds gates (xor_of gates (Var a) (Var b)).gates (xor_of gates (Var a) (Var b)).lit (λ values. if value values a then not (value values b) else value values b)
  by true same turned turn =
      let equal : a ≡ b = (signed_Decides a b).0 same in
      rw same (adds-as gates gates (Fixed false) (λ values. false) (λ values. if value values a then not (value values b) else value values b) (λ values. subst (λ l. false ≡ (if value values a then not (value values l) else value values l)) equal (xor-same (value values a))) (adds-none gates (Fixed false) tt))
  by false same true turn =
      let equal : a ≡ neg_ℤ b = (signed_Decides a (neg_ℤ b)).0 turn in
      rw (same, turn) (adds-as gates gates (Fixed true) (λ values. true) (λ values. if value values a then not (value values b) else value values b) (λ values. rw (equal, value-neg values b also.0) (xor-not (value values b))) (adds-none gates (Fixed true) tt))
  by false same false turn = rw (same, turn) (adds-xor_made gates a b is also)

mux-same : (s b : Bool) → b ≡ (if s then b else b)
mux-same true b = refl
mux-same false b = refl

mux-or : (s b : Bool) → (if not s then true else b) ≡ (if s then b else true)
mux-or true b = refl
mux-or false b = refl

mux-and : (s a : Bool) → (if not s then a else false) ≡ (if s then false else a)
mux-and true a = refl
mux-and false a = refl

both_same : (a b : Bool) → (if a then b else not b) ≡ true → a ≡ b
both_same true true e = refl
both_same true false e = absurd (true≢false (sym e))
both_same false true e = absurd (true≢false (sym e))
both_same false false e = refl

same-lit : (a b : GateLit) → same_lit a b ≡ true → a ≡ b
same-lit (Fixed a) (Fixed b) e = ap Fixed (both_same a b e)
same-lit (Fixed a) (Var b) e = absurd (true≢false (sym e))
same-lit (Var a) (Fixed b) e = absurd (true≢false (sym e))
same-lit (Var a) (Var b) e = ap Var ((signed_Decides a b).0 e)

pub adds-mux_at : (gates : Gates) (s : ℤ) (a b : GateLit) → IsLiteral (count gates) s → IsLit (count gates) a → IsLit (count gates) b → Adds gates (mux_at gates s a b).gates (mux_at gates s a b).lit (λ values. if value values s then lit_value values b else lit_value values a)
adds-mux_at gates s (Fixed false) b is first second = adds-and gates (Var s) b is second
adds-mux_at gates s (Fixed true) b is first second =
    let made : Made = or_of gates (Var (neg_ℤ s)) b in
    adds-as gates made.gates made.lit (λ values. if value values (neg_ℤ s) then true else lit_value values b) (λ values. if value values s then lit_value values b else true) (λ values. rw (value-neg values s is.0) (mux-or (value values s) (lit_value values b))) (adds-or gates (Var (neg_ℤ s)) b (literal-neg (count gates) s is) second)
adds-mux_at gates s (Var a) (Fixed false) is first second =
    let made : Made = and_of gates (Var (neg_ℤ s)) (Var a) in
    adds-as gates made.gates made.lit (λ values. if value values (neg_ℤ s) then value values a else false) (λ values. if value values s then false else value values a) (λ values. rw (value-neg values s is.0) (mux-and (value values s) (value values a))) (adds-and gates (Var (neg_ℤ s)) (Var a) (literal-neg (count gates) s is) first)
adds-mux_at gates s (Var a) (Fixed true) is first second = adds-or gates (Var s) (Var a) is first
adds-mux_at gates s (Var a) (Var b) is first second = adds-gate gates (Mux s a b) (is, first, second)

pub adds-mux : (gates : Gates) (s a b : GateLit) → IsLit (count gates) s → IsLit (count gates) a → IsLit (count gates) b → Adds gates (mux_of gates s a b).gates (mux_of gates s a b).lit (λ values. if lit_value values s then lit_value values b else lit_value values a)
adds-mux gates (Fixed false) a b is first second = adds-none gates a first
adds-mux gates (Fixed true) a b is first second = adds-none gates b second
adds-mux gates (Var s) a b is first second = by (same_lit a b) refl where
  by : (same : Bool) → same_lit a b ≡ same → Adds gates (mux_of gates (Var s) a b).gates (mux_of gates (Var s) a b).lit (λ values. if value values s then lit_value values b else lit_value values a)
  by true same = rw same (adds-as gates gates a (λ values. lit_value values a) (λ values. if value values s then lit_value values b else lit_value values a) (λ values. subst (λ l. lit_value values a ≡ (if value values s then lit_value values l else lit_value values a)) (same-lit a b same) (mux-same (value values s) (lit_value values a))) (adds-none gates a first))
  by false same = rw same (adds-mux_at gates s a b is first second)
