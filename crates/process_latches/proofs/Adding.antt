-- Marks that are added one after the other.
use Rattle.process_latches.proofs.Common.{◌≡◌, ℕ, Bool, true, false, not, ◌&&◌, ◌||◌, List, [], ◌++◌, refl, sym, ap, ◌∙◌, append_assoc, append-nil, Bits, no_bits, Mask, bits_in, Marks, Write, Added}
use Rattle.process_latches.proofs.Common.{AreBlank, or_end, or-again}

pub and_end : (b : Bool) → (b && true) ≡ b
and_end true = refl
and_end false = refl

early_then : (old e1 o e2 c1 : Bool) → ((old || (e1 && not o)) || (e2 && not (o || c1))) ≡ (old || ((e1 || (e2 && not c1)) && not o))
early_then true e1 o e2 c1 = refl
early_then false true true true true = refl
early_then false true true true false = refl
early_then false true true false true = refl
early_then false true true false false = refl
early_then false true false true true = refl
early_then false true false true false = refl
early_then false true false false true = refl
early_then false true false false false = refl
early_then false false true true true = refl
early_then false false true true false = refl
early_then false false true false true = refl
early_then false false true false false = refl
early_then false false false true true = refl
early_then false false false true false = refl
early_then false false false false true = refl
early_then false false false false false = refl

-- nothing is added
pub added_none : (m : Marks) → Added no_bits no_bits [] false m m
added_none m = record {
  covered_is = λ n i. sym (or_end (bits_in m.covered n i));
  early_is = λ n i. sym (or_end (bits_in m.early n i));
  writes_are = sym (append-nil m.writes.items);
  stopped_is = sym (or_end m.is_stopped);
}

-- the same, said in other words
pub added_as : (c e c2 e2 : Bits) (w w2 : List Write) (s s2 : Bool) (a b : Marks) → ((n i : ℕ) → c n i ≡ c2 n i) → ((n i : ℕ) → e n i ≡ e2 n i) → w ≡ w2 → s ≡ s2 → Added c e w s a b → Added c2 e2 w2 s2 a b
added_as c e c2 e2 w w2 s s2 a b cs es ws ss x = record {
  covered_is = λ n i. x.covered_is n i ∙ ap (λ (t : Bool). bits_in a.covered n i || t) (cs n i);
  early_is = λ n i. x.early_is n i ∙ ap (λ (t : Bool). bits_in a.early n i || (t && not (bits_in a.covered n i))) (es n i);
  writes_are = x.writes_are ∙ ap (λ (l : List Write). a.writes.items ++ l) ws;
  stopped_is = x.stopped_is ∙ ap (λ (t : Bool). a.is_stopped || t) ss;
}

-- these, and then those
pub added_then : (c1 e1 c2 e2 : Bits) (w1 w2 : List Write) (s1 s2 : Bool) (a b d : Marks) → Added c1 e1 w1 s1 a b → Added c2 e2 w2 s2 b d → Added (λ n i. c1 n i || c2 n i) (λ n i. e1 n i || (e2 n i && not (c1 n i))) (w1 ++ w2) (s1 || s2) a d
added_then c1 e1 c2 e2 w1 w2 s1 s2 a b d x y = record {
  covered_is = λ n i. y.covered_is n i ∙ ap (λ (t : Bool). t || c2 n i) (x.covered_is n i) ∙ or-again (bits_in a.covered n i) (c1 n i) (c2 n i);
  early_is = λ n i. y.early_is n i ∙ ap (λ (t : Bool). t || (e2 n i && not (bits_in b.covered n i))) (x.early_is n i) ∙ ap (λ (t : Bool). (bits_in a.early n i || (e1 n i && not (bits_in a.covered n i))) || (e2 n i && not t)) (x.covered_is n i) ∙ early_then (bits_in a.early n i) (e1 n i) (bits_in a.covered n i) (e2 n i) (c1 n i);
  writes_are = y.writes_are ∙ ap (λ (l : List Write). l ++ w2) x.writes_are ∙ append_assoc a.writes.items w1 w2;
  stopped_is = y.stopped_is ∙ ap (λ (t : Bool). t || s2) x.stopped_is ∙ or-again a.is_stopped s1 s2;
}

-- What is added to nothing.

module _ (c e : Bits) (w : List Write) (s : Bool) (a b : Marks) (blank : AreBlank a) (x : Added c e w s a b) where
  pub own_covered : (n i : ℕ) → bits_in b.covered n i ≡ c n i
  own_covered n i = x.covered_is n i ∙ ap (λ (l : List Mask). bits_in l n i || c n i) blank.covered_is

  pub own_early : (n i : ℕ) → bits_in b.early n i ≡ e n i
  own_early n i = x.early_is n i ∙ ap (λ (l : List Mask). bits_in l n i || (e n i && not (bits_in a.covered n i))) blank.early_is ∙ ap (λ (l : List Mask). e n i && not (bits_in l n i)) blank.covered_is ∙ and_end (e n i)

  pub own_writes : b.writes.items ≡ w
  own_writes = x.writes_are ∙ ap (λ (l : List Write). l ++ w) blank.writes_are

  pub own_stopped : b.is_stopped ≡ s
  own_stopped = x.stopped_is ∙ ap (λ (t : Bool). t || s) blank.stopped_is

-- What the functions of marks add.
