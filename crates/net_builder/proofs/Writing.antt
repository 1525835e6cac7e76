-- What nets are written by, as joints and registers are added.
use Rattle.net_builder.proofs.Common.{◌≡◌, ◌≢◌, ℕ, zero, suc, ◌<◌, ◌↔◌, Bool, true, false, ◌||◌, List, [], ◌∷◌, ◌++◌, length, nat_eq, get_or, drop, Option, Some, None, ◌⊎◌, inl, inr, refl, sym, ◌∙◌}
use Rattle.net_builder.proofs.Common.{ap, subst, if◌then◌else◌, arith, Contains, false≢true, or_cases, or_left, or_right, eqb_tells, Bit, Fixed, Net, Register, Joint, Writer, Building, AllBelow}
use Rattle.net_builder.proofs.Common.{IsJoined, IsStored, joint_of, has_net, is_stored, writer, writer_of, writer_in, joined_by, stored_by, after_joint, after_stored, after_stores}
use Rattle.net_builder.specs.declared.writers.Writer.TheVariants.{Nothing, Joined, Stored}
use Rattle.std.proofs.lemmas.Map.Views.{exact_unsigned_eq}

-- The table.

push_reads : (table : List Writer) (m : ℕ) → writer_in (table ++ Nothing ∷ []) m ≡ writer_in table m
push_reads [] zero = refl
push_reads [] (suc m) = refl
push_reads (w ∷ more) zero = refl
push_reads (w ∷ more) (suc m) = push_reads more m

-- a default at the end is not seen
pub push_is : (table : List Writer) → writer_in (table ++ Nothing ∷ []) ≡ writer_in table
push_is table = λ i m. push_reads table m i

-- Joints.

first_joint : (c : Bool) (bit : Bit) (s : Bool) → writer (if c then Some bit else None) s ≡ (if c then joined_by bit (writer None s) else writer None s)
first_joint true bit true = refl
first_joint true bit false = refl
first_joint false bit s = refl

next_joint : (b c : Bool) (bit x : Bit) (o p : Option Bit) (s : Bool) → writer p s ≡ (if c then joined_by bit (writer o s) else writer o s) → writer (if b then Some x else p) s ≡ (if c then joined_by bit (writer (if b then Some x else o) s) else writer (if b then Some x else o) s)
next_joint true true bit x o p s h = refl
next_joint true false bit x o p s h = refl
next_joint false c bit x o p s h = h

joint_reads : (js : List Joint) (net : ℕ) (bit : Bit) (n : ℕ) (s : Bool) → writer (joint_of (js ++ record { net = net; bit = bit } ∷ []) n) s ≡ (if nat_eq n net then joined_by bit (writer (joint_of js n) s) else writer (joint_of js n) s)
joint_reads [] net bit n s = first_joint (nat_eq n net) bit s
joint_reads (j ∷ more) net bit n s = next_joint (nat_eq n j.net) (nat_eq n net) bit j.bit (joint_of more n) (joint_of (more ++ record { net = net; bit = bit } ∷ []) n) s (joint_reads more net bit n s)

-- one joint more
pub joint_added : (js : List Joint) (rs : List Register) (net : ℕ) (bit : Bit) → writer_of (js ++ record { net = net; bit = bit } ∷ []) rs ≡ after_joint net bit (writer_of js rs)
joint_added js rs net bit = λ i n. joint_reads js net bit n (is_stored rs n) i

-- Registers.

stored_twice : (w : Writer) → stored_by (stored_by w) ≡ stored_by w
stored_twice Nothing = refl
stored_twice (Joined b) = refl
stored_twice Stored = refl

both_stored : (a h : Bool) (w : Writer) → (if h then stored_by (if a then stored_by w else w) else (if a then stored_by w else w)) ≡ (if a || h then stored_by w else w)
both_stored true true w = stored_twice w
both_stored true false w = refl
both_stored false h w = refl

stores_read : (bits : List Bit) (f : ℕ → Writer) (n : ℕ) → after_stores bits f n ≡ (if has_net bits n then stored_by (f n) else f n)
stores_read [] f n = refl
stores_read (Fixed b ∷ more) f n = stores_read more f n
stores_read (Net m ∷ more) f n = stores_read more (after_stored m f) n ∙ both_stored (nat_eq n m) (has_net more n) (f n)

more_stored : (o : Option Bit) (h s : Bool) → writer o (h || s) ≡ (if h then stored_by (writer o s) else writer o s)
more_stored (Some b) true s = refl
more_stored (Some b) false s = refl
more_stored None true true = refl
more_stored None true false = refl
more_stored None false s = refl

or_swapped : (a b c : Bool) → a || (b || c) ≡ b || (a || c)
or_swapped true true c = refl
or_swapped true false c = refl
or_swapped false b c = refl

stored_more : (rs : List Register) (r : Register) (n : ℕ) → is_stored (rs ++ r ∷ []) n ≡ has_net r.q n || is_stored rs n
stored_more [] r n = refl
stored_more (x ∷ more) r n = ap (λ (b : Bool). has_net x.q n || b) (stored_more more r n) ∙ or_swapped (has_net x.q n) (has_net r.q n) (is_stored more n)

-- one register more
pub register_added : (js : List Joint) (rs : List Register) (r : Register) → writer_of js (rs ++ r ∷ []) ≡ after_stores r.q (writer_of js rs)
register_added js rs r = λ i n. (ap (writer (joint_of js n)) (stored_more rs r n) ∙ more_stored (joint_of js n) (has_net r.q n) (is_stored rs n) ∙ sym (stores_read r.q (writer_of js rs) n)) i

-- What the tests tell.

pub has_first : {A : Type 0} → (xs : List A) (x : A) → Contains (x ∷ xs) x
has_first xs x = (zero, omega arith, refl)

pub has_more : {A : Type 0} → (xs : List A) (y x : A) → Contains xs x → Contains (y ∷ xs) x
has_more xs y x h = (suc h.0, omega (arith, h.1), h.2)

pub has_none : {A : Type 0} → (x : A) → Contains [] x → ⊥
has_none x h = absurd (omega (arith, h.1))

pub has_cases : {A : Type 0} → (xs : List A) (y x : A) → Contains (y ∷ xs) x → (y ≡ x) ⊎ Contains xs x
has_cases xs y x (zero, less, same) = inl same
has_cases xs y x (suc k, less, same) = inr (k, omega (arith, less), same)

joint_here : (j : Joint) (js : List Joint) (n : ℕ) (bit : Bit) (o : Option Bit) (b : Bool) → (b ≡ true → n ≡ j.net) → (o ≡ Some bit → Contains js (record { net = n; bit = bit })) → (if b then Some j.bit else o) ≡ Some bit → Contains (j ∷ js) (record { net = n; bit = bit })
joint_here j js n bit o true at more e = let same : j.bit ≡ bit = cc in let net : j.net ≡ n = sym (at refl) in subst (λ (x : Joint). Contains (j ∷ js) x) (λ i. record { net = net i; bit = same i }) (has_first js j)
joint_here j js n bit o false at more e = has_more js j (record { net = n; bit = bit }) (more e)

pub nat_eq_same : (n : ℕ) → nat_eq n n ≡ true
nat_eq_same n = elim (eqb_tells n n) [ inl t ↦ t.0 | inr t ↦ absurd (t.1 refl) ]

pub joint_found : (js : List Joint) (n : ℕ) (bit : Bit) → joint_of js n ≡ Some bit → Contains js (record { net = n; bit = bit })
joint_found [] n bit e = absurd cc
joint_found (j ∷ more) n bit e = joint_here j more n bit (joint_of more n) (nat_eq n j.net) (exact_unsigned_eq n j.net) (joint_found more n bit) e

joint_not : (x : Bit) (o : Option Bit) (b : Bool) → (if b then Some x else o) ≡ None → (b ≡ false) × (o ≡ None)
joint_not x o true e = absurd cc
joint_not x o false e = (refl, e)

pub joint_none : (js : List Joint) (n : ℕ) → joint_of js n ≡ None → (bit : Bit) → Contains js (record { net = n; bit = bit }) → ⊥
joint_none [] n e bit h = has_none _ h
joint_none (j ∷ more) n e bit h =
    let none = joint_not j.bit (joint_of more n) (nat_eq n j.net) e in
    elim (has_cases more j (record { net = n; bit = bit }) h) [
      | inl same ↦ false≢true (sym none.0 ∙ ap (nat_eq n) (ap (λ (x : Joint). x.net) same) ∙ nat_eq_same n)
      | inr later ↦ joint_none more n none.1 bit later
    ]

pub has_net_there : (bits : List Bit) (n : ℕ) → has_net bits n ≡ true → Contains bits (Net n)
has_net_there [] n e = absurd (false≢true e)
has_net_there (Fixed b ∷ more) n e = has_more more (Fixed b) (Net n) (has_net_there more n e)
has_net_there (Net m ∷ more) n e = elim (or_cases (nat_eq n m) (has_net more n) e) [
  | inl same ↦ subst (λ (x : ℕ). Contains (Net m ∷ more) (Net x)) (sym (exact_unsigned_eq n m same)) (has_first more (Net m))
  | inr later ↦ has_more more (Net m) (Net n) (has_net_there more n later)
]

pub has_net_told : (bits : List Bit) (n : ℕ) → Contains bits (Net n) → has_net bits n ≡ true
has_net_told [] n h = absurd (has_none (Net n) h)
has_net_told (Fixed b ∷ more) n h = elim (has_cases more (Fixed b) (Net n) h) [ inl same ↦ absurd cc | inr later ↦ has_net_told more n later ]
has_net_told (Net m ∷ more) n h = elim (has_cases more (Net m) (Net n) h) [
  | inl same ↦ (let net : m ≡ n = cc in or_left (nat_eq n m) (has_net more n) (ap (nat_eq n) net ∙ nat_eq_same n))
  | inr later ↦ or_right (nat_eq n m) (has_net more n) (has_net_told more n later)
]

pub stored_there : (rs : List Register) (n : ℕ) → is_stored rs n ≡ true → (r : Register) × Contains rs r × Contains r.q (Net n)
stored_there [] n e = absurd (false≢true e)
stored_there (r ∷ more) n e = elim (or_cases (has_net r.q n) (is_stored more n) e) [
  | inl here ↦ (r, has_first more r, has_net_there r.q n here)
  | inr later ↦ let s = stored_there more n later in (s.0, has_more more r s.0 s.1, s.2)
]

pub stored_told : (rs : List Register) (n : ℕ) (r : Register) → Contains rs r → Contains r.q (Net n) → is_stored rs n ≡ true
stored_told [] n r h q = absurd (has_none r h)
stored_told (x ∷ more) n r h q = elim (has_cases more x r h) [
  | inl same ↦ or_left (has_net x.q n) (is_stored more n) (has_net_told x.q n (subst (λ (y : Register). Contains y.q (Net n)) (sym same) q))
  | inr later ↦ or_right (has_net x.q n) (is_stored more n) (stored_told more n r later q)
]

writer_joined : (o : Option Bit) (s : Bool) (bit : Bit) → writer o s ≡ Joined bit → o ≡ Some bit
writer_joined (Some b) s bit e = let same : b ≡ bit = cc in ap Some same
writer_joined None true bit e = absurd cc
writer_joined None false bit e = absurd cc

writer_free : (o : Option Bit) (s : Bool) (w : Writer) → writer o s ≡ w → ((bit : Bit) → w ≢ Joined bit) → o ≡ None
writer_free (Some b) s w e not = absurd (not b (sym e))
writer_free None s w e not = refl

writer_cases : (o : Option Bit) (s : Bool) → (writer o s ≢ Nothing) ↔ (((bit : Bit) × (o ≡ Some bit)) ⊎ (s ≡ true))
writer_cases (Some b) s = (λ h. inl (b, refl), λ h e. absurd cc)
writer_cases None true = (λ h. inr refl, λ h e. absurd cc)
writer_cases None false = (λ h. absurd (h refl), λ h e. elim h [ inl t ↦ absurd (let bad = t.1 in cc) | inr t ↦ false≢true t ])

module _ (b : Building) (n : ℕ) (w : Writer) (is : w ≡ writer_of b.joints b.registers n) where
  pub told_joined : (bit : Bit) → w ≡ Joined bit → joint_of b.joints n ≡ Some bit
  told_joined bit e = writer_joined (joint_of b.joints n) (is_stored b.registers n) bit (sym is ∙ e)

  pub told_free : ((bit : Bit) → w ≢ Joined bit) → joint_of b.joints n ≡ None
  told_free not = writer_free (joint_of b.joints n) (is_stored b.registers n) w (sym is) not

  pub told_written : (w ≢ Nothing) ↔ (IsJoined b n ⊎ IsStored b n)
  told_written =
      let c = writer_cases (joint_of b.joints n) (is_stored b.registers n) in
      let to : writer_of b.joints b.registers n ≢ Nothing → IsJoined b n ⊎ IsStored b n = λ h. elim (c.0 h) [
        | inl t ↦ inl (t.0, joint_found b.joints n t.0 t.1)
        | inr t ↦ inr (stored_there b.registers n t)
      ] in (
        λ h. to (λ e. h (is ∙ e)),
        λ h e. elim h [
          | inl t ↦ elim (tells_joint (joint_of b.joints n)) [ inl some ↦ c.1 (inl some) (sym is ∙ e) | inr none ↦ joint_none b.joints n none t.0 t.1 ]
          | inr t ↦ c.1 (inr (stored_told b.registers n t.0 t.1 t.2)) (sym is ∙ e)
        ],
      )
    where
      tells_joint : (o : Option Bit) → ((bit : Bit) × (o ≡ Some bit)) ⊎ (o ≡ None)
      tells_joint (Some bit) = inl (bit, refl)
      tells_joint None = inr refl

-- one bit more of a list that is below a number
pub below_step : (n : ℕ) (bits : List Bit) (k : ℕ) (d bit : Bit) → k < length bits → get_or bits k d ≡ bit → AllBelow n (bit ∷ []) → AllBelow n (drop (suc k) bits) → AllBelow n (drop k bits)
below_step n [] k d bit h e b rest = absurd (omega (arith, h))
below_step n (Fixed v ∷ more) zero d bit h e b rest = rest
below_step n (Net m ∷ more) zero d bit h e b rest = (below_head m bit e b, rest)
  where
    below_head : (m : ℕ) (bit : Bit) → Net m ≡ bit → AllBelow n (bit ∷ []) → m < n
    below_head m (Fixed v) e b = absurd cc
    below_head m (Net k) e b = let same : m ≡ k = cc in subst (λ (x : ℕ). x < n) (sym same) b.0
below_step n (x ∷ more) (suc k) d bit h e b rest = let less : k < length more = omega (arith, h) in below_step n more k d bit less e b rest
