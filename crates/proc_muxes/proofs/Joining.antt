-- Changes of statements that run one after the other.
use Rattle.proc_muxes.proofs.Common.{◌≡◌, ℕ, Bool, true, false, ◌&&◌, ◌||◌, List, [], ◌∷◌, ◌++◌, nat_eq, refl, sym, ◌∙◌, ap, subst, append_assoc, append-nil, if◌then◌else◌, map-append, Bit, Names}
use Rattle.proc_muxes.proofs.Common.{parts_of, Steps, Done, Assign, Choose, Case, Refuse, followed, InNames, in_turn, bit_same, Target, targets, arms_targets, parts_targets, and-left, and-right}
use Rattle.proc_muxes.proofs.Common.{Change, Work, held, stands, distinct_after, distinct, Builds, Keeps, change_of, changes_of, is_changed, joined, Built, or_end, exact_unsigned_eq}
use Rattle.vlog_effects.proofs.Following.{followed-done, followed-again}
use Rattle.proc_muxes.proofs.Frames.{bit_same-true, stands-distinct}
use Rattle.proc_muxes.proofs.Keeping.{keeps}

-- Steps one after the other.

pub builds-followed : (p q : Steps) (a m b : Work) → Builds p a m → Builds q m b → Builds (followed p q) a b
builds-followed Done q a m b f g = subst (λ (w : Work). Builds q w b) f g
builds-followed (Assign x more) q a m b f g = (f.0, f.1, builds-followed more q f.0 m b f.2 g)
builds-followed (Choose at c then_part else_part more) q a m b f g = (f.0, f.1, f.2, f.3, f.4, f.5, f.6, f.7, f.8, builds-followed more q f.3 m b f.9 g)
builds-followed (Case c arms bodies more) q a m b f g = (f.0, f.1, f.2, f.3, f.4, builds-followed more q f.1 m b f.5 g, f.6)
builds-followed (Refuse x more) q a m b f g = absurd f

pub targets-followed : (p q : Steps) → targets (followed p q) ≡ targets p ++ targets q
targets-followed Done q = refl
targets-followed (Assign x more) q = ap (λ (t : List Target). parts_targets x.is_blocking x.names (parts_of x.left) ++ t) (targets-followed more q) ∙ sym (append_assoc (parts_targets x.is_blocking x.names (parts_of x.left)) (targets more) (targets q))
targets-followed (Choose at c then_part else_part more) q =
    ap (λ (t : List Target). targets then_part ++ (targets else_part ++ t)) (targets-followed more q)
    ∙ ap (λ (t : List Target). targets then_part ++ t) (sym (append_assoc (targets else_part) (targets more) (targets q)))
    ∙ sym (append_assoc (targets then_part) (targets else_part ++ targets more) (targets q))
targets-followed (Case c arms bodies more) q = ap (λ (t : List Target). arms_targets arms ++ t) (targets-followed more q) ∙ sym (append_assoc (arms_targets arms) (targets more) (targets q))
targets-followed (Refuse x more) q = targets-followed more q

-- one statement more
pub in_turn-push : (xs : List InNames) (x : InNames) (names : Names) → in_turn (xs ++ x ∷ []) names ≡ followed (in_turn xs names) (x names)
in_turn-push [] x names = followed-done (x names)
in_turn-push (y ∷ xs) x names = ap (λ (t : Steps). followed (y names) t) (in_turn-push xs x names) ∙ sym (followed-again (y names) (in_turn xs names) (x names))

-- Changes, each once.

abbrev pub seen_after : List Target → List Target → List Target
seen_after seen [] = seen
seen_after seen (x ∷ more) = if stands x.is_blocking seen x.number then seen_after seen more else seen_after (x ∷ seen) more

pub distinct-append : (seen xs ys : List Target) → distinct_after seen (xs ++ ys) ≡ distinct_after seen xs ++ distinct_after (seen_after seen xs) ys
distinct-append seen [] ys = refl
distinct-append seen (x ∷ xs) ys = go (stands x.is_blocking seen x.number) (distinct-append seen xs ys) (distinct-append (x ∷ seen) xs ys) where
  go : (b : Bool) → distinct_after seen (xs ++ ys) ≡ distinct_after seen xs ++ distinct_after (seen_after seen xs) ys → distinct_after (x ∷ seen) (xs ++ ys) ≡ distinct_after (x ∷ seen) xs ++ distinct_after (seen_after (x ∷ seen) xs) ys → (if b then distinct_after seen (xs ++ ys) else x ∷ distinct_after (x ∷ seen) (xs ++ ys)) ≡ (if b then distinct_after seen xs else x ∷ distinct_after (x ∷ seen) xs) ++ distinct_after (if b then seen_after seen xs else seen_after (x ∷ seen) xs) ys
  go true e f = e
  go false e f = ap (λ (t : List Target). x ∷ t) f

abbrev is_this : Bool → Target → ℕ → Bool
is_this kind x n = nat_eq x.number n && bit_same kind x.is_blocking

-- what was seen, and the list, are what is seen after it
pub stands-after : (kind : Bool) (seen xs : List Target) (n : ℕ) → stands kind (seen_after seen xs) n ≡ (stands kind xs n || stands kind seen n)
stands-after kind seen [] n = refl
stands-after kind seen (x ∷ xs) n = go (stands x.is_blocking seen x.number) refl (stands-after kind seen xs n) (stands-after kind (x ∷ seen) xs n) where
  here : is_this kind x n ≡ true → stands kind seen n ≡ stands x.is_blocking seen x.number
  here h =
      let same : x.number ≡ n = exact_unsigned_eq x.number n (and-left (nat_eq x.number n) (bit_same kind x.is_blocking) h) in
      let alike : kind ≡ x.is_blocking = bit_same-true kind x.is_blocking (and-right (nat_eq x.number n) (bit_same kind x.is_blocking) h) in
      rw (alike, ← same) refl

  was : (h s t : Bool) → (h ≡ true → s ≡ true) → (t || s) ≡ ((h || t) || s)
  was false s t k = refl
  was true true t k = or-true t where
    or-true : (b : Bool) → (b || true) ≡ true
    or-true true = refl
    or-true false = refl
  was true false t k = let e = k refl in cc

  new : (h s t : Bool) → (t || (h || s)) ≡ ((h || t) || s)
  new true s true = refl
  new true s false = refl
  new false s t = refl

  go : (b : Bool) → stands x.is_blocking seen x.number ≡ b → stands kind (seen_after seen xs) n ≡ (stands kind xs n || stands kind seen n) → stands kind (seen_after (x ∷ seen) xs) n ≡ (stands kind xs n || stands kind (x ∷ seen) n) → stands kind (if b then seen_after seen xs else seen_after (x ∷ seen) xs) n ≡ (stands kind (x ∷ xs) n || stands kind seen n)
  go true e f g = f ∙ was (is_this kind x n) (stands kind seen n) (stands kind xs n) (λ h. here h ∙ e)
  go false e f g = g ∙ new (is_this kind x n) (stands kind seen n) (stands kind xs n)

number-order : (kind b : Bool) → bit_same b kind ≡ bit_same kind b
number-order true true = refl
number-order true false = refl
number-order false true = refl
number-order false false = refl

pub is_changed-of : (kind : Bool) (a : Work) (xs : List Target) (n : ℕ) → is_changed kind (changes_of a xs) n ≡ stands kind xs n
is_changed-of kind a [] n = refl
is_changed-of kind a (x ∷ xs) n = rw (number-order kind x.is_blocking, is_changed-of kind a xs n) refl

is_changed-push : (kind : Bool) (cs : List Change) (d : Change) (n : ℕ) → is_changed kind (cs ++ d ∷ []) n ≡ ((nat_eq d.number n && bit_same d.is_blocking kind) || is_changed kind cs n)
is_changed-push kind [] d n = refl
is_changed-push kind (c ∷ cs) d n = rw (is_changed-push kind cs d n) (swap (nat_eq c.number n && bit_same c.is_blocking kind) (nat_eq d.number n && bit_same d.is_blocking kind) (is_changed kind cs n)) where
  swap : (x y z : Bool) → (x || (y || z)) ≡ (y || (x || z))
  swap true true z = refl
  swap true false z = refl
  swap false y z = refl

-- Later changes of variables that were not seen are added. `done` are those of the later part itself.
pub join-from : (a m : Work) (ps : List Target) → ((kind : Bool) (n : ℕ) → stands kind ps n ≡ false → held m kind n ≡ held a kind n) → (cs : List Change) (seen done qs : List Target) → ((kind : Bool) (n : ℕ) → is_changed kind cs n ≡ stands kind seen n) → ((kind : Bool) (n : ℕ) → stands kind ps n ≡ true → stands kind seen n ≡ true) → ((kind : Bool) (n : ℕ) → stands kind done n ≡ true → stands kind seen n ≡ true) → joined cs (changes_of m (distinct_after done qs)) ≡ cs ++ changes_of a (distinct_after seen qs)
join-from a m ps same cs seen done [] is old within = sym (append-nil cs)
join-from a m ps same cs seen done (x ∷ qs) is old within =
    let in_done : Bool = stands x.is_blocking done x.number in
    go in_done refl (stands x.is_blocking seen x.number) refl
    (join-from a m ps same cs seen done qs is old within)
    (λ e. join-from a m ps same cs seen (x ∷ done) qs is old (λ kind n h. both-seen kind n e (within kind n) h))
    (join-from a m ps same (cs ++ change_of a x ∷ []) (x ∷ seen) (x ∷ done) qs
    (λ kind n. is_changed-push kind cs (change_of a x) n ∙ rw (number-order kind x.is_blocking, is kind n) refl)
    (λ kind n h. or-late (is_this kind x n) (stands kind seen n) (old kind n h))
    (λ kind n h. or-map (is_this kind x n) (stands kind done n) (stands kind seen n) (within kind n) h)) where
      or-late : (h s : Bool) → s ≡ true → (h || s) ≡ true
      or-late true s e = refl
      or-late false s e = e

      or-map : (h d s : Bool) → (d ≡ true → s ≡ true) → (h || d) ≡ true → (h || s) ≡ true
      or-map true d s f e = refl
      or-map false d s f e = f e

      both-seen : (kind : Bool) (n : ℕ) → stands x.is_blocking seen x.number ≡ true → (stands kind done n ≡ true → stands kind seen n ≡ true) → stands kind (x ∷ done) n ≡ true → stands kind seen n ≡ true
      both-seen kind n e f h = pick (is_this kind x n) refl h where
        pick : (b : Bool) → is_this kind x n ≡ b → (b || stands kind done n) ≡ true → stands kind seen n ≡ true
        pick true g k =
            let number_is : x.number ≡ n = exact_unsigned_eq x.number n (and-left (nat_eq x.number n) (bit_same kind x.is_blocking) g) in
            let alike : kind ≡ x.is_blocking = bit_same-true kind x.is_blocking (and-right (nat_eq x.number n) (bit_same kind x.is_blocking) g) in
            rw (alike, ← number_is) e
        pick false g k = f k

      unseen : stands x.is_blocking seen x.number ≡ false → stands x.is_blocking ps x.number ≡ false
      unseen e = back (stands x.is_blocking ps x.number) refl where
        back : (b : Bool) → stands x.is_blocking ps x.number ≡ b → b ≡ false
        back true f = let g = old x.is_blocking x.number f in cc
        back false f = refl

      go : (d : Bool) → stands x.is_blocking done x.number ≡ d → (s : Bool) → stands x.is_blocking seen x.number ≡ s →
          joined cs (changes_of m (distinct_after done qs)) ≡ cs ++ changes_of a (distinct_after seen qs) →
          (stands x.is_blocking seen x.number ≡ true → joined cs (changes_of m (distinct_after (x ∷ done) qs)) ≡ cs ++ changes_of a (distinct_after seen qs)) →
          joined (cs ++ change_of a x ∷ []) (changes_of m (distinct_after (x ∷ done) qs)) ≡ (cs ++ change_of a x ∷ []) ++ changes_of a (distinct_after (x ∷ seen) qs) →
          joined cs (changes_of m (if d then distinct_after done qs else x ∷ distinct_after (x ∷ done) qs)) ≡ cs ++ changes_of a (if s then distinct_after seen qs else x ∷ distinct_after (x ∷ seen) qs)
      go true d true s one two three = one
      go true d false s one two three = let e = within x.is_blocking x.number d in cc
      go false d true s one two three = rw (is x.is_blocking x.number, s) (two s)
      go false d false s one two three =
          let here : held m x.is_blocking x.number ≡ held a x.is_blocking x.number = same x.is_blocking x.number (unseen s) in
          let change : change_of m x ≡ change_of a x = ap (λ (t : List Bit). record { number = x.number; is_blocking = x.is_blocking; before = t }) here in
          rw (is x.is_blocking x.number, s) (ap (λ (t : Change). joined (cs ++ t ∷ []) (changes_of m (distinct_after (x ∷ done) qs))) change ∙ three ∙ append_assoc cs (change_of a x ∷ []) (changes_of a (distinct_after (x ∷ seen) qs)))

-- changes that are joined one after the other are those of the targets without repetition
join-seen : (a : Work) (cs : List Change) (seen ts : List Target) → ((kind : Bool) (n : ℕ) → is_changed kind cs n ≡ stands kind seen n) → joined cs (changes_of a ts) ≡ cs ++ changes_of a (distinct_after seen ts)
join-seen a cs seen [] is = sym (append-nil cs)
join-seen a cs seen (x ∷ more) is =
    go (stands x.is_blocking seen x.number) refl (join-seen a cs seen more is)
    (join-seen a (cs ++ change_of a x ∷ []) (x ∷ seen) more (λ kind n. is_changed-push kind cs (change_of a x) n ∙ rw (number-order kind x.is_blocking, is kind n) refl)) where
      go : (b : Bool) → stands x.is_blocking seen x.number ≡ b → joined cs (changes_of a more) ≡ cs ++ changes_of a (distinct_after seen more) → joined (cs ++ change_of a x ∷ []) (changes_of a more) ≡ (cs ++ change_of a x ∷ []) ++ changes_of a (distinct_after (x ∷ seen) more) → joined cs (changes_of a (x ∷ more)) ≡ cs ++ changes_of a (if b then distinct_after seen more else x ∷ distinct_after (x ∷ seen) more)
      go true e f g = rw (is x.is_blocking x.number, e) f
      go false e f g = rw (is x.is_blocking x.number, e) (g ∙ append_assoc cs (change_of a x ∷ []) (changes_of a (distinct_after (x ∷ seen) more)))

pub join-all : (a : Work) (ts : List Target) → joined [] (changes_of a ts) ≡ changes_of a (distinct ts)
join-all a ts = join-seen a [] [] ts (λ kind n. refl)

-- the changes of two parts, one after the other, where the first leaves other variables as they were
pub changes-both : (ps qs : List Target) (a m : Work) → ((kind : Bool) (n : ℕ) → stands kind ps n ≡ false → held m kind n ≡ held a kind n) → joined (changes_of a (distinct ps)) (changes_of m (distinct qs)) ≡ changes_of a (distinct ps) ++ changes_of a (distinct_after (seen_after [] ps) qs)
changes-both ps qs a m still =
    let seen : List Target = seen_after [] ps in
    let after : (kind : Bool) (n : ℕ) → stands kind seen n ≡ stands kind ps n = λ kind n. stands-after kind [] ps n ∙ or_end (stands kind ps n) in
    join-from a m ps still (changes_of a (distinct ps)) seen [] qs
    (λ kind n. is_changed-of kind a (distinct ps) n ∙ stands-distinct kind ps n ∙ sym (after kind n))
    (λ kind n h. after kind n ∙ h)
    (λ kind n h. cc)

pub changes-joined : (ps qs : List Target) (a m : Work) → ((kind : Bool) (n : ℕ) → stands kind ps n ≡ false → held m kind n ≡ held a kind n) → joined (changes_of a (distinct ps)) (changes_of m (distinct qs)) ≡ changes_of a (distinct (ps ++ qs))
changes-joined ps qs a m still =
    changes-both ps qs a m still ∙
    sym (ap (λ (t : List Target). changes_of a t) (distinct-append [] ps qs) ∙ map-append (change_of a) (distinct ps) (distinct_after (seen_after [] ps) qs))

pub keeps-still : (ts : List Target) (a b : Work) → Keeps ts a b → (kind : Bool) (n : ℕ) → stands kind ts n ≡ false → held b kind n ≡ held a kind n
keeps-still ts a b k true n e = k.seen_kept n e
keeps-still ts a b k false n e = k.later_kept n e

-- one statement more of a block
pub built-push : (p q : Steps) (a m b : Work) (cs ds : List Change) → Built p a m cs → Built q m b ds → Built (followed p q) a b (joined cs ds)
built-push p q a m b cs ds f g = record {
  builds = builds-followed p q a m b f.builds g.builds;
  changes_are = rw (f.changes_are, g.changes_are, targets-followed p q) (changes-joined (targets p) (targets q) a m (keeps-still (targets p) a m (keeps p a m f.builds)));
}
