-- What is known of the nets while they are followed.
use Rattle.net_builder.proofs.Common.{◌≡◌, ◌≢◌, ℕ, zero, suc, ◌+◌, ◌<◌, ◌≤◌, List, [], ◌∷◌, ◌++◌, length, get_or, set, replicate, ◌⊎◌, inl, inr, refl, sym, ◌∙◌, ap, subst, arith, Contains, eqb_tells}
use Rattle.net_builder.proofs.Common.{length-set, get_or-set_same, get_or-set_other, length-replicate, Contains-append_left, Contains-push, Contains-push_cases, Bit, Net, Mark, Unknown, Open, Ends}
use Rattle.net_builder.proofs.Common.{Loops, LeadsTo, stays, Follows, direct, IsOnLoop, Known, next_of, mark_in, mark_of, one_unknown, unknowns, LeadsInto, Comes, Fits, IsTraced, IsDone, Keeps}
use Rattle.net_builder.specs.declared.steps.Step.TheVariants as step
use Rattle.net_builder.proofs.Following.{trans, leads_from, past_end}

-- a mark that was set
set_cases : (marks : List Mark) (n : ℕ) (x : Mark) (k : ℕ) → n < length marks → ((k ≡ n) × (mark_in (set marks n x) k ≡ x)) ⊎ ((k ≢ n) × (mark_in (set marks n x) k ≡ mark_in marks k))
set_cases marks n x k h = elim (eqb_tells k n) [
  | inl t ↦ inl (t.1, ap (λ (i : ℕ). mark_in (set marks n x) i) t.1 ∙ get_or-set_same marks n x (Ends (Net n)) h)
  | inr t ↦ inr (t.1, get_or-set_other marks n k x (Ends (Net k)) t.1)
]

set_one : (marks : List Mark) (n : ℕ) (x d : Mark) → n < length marks → get_or marks n d ≡ Unknown → one_unknown x ≡ 0 → unknowns (set marks n x) + 1 ≡ unknowns marks
set_one [] n x d h e one = absurd (omega (arith, h))
set_one (m ∷ more) zero x d h e one = let was : one_unknown m ≡ 1 = ap one_unknown e in omega (arith, one, was)
set_one (m ∷ more) (suc n) x d h e one = let rest = set_one more n x d (omega (arith, h)) e one in omega (arith, rest)

pub set_unknowns : (marks : List Mark) (n : ℕ) (x : Mark) → n < length marks → mark_in marks n ≡ Unknown → one_unknown x ≡ 0 → unknowns (set marks n x) + 1 ≡ unknowns marks
set_unknowns marks n x h e one = set_one marks n x (Ends (Net n)) h e one

-- What is known where one mark more is set, and other nets are on the way.

abbrev pub marked : Known → ℕ → Mark → List ℕ → Known
marked t net x path = record t { marks = set t.marks net x; path = path }

mark_one : (t : Known) (net : ℕ) (x : Mark) (path : List ℕ) (P Q : ℕ → Type 0) → IsTraced t P → net < length t.marks
    → ((bit : Bit) → x ≡ Ends bit → LeadsTo (next_of t) net bit) → (x ≡ Loops → LeadsInto (next_of t) t.loops net) → (x ≡ Open → Contains path net)
    → ((n : ℕ) → n ≢ net → Contains t.path n → Contains path n) → ((n : ℕ) → Contains path n → Q n) → ((n : ℕ) → Contains path n → n < length t.marks)
    → IsTraced (marked t net x path) Q
mark_one t net x path P Q h here end loop opens rest way inside = record {
  room = length-set t.marks net x ∙ h.room;
  ended = λ n bit e. elim (set_cases t.marks net x n here) [
    | inl s ↦ subst (λ (k : ℕ). LeadsTo (next_of t) k bit) (sym s.0) (end bit (sym s.1 ∙ e))
    | inr s ↦ h.ended n bit (sym s.1 ∙ e)
  ];
  looped = λ n e. elim (set_cases t.marks net x n here) [
    | inl s ↦ subst (λ (k : ℕ). LeadsInto (next_of t) t.loops k) (sym s.0) (loop (sym s.1 ∙ e))
    | inr s ↦ h.looped n (sym s.1 ∙ e)
  ];
  opened = λ n e. elim (set_cases t.marks net x n here) [
    | inl s ↦ subst (λ (k : ℕ). Contains path k) (sym s.0) (opens (sym s.1 ∙ e))
    | inr s ↦ rest n s.0 (h.opened n (sym s.1 ∙ e))
  ];
  way = way;
  inside = λ n c. (let less : n < length t.marks = inside n c in let same : length (set t.marks net x) ≡ length t.marks = length-set t.marks net x in omega arith);
  loops = h.loops;
}

pub keeps_marked : (t : Known) (net : ℕ) (x : Mark) (path : List ℕ) → net < length t.marks → x ≢ Unknown → Keeps t (marked t net x path)
keeps_marked t net x path here not = record {
  steps = refl;
  loops = refl;
  known = λ n was e. elim (set_cases t.marks net x n here) [ inl s ↦ not (sym s.1 ∙ e) | inr s ↦ was (sym s.1 ∙ e) ];
}

-- a net that isn't known has a mark of its own
pub unknown_inside : (marks : List Mark) (n : ℕ) → mark_in marks n ≡ Unknown → n < length marks
unknown_inside marks n e = inside marks n (Ends (Net n)) (λ bad. absurd cc) e
  where
    inside : (l : List Mark) (i : ℕ) (d : Mark) → d ≢ Unknown → get_or l i d ≡ Unknown → i < length l
    inside [] i d not is = absurd (not is)
    inside (m ∷ more) zero d not is = omega arith
    inside (m ∷ more) (suc i) d not is = let less = inside more i d not is in omega (arith, less)

-- The way goes on.

module _ (t : Known) (net : ℕ) (h : IsTraced t (Comes t net)) (here : net < length t.marks) where
  -- the net ends at a bit
  pub traced_end : (bit : Bit) → LeadsTo (next_of t) net bit → IsTraced (marked t net (Ends bit) t.path) (Comes t net)
  traced_end bit leads = mark_one t net (Ends bit) t.path (Comes t net) (Comes t net) h here
      (λ b is. (let same : bit ≡ b = cc in subst (λ (x : Bit). LeadsTo (next_of t) net x) same leads))
      (λ is. absurd cc) (λ is. absurd cc) (λ n not c. c) h.way h.inside

  -- it goes on
  pub traced_on : (m : ℕ) → next_of t net ≡ step.On m → IsTraced (marked t net Open (t.path ++ net ∷ [])) (Comes t m)
  traced_on m e = mark_one t net Open (t.path ++ net ∷ []) (Comes t net) (Comes t m) h here
      (λ b is. absurd cc) (λ is. absurd cc) (λ is. Contains-push t.path net) (λ n not c. Contains-append_left t.path (net ∷ []) n c)
      (λ n c. elim (Contains-push_cases t.path net n c) [
        | inl old ↦ trans (next_of t) n net m (h.way n old) (direct net m e)
        | inr same ↦ subst (λ (x : ℕ). Follows (next_of t) x m) same (direct net m e)
      ])
      (λ n c. elim (Contains-push_cases t.path net n c) [ inl old ↦ h.inside n old | inr same ↦ subst (λ (x : ℕ). x < length t.marks) same here ])

-- The way is settled.

pub traced_pop : (t : Known) (mark : Mark) (net : ℕ) (rest : List ℕ) → t.path ≡ rest ++ net ∷ [] → IsTraced t (Fits t mark) → IsTraced (marked t net mark rest) (Fits t mark)
traced_pop t mark net rest is h =
    let fits : Fits t mark net = h.way net (subst (λ (l : List ℕ). Contains l net) (sym is) (Contains-push rest net)) in
    mark_one t net mark rest (Fits t mark) (Fits t mark) h (popped_inside) (λ b e. subst (λ (m : Mark). Fits t m net) e fits) (λ e. subst (λ (m : Mark). Fits t m net) e fits) (λ e. absurd (subst (λ (m : Mark). Fits t m net) e fits))
    (λ n not c. elim (Contains-push_cases rest net n (subst (λ (l : List ℕ). Contains l n) is c)) [ inl old ↦ old | inr same ↦ absurd (not (sym same)) ])
    (λ n c. h.way n (older n c)) (λ n c. h.inside n (older n c))
  where
    older : (n : ℕ) → Contains rest n → Contains t.path n
    older n c = subst (λ (l : List ℕ). Contains l n) (sym is) (Contains-append_left rest (net ∷ []) n c)

    popped_inside : net < length t.marks
    popped_inside = h.inside net (subst (λ (l : List ℕ). Contains l net) (sym is) (Contains-push rest net))

pub popped_here : (t : Known) (P : ℕ → Type 0) (net : ℕ) (rest : List ℕ) → t.path ≡ rest ++ net ∷ [] → IsTraced t P → net < length t.marks
popped_here t P net rest is h = h.inside net (subst (λ (l : List ℕ). Contains l net) (sym is) (Contains-push rest net))

pub fits_known : (t : Known) (mark : Mark) (n : ℕ) → Fits t mark n → mark ≢ Unknown
fits_known t Unknown n h e = h
fits_known t Open n h e = h
fits_known t (Ends b) n h e = absurd cc
fits_known t Loops n h e = absurd cc

-- What stays as it was.

pub keeps_same : (t : Known) → Keeps t t
keeps_same t = record { steps = refl; loops = refl; known = λ n h. h }

pub keeps_both : (t u v : Known) → Keeps t u → Keeps u v → Keeps t v
keeps_both t u v a b = record { steps = b.steps ∙ a.steps; loops = b.loops ∙ a.loops; known = λ n h. b.known n (a.known n h) }

-- the net that was met tells where all on the way lead
pub way_ends : (t : Known) (net : ℕ) (bit : Bit) → IsTraced t (Comes t net) → mark_of t net ≡ Ends bit → IsTraced t (Fits t (Ends bit))
way_ends t net bit h e = record { room = h.room; ended = h.ended; looped = h.looped; opened = h.opened; inside = h.inside; loops = h.loops; way = λ n c. leads_from (next_of t) n net bit (h.way n c) (h.ended net bit e) }

pub way_loops : (t : Known) (net : ℕ) → IsTraced t (Comes t net) → mark_of t net ≡ Loops → IsTraced t (Fits t Loops)
way_loops t net h e = record { room = h.room; ended = h.ended; looped = h.looped; opened = h.opened; inside = h.inside; loops = h.loops; way = λ n c. into n c (h.looped net e) }
  where
    into : (n : ℕ) → Contains t.path n → LeadsInto (next_of t) t.loops net → LeadsInto (next_of t) t.loops n
    into n c l = (l.0, l.1, l.2, elim l.3 [ inl same ↦ inr (subst (λ (x : ℕ). Follows (next_of t) n x) same (h.way n c)) | inr f ↦ inr (trans (next_of t) n net l.0 (h.way n c) f) ])

-- a loop is found at a net that is on the way
abbrev pub found : Known → ℕ → Known
found t net = record t { loops = t.loops ++ net ∷ [] }

pub way_found : (t : Known) (net : ℕ) → IsTraced t (Comes t net) → mark_of t net ≡ Open → IsTraced (found t net) (Fits (found t net) Loops)
way_found t net h e =
    let loop : IsOnLoop (next_of t) net = h.way net (h.opened net e) in
    record {
      room = h.room;
      ended = h.ended;
      looped = λ n is. (let l = h.looped n is in (l.0, Contains-append_left t.loops (net ∷ []) l.0 l.1, l.2, l.3));
      opened = h.opened;
      way = λ n c. (net, Contains-push t.loops net, loop, inr (h.way n c));
      inside = h.inside;
      loops = λ c is. elim (Contains-push_cases t.loops net c is) [ inl old ↦ h.loops c old | inr same ↦ subst (λ (x : ℕ). IsOnLoop (next_of t) x) same loop ];
    }

pub popped_way : (t : Known) (P : ℕ → Type 0) (net : ℕ) (rest : List ℕ) → t.path ≡ rest ++ net ∷ [] → IsTraced t P → P net
popped_way t P net rest is h = h.way net (subst (λ (l : List ℕ). Contains l net) (sym is) (Contains-push rest net))

-- Nothing is known yet.

pub none_there : {A : Type 0} → (xs : List A) (x : A) → xs ≡ [] → Contains xs x → ⊥
none_there xs x e h = absurd (let less : h.0 < length xs = h.1 in let none : length xs ≡ 0 = ap length e in omega arith)

-- a net in the table isn't known, and one past its end leads to itself
fresh_mark : (count n : ℕ) (d : Mark) → (get_or (replicate count Unknown) n d ≡ Unknown) ⊎ ((get_or (replicate count Unknown) n d ≡ d) × (count ≤ n))
fresh_mark zero n d = inr (refl, omega arith)
fresh_mark (suc count) zero d = inl refl
fresh_mark (suc count) (suc n) d = elim (fresh_mark count n d) [ inl e ↦ inl e | inr e ↦ (let le = e.1 in inr (e.0, omega (arith, le))) ]

pub fresh_known : (t : Known) → t.marks ≡ replicate (length t.steps) Unknown → (n : ℕ) → (mark_of t n ≡ Unknown) ⊎ ((mark_of t n ≡ Ends (Net n)) × (next_of t n ≡ step.Stays))
fresh_known t marks n = subst (λ (l : List Mark). (mark_in l n ≡ Unknown) ⊎ ((mark_in l n ≡ Ends (Net n)) × (next_of t n ≡ step.Stays))) (sym marks) (elim (fresh_mark (length t.steps) n (Ends (Net n))) [ inl e ↦ inl e | inr e ↦ inr (e.0, past_end t.steps n e.1) ])

pub traced_none : (t : Known) → t.marks ≡ replicate (length t.steps) Unknown → t.path ≡ [] → t.loops ≡ [] → IsDone t
traced_none t marks path loops = record {
  empty = path;
  traced = record {
    room = ap length marks ∙ length-replicate (length t.steps) Unknown;
    ended = λ n bit e. elim (fresh_known t marks n) [
      | inl u ↦ absurd (let s : Unknown ≡ Ends bit = sym u ∙ e in cc)
      | inr k ↦ (let s : Ends (Net n) ≡ Ends bit = sym k.0 ∙ e in let same : Net n ≡ bit = cc in subst (λ (b : Bit). LeadsTo (next_of t) n b) same (stays n k.1))
    ];
    looped = λ n e. absurd (elim (fresh_known t marks n) [ inl u ↦ (let s : Unknown ≡ Loops = sym u ∙ e in cc) | inr k ↦ (let s : Ends (Net n) ≡ Loops = sym k.0 ∙ e in cc) ]);
    opened = λ n e. absurd (elim (fresh_known t marks n) [ inl u ↦ (let s : Unknown ≡ Open = sym u ∙ e in cc) | inr k ↦ (let s : Ends (Net n) ≡ Open = sym k.0 ∙ e in cc) ]);
    way = λ n c. none_there t.path n path c;
    inside = λ n c. absurd (none_there t.path n path c);
    loops = λ c is. absurd (none_there t.loops c loops is);
  };
}
