-- Looking for the nodes that a node reads, directly or through others.
use Rattle.net_order.proofs.Common.{◌≡◌, ℕ, ◌+◌, ◌<◌, ◌↔◌, Bool, true, false, List, [], ◌∷◌, ◌++◌, length, get_or, set, replicate, Option, Some, None, ◌⊎◌, inl, inr, refl, sym, ◌∙◌, ap, subst, arith}
use Rattle.net_order.proofs.Common.{All, Contains, false≢true, cases_Bool, eqb_tells, length-set, length_push, get_or-set_same, get_or-set_other, length-replicate, Contains-get_or}
use Rattle.net_order.proofs.Common.{Contains-append_left, Contains-push, Contains-push_cases, row_of, AreInside, Reads, ReadsThrough, IsOnLoop, is_listed, none_left, Trail, after_node, after_nodes}
use Rattle.net_order.proofs.Common.{unfound, Reaches, IsFound, IsTrail}
use Rattle.std.specs.Option.{MatchOption}
use Rattle.net_order.proofs.Reading.{Contains-empty, Contains-head, Contains-tail, Contains-cases}
use Rattle.net_order.proofs.Along.{through_more}
use Rattle.net_order.proofs.Staged.{unfound-set, is_listed-none}

-- From s to t the nodes of a list were found.
pub record IsStep (row : List ℕ) (s t : Trail) : Type 0 where
  pub room : length t.found ≡ length s.found
  pub grows : (e : ℕ) → IsFound s e → IsFound t e
  pub finds : (e : ℕ) → Contains row e → IsFound t e
  pub opens : (e : ℕ) → Contains s.open_nodes e → Contains t.open_nodes e
  pub news : (e : ℕ) → IsFound t e → IsFound s e ⊎ (Contains t.open_nodes e × Contains row e)
  pub opened : (e : ℕ) → Contains t.open_nodes e → Contains s.open_nodes e ⊎ IsFound t e
  pub size : length t.open_nodes + unfound t.found ≡ length s.open_nodes + unfound s.found

only : (c e : ℕ) → Contains (c ∷ []) e → c ≡ e
only c e has = elim (Contains-cases c e [] has) [ inl same ↦ same | inr none ↦ absurd (Contains-empty e none) ]

-- one node
step-node : (c : ℕ) (s : Trail) → c < length s.found → IsStep (c ∷ []) s (after_node c s)
step-node c s inside = elim (cases_Bool (is_listed s.found c)) [
  | inl found ↦ rw found (record {
    room = refl;
    grows = λ e h. h;
    finds = λ e h. subst (λ (k : ℕ). IsFound s k) (only c e h) found;
    opens = λ e h. h;
    news = λ e h. inl h;
    opened = λ e h. inl h;
    size = refl;
  })
  | inr free ↦ rw free (record {
    room = length-set s.found c true;
    grows = λ e h. elim (eqb_tells e c) [ inl same ↦ ap (λ (k : ℕ). is_listed (set s.found c true) k) same.1 ∙ get_or-set_same s.found c true false inside | inr other ↦ get_or-set_other s.found c e true false other.1 ∙ h ];
    finds = λ e h. subst (λ (k : ℕ). is_listed (set s.found c true) k ≡ true) (only c e h) (get_or-set_same s.found c true false inside);
    opens = λ e h. Contains-append_left s.open_nodes (c ∷ []) e h;
    news = λ e h. elim (eqb_tells e c) [
      | inl same ↦ inr (subst (λ (k : ℕ). Contains (s.open_nodes ++ c ∷ []) k) (sym same.1) (Contains-push s.open_nodes c), subst (λ (k : ℕ). Contains (c ∷ []) k) (sym same.1) (Contains-head c []))
      | inr other ↦ inl (sym (get_or-set_other s.found c e true false other.1) ∙ h)
    ];
    opened = λ e h. elim (Contains-push_cases s.open_nodes c e h) [
      | inl old ↦ inl old
      | inr same ↦ inr (subst (λ (k : ℕ). is_listed (set s.found c true) k ≡ true) same (get_or-set_same s.found c true false inside))
    ];
    size = omega (arith, length_push s.open_nodes c, unfound-set s.found c inside free);
  })
]

step-first : (c : ℕ) (more : List ℕ) (s t u : Trail) → IsStep (c ∷ []) s t → IsStep more t u → IsStep (c ∷ more) s u
step-first c more s t u a b = record {
  room = b.room ∙ a.room;
  grows = λ e is. b.grows e (a.grows e is);
  finds = λ e has. elim (Contains-cases c e more has) [ inl same ↦ b.grows e (a.finds e (subst (λ (k : ℕ). Contains (c ∷ []) k) same (Contains-head c []))) | inr later ↦ b.finds e later ];
  opens = λ e is. b.opens e (a.opens e is);
  news = λ e is. elim (b.news e is) [
    | inl old ↦ elim (a.news e old) [
      | inl older ↦ inl older
      | inr new ↦ inr (b.opens e new.0, subst (λ (k : ℕ). Contains (c ∷ more) k) (only c e new.1) (Contains-head c more))
    ]
    | inr new ↦ inr (new.0, Contains-tail c e more new.1)
  ];
  opened = λ e is. elim (b.opened e is) [ inl old ↦ elim (a.opened e old) [ inl older ↦ inl older | inr found ↦ inr (b.grows e found) ] | inr found ↦ inr found ];
  size = b.size ∙ a.size;
}

pub step-nodes : (row : List ℕ) (s : Trail) → ((d : ℕ) → Contains row d → d < length s.found) → IsStep row s (after_nodes row s)
step-nodes [] s inside = record {
  room = refl;
  grows = λ e h. h;
  finds = λ e h. absurd (Contains-empty e h);
  opens = λ e h. h;
  news = λ e h. inl h;
  opened = λ e h. inl h;
  size = refl;
}
step-nodes (c ∷ more) s inside =
    let t : Trail = after_node c s in
    let a : IsStep (c ∷ []) s t = step-node c s (inside c (Contains-head c more)) in
    let b : IsStep more t (after_nodes more t) = step-nodes more t (λ d has. let below : d < length s.found = inside d (Contains-tail c d more has) in let same : length t.found ≡ length s.found = a.room in omega arith) in
    step-first c more s t (after_nodes more t) a b

-- What a node reaches.

reaches-next : (graph : List (List ℕ)) (c d e : ℕ) → (c ≡ d) ⊎ Reaches graph c d → Reads graph d e → Reaches graph c e
reaches-next graph c d e (inl same) r = ([], subst (λ (k : ℕ). Reads graph k e) (sym same) r)
reaches-next graph c d e (inr h) r = (h.0 ++ d ∷ [], through_more (Reads graph) c h.0 d e h.1 r)

from-found : (graph : List (List ℕ)) (c d : ℕ) (s : Trail) (P : ℕ → Type 0) → IsTrail graph c s P → (c ≡ d) ⊎ IsFound s d → (c ≡ d) ⊎ Reaches graph c d
from-found graph c d s P h (inl same) = inl same
from-found graph c d s P h (inr found) = inr (h.sound d found)

row-below : (graph : List (List ℕ)) (d n : ℕ) → AreInside graph → n ≡ length graph → (e : ℕ) → Reads graph d e → e < n
row-below graph d n within room e r = let below : e < length graph = within d e r in omega arith

-- the nodes of a row are nodes
pub row-all : (graph : List (List ℕ)) (d n : ℕ) (row : List ℕ) → AreInside graph → n ≡ length graph → row ≡ row_of graph d → All (λ e. e < n) row
row-all graph d n row within room is k x below = row-below graph d n within room (get_or row k x) (subst (λ (l : List ℕ). Contains l (get_or row k x)) is (Contains-get_or row k x below))

-- a node is looked at, the only one that is left
pub trail-look : (graph : List (List ℕ)) (c d : ℕ) (s : Trail) → (c ≡ d) ⊎ IsFound s d → IsTrail graph c s (λ x. d ≡ x) → IsTrail graph c (after_nodes (row_of graph d) s) none_left
trail-look graph c d s at h =
    let t : Trail = after_nodes (row_of graph d) s in
    let step : IsStep (row_of graph d) s t = step-nodes (row_of graph d) s (row-below graph d (length s.found) h.inside h.room) in
    record {
      inside = h.inside;
      room = step.room ∙ h.room;
      sound = λ e is. elim (step.news e is) [
        | inl old ↦ h.sound e old
        | inr new ↦ reaches-next graph c d e (from-found graph c d s (λ x. d ≡ x) h at) new.1
      ];
      opened = λ e is. elim (step.opened e is) [ inl old ↦ step.grows e (h.opened e old) | inr found ↦ found ];
      closed = λ x e from r.
          let old : (c ≡ x) ⊎ IsFound s x → Contains t.open_nodes x ⊎ (none_left x ⊎ IsFound t e) = λ known. elim (h.closed x e known r) [
            | inl open_old ↦ inl (step.opens x open_old)
            | inr other ↦ elim other [
              | inl same ↦ inr (inr (step.finds e (subst (λ (k : ℕ). Reads graph k e) (sym same) r)))
              | inr found ↦ inr (inr (step.grows e found))
            ]
          ] in
          elim from [
            | inl same ↦ old (inl same)
            | inr found ↦ elim (step.news x found) [ inl before ↦ old (inr before) | inr new ↦ inl new.0 ]
          ];
    }

-- the size of what is to be done stays
pub look-size : (graph : List (List ℕ)) (d : ℕ) (s : Trail) → AreInside graph → length s.found ≡ length graph → length (after_nodes (row_of graph d) s).open_nodes + unfound (after_nodes (row_of graph d) s).found ≡ length s.open_nodes + unfound s.found
look-size graph d s within room = (step-nodes (row_of graph d) s (row-below graph d (length s.found) within room)).size

-- the last open node is taken out
pub trail-pop : (graph : List (List ℕ)) (c d : ℕ) (s : Trail) (rest : List ℕ) → s.open_nodes ≡ rest ++ d ∷ [] → IsTrail graph c s none_left → IsTrail graph c (record { found = s.found; open_nodes = rest }) (λ x. d ≡ x)
trail-pop graph c d s rest is h = record {
  inside = h.inside;
  room = h.room;
  sound = h.sound;
  opened = λ e there. h.opened e (subst (λ (l : List ℕ). Contains l e) (sym is) (Contains-append_left rest (d ∷ []) e there));
  closed = λ x e from r. elim (h.closed x e from r) [
    | inl there ↦ elim (Contains-push_cases rest d x (subst (λ (l : List ℕ). Contains l x) is there)) [ inl old ↦ inl old | inr same ↦ inr (inl same) ]
    | inr other ↦ elim other [ inl none ↦ absurd none | inr found ↦ inr (inr found) ]
  ];
}

pub popped-found : (graph : List (List ℕ)) (c d : ℕ) (s : Trail) (rest : List ℕ) → s.open_nodes ≡ rest ++ d ∷ [] → IsTrail graph c s none_left → IsFound s d
popped-found graph c d s rest is h = h.opened d (subst (λ (l : List ℕ). Contains l d) (sym is) (Contains-push rest d))

-- nothing is found yet
pub trail-start : (graph : List (List ℕ)) (c : ℕ) (s : Trail) → AreInside graph → s.found ≡ replicate (length graph) false → s.open_nodes ≡ [] → IsTrail graph c s (λ x. c ≡ x)
trail-start graph c s within none empty =
    let nothing : (e : ℕ) → IsFound s e → ⊥ = λ e is. false≢true (sym (is_listed-none (length graph) e) ∙ sym (ap (λ (l : List Bool). is_listed l e) none) ∙ is) in
    record {
      inside = within;
      room = ap length none ∙ length-replicate (length graph) false;
      sound = λ e is. absurd (nothing e is);
      opened = λ e there. absurd (Contains-empty e (subst (λ (l : List ℕ). Contains l e) empty there));
      closed = λ x e from r. elim from [ inl same ↦ inr (inl same) | inr found ↦ absurd (nothing x found) ];
    }

reached-next : (graph : List (List ℕ)) (c : ℕ) (s : Trail) → s.open_nodes ≡ [] → IsTrail graph c s none_left → (d e : ℕ) → (c ≡ d) ⊎ IsFound s d → Reads graph d e → IsFound s e
reached-next graph c s empty h d e from r = elim (h.closed d e from r) [
  | inl there ↦ absurd (Contains-empty d (subst (λ (l : List ℕ). Contains l d) empty there))
  | inr other ↦ elim other [ inl none ↦ absurd none | inr found ↦ found ]
]

all-reached : (graph : List (List ℕ)) (c : ℕ) (s : Trail) → s.open_nodes ≡ [] → IsTrail graph c s none_left → (d : ℕ) (between : List ℕ) (e : ℕ) → (c ≡ d) ⊎ IsFound s d → ReadsThrough (Reads graph) d between e → IsFound s e
all-reached graph c s empty h d [] e from r = reached-next graph c s empty h d e from r
all-reached graph c s empty h d (b ∷ more) e from r = all-reached graph c s empty h b more e (inr (reached-next graph c s empty h d b from r.0)) r.1

-- nothing is left: what is found is what is reached
pub trail-end : (graph : List (List ℕ)) (c : ℕ) (s : Trail) → s.open_nodes ≡ [] → IsTrail graph c s none_left → (is_listed s.found c ≡ true) ↔ IsOnLoop (Reads graph) c
trail-end graph c s empty h = (λ found. h.sound c found, λ loop. all-reached graph c s empty h c loop.0 c (inl refl) loop.1)

-- what a pop says where it gives nothing
pub popped-none : (o : Option ℕ) (A : Type 0) (B : ℕ → Type 0) → ((x : ℕ) → o ≡ Some x → ⊥) → MatchOption o A B → A
popped-none None A B not h = h
popped-none (Some x) A B not h = absurd (not x refl)
