-- Each step of the listing leads from a stage to a stage.
use Rattle.net_order.proofs.Common.{◌≡◌, ◌≢◌, ℕ, zero, suc, ◌+◌, ◌<◌, ◌≤◌, Bool, true, false, List, [], ◌∷◌, ◌++◌, length, get_or, set, take, drop, replicate, Option, Some, None, ◌⊎◌, inl, inr, refl}
use Rattle.net_order.proofs.Common.{sym, ◌∙◌, ap, subst, arith, Contains, All, insert_key, nat_cmp, Less, Equal, Greater, false≢true, cases_lt, cases_order, cases_Bool, eqb_tells, length-set}
use Rattle.net_order.proofs.Common.{length_push, get_or-set_same, get_or-set_other, get_or_append_left, get_or_push, take-append-le, take_at, length-replicate, length-drop, drop_more, Contains-get_or}
use Rattle.net_order.proofs.Common.{Contains-append_left, Contains-push, Contains-push_cases, row_of, AreInside, Reads, IsReady, IsLeastReady, IsInOrder, is_listed, Stage, IsNext, with_row, placed}
use Rattle.net_order.proofs.Common.{IsPlaced, marked, IsSized, CanBePlaced, IsStage, none_left, unfound}
use Rattle.std.specs.BTreeMap.Range.{IsLtBy}
use Rattle.std.specs.Cmp.{nat_cmp_is}
use Rattle.net_order.proofs.Reading.{reader-inside, Contains-head, Contains-tail, Contains-cases, Contains-empty, insert-has, insert-keeps, insert-only, listed-reads}

-- fewer are left
pub stage-fewer : (graph : List (List ℕ)) (s : Stage) (P Q : ℕ → Type 0) → ((x : ℕ) → P x → Q x) → IsStage graph s P → IsStage graph s Q
stage-fewer graph s P Q to h = record {
  inside = h.inside;
  room = h.room;
  rows = h.rows;
  wide = h.wide;
  sound = h.sound;
  covers = h.covers;
  order = h.order;
  told = h.told;
  lists = h.lists;
  ready = h.ready;
  each = λ c l e. elim (h.each c l e) [ inl r ↦ inl r | inr more ↦ elim more [ inl w ↦ inr (inl w) | inr p ↦ inr (inr (to c p)) ] ];
  waits = h.waits;
}

-- what a node reads is told anew
row-stage : (graph : List (List ℕ)) (s : Stage) (P : ℕ → Type 0) (c : ℕ) (row : List ℕ) (o : Option ℕ) → c < length s.reads → IsNext s.listed (row_of s.reads c) row o → IsStage graph s P → IsStage graph (with_row c row s) P
row-stage graph s P c row o inside next h = record {
  inside = h.inside;
  room = h.room;
  rows = length-set s.reads c row ∙ h.rows;
  wide = h.wide;
  sound = λ x d has. elim (eqb_tells x c) [
    | inl same ↦
        let here : Contains (row_of (set s.reads c row) c) d = subst (λ (k : ℕ). Contains (row_of (set s.reads c row) k) d) same.1 has in
        let old : Contains (row_of s.reads c) d = next.fewer d (subst (λ (l : List ℕ). Contains l d) (get_or-set_same s.reads c row [] inside) here) in
        subst (λ (k : ℕ). Reads graph k d) (sym same.1) (h.sound c d old)
    | inr other ↦ h.sound x d (subst (λ (l : List ℕ). Contains l d) (get_or-set_other s.reads c x row [] other.1) has)
  ];
  covers = λ x d r. elim (h.covers x d r) [
    | inl t ↦ inl t
    | inr has ↦ elim (eqb_tells x c) [
      | inl same ↦ elim (next.rest d (subst (λ (k : ℕ). Contains (row_of s.reads k) d) same.1 has)) [
        | inl t ↦ inl t
        | inr kept ↦ inr (subst (λ (k : ℕ). Contains (row_of (set s.reads c row) k) d) (sym same.1) (rw (get_or-set_same s.reads c row [] inside) kept))
      ]
      | inr other ↦ inr (rw (get_or-set_other s.reads c x row [] other.1) has)
    ]
  ];
  order = h.order;
  told = h.told;
  lists = h.lists;
  ready = h.ready;
  each = h.each;
  waits = h.waits;
}

placed-ready : (graph : List (List ℕ)) (s : Stage) (P : ℕ → Type 0) (c : ℕ) → c < length graph → is_listed s.listed c ≡ false → ((d : ℕ) → ¬ Contains (row_of s.reads c) d) → IsStage graph s (λ x. (c ≡ x) ⊎ P x) → IsStage graph (placed None c s) P
placed-ready graph s P c inside free none h =
    let is : IsReady (length graph) (Reads graph) s.order c = record {
      node = inside;
      unlisted = λ has. false≢true (sym free ∙ h.lists c has);
      reads = λ d r. elim (h.covers c d r) [ inl t ↦ h.told d t | inr has ↦ absurd (none d has) ];
    } in
    record {
      inside = h.inside;
      room = h.room;
      rows = h.rows;
      wide = h.wide;
      sound = h.sound;
      covers = h.covers;
      order = h.order;
      told = h.told;
      lists = h.lists;
      ready = λ x has. elim (insert-only s.ready c x has) [ inl old ↦ h.ready x old | inr same ↦ subst (λ (k : ℕ). IsReady (length graph) (Reads graph) s.order k) same is ];
      each = λ x l f. elim (h.each x l f) [
        | inl r ↦ inl (insert-keeps s.ready c x r)
        | inr more ↦ elim more [
          | inl w ↦ inr (inl w)
          | inr p ↦ elim p [ inl same ↦ inl (subst (λ (k : ℕ). Contains (insert_key nat_cmp s.ready c) k) same (insert-has s.ready c)) | inr q ↦ inr (inr q) ]
        ]
      ];
      waits = h.waits;
    }

-- a list to which c was added at d
at_added : (waiting : List (List ℕ)) (c d e x : ℕ) → d < length waiting → Contains (row_of waiting e) x → Contains (row_of (set waiting d (row_of waiting d ++ c ∷ [])) e) x
at_added waiting c d e x inside h = elim (eqb_tells e d) [
  | inl same ↦
      let P : ℕ → Type 0 = λ k. Contains (row_of (set waiting d (row_of waiting d ++ c ∷ [])) k) x in
      let old : Contains (row_of waiting d) x = subst (λ (k : ℕ). Contains (row_of waiting k) x) same.1 h in
      let there : row_of (set waiting d (row_of waiting d ++ c ∷ [])) d ≡ row_of waiting d ++ c ∷ [] = get_or-set_same waiting d (row_of waiting d ++ c ∷ []) [] inside in
      subst P (sym same.1) (rw there (Contains-append_left (row_of waiting d) (c ∷ []) x old))
  | inr other ↦ rw (get_or-set_other waiting d e (row_of waiting d ++ c ∷ []) [] other.1) h
]

placed-waits : (graph : List (List ℕ)) (s : Stage) (P : ℕ → Type 0) (c d : ℕ) → Contains (row_of s.reads c) d → is_listed s.listed d ≡ false → IsStage graph s (λ x. (c ≡ x) ⊎ P x) → IsStage graph (placed (Some d) c s) P
placed-waits graph s P c d has_d free_d h =
    let reads : Reads graph c d = h.sound c d has_d in
    let inside : d < length s.waiting = omega (arith, h.inside c d reads, h.wide) in
    let longer : List ℕ = row_of s.waiting d ++ c ∷ [] in
    let there : row_of (set s.waiting d longer) d ≡ longer = get_or-set_same s.waiting d longer [] inside in
    record {
      inside = h.inside;
      room = h.room;
      rows = h.rows;
      wide = length-set s.waiting d longer ∙ h.wide;
      sound = h.sound;
      covers = h.covers;
      order = h.order;
      told = h.told;
      lists = h.lists;
      ready = h.ready;
      each = λ x l f. elim (h.each x l f) [
        | inl r ↦ inl r
        | inr more ↦ elim more [
          | inl w ↦ inr (inl (w.0, w.1, at_added s.waiting c d w.0 x inside w.2))
          | inr p ↦ elim p [
            | inl same ↦ inr (inl (d, free_d, subst (λ (k : ℕ). Contains (row_of (set s.waiting d longer) d) k) same (rw there (Contains-push (row_of s.waiting d) c))))
            | inr q ↦ inr (inr q)
          ]
        ]
      ];
      waits = λ x k free has. elim (eqb_tells k d) [
        | inl same ↦
            let at : Contains (row_of (set s.waiting d longer) d) x = subst (λ (j : ℕ). Contains (row_of (set s.waiting d longer) j) x) same.1 has in
            let both : Contains longer x = subst (λ (l : List ℕ). Contains l x) there at in
            elim (Contains-push_cases (row_of s.waiting d) c x both) [
              | inl old ↦ subst (λ (j : ℕ). Reads graph x j) (sym same.1) (h.waits x d (subst (λ (j : ℕ). is_listed s.listed j ≡ false) same.1 free) old)
              | inr is ↦ subst (λ (j : ℕ). Reads graph x j) (sym same.1) (subst (λ (j : ℕ). Reads graph j d) is reads)
            ]
        | inr other ↦
            let kept : row_of (set s.waiting d longer) k ≡ row_of s.waiting k = get_or-set_other s.waiting d k longer [] other.1 in
            h.waits x k free (subst (λ (l : List ℕ). Contains l x) kept has)
      ];
    }

placed-by : (graph : List (List ℕ)) (s : Stage) (P : ℕ → Type 0) (c : ℕ) (row : List ℕ) (o : Option ℕ) → c < length graph → is_listed s.listed c ≡ false → IsNext s.listed (row_of s.reads c) row o → IsStage graph s (λ x. (c ≡ x) ⊎ P x) → IsStage graph (placed o c (with_row c row s)) P
placed-by graph s P c row None inside free next h =
    let room : c < length s.reads = omega (arith, inside, h.rows) in
    let at : row_of (set s.reads c row) c ≡ row = get_or-set_same s.reads c row [] room in
    placed-ready graph (with_row c row s) P c inside free (λ d has. next.none d refl (subst (λ (l : List ℕ). Contains l d) at has)) (row-stage graph s (λ x. (c ≡ x) ⊎ P x) c row None room next h)
placed-by graph s P c row (Some d) inside free next h =
    let room : c < length s.reads = omega (arith, inside, h.rows) in
    let at : row_of (set s.reads c row) c ≡ row = get_or-set_same s.reads c row [] room in
    let there = next.some d refl in
    placed-waits graph (with_row c row s) P c d (rw at there.0) there.1 (row-stage graph s (λ x. (c ≡ x) ⊎ P x) c row (Some d) room next h)

-- a node is placed
pub stage-placed : (graph : List (List ℕ)) (s t : Stage) (P : ℕ → Type 0) (c : ℕ) → c < length graph → is_listed s.listed c ≡ false → IsPlaced c s t → IsStage graph s (λ x. (c ≡ x) ⊎ P x) → IsStage graph t P
stage-placed graph s t P c inside free by h = subst (λ (u : Stage). IsStage graph u P) (sym by.is) (placed-by graph s P c by.row by.unlisted inside free by.next h)

-- What placing keeps.

kept-listed : (o : Option ℕ) (c : ℕ) (s : Stage) → (placed o c s).listed ≡ s.listed
kept-listed None c s = refl
kept-listed (Some d) c s = refl

pub placed-listed : (c : ℕ) (s t : Stage) → IsPlaced c s t → t.listed ≡ s.listed
placed-listed c s t by = ap (λ (u : Stage). u.listed) by.is ∙ kept-listed by.unlisted c (with_row c by.row s)

kept-order : (o : Option ℕ) (c : ℕ) (s : Stage) → (placed o c s).order ≡ s.order
kept-order None c s = refl
kept-order (Some d) c s = refl

pub placed-order : (c : ℕ) (s t : Stage) → IsPlaced c s t → t.order ≡ s.order
placed-order c s t by = ap (λ (u : Stage). u.order) by.is ∙ kept-order by.unlisted c (with_row c by.row s)

kept-reads : (o : Option ℕ) (c : ℕ) (s : Stage) → (placed o c s).reads ≡ s.reads
kept-reads None c s = refl
kept-reads (Some d) c s = refl

kept-wide : (o : Option ℕ) (c : ℕ) (s : Stage) → length (placed o c s).waiting ≡ length s.waiting
kept-wide None c s = refl
kept-wide (Some d) c s = length-set s.waiting d (row_of s.waiting d ++ c ∷ [])

pub placed-sized : (c : ℕ) (s t : Stage) → c < length s.listed → IsPlaced c s t → IsSized s → IsSized t
placed-sized c s t inside by h =
    let listed : length t.listed ≡ length s.listed = ap length (placed-listed c s t by) in
    let reads : t.reads ≡ set s.reads c by.row = ap (λ (u : Stage). u.reads) by.is ∙ kept-reads by.unlisted c (with_row c by.row s) in
    let waiting : length t.waiting ≡ length s.waiting = ap (λ (u : Stage). length u.waiting) by.is ∙ kept-wide by.unlisted c (with_row c by.row s) in
    record {
      rows = ap length reads ∙ length-set s.reads c by.row ∙ h.rows ∙ sym listed;
      wide = waiting ∙ h.wide ∙ sym listed;
      inside = λ x d has.
          let here : Contains (row_of (set s.reads c by.row) x) d = subst (λ (r : List (List ℕ)). Contains (row_of r x) d) reads has in
          let below : d < length s.listed = elim (eqb_tells x c) [
            | inl same ↦
                let at : Contains (row_of (set s.reads c by.row) c) d = subst (λ (k : ℕ). Contains (row_of (set s.reads c by.row) k) d) same.1 here in
                h.inside c d (by.next.fewer d (subst (λ (l : List ℕ). Contains l d) (get_or-set_same s.reads c by.row [] (omega (arith, inside, h.rows))) at))
            | inr other ↦ h.inside x d (subst (λ (l : List ℕ). Contains l d) (get_or-set_other s.reads c x by.row [] other.1) here)
          ] in
          omega (arith, below, listed);
    }

-- a stage has a list for each node
pub stage-sized : (graph : List (List ℕ)) (s : Stage) (P : ℕ → Type 0) → IsStage graph s P → IsSized s
stage-sized graph s P h = record {
  rows = h.rows ∙ sym h.room;
  wide = h.wide ∙ sym h.room;
  inside = λ c d has. (let r = h.sound c d has in omega (arith, h.inside c d r, h.room));
}

-- the first of several nodes is placed
pub stage-first : (graph : List (List ℕ)) (s t : Stage) (c : ℕ) (more : List ℕ) → CanBePlaced graph s.listed (c ∷ more) → IsPlaced c s t → IsStage graph s (Contains (c ∷ more)) → IsStage graph t (Contains more)
stage-first graph s t c more can by h =
    let here = can c (Contains-head c more) in
    stage-placed graph s t (Contains more) c here.0 here.1 by (stage-fewer graph s (Contains (c ∷ more)) (λ x. (c ≡ x) ⊎ Contains more x) (λ x p. Contains-cases c x more p) h)

-- those that are left can still be placed
pub can-rest : (graph : List (List ℕ)) (s t : Stage) (c : ℕ) (more : List ℕ) → CanBePlaced graph s.listed (c ∷ more) → IsPlaced c s t → CanBePlaced graph t.listed more
can-rest graph s t c more can by = λ x p. (let old = can x (Contains-tail c x more p) in (old.0, ap (λ (l : List Bool). is_listed l x) (placed-listed c s t by) ∙ old.1))

-- a node is listed
pub marked-sized : (c : ℕ) (s : Stage) → IsSized s → IsSized (marked c s)
marked-sized c s h = record {
  rows = h.rows ∙ sym (length-set s.listed c true);
  wide = length-set s.waiting c [] ∙ h.wide ∙ sym (length-set s.listed c true);
  inside = λ x d has. (let below = h.inside x d has in omega (arith, below, length-set s.listed c true));
}

-- one of several nodes is placed, and the others can still be
pub stage-step : (graph : List (List ℕ)) (s t : Stage) (woken : List ℕ) (i d : ℕ) → i < length woken → CanBePlaced graph s.listed (drop i woken) → IsPlaced (get_or woken i d) s t → IsStage graph s (Contains (drop i woken)) → IsStage graph t (Contains (drop (i + 1) woken)) × CanBePlaced graph t.listed (drop (i + 1) woken)
stage-step graph s t woken i d inside can by h =
    let c : ℕ = get_or woken i d in
    let more : List ℕ = drop (i + 1) woken in
    let cut : drop i woken ≡ c ∷ more = drop_more woken i d inside in
    let can_both : CanBePlaced graph s.listed (c ∷ more) = subst (λ (l : List ℕ). CanBePlaced graph s.listed l) cut can in
    (stage-first graph s t c more can_both by (subst (λ (l : List ℕ). IsStage graph s (Contains l)) cut h), can-rest graph s t c more can_both by)

pub step-sized : (s t : Stage) (listed : List Bool) (woken : List ℕ) (i d : ℕ) → i < length woken → All (λ c. c < length listed) woken → s.listed ≡ listed → IsSized s → IsPlaced (get_or woken i d) s t → IsSized t × (t.listed ≡ listed)
step-sized s t listed woken i d inside all same sized by =
    let below : get_or woken i d < length listed = all i d inside in
    (placed-sized (get_or woken i d) s t (omega (arith, below, ap length same)) by sized, placed-listed (get_or woken i d) s t by ∙ same)

-- all are placed
pub stage-none : (graph : List (List ℕ)) (s : Stage) (woken : List ℕ) (i : ℕ) → length woken ≤ i → IsStage graph s (Contains (drop i woken)) → IsStage graph s none_left
stage-none graph s woken i past h = stage-fewer graph s (Contains (drop i woken)) none_left (λ x has. omega (arith, has.1, length-drop i woken, past)) h

-- a node more is told
pub unfound-set : (listed : List Bool) (c : ℕ) → c < length listed → is_listed listed c ≡ false → suc (unfound (set listed c true)) ≡ unfound listed
unfound-set [] c inside free = absurd (omega (arith, inside))
unfound-set (b ∷ more) zero inside free = rw free (omega arith)
unfound-set (b ∷ more) (suc c) inside free = let rest = unfound-set more c (omega (arith, inside)) free in omega (arith, rest)

-- The next node.

-- the first of the nodes that are ready is taken out
abbrev pub popped : Stage → List ℕ → Stage
popped s rest = record s { ready = rest }

module _ (graph : List (List ℕ)) (s : Stage) (h : IsStage graph s none_left) (c : ℕ) (rest : List ℕ) (first : s.ready ≡ c ∷ rest) (above : (x : ℕ) → Contains rest x → c < x) where
  is_ready : IsReady (length graph) (Reads graph) s.order c
  is_ready = h.ready c (subst (λ (l : List ℕ). Contains l c) (sym first) (Contains-head c rest))

  free : is_listed s.listed c ≡ false
  free = elim (cases_Bool (is_listed s.listed c)) [ inl t ↦ absurd (is_ready.unlisted (h.told c t)) | inr f ↦ f ]

  pub inside : c < length s.listed
  inside = omega (arith, is_ready.node, h.room)

  pub least_ready : IsLeastReady (length graph) (Reads graph) s.order c
  least_ready = record {
    ready = is_ready;
    least = λ d r. elim (cases_Bool (is_listed s.listed d)) [
      | inl t ↦ absurd (r.unlisted (h.told d t))
      | inr f ↦ elim (h.each d r.node f) [
        | inl there ↦ elim (Contains-cases c d rest (subst (λ (l : List ℕ). Contains l d) first there)) [
          | inl same ↦ (let e : c ≡ d = same in omega arith)
          | inr later ↦ omega (arith, above d later)
        ]
        | inr more ↦ elim more [
          | inl w ↦ absurd (false≢true (sym w.1 ∙ h.lists w.0 (r.reads w.0 (h.waits d w.0 w.1 w.2))))
          | inr none ↦ absurd none
        ]
      ]
    ];
  }

  in_order : IsInOrder (length graph) (Reads graph) (s.order ++ c ∷ [])
  in_order k l = elim (cases_lt k (length s.order)) [
    | inl before ↦
        let old : IsLeastReady (length graph) (Reads graph) (take k s.order) (get_or s.order k 0) = h.order k before in
        let front : take k (s.order ++ c ∷ []) ≡ take k s.order = take-append-le k s.order (c ∷ []) (omega (arith, before)) in
        let at : get_or (s.order ++ c ∷ []) k 0 ≡ get_or s.order k 0 = get_or_append_left s.order (c ∷ []) 0 k before in
        rw (front, at) old
    | inr after ↦
        let last : length s.order ≡ k = omega (arith, l, after, length_push s.order c) in
        let front : take k (s.order ++ c ∷ []) ≡ s.order = take_at s.order (c ∷ []) k last in
        let at : get_or (s.order ++ c ∷ []) k 0 ≡ c = get_or_push s.order c 0 k last in
        rw (front, at) least_ready
  ]

  told_after : (x : ℕ) → is_listed (set s.listed c true) x ≡ true → Contains (s.order ++ c ∷ []) x
  told_after x t = elim (eqb_tells x c) [
    | inl same ↦ subst (λ (k : ℕ). Contains (s.order ++ c ∷ []) k) (sym same.1) (Contains-push s.order c)
    | inr other ↦ Contains-append_left s.order (c ∷ []) x (h.told x (sym (get_or-set_other s.listed c x true false other.1) ∙ t))
  ]

  lists_after : (x : ℕ) → Contains (s.order ++ c ∷ []) x → is_listed (set s.listed c true) x ≡ true
  lists_after x has = elim (eqb_tells x c) [
    | inl same ↦ ap (λ (k : ℕ). is_listed (set s.listed c true) k) same.1 ∙ get_or-set_same s.listed c true false inside
    | inr other ↦ get_or-set_other s.listed c x true false other.1 ∙ elim (Contains-push_cases s.order c x has) [ inl old ↦ h.lists x old | inr same ↦ absurd (other.1 (sym same)) ]
  ]

  -- a node that is not listed after it
  free_after : (x : ℕ) → is_listed (set s.listed c true) x ≡ false → (x ≢ c) × (is_listed s.listed x ≡ false)
  free_after x f = elim (eqb_tells x c) [
    | inl same ↦ absurd (false≢true (sym f ∙ ap (λ (k : ℕ). is_listed (set s.listed c true) k) same.1 ∙ get_or-set_same s.listed c true false inside))
    | inr other ↦ (other.1, sym (get_or-set_other s.listed c x true false other.1) ∙ f)
  ]

  ready_after : (x : ℕ) → Contains rest x → IsReady (length graph) (Reads graph) (s.order ++ c ∷ []) x
  ready_after x has =
      let old : IsReady (length graph) (Reads graph) s.order x = h.ready x (subst (λ (l : List ℕ). Contains l x) (sym first) (Contains-tail c x rest has)) in
      record {
        node = old.node;
        unlisted = λ there. elim (Contains-push_cases s.order c x there) [ inl before ↦ old.unlisted before | inr same ↦ (let e : c ≡ x = same in let l : c < x = above x has in omega (arith)) ];
        reads = λ d r. Contains-append_left s.order (c ∷ []) d (old.reads d r);
      }

  listed_after : (d : ℕ) → is_listed s.listed d ≡ true → is_listed (set s.listed c true) d ≡ true
  listed_after d t = elim (eqb_tells d c) [
    | inl same ↦ ap (λ (k : ℕ). is_listed (set s.listed c true) k) same.1 ∙ get_or-set_same s.listed c true false inside
    | inr other ↦ get_or-set_other s.listed c d true false other.1 ∙ t
  ]

  pub marked-stage : IsStage graph (marked c (popped s rest)) (Contains (row_of s.waiting c))
  marked-stage = record {
    inside = h.inside;
    room = length-set s.listed c true ∙ h.room;
    rows = h.rows;
    wide = length-set s.waiting c [] ∙ h.wide;
    sound = h.sound;
    covers = λ x d r. elim (h.covers x d r) [ inl t ↦ inl (listed_after d t) | inr has ↦ inr has ];
    order = in_order;
    told = told_after;
    lists = lists_after;
    ready = ready_after;
    each = λ x l f.
        let old = free_after x f in
        elim (h.each x l old.1) [
          | inl there ↦ elim (Contains-cases c x rest (subst (λ (k : List ℕ). Contains k x) first there)) [ inl same ↦ absurd (old.0 (sym same)) | inr later ↦ inl later ]
          | inr more ↦ elim more [
            | inl w ↦ elim (eqb_tells w.0 c) [
              | inl same ↦ inr (inr (subst (λ (k : ℕ). Contains (row_of s.waiting k) x) same.1 w.2))
              | inr other ↦ inr (inl (w.0, get_or-set_other s.listed c w.0 true false other.1 ∙ w.1, subst (λ (k : List ℕ). Contains k x) (sym (get_or-set_other s.waiting c w.0 [] [] other.1)) w.2))
            ]
            | inr none ↦ absurd none
          ]
        ];
    waits = λ x d f has.
        let old = free_after d f in
        h.waits x d old.1 (subst (λ (k : List ℕ). Contains k x) (get_or-set_other s.waiting c d [] [] old.0) has);
  }

  -- those that waited for it can be placed
  pub woken : CanBePlaced graph (set s.listed c true) (row_of s.waiting c)
  woken x has =
      let r : Reads graph x c = h.waits x c free has in
      let other : x ≢ c = λ same. is_ready.unlisted (is_ready.reads c (subst (λ (k : ℕ). Reads graph k c) same r)) in
      let not_before : is_listed s.listed x ≡ false = elim (cases_Bool (is_listed s.listed x)) [ inl t ↦ absurd (is_ready.unlisted (listed-reads graph s.order h.order x c (h.told x t) r)) | inr f ↦ f ] in
      (reader-inside graph x c r, get_or-set_other s.listed c x true false other ∙ not_before)

  pub woken-inside : All (λ d. d < length s.listed) (row_of s.waiting c)
  woken-inside k d below = (let there = (woken (get_or (row_of s.waiting c) k d) (Contains-get_or (row_of s.waiting c) k d below)).0 in omega (arith, there, h.room))

  -- fewer nodes are not listed
  pub next-fewer : suc (unfound (set s.listed c true)) ≡ unfound s.listed
  next-fewer = unfound-set s.listed c inside free

-- The start.

row_of-none : (n d : ℕ) → row_of (replicate n []) d ≡ []
row_of-none zero d = refl
row_of-none (suc n) zero = refl
row_of-none (suc n) (suc d) = row_of-none n d

pub is_listed-none : (n c : ℕ) → is_listed (replicate n false) c ≡ false
is_listed-none zero c = refl
is_listed-none (suc n) zero = refl
is_listed-none (suc n) (suc c) = is_listed-none n c

start-of : (graph : List (List ℕ)) → AreInside graph → IsStage graph (record { listed = replicate (length graph) false; reads = graph; ready = []; waiting = replicate (length graph) []; order = [] }) (λ x. 0 ≤ x)
start-of graph within = record {
  inside = within;
  room = length-replicate (length graph) false;
  rows = refl;
  wide = length-replicate (length graph) [];
  sound = λ c d has. has;
  covers = λ c d r. inr r;
  order = λ k l. absurd (omega (arith, l));
  told = λ c e. absurd (false≢true (sym (is_listed-none (length graph) c) ∙ e));
  lists = λ c has. absurd (Contains-empty c has);
  ready = λ c has. absurd (Contains-empty c has);
  each = λ c l e. inr (inr (omega arith));
  waits = λ c d e has. absurd (Contains-empty c (subst (λ (l : List ℕ). Contains l c) (row_of-none (length graph) d) has));
}

pub stage-start : (graph : List (List ℕ)) (s : Stage) → AreInside graph → s.listed ≡ replicate (length graph) false → s.reads ≡ graph → s.ready ≡ [] → s.waiting ≡ replicate (length graph) [] → s.order ≡ [] → IsStage graph s (λ x. 0 ≤ x)
stage-start graph s within listed reads ready waiting order =
    let same : record { listed = replicate (length graph) false; reads = graph; ready = []; waiting = replicate (length graph) []; order = [] } ≡ s = rw (listed, reads, ready, waiting, order) refl in
    subst (λ (t : Stage). IsStage graph t (λ x. 0 ≤ x)) same (start-of graph within)

-- the nodes from c on are left, and c is placed
pub stage-from : (graph : List (List ℕ)) (s t : Stage) (c : ℕ) → c < length graph → s.order ≡ [] → IsPlaced c s t → IsStage graph s (λ x. c ≤ x) → IsStage graph t (λ x. c + 1 ≤ x)
stage-from graph s t c inside none by h =
    let free : is_listed s.listed c ≡ false = elim (cases_Bool (is_listed s.listed c)) [ inl t ↦ absurd (Contains-empty c (subst (λ (l : List ℕ). Contains l c) none (h.told c t))) | inr f ↦ f ] in
    stage-placed graph s t (λ x. c + 1 ≤ x) c inside free by (stage-fewer graph s (λ x. c ≤ x) (λ x. (c ≡ x) ⊎ (c + 1 ≤ x)) (λ x p. from c x p) h)
  where
    from : (a b : ℕ) → a ≤ b → (a ≡ b) ⊎ (a + 1 ≤ b)
    from a b le = grind arith

-- the keys after the first are greater
pub above-first : (c : ℕ) (rest : List ℕ) → All (IsLtBy nat_cmp c) rest → (x : ℕ) → Contains rest x → c < x
above-first c rest all x has =
    let less : nat_cmp c x ≡ Less = ap (nat_cmp c) (sym has.2) ∙ all has.0 x has.1 in
    elim (cases_order c x) [
      | inl same ↦ absurd (let e : Equal ≡ nat_cmp c x = nat_cmp_is c x Equal same in cc)
      | inr other ↦ elim other [
        | inl before ↦ before
        | inr after ↦ absurd (let e : Greater ≡ nat_cmp c x = nat_cmp_is c x Greater after in cc)
      ]
    ]
