-- The table of all writers, and the graph of the nodes, one node more at a time.
use Rattle.tb_nets.proofs.Common.{◌≡◌, ◌≢◌, zero, suc, ℕ, ◌+◌, ◌<◌, ◌≤◌, Bool, true, false, ◌&&◌, ◌||◌, nat_eq, nat_lt, List, [], ◌∷◌, ◌++◌, map, refl, sym, ap, ◌∙◌, subst, inl, inr, arith, length}
use Rattle.tb_nets.proofs.Common.{get_or, slice_get, Option, Some, None, All, Contains, cases_lt, and_from, eqb_tells, nat_tests, Bits, row_of, NetNode, Writer, Wiring, node_reads, node_writes}
use Rattle.tb_nets.proofs.Common.{reads_of, writes_of, writes_in, AreWriters, AreWritersOf, IsGraph, or_end}
use Rattle.std.proofs.lemmas.List.{map-append, length_push, get_or_append_left, get_or_push}
use Rattle.tb_nets.proofs.Sharing.{has_none}
use Rattle.vlog_effects.proofs.Bools.{and-right}

pub node_at : (nodes : List NetNode) (k : ℕ) (node : NetNode) → node ≡ get_or nodes k node → k < length nodes → slice_get nodes k ≡ Some node
node_at [] k node is h = absurd (omega arith)
node_at (x ∷ xs) zero node is h = ap Some (sym is)
node_at (x ∷ xs) (suc k) node is h = node_at xs k node is (omega arith)

pub node_sided : (P : NetNode → Type 0) (nodes : List NetNode) (k : ℕ) (node : NetNode) → node ≡ get_or nodes k node → k < length nodes → All P nodes → P node
node_sided P nodes k node is h all = subst P (sym is) (all k node h)

is_next : (d k : ℕ) → d ≡ k → true ≡ nat_lt d (k + 1)
is_next d k e = grind (arith, nat_tests)

not_before : (d k : ℕ) → d ≡ k → nat_lt d k ≡ false
not_before d k e = grind (arith, nat_tests)

same_before : (d k : ℕ) → d ≢ k → nat_lt d k ≡ nat_lt d (k + 1)
same_before d k ne = grind (arith, nat_tests)

-- what one node more writes
pub more_writers : (w : Wiring) (nodes : List NetNode) (k : ℕ) (node : NetNode) (n i d : ℕ) (old now bits : Bool) → slice_get nodes k ≡ Some node → old ≡ (nat_lt d k && writes_of w (slice_get nodes d) n i) → bits ≡ node_writes w node n i → now ≡ (old || (nat_eq d k && bits)) → now ≡ (nat_lt d (k + 1) && writes_of w (slice_get nodes d) n i)
more_writers w nodes k node n i d old now bits at before is e = elim (eqb_tells d k) [
  | inl same ↦
      let here : writes_of w (slice_get nodes d) n i ≡ bits = ap (λ (j : ℕ). writes_of w (slice_get nodes j) n i) same.1 ∙ ap (λ (o : Option NetNode). writes_of w o n i) at ∙ sym is in
      let gone : old ≡ false = before ∙ ap (λ (b : Bool). b && writes_of w (slice_get nodes d) n i) (not_before d k same.1) in
      e ∙ ap (λ (b : Bool). b || (nat_eq d k && bits)) gone ∙ ap (λ (b : Bool). b && bits) same.0 ∙ sym here ∙ ap (λ (b : Bool). b && writes_of w (slice_get nodes d) n i) (is_next d k same.1)
  | inr other ↦
      e ∙ ap (λ (b : Bool). old || (b && bits)) other.0 ∙ or_end old ∙ before ∙ ap (λ (b : Bool). b && writes_of w (slice_get nodes d) n i) (same_before d k other.1)
]

pub none_written : (w : Wiring) (nodes : List NetNode) (n i d : ℕ) → false ≡ (nat_lt d 0 && writes_of w (slice_get nodes d) n i)
none_written w nodes n i d = ap (λ (b : Bool). b && writes_of w (slice_get nodes d) n i) (none d)
  where
    none : (d : ℕ) → false ≡ nat_lt d 0
    none d = grind (arith, nat_tests)

-- The rows of the first nodes, so many.
pub record AreRows (w : Wiring) (nodes : List NetNode) (writes : ℕ → ℕ → ℕ → Bool) (k : ℕ) (rows : List (List ℕ)) : Type 0 where
  pub count : length rows ≡ k
  pub each : (c : ℕ) (node : NetNode) → c < k → slice_get nodes c ≡ Some node → AreWritersOf writes (node_reads w node) (row_of rows c)

pub no_rows : (w : Wiring) (nodes : List NetNode) (writes : ℕ → ℕ → ℕ → Bool) → AreRows w nodes writes 0 []
no_rows w nodes writes = record { count = refl; each = λ c node below at. absurd (omega arith) }

pub same_node : (a b : NetNode) → Some a ≡ Some b → a ≡ b
same_node a b e = cc

pub more_rows : (w : Wiring) (nodes : List NetNode) (writes : ℕ → ℕ → ℕ → Bool) (k : ℕ) (rows : List (List ℕ)) (node : NetNode) (row : List ℕ) → slice_get nodes k ≡ Some node → AreWritersOf writes (node_reads w node) row → AreRows w nodes writes k rows → AreRows w nodes writes (k + 1) (rows ++ row ∷ [])
more_rows w nodes writes k rows node row at here h = record {
  count = (let count = h.count in omega (arith, length_push rows row, count));
  each = λ c x below there. elim (cases_lt c k) [
    | inl before ↦ subst (AreWritersOf writes (node_reads w x)) (sym (get_or_append_left rows (row ∷ []) [] c (let count = h.count in omega (arith, before, count)))) (h.each c x before there)
    | inr past ↦
        let last : c ≡ k = omega arith in
        let is : x ≡ node = same_node x node (sym there ∙ ap (slice_get nodes) last ∙ at) in
        let same : row_of (rows ++ row ∷ []) c ≡ row = get_or_push rows row [] c (let count = h.count in omega (arith, last, count)) in
        subst (AreWritersOf writes (node_reads w x)) (sym same) (subst (λ (y : NetNode). AreWritersOf writes (node_reads w y) row) (sym is) here)
  ];
}

pub rows_pushed : {V : Type 0} (items : V → List ℕ) (w : Wiring) (nodes : List NetNode) (writes : ℕ → ℕ → ℕ → Bool) (k : ℕ) (vs us : List V) (v : V) (node : NetNode) → us ≡ vs ++ v ∷ [] → slice_get nodes k ≡ Some node → AreWritersOf writes (node_reads w node) (items v) → AreRows w nodes writes k (map items vs) → AreRows w nodes writes (k + 1) (map items us)
rows_pushed items w nodes writes k vs us v node longer at here h =
    subst (AreRows w nodes writes (k + 1)) (sym (ap (map items) longer ∙ map-append items vs (v ∷ []))) (more_rows w nodes writes k (map items vs) node (items v) at here h)

-- All rows are the graph.

node_inside : (nodes : List NetNode) (w : Wiring) (of : Option NetNode → Bits) (c n i : ℕ) → ((m j : ℕ) → of None m j ≡ false) → of (slice_get nodes c) n i ≡ true → (node : NetNode) × (slice_get nodes c ≡ Some node) × (c < length nodes)
node_inside [] w of c n i none h = absurd (let e = none n i in cc)
node_inside (x ∷ xs) w of zero n i none h = (x, refl, omega arith)
node_inside (x ∷ xs) w of (suc c) n i none h = let rest = node_inside xs w of c n i none h in (rest.0, rest.1, omega (arith, rest.2))

pub reader_inside : (w : Wiring) (nodes : List NetNode) (c n i : ℕ) → reads_of w (slice_get nodes c) n i ≡ true → (node : NetNode) × (slice_get nodes c ≡ Some node) × (c < length nodes)
reader_inside w nodes c n i h = node_inside nodes w (reads_of w) c n i (λ m j. refl) h

pub writer_inside : (w : Wiring) (nodes : List NetNode) (c n i : ℕ) → writes_of w (slice_get nodes c) n i ≡ true → (node : NetNode) × (slice_get nodes c ≡ Some node) × (c < length nodes)
writer_inside w nodes c n i h = node_inside nodes w (writes_of w) c n i (λ m j. refl) h

get_inside : (nodes : List NetNode) (c : ℕ) → c < length nodes → (node : NetNode) × (slice_get nodes c ≡ Some node)
get_inside [] c h = absurd (omega arith)
get_inside (x ∷ xs) zero h = (x, refl)
get_inside (x ∷ xs) (suc c) h = get_inside xs c (omega arith)

row_past : (rows : List (List ℕ)) (c : ℕ) → length rows ≤ c → row_of rows c ≡ []
row_past [] c h = refl
row_past (x ∷ xs) zero h = absurd (omega arith)
row_past (x ∷ xs) (suc c) h = row_past xs c (omega arith)

pub below_is : (d k : ℕ) → d < k → nat_lt d k ≡ true
below_is d k h = grind (arith, nat_tests)

pub graph_is : (w : Wiring) (nodes : List NetNode) (table : List (List Writer)) (graph : List (List ℕ)) (k : ℕ) → length nodes ≤ k → k ≤ length nodes → AreWriters w nodes (length nodes) table → AreRows w nodes (writes_in table) k graph → IsGraph w nodes graph
graph_is w nodes table graph k past within writers rows = record {
  count = (let count = rows.count in omega (arith, count));
  sound = λ c d has. elim (cases_lt c k) [
    | inl below ↦
        let at = get_inside nodes c (omega arith) in
        let one = (rows.each c at.0 below at.1).sound d has in
        let reads : reads_of w (slice_get nodes c) one.0 one.1 ≡ true = ap (λ (o : Option NetNode). reads_of w o one.0 one.1) at.1 ∙ one.2 in
        (one.0, one.1, reads, and-right (nat_lt d (length nodes)) (writes_of w (slice_get nodes d) one.0 one.1) (sym (writers one.0 one.1 d) ∙ one.3))
    | inr above ↦ absurd (has_none d (subst (λ (l : List ℕ). Contains l d) (row_past graph c (let count = rows.count in omega (arith, count))) has))
  ];
  covers = λ c d r.
      let reader = reader_inside w nodes c r.0 r.1 r.2 in
      let writer = writer_inside w nodes d r.0 r.1 r.3 in
      let reads : node_reads w reader.0 r.0 r.1 ≡ true = ap (λ (o : Option NetNode). reads_of w o r.0 r.1) (sym reader.1) ∙ r.2 in
      (rows.each c reader.0 (let inside = reader.2 in omega (arith, inside)) reader.1).covers d r.0 r.1 reads (writers r.0 r.1 d ∙ and_from (nat_lt d (length nodes)) (writes_of w (slice_get nodes d) r.0 r.1) (below_is d (length nodes) writer.2) r.3);
}
