-- Where no node is on a loop, all are listed.
use Rattle.net_order.proofs.Common.{◌≡◌, ℕ, zero, suc, ◌<◌, ◌≤◌, false, eqb, List, [], ◌∷◌, ◌++◌, length, get_or, take, inl, inr, refl, sym, ◌∙◌, ap, subst, arith, Contains, AllByRecursion}
use Rattle.net_order.proofs.Common.{IsDistinct, eqb_tells, get_or-take, length-take-le, get_or_default, AreInside, Reads, ReadsThrough, IsOnLoop, IsLeastReady, IsInOrder, Never, is_listed, Stage}
use Rattle.net_order.proofs.Common.{IsStage, none_left, Reaches, cases_Bool}
use Rattle.std.proofs.lemmas.Map.Views.{Contains-from_any, exact_unsigned_eq}
use Rattle.std.proofs.lemmas.Map.Steps.{length-le_from_distinct_below}
use Rattle.net_order.proofs.Reading.{reader-inside, Contains-head, Contains-tail, Contains-cases, Contains-empty}
use Rattle.net_order.proofs.Along.{through_more}

-- A listed node is on no loop.

place-of : (graph : List (List ℕ)) (order : List ℕ) → IsInOrder (length graph) (Reads graph) order → (k : ℕ) → k < length order → (c : ℕ) → get_or order k c ≡ c → IsLeastReady (length graph) (Reads graph) (take k order) c
place-of graph order places k inside c is = subst (λ (d : ℕ). IsLeastReady (length graph) (Reads graph) (take k order) d) (get_or_default order k 0 c inside ∙ is) (places k inside)

through-before : (graph : List (List ℕ)) (order : List ℕ) → IsInOrder (length graph) (Reads graph) order → (k : ℕ) → k < length order → (c : ℕ) → get_or order k c ≡ c → (between : List ℕ) (e : ℕ) → ReadsThrough (Reads graph) c between e → Contains (take k order) e
through-before graph order places k inside c is [] e r = (place-of graph order places k inside c is).ready.reads e r
through-before graph order places k inside c is (d ∷ more) e r =
    let there = (place-of graph order places k inside c is).ready.reads d r.0 in
    let j : ℕ = there.0 in
    let below : j < k = omega (arith, there.1, length-take-le k order (omega (arith, inside))) in
    let at : get_or order j d ≡ d = sym (get_or-take k order j d below) ∙ there.2 in
    let before = through-before graph order places j (omega (arith, below, inside)) d at more e r.1 in
    let nearer : before.0 < j = omega (arith, before.1, length-take-le j order (omega (arith, below, inside))) in
    (before.0, omega (arith, nearer, below, length-take-le k order (omega (arith, inside))), get_or-take k order before.0 e (omega (arith, nearer, below)) ∙ sym (get_or-take j order before.0 e nearer) ∙ before.2)

pub listed-no_loop : (graph : List (List ℕ)) (order : List ℕ) → IsInOrder (length graph) (Reads graph) order → (c : ℕ) → Contains order c → ¬ IsOnLoop (Reads graph) c
listed-no_loop graph order places c there loop =
    (place-of graph order places there.0 there.1 c there.2).ready.unlisted (through-before graph order places there.0 there.1 c there.2 loop.0 c loop.1)

-- a node on a loop is one of the nodes
pub loop-inside : (graph : List (List ℕ)) (c : ℕ) (between : List ℕ) (e : ℕ) → ReadsThrough (Reads graph) c between e → c < length graph
loop-inside graph c [] e r = reader-inside graph c e r
loop-inside graph c (d ∷ more) e r = reader-inside graph c d r.0

-- what a node reaches is one of the nodes
pub reached-inside : (graph : List (List ℕ)) → AreInside graph → (c : ℕ) (between : List ℕ) (e : ℕ) → ReadsThrough (Reads graph) c between e → e < length graph
reached-inside graph within c [] e r = within c e r
reached-inside graph within c (d ∷ more) e r = reached-inside graph within d more e r.1

-- Each node that is not listed reads another one.

-- no two are equal
abbrev Apart : List ℕ → Type 0
Apart [] = Unit {0}
Apart (x ∷ xs) = ¬ Contains xs x × Apart xs

others : (x : ℕ) (xs : List ℕ) → ¬ Contains xs x → AllByRecursion (λ y. eqb x y ≡ false) xs
others x [] lacks = tt
others x (y ∷ more) lacks = (
  elim (eqb_tells x y) [ inl h ↦ absurd (lacks (subst (λ (k : ℕ). Contains (y ∷ more) k) (sym h.1) (Contains-head y more))) | inr h ↦ h.0 ],
  others x more (λ there. lacks (Contains-tail y x more there)),
)

distinct : (xs : List ℕ) → Apart xs → IsDistinct eqb xs
unfolding IsDistinct
distinct [] h = tt
distinct (x ∷ more) h = (others x more h.0, distinct more h.1)

-- distinct unlisted nodes, of which each reads the first, through others
record Chain (graph : List (List ℕ)) (s : Stage) (first : ℕ) (more : List ℕ) : Type 0 where
  pub inside : (x : ℕ) → Contains (first ∷ more) x → x < length graph
  pub free : is_listed s.listed first ≡ false
  pub apart : Apart (first ∷ more)
  pub reach : (x : ℕ) → Contains more x → Reaches graph x first

chain-longer : (graph : List (List ℕ)) (s : Stage) → IsStage graph s none_left → s.ready ≡ [] → Never (IsOnLoop (Reads graph)) → (first : ℕ) (more : List ℕ) → Chain graph s first more → (e : ℕ) × Chain graph s e (first ∷ more)
chain-longer graph s h empty never first more chain =
    elim (h.each first (chain.inside first (Contains-head first more)) chain.free) [
      | inl ready ↦ absurd (Contains-empty first (subst (λ (l : List ℕ). Contains l first) empty ready))
      | inr other ↦ elim other [
        | inl w ↦
            let e : ℕ = w.0 in
            let r : Reads graph first e = h.waits first e w.1 w.2 in
            let reach : (x : ℕ) → Contains (first ∷ more) x → Reaches graph x e = λ x there. elim (Contains-cases first x more there) [
              | inl same ↦ ([], subst (λ (k : ℕ). Reads graph k e) same r)
              | inr later ↦ (let old : Reaches graph x first = chain.reach x later in (old.0 ++ first ∷ [], through_more (Reads graph) x old.0 first e old.1 r))
            ] in (
              e,
              record {
                inside = λ x there. elim (Contains-cases e x (first ∷ more) there) [ inl same ↦ subst (λ (k : ℕ). k < length graph) same (h.inside first e r) | inr later ↦ chain.inside x later ];
                free = w.1;
                apart = (λ there. never e (reach e there), chain.apart);
                reach = reach;
              },
            )
        | inr none ↦ absurd none
      ]
    ]

chain-of : (graph : List (List ℕ)) (s : Stage) → IsStage graph s none_left → s.ready ≡ [] → Never (IsOnLoop (Reads graph)) → (c : ℕ) → c < length graph → is_listed s.listed c ≡ false → (k : ℕ) → (first : ℕ) × ((more : List ℕ) × (length more ≡ k) × Chain graph s first more)
chain-of graph s h empty never c inside free zero = (
  c,
  (
    [],
    refl,
    record {
      inside = λ x there. elim (Contains-cases c x [] there) [ inl same ↦ subst (λ (k : ℕ). k < length graph) same inside | inr none ↦ absurd (Contains-empty x none) ];
      free = free;
      apart = (λ there. Contains-empty c there, tt);
      reach = λ x there. absurd (Contains-empty x there);
    },
  ),
)
chain-of graph s h empty never c inside free (suc k) =
    let old = chain-of graph s h empty never c inside free k in
    let first : ℕ = old.0 in
    let more : List ℕ = old.1.0 in
    let next = chain-longer graph s h empty never first more old.1.2 in
    (next.0, (first ∷ more, ap suc old.1.1, next.1))

-- where nothing is ready and no node is on a loop, each node is listed
pub all-listed : (graph : List (List ℕ)) (s : Stage) → IsStage graph s none_left → s.ready ≡ [] → Never (IsOnLoop (Reads graph)) → (c : ℕ) → c < length graph → Contains s.order c
all-listed graph s h empty never c inside = elim (cases_Bool (is_listed s.listed c)) [
  | inl t ↦ h.told c t
  | inr free ↦
      let chain = chain-of graph s h empty never c inside free (length graph) in
      let first : ℕ = chain.0 in
      let more : List ℕ = chain.1.0 in
      let is : Chain graph s first more = chain.1.2 in
      let few : length (first ∷ more) ≤ length graph = length-le_from_distinct_below (first ∷ more) (length graph) (distinct (first ∷ more) is.apart) (λ q any. is.inside q (Contains-from_any exact_unsigned_eq q (first ∷ more) any)) in
      absurd (omega (arith, few, chain.1.1))
]
