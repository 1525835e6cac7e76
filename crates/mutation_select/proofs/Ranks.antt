-- The ranks that a walk over sorted sites gives are those of the sites.
use Rattle.mutation_select.proofs.Common.{◌≡◌, ℕ, ◌+◌, ◌≤◌, ◌<◌, Bool, true, false, true≢false, List, [], ◌∷◌, ◌++◌, Option, Some, None, map, cond, refl, sym, ap, ◌∙◌, inl, inr, subst, append_assoc}
use Rattle.mutation_select.proofs.Common.{rules, arith, eqb, ◌&&◌, ◌⊎◌, IsTotalOrder, nat_cmp_is, comparing, count_by, AllByRecursion, IsPermutation, IsSorted, Ordering, Equal, Greater, is_lt}
use Rattle.mutation_select.proofs.Common.{nat_cmp, on, then_cmp, cases_lt, cases_order, eqb-true, eq-eqb, tied_itself, IsPermutation-map, Drawn, Draw, drawn_cmp, number_of, rank, ranked, shares_line}
use Rattle.mutation_select.proofs.Common.{with_rank, Ascends, rank_after, ranked_from}
use Rattle.mutation_select.proofs.Counts.{count-alike, count-append, count-yes, count-no, count-none, count-permutation, count-map}
use Rattle.mutation_select.proofs.Ascending.{times-once}
use Rattle.mutation_select.proofs.Order.{equal-last, equal-numbers, turned-off, Rises, sorted-rises}

-- by file and line, then as the sites are drawn
abbrev pub place_cmp : Drawn → Drawn → Ordering
place_cmp = then_cmp (on (λ (x : Drawn). x.file) nat_cmp) (then_cmp (on (λ (x : Drawn). x.line) nat_cmp) drawn_cmp)

place_total : IsTotalOrder place_cmp
place_total = search (comparing, rules)

place_tells : (x y : Drawn) → place_cmp x y ≡ Equal → number_of x ≡ number_of y
place_tells x y h = equal-numbers x.number y.number (equal-last (nat_cmp x.word y.word) _ (equal-last (nat_cmp x.line y.line) _ (equal-last (nat_cmp x.file y.file) _ h)))

abbrev less : Drawn → Drawn → Bool
less x y = is_lt (place_cmp x y)

each : {X : Type 0} (P Q : X → Type 0) → ((x : X) → P x → Q x) → (xs : List X) → AllByRecursion P xs → AllByRecursion Q xs
each P Q f [] h = tt
each P Q f (x ∷ xs) (here, more) = (f x here, each P Q f xs more)

each-append : {X : Type 0} (P : X → Type 0) (xs : List X) (y : X) → AllByRecursion P xs → P y → AllByRecursion P (xs ++ y ∷ [])
each-append P [] y h last = (last, tt)
each-append P (x ∷ xs) y (here, more) last = (here, each-append P xs y more last)

-- sites of one line

and-both : (b c : Bool) → (b && c) ≡ true → (b ≡ true) × (c ≡ true)
and-both true c h = (refl, h)
and-both false c h = absurd (true≢false (sym h))

and-no : (b : Bool) → (b && false) ≡ false
and-no true = refl
and-no false = refl

line-of : (d e : Drawn) → shares_line d e ≡ true → (d.file ≡ e.file) × (d.line ≡ e.line)
line-of d e h =
    let parts = and-both (eqb d.file e.file) (eqb d.line e.line) h in
    (eqb-true d.file e.file parts.0, eqb-true d.line e.line parts.1)

on-line : (d e : Drawn) → d.file ≡ e.file → d.line ≡ e.line → shares_line d e ≡ true
on-line d e f l = rw (eq-eqb d.file e.file f, eq-eqb d.line e.line l) refl

-- there the order is that of what they draw
within : (e x : Drawn) → shares_line e x ≡ true → less x e ≡ is_lt (drawn_cmp x e)
within e x h =
    let line = line-of e x h in
    let file : nat_cmp x.file e.file ≡ Equal = sym (nat_cmp_is x.file e.file Equal (sym line.0)) in
    let same : nat_cmp x.line e.line ≡ Equal = sym (nat_cmp_is x.line e.line Equal (sym line.1)) in
    rw (file, same) refl

-- lines do not fall
first-above : (x y : Drawn) → y.file < x.file → less x y ≡ false
first-above x y above =
    let file : nat_cmp x.file y.file ≡ Greater = sym (nat_cmp_is x.file y.file Greater above) in
    rw file refl

line-above : (x y : Drawn) → x.file ≡ y.file → y.line < x.line → less x y ≡ false
line-above x y same above =
    let file : nat_cmp x.file y.file ≡ Equal = sym (nat_cmp_is x.file y.file Equal same) in
    let line : nat_cmp x.line y.line ≡ Greater = sym (nat_cmp_is x.line y.line Greater above) in
    rw (file, line) refl

lines-rise : (x y : Drawn) → x.file ≡ y.file → less x y ≡ true → x.line ≤ y.line
lines-rise x y same h = elim (cases_lt y.line x.line) [ inl above ↦ absurd (true≢false (sym h ∙ line-above x y same above)) | inr level ↦ level ]

less-line : (x y : Drawn) → less x y ≡ true → (x.file < y.file) ⊎ ((x.file ≡ y.file) × (x.line ≤ y.line))
less-line x y h = elim (cases_order x.file y.file) [
  | inl same ↦ inr (same, lines-rise x y same h)
  | inr (inl below) ↦ inl below
  | inr (inr above) ↦ absurd (true≢false (sym h ∙ first-above x y above))
]

between : (x e d : Drawn) → less x e ≡ true → less e d ≡ true → shares_line d x ≡ true → shares_line e d ≡ true
between x e d h k same =
    let line = line-of d x same in
    elim (less-line x e h) [
      | inl below ↦ absurd (elim (less-line e d k) [ inl more ↦ omega (arith, below, more, line.0) | inr level ↦ omega (arith, below, level.0, line.0) ])
      | inr level ↦ elim (less-line e d k) [
        | inl more ↦ absurd (omega (arith, level.0, more, line.0))
        | inr higher ↦ on-line e d higher.0 (omega (arith, level.1, higher.1, line.1))
      ]
    ]

-- the rank of a site behind those that are less and before those that are not
rank-before : (e x : Drawn) (b : Bool) → shares_line e x ≡ b → less x e ≡ true → (shares_line e x && is_lt (drawn_cmp x e)) ≡ shares_line e x
rank-before e x true is h = rw is (sym (within e x is) ∙ h)
rank-before e x false is h = rw is refl

rank-behind : (e y : Drawn) (b : Bool) → shares_line e y ≡ b → less y e ≡ false → (shares_line e y && is_lt (drawn_cmp y e)) ≡ false
rank-behind e y true is h = rw is (sym (within e y is) ∙ h)
rank-behind e y false is h = rw is refl

drawn_total : IsTotalOrder drawn_cmp
drawn_total = search (comparing, rules)

rank-split : (p : List Drawn) (e : Drawn) (q : List Drawn) → AllByRecursion (λ x. less x e ≡ true) p → AllByRecursion (λ y. less e y ≡ true) q → rank (p ++ e ∷ q) e ≡ count_by (shares_line e) p
rank-split p e q before behind =
    let test = λ (x : Drawn). shares_line e x && is_lt (drawn_cmp x e) in
    let itself : test e ≡ false = rw (ap is_lt (tied_itself drawn_total e)) (and-no (shares_line e e)) in
    let front = count-alike test (shares_line e) p (each (λ x. less x e ≡ true) (λ x. test x ≡ shares_line e x) (λ x h. rank-before e x (shares_line e x) refl h) p before) in
    let back = count-none test q (each (λ y. less e y ≡ true) (λ y. test y ≡ false) (λ y h. rank-behind e y (shares_line e y) refl (turned-off place_cmp place_total number_of place_tells e y h)) q behind) in
    omega (arith, count-append test p (e ∷ q), count-no test e q itself, front, back)

-- where a later site is of another line, it shares it with none before
none-shares : (x e d : Drawn) → shares_line e d ≡ false → less x e ≡ true → less e d ≡ true → (b : Bool) → shares_line d x ≡ b → shares_line d x ≡ false
none-shares x e d other h k true is = absurd (true≢false (sym (between x e d h k is) ∙ other))
none-shares x e d other h k false is = is

none-itself : (e d : Drawn) → shares_line e d ≡ false → (b : Bool) → shares_line d e ≡ b → shares_line d e ≡ false
none-itself e d other true is = absurd (true≢false (sym (on-line e d (sym (line-of d e is).0) (sym (line-of d e is).1)) ∙ other))
none-itself e d other false is = is

-- how many stand on the line of a later site
later-by : (b : Bool) (p : List Drawn) (e d : Drawn) (n : ℕ) → shares_line e d ≡ b → n ≡ count_by (shares_line e) p → AllByRecursion (λ x. less x e ≡ true) p → less e d ≡ true → cond b (n + 1) 0 ≡ count_by (shares_line d) (p ++ e ∷ [])
later-by true p e d n is counted before h =
    let line = line-of e d is in
    let tests : shares_line e ≡ shares_line d = λ i x. eqb (line.0 i) x.file && eqb (line.1 i) x.line in
    let added = count-append (shares_line e) p (e ∷ []) in
    let one = count-yes (shares_line e) e [] (on-line e e refl refl) in
    let sum : n + 1 ≡ count_by (shares_line e) (p ++ e ∷ []) = omega (arith, counted, added, one) in
    sum ∙ ap (λ t. count_by t (p ++ e ∷ [])) tests
later-by false p e d n is counted before h =
    let off = λ (x : Drawn) (k : less x e ≡ true). none-shares x e d is k h (shares_line d x) refl in
    let own = none-itself e d is (shares_line d e) refl in
    sym (count-none (shares_line d) (p ++ e ∷ []) (each-append (λ x. shares_line d x ≡ false) p e (each (λ x. less x e ≡ true) (λ x. shares_line d x ≡ false) off p before) own))

walk : (all p q : List Drawn) (last : Option Drawn) (next : ℕ) → (p ++ q ≡ all) → AllByRecursion (λ x. AllByRecursion (λ y. less x y ≡ true) q) p → Rises place_cmp place_total number_of place_tells q → AllByRecursion (λ d. rank_after last next d ≡ count_by (shares_line d) p) q → ranked_from last next q ≡ map (λ d. with_rank (rank all d) d) q
walk all p [] last next is before rises at = refl
walk all p (e ∷ q) last next is before (above, rises) (at, more) =
    let n = rank_after last next e in
    let under = each (λ x. AllByRecursion (λ y. less x y ≡ true) (e ∷ q)) (λ x. less x e ≡ true) (λ x h. h.0) p before in
    let rest = each (λ x. AllByRecursion (λ y. less x y ≡ true) (e ∷ q)) (λ x. AllByRecursion (λ y. less x y ≡ true) q) (λ x h. h.1) p before in
    let ranks : n ≡ rank all e = at ∙ sym (rank-split p e q under above) ∙ ap (λ s. rank s e) is in
    let later = each (λ y. less e y ≡ true) (λ d. rank_after (Some e) (n + 1) d ≡ count_by (shares_line d) (p ++ e ∷ [])) (λ d h. later-by (shares_line e d) p e d n refl at under h) q above in
    let others = walk all (p ++ e ∷ []) q (Some e) (n + 1) (append_assoc p (e ∷ []) q ∙ is) (each-append (λ x. AllByRecursion (λ y. less x y ≡ true) q) p e rest above) rises later in
    ap (λ r. with_rank r e ∷ ranked_from (Some e) (n + 1) q) ranks ∙ ap (λ list. with_rank (rank all e) e ∷ list) others

first-none : (q : List Drawn) → AllByRecursion (λ d. rank_after None 0 d ≡ 0) q
first-none [] = tt
first-none (d ∷ q) = (refl, first-none q)

same-ranks : (sites sorted : List Drawn) → IsPermutation sites sorted → ◌≡◌ {A = Drawn → Draw} (λ d. with_rank (rank sorted d) d) (λ d. with_rank (rank sites d) d)
same-ranks sites sorted same i d = with_rank (count-permutation (λ e. shares_line d e && is_lt (drawn_cmp e d)) sites sorted same i) d

pub ranked-walk : (sites sorted : List Drawn) → Ascends 0 (map number_of sites) → IsPermutation sites sorted → IsSorted place_cmp sorted → IsPermutation (ranked sites) (ranked_from None 0 sorted)
ranked-walk sites sorted ascends same order =
    let once : (n : ℕ) → count_by (λ (x : Drawn). eqb n (number_of x)) sorted ≤ 1 = λ n. omega (arith, count-permutation (λ (x : Drawn). eqb n (number_of x)) sites sorted same, count-map (λ x. eqb n x) number_of sites, times-once 0 n (map number_of sites) ascends) in
    let rises = sorted-rises place_cmp place_total number_of place_tells sorted order once in
    let walked : ranked_from None 0 sorted ≡ map (λ d. with_rank (rank sites d) d) sorted = walk sorted [] sorted None 0 refl tt rises (first-none sorted) ∙ ap (λ f. map f sorted) (same-ranks sites sorted same) in
    subst (λ list. IsPermutation (ranked sites) list) (sym walked) (IsPermutation-map (λ d. with_rank (rank sites d) d) sites sorted same)
