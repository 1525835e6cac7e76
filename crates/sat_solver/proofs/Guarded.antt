-- All pairs are guards, as the trail and the pairs change.
use Rattle.sat_solver.proofs.Common.{◌≡◌, ℕ, suc, ◌<◌, ◌≤◌, List, [], ◌∷◌, ◌++◌, length, take, get_or, set, ℤ, Option, Some, None, ap, sym, ◌∙◌, inl, inr, subst, arith, All, Contains, eqb_tells}
use Rattle.sat_solver.proofs.Common.{take-append-le, take-take, length-take-le, get_or-take, get_or_default, Contains-push_cases, Contains-get_or, variable, Known, with_true, Pair, Watches, assigned}
use Rattle.sat_solver.proofs.Common.{AreApart, AreStarts, numbered, IsSettled, pair_of, IsGuard, AreGuards, AreGuarded, AreWatched, IsSafe, AreSettled, KeepsCounted}
use Rattle.sat_solver.proofs.Pushes.{take-all, assigned-push}
use Rattle.sat_solver.proofs.Settled.{IsBelow, below-with, below-take, settled-more}
use Rattle.sat_solver.proofs.Guards.{guard-more, guard-less, guard-settled, option-or}
use Rattle.sat_solver.proofs.Watched.{pairs-pushed, pairs-before, pairs-changed, pairs-others, some-same}

-- The pairs change.

pub guards-same : (before now : Known) (old new : Watches) → new.pairs.items ≡ old.pairs.items → AreGuards before now old → AreGuards before now new
guards-same before now old new same all n pair e = all n pair (ap (λ (xs : List (Option Pair)). get_or xs n None) (sym same) ∙ e)

guards-pushed : (before now : Known) (old new : Watches) (pair : Option Pair) → new.pairs.items ≡ old.pairs.items ++ pair ∷ [] → ((p : Pair) → pair ≡ Some p → IsGuard before now p) → AreGuards before now old → AreGuards before now new
guards-pushed before now old new pair pushed here all n p e = elim (eqb_tells n (length old.pairs.items)) [
  | inl same ↦ here p (sym (pairs-pushed old new pair pushed) ∙ ap (pair_of new) (sym same.1) ∙ e)
  | inr other ↦ all n p (sym (pairs-before old new pair n pushed other.1) ∙ e)
]

guards-changed : (before now : Known) (old new : Watches) (number : ℕ) (pair : Pair) → new.pairs.items ≡ set old.pairs.items number (Some pair) → number < length old.pairs.items → IsGuard before now pair → AreGuards before now old → AreGuards before now new
guards-changed before now old new number pair changed within here all n p e = elim (eqb_tells n number) [
  | inl same ↦
      let it : pair ≡ p = some-same (pair_of new number) pair p (pairs-changed old new number pair changed within) (ap (pair_of new) (sym same.1) ∙ e) in
      let P : Pair → Type 0 = IsGuard before now in
      subst P it here
  | inr other ↦ all n p (sym (pairs-others old new number n pair changed other.1) ∙ e)
]

pub guarded-same : (old new : Watches) (literals : List ℤ) (starts : List ℕ) (head : ℕ) → new.pairs.items ≡ old.pairs.items → AreGuarded old literals starts head → AreGuarded new literals starts head
guarded-same old new literals starts head same are = record {
  now = guards-same (assigned (take head literals)) (assigned literals) old new same are.now;
  levels = λ s has. guards-same (assigned (take s literals)) (assigned (take s literals)) old new same (are.levels s has);
}

-- one more pair, which is safe
pub guarded-pushed : (limit : ℕ) (old new : Watches) (literals : List ℤ) (starts : List ℕ) (head : ℕ) (pair : Option Pair) → AreApart limit literals → head ≤ length literals → new.pairs.items ≡ old.pairs.items ++ pair ∷ [] → ((p : Pair) → pair ≡ Some p → IsSafe literals starts p) → AreGuarded old literals starts head → AreGuarded new literals starts head
guarded-pushed limit old new literals starts head pair apart within pushed safe are = record {
  now = guards-pushed (assigned (take head literals)) (assigned literals) old new pair pushed (λ p e. guard-less (assigned (take head literals)) (assigned literals) (assigned literals) p (below-take limit literals head apart within) (safe p e).now) are.now;
  levels = λ s has. guards-pushed (assigned (take s literals)) (assigned (take s literals)) old new pair pushed (λ p e. (safe p e).levels s has) (are.levels s has);
}

pub guarded-changed : (old new : Watches) (literals : List ℤ) (starts : List ℕ) (head number : ℕ) (pair : Pair) → new.pairs.items ≡ set old.pairs.items number (Some pair) → number < length old.pairs.items → IsGuard (assigned (take head literals)) (assigned literals) pair → ((s : ℕ) → Contains starts s → IsGuard (assigned (take s literals)) (assigned (take s literals)) pair) → AreGuarded old literals starts head → AreGuarded new literals starts head
guarded-changed old new literals starts head number pair changed within now levels are = record {
  now = guards-changed (assigned (take head literals)) (assigned literals) old new number pair changed within now are.now;
  levels = λ s has. guards-changed (assigned (take s literals)) (assigned (take s literals)) old new number pair changed within (levels s has) (are.levels s has);
}

-- The trail changes.

pub start-within : (count : ℕ) (starts : List ℕ) (s : ℕ) → AreStarts count starts → Contains starts s → s < count
start-within count starts s are (k, h, e) = let at : get_or starts k 0 ≡ s = get_or_default starts k 0 s h ∙ e in omega (arith, are.within k h, at)

-- one more literal is true
pub guarded-assigned : (w : Watches) (literals : List ℤ) (starts : List ℕ) (head : ℕ) (l : ℤ) → AreStarts (length literals) starts → head ≤ length literals → assigned literals (variable l) ≡ None → AreGuarded w literals starts head → AreGuarded w (literals ++ l ∷ []) starts head
guarded-assigned w literals starts head l begun within open_ are = record {
  now = λ n pair e.
      let P : List ℤ → Type 0 = λ ls. IsGuard (assigned ls) (assigned (literals ++ l ∷ [])) pair in
      let Q : Known → Type 0 = λ k. IsGuard (assigned (take head literals)) k pair in
      subst P (sym (take-append-le head literals (l ∷ []) within)) (subst Q (sym (assigned-push literals l)) (guard-more (assigned (take head literals)) (assigned literals) (with_true (assigned literals) l) pair (below-with (assigned literals) l open_) (are.now n pair e)));
  levels = λ s has n pair e.
      let P : List ℤ → Type 0 = λ ls. IsGuard (assigned ls) (assigned ls) pair in
      let inside : s < length literals = start-within (length literals) starts s begun has in
      subst P (sym (take-append-le s literals (l ∷ []) (omega (arith, inside)))) (are.levels s has n pair e);
}

-- a level begins, where all literals are propagated
pub guarded-decided : (w : Watches) (literals : List ℤ) (starts : List ℕ) (head : ℕ) (l : ℤ) → AreStarts (length literals) starts → head ≡ length literals → assigned literals (variable l) ≡ None → AreGuarded w literals starts head → AreGuarded w (literals ++ l ∷ []) (starts ++ length literals ∷ []) head
guarded-decided w literals starts head l begun whole open_ are =
    let more : AreGuarded w (literals ++ l ∷ []) starts head = guarded-assigned w literals starts head l begun (omega (arith, whole)) open_ are in
    let here : take head literals ≡ literals = ap (λ (n : ℕ). take n literals) whole ∙ take-all literals in
    let now : AreGuards (assigned literals) (assigned literals) w = (let P : List ℤ → Type 0 = λ ls. AreGuards (assigned ls) (assigned literals) w in subst P here are.now) in
    let start : take (length literals) (literals ++ l ∷ []) ≡ literals = take-append-le (length literals) literals (l ∷ []) (omega arith) ∙ take-all literals in
    let P : List ℤ → Type 0 = λ ls. AreGuards (assigned ls) (assigned ls) w in
    let Q : ℕ → Type 0 = λ s. AreGuards (assigned (take s (literals ++ l ∷ []))) (assigned (take s (literals ++ l ∷ []))) w in
    record {
      now = more.now;
      levels = λ s has. elim (Contains-push_cases starts (length literals) s has) [
        | inl old ↦ more.levels s old
        | inr new ↦ subst Q new (subst P (sym start) now)
      ];
    }

pub starts-take : (count level : ℕ) (starts : List ℕ) → AreStarts count starts → level < length starts → AreStarts (get_or starts level 0) (take level starts)
starts-take count level starts are h =
    let early : length (take level starts) ≡ level = length-take-le level starts (omega (arith, h)) in
    record {
      within = λ j k. rw (get_or-take level starts j 0 (omega (arith, k, early))) (are.ascend j level (omega (arith, k, early)) h);
      ascend = λ i j less k. rw (get_or-take level starts i 0 (omega (arith, less, k, early)), get_or-take level starts j 0 (omega (arith, k, early))) (are.ascend i j less (omega (arith, k, early, h)));
    }

-- levels are taken back
pub guarded-undone : (limit : ℕ) (w : Watches) (literals kept : List ℤ) (starts : List ℕ) (level head later start : ℕ) → AreStarts (length literals) starts → level < length starts → start ≡ get_or starts level 0 → kept ≡ take start literals → AreApart limit kept → head ≤ start → AreGuarded w literals starts later → AreGuarded w kept (take level starts) head
guarded-undone limit w literals kept starts level head later start begun h is same apart low are =
    let inside : get_or starts level 0 < length literals = begun.within level h in
    let begins : Contains starts start = (let P : ℕ → Type 0 = Contains starts in subst P (sym is) (Contains-get_or starts level 0 h)) in
    let count : length kept ≡ start = ap (length {A = ℤ}) same ∙ length-take-le start literals (omega (arith, inside, is)) in
    let early : length (take level starts) ≡ level = length-take-le level starts (omega (arith, h)) in
    let P : List ℤ → Type 0 = λ ls. AreGuards (assigned ls) (assigned ls) w in
    let whole : AreGuards (assigned kept) (assigned kept) w = subst P (sym same) (are.levels start begins) in
    record {
      now = λ n pair e. guard-less (assigned (take head kept)) (assigned kept) (assigned kept) pair (below-take limit kept head apart (omega (arith, low, count))) (whole n pair e);
      levels = λ s has.
          let at : get_or (take level starts) has.0 0 ≡ s = get_or_default (take level starts) has.0 0 s has.1 ∙ has.2 in
          let was : get_or starts has.0 0 ≡ s = sym (get_or-take level starts has.0 0 (omega (arith, has.1, early))) ∙ at in
          let below : s < start = omega (arith, begun.ascend has.0 level (omega (arith, has.1, early)) h, was, is) in
          let there : Contains starts s = (has.0, omega (arith, has.1, early, h), get_or_default starts has.0 s 0 (omega (arith, has.1, early, h)) ∙ was) in
          let part : take s kept ≡ take s literals = ap (take s) same ∙ take-take s start literals (omega (arith, below)) in
          subst P (sym part) (are.levels s there);
    }

-- The clauses are settled.

pub settled-all : (clauses counted : List (List ℤ)) (w later : Watches) (before now end : Known) → AreSettled before now clauses w → IsBelow now end → IsBelow before end → KeepsCounted w later → AreWatched clauses counted later → AreGuards before end later → All (IsSettled before end) clauses
settled-all clauses counted w later before now end settled grown below keeps are guards k d h =
    let P : List ℤ → Type 0 = IsSettled before end in
    subst P (get_or_default clauses k [] d h) (elim (option-or (pair_of later (suc k))) [
      | inl none_ ↦ settled-more before now end (numbered clauses (suc k)) grown (settled (suc k) (omega arith) (omega (arith, h)) (keeps (suc k) none_))
      | inr is ↦ guard-settled before end (numbered clauses (suc k)) is.0 below (are.watched (suc k) is.0 is.1).of_clause (guards (suc k) is.0 is.1)
    ])
