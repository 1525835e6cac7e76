-- Registers, one after the other, by their names.
use Rattle.elab_finish.proofs.Common.{◌≡◌, ◌⊎◌, ℕ, zero, suc, ◌+◌, ◌<◌, ◌≤◌, Bool, true, false, cond, List, [], ◌∷◌, ◌++◌, map, take, length, get_or, slice_get, Option, Some, None, refl, sym, ◌∙◌, ap}
use Rattle.elab_finish.proofs.Common.{subst, inl, inr, arith, add-one, MatchOption, Contains, cases_lt, false≢true, slice_get_within, Span, Register, AreNamedApart, HasMet, IsAgainAt, IsMet}
use Rattle.elab_finish.proofs.Common.{IsNamedAgain, IsRegisterAt, register_name}
use Rattle.std.specs.BTreeSet.{BTreeSet, UpdatesBy, contains_text}
use Rattle.std.specs.String.{string_bytes, string_cmp}
use Rattle.std.specs.Cmp.Lexicographic.{bytes_decides}
use Rattle.std.specs.Str.{bytes_eq}
use Rattle.std.specs.declared.string.String.{String}
use Rattle.std.specs.declared.alloc.Global.{Global}
use Rattle.std.proofs.lemmas.List.Elements.{Contains-append_left, Contains-push, Contains-push_cases}
use Rattle.std.proofs.lemmas.Map.Text.{btree_set_updates_text}
use Rattle.elab_finish.proofs.Joined.{bit_there}
use Rattle.elab_finish.proofs.Orders.{register_there}

-- Sets of names.

either : (b c : Bool) → cond b true c ≡ true → (b ≡ true) ⊎ (c ≡ true)
either true c e = inl refl
either false c e = inr e

first_of : (b c : Bool) → b ≡ true → cond b true c ≡ true
first_of true c e = refl
first_of false c e = absurd (false≢true e)

second_of : (b c : Bool) → c ≡ true → cond b true c ≡ true
second_of true c e = refl
second_of false c e = e

-- the set has one name more
pub met_more : (names : List (List ℕ)) (name : List ℕ) (key : String Global) (old new : BTreeSet (String Global)) → string_bytes key ≡ name → HasMet names old → contains_text old name ≡ false
    → UpdatesBy string_cmp (string_cmp key) old new true → IsMet names name new false
met_more names name key old new is has none updates = ((λ c. false≢true (sym none ∙ (has name).1 c)), (λ other. (there other, back other)))
  where
    more : (other : List ℕ) → contains_text new other ≡ cond (bytes_eq name other) true (contains_text old other)
    more other = btree_set_updates_text (string_bytes key) old new true updates other ∙ ap (λ (k : List ℕ). cond (bytes_eq k other) true (contains_text old other)) is

    there : (other : List ℕ) → contains_text new other ≡ true → Contains (names ++ name ∷ []) other
    there other e = elim (either (bytes_eq name other) (contains_text old other) (sym (more other) ∙ e)) [
      | inl same ↦ subst (Contains (names ++ name ∷ [])) ((bytes_decides name other).0 same) (Contains-push names name)
      | inr before ↦ Contains-append_left names (name ∷ []) other ((has other).0 before)
    ]

    back : (other : List ℕ) → Contains (names ++ name ∷ []) other → contains_text new other ≡ true
    back other c = more other ∙ elim (Contains-push_cases names name other c) [
      | inl before ↦ second_of (bytes_eq name other) (contains_text old other) ((has other).1 before)
      | inr same ↦ first_of (bytes_eq name other) (contains_text old other) ((bytes_decides name other).1 same)
    ]

-- what is told of a name that was met, and of one that was not
met_before : (names : List (List ℕ)) (name : List ℕ) (met : BTreeSet (String Global)) (was : Bool) → IsMet names name met was → was ≡ true → Contains names name
met_before names name met true h e = h
met_before names name met false h e = absurd (false≢true e)

met_now : (names : List (List ℕ)) (name : List ℕ) (met : BTreeSet (String Global)) (was : Bool) → IsMet names name met was → was ≡ false → (¬ Contains names name) × HasMet (names ++ name ∷ []) met
met_now names name met true h e = absurd (false≢true (sym e))
met_now names name met false h e = h

-- Registers of a list.

-- the names of the registers up to one are those before it, and its own
names_last : (rs : List Register) (k : ℕ) (x : Register) → x ≡ get_or rs k x → k < length rs → map register_name (take (k + 1) rs) ≡ map register_name (take k rs) ++ x.name ∷ []
names_last rs k x is less = ap (λ (n : ℕ). map register_name (take n rs)) (add-one k) ∙ last rs k is less where
  last : (rs : List Register) (k : ℕ) → x ≡ get_or rs k x → k < length rs → map register_name (take (suc k) rs) ≡ map register_name (take k rs) ++ x.name ∷ []
  last [] k is less = absurd (omega (arith, less))
  last (y ∷ rs) zero is less = ap (λ (r : Register). r.name ∷ []) (sym is)
  last (y ∷ rs) (suc k) is less = ap (λ (rest : List (List ℕ)). y.name ∷ rest) (last rs k is (omega (arith, less)))

-- no register before this place has the name of one before it
abbrev pub NoneAgain : List Register → ℕ → Type 0
NoneAgain rs k = (p : ℕ) → p < k → IsNamedAgain rs p → ⊥

-- the name of a register was met
pub again_there : (rs : List Register) (k : ℕ) (x : Register) (name : List ℕ) (met : BTreeSet (String Global)) (was : Bool) → x ≡ get_or rs k x → k < length rs → name ≡ x.name
    → NoneAgain rs k → IsMet (map register_name (take k rs)) name met was → was ≡ true → IsAgainAt rs x.span
again_there rs k x name met was is less named none h e =
    let at : slice_get rs k ≡ Some x = register_there rs k x is less in
    let has : Contains (map register_name (take k rs)) x.name = subst (Contains (map register_name (take k rs))) named (met_before (map register_name (take k rs)) name met was h e) in
    (k, record { here = (x, at, has); before = none }, subst (λ (o : Option Register). IsRegisterAt o x.span) (sym at) refl)

-- it was not
pub none_again : (rs : List Register) (k : ℕ) (x : Register) (name : List ℕ) (met : BTreeSet (String Global)) (was : Bool) → x ≡ get_or rs k x → k < length rs → name ≡ x.name
    → NoneAgain rs k → IsMet (map register_name (take k rs)) name met was → was ≡ false → NoneAgain rs (k + 1)
none_again rs k x name met was is less named none h e p small again = elim (cases_lt p k) [
  | inl earlier ↦ none p earlier again
  | inr over ↦
      let same : p ≡ k = omega (arith, small, over) in
      let there : IsNamedAgain rs k = subst (IsNamedAgain rs) same again in
      let one : x ≡ there.0 = bit_there rs k x there.0 is less there.1 in
      let its : there.0.name ≡ name = ap (λ (r : Register). r.name) (sym one) ∙ sym named in
      (met_now (map register_name (take k rs)) name met was h e).0 (subst (Contains (map register_name (take k rs))) its there.2)
]

pub met_on : (rs : List Register) (k : ℕ) (x : Register) (name : List ℕ) (met : BTreeSet (String Global)) (was : Bool) → x ≡ get_or rs k x → k < length rs → name ≡ x.name
    → IsMet (map register_name (take k rs)) name met was → was ≡ false → HasMet (map register_name (take (k + 1) rs)) met
met_on rs k x name met was is less named h e =
    let has : HasMet (map register_name (take k rs) ++ name ∷ []) met = (met_now (map register_name (take k rs)) name met was h e).1 in
    let its : HasMet (map register_name (take k rs) ++ x.name ∷ []) met = subst (λ (n : List ℕ). HasMet (map register_name (take k rs) ++ n ∷ []) met) named has in
    subst (λ (names : List (List ℕ)). HasMet names met) (sym (names_last rs k x is less)) its

pub all_apart : (rs : List Register) (k : ℕ) → length rs ≤ k → NoneAgain rs k → AreNamedApart rs
all_apart rs k all none p again = none p (let less = slice_get_within rs p again.0 again.1 in omega (arith, all, less)) again

-- no place is told
pub none_told : (o : Option Span) (rs qs : List Register) → rs ≡ qs → MatchOption o (AreNamedApart rs) (IsAgainAt rs) → o ≡ None → AreNamedApart qs
none_told o rs qs same told is = subst AreNamedApart same (subst (λ (p : Option Span). MatchOption p (AreNamedApart rs) (IsAgainAt rs)) is told)
