-- Words one after the other: all pass a test, or none stands there twice.
use Rattle.project_options.proofs.Common.{◌≡◌, ◌∙◌, ◌+◌, ◌-◌, ◌<◌, ◌&&◌, ℕ, Bool, Bor, not, true, false, sym, ap, arith, List, drop, get_or, length, length-drop, map, take, take_all, list_all}
use Rattle.project_options.proofs.Common.{is_among, are_once, mapped_drop}

module _ (words : List (Bor (List ℕ))) (i : ℕ) (word : Bor (List ℕ)) (l : i < length words) where
  abbrev texts : List (Bor (List ℕ)) → List (List ℕ)
  texts ws = map (λ w. w.now) ws

  all_here : (test : List ℕ → Bool) (b : Bool) → test (get_or words i word).now ≡ b → list_all test (texts (drop i words)) ≡ (b && list_all test (texts (drop (i + 1) words)))
  all_here test b e = ap (list_all test) (mapped_drop (λ (w : Bor (List ℕ)). w.now) words i word l) ∙ ap (λ v. v && list_all test (texts (drop (i + 1) words))) e

  -- the word fails
  pub all_fails : (test : List ℕ → Bool) (all : Bool) → test (get_or words i word).now ≡ false → list_all test (texts (drop i words)) ≡ all → false ≡ all
  all_fails test all e before = sym (all_here test false e) ∙ before

  -- or the words behind it decide
  pub all_step : (test : List ℕ → Bool) (all : Bool) → test (get_or words i word).now ≡ true → list_all test (texts (drop i words)) ≡ all → list_all test (texts (drop (i + 1) words)) ≡ all
  all_step test all e before = sym (all_here test true e) ∙ before

  -- the words behind it, as a slice gives them
  abbrev others : List (Bor (List ℕ))
  others = take (length words - (i + 1)) (drop (i + 1) words)

  others_are : texts others ≡ texts (drop (i + 1) words)
  others_are = ap texts (take_all (length words - (i + 1)) (drop (i + 1) words) (omega (arith, length-drop (i + 1) words)))

  once_here : (b : Bool) → is_among (get_or words i word).now (texts others) ≡ b → are_once (texts (drop i words)) ≡ (not b && are_once (texts (drop (i + 1) words)))
  once_here b e =
      ap are_once (mapped_drop (λ (w : Bor (List ℕ)). w.now) words i word l)
      ∙ ap (λ v. not v && are_once (texts (drop (i + 1) words))) (ap (is_among (get_or words i word).now) (sym others_are) ∙ e)

  -- the word stands behind itself again
  pub once_twice : (all : Bool) → is_among (get_or words i word).now (texts others) ≡ true → are_once (texts (drop i words)) ≡ all → false ≡ all
  once_twice all e before = sym (once_here true e) ∙ before

  -- or the words behind it decide
  pub once_step : (all : Bool) → is_among (get_or words i word).now (texts others) ≡ false → are_once (texts (drop i words)) ≡ all → are_once (texts (drop (i + 1) words)) ≡ all
  once_step all e before = sym (once_here false e) ∙ before
