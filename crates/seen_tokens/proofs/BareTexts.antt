-- Lines and conditions of bare tokens.
use Rattle.seen_tokens.proofs.Common.{◌≡◌, ℕ, zero, suc, Bool, true, false, if◌then◌else◌, List, [], ◌∷◌, map, Option, Some, None, refl, ap, Token, Word, Ifdef, Ifndef, Else, Elsif, Endif, word_of}
use Rattle.seen_tokens.proofs.Common.{behind_line, is_on, rest_of_line, bare}
use Rattle.vlog_expand.specs.Conditions.{after_part, after_part_from, closed_by, is_closed, is_closed_from, line_after, part_by, word_at}
use Rattle.vlog_expand.specs.Moves.{fault_in, first_of, has_parameters, text_fault}

-- a choice between two values goes through a function
pub chosen : {A B : Type 0} (f : A → B) (b : Bool) (x y : A) (x' y' : B) → x' ≡ f x → y' ≡ f y → (if b then x' else y') ≡ f (if b then x else y)
chosen f true x y x' y' e h = e
chosen f false x y x' y' e h = h

pub rest_of_line_bare : (line : ℕ) (ts : List Token) → rest_of_line line (map bare ts) ≡ map bare (rest_of_line line ts)
rest_of_line_bare line [] = refl
rest_of_line_bare line (t ∷ ts) = chosen (map bare) (is_on line t) (t ∷ rest_of_line line ts) [] _ _ (ap (λ (xs : List Token). bare t ∷ xs) (rest_of_line_bare line ts)) refl

pub behind_line_bare : (line : ℕ) (ts : List Token) → behind_line line (map bare ts) ≡ map bare (behind_line line ts)
behind_line_bare line [] = refl
behind_line_bare line (t ∷ ts) = chosen (map bare) (is_on line t) (behind_line line ts) (t ∷ ts) _ _ (behind_line_bare line ts) refl

pub fault_in_bare : (ts : List Token) → fault_in (map bare ts) ≡ fault_in ts
unfolding word_of
fault_in_bare [] = refl
fault_in_bare (t ∷ ts) = ap (first_of (text_fault (word_of t) t.span)) (fault_in_bare ts)

pub has_parameters_bare : (name : Token) (ts : List Token) → has_parameters (bare name) (map bare ts) ≡ has_parameters name ts
unfolding has_parameters
has_parameters_bare name [] = refl
has_parameters_bare name (t ∷ ts) = refl

closed_by_same : (w : Word) (depth : ℕ) (f g : ℕ → Bool) → ((n : ℕ) → f n ≡ g n) → closed_by w depth f ≡ closed_by w depth g
closed_by_same Ifdef depth f g same = same (suc depth)
closed_by_same Ifndef depth f g same = same (suc depth)
closed_by_same Endif zero f g same = refl
closed_by_same Endif (suc depth) f g same = same depth
closed_by_same _ depth f g same = same depth

closed_from_bare : (ts : List Token) (depth : ℕ) (line : Option ℕ) → is_closed_from depth line (map bare ts) ≡ is_closed_from depth line ts
unfolding word_of
closed_from_bare [] depth line = refl
closed_from_bare (t ∷ ts) depth None =
    closed_by_same (word_of t) depth (λ n. is_closed_from n (line_after None t) (map bare ts)) (λ n. is_closed_from n (line_after None t) ts) (λ n. closed_from_bare ts n (line_after None t))
closed_from_bare (t ∷ ts) depth (Some line) =
    closed_by_same (word_at (Some line) t) depth (λ n. is_closed_from n (line_after (Some line) t) (map bare ts)) (λ n. is_closed_from n (line_after (Some line) t) ts) (λ n. closed_from_bare ts n (line_after (Some line) t))

pub is_closed_bare : (ts : List Token) → is_closed (map bare ts) ≡ is_closed ts
unfolding is_closed
is_closed_bare ts = closed_from_bare ts 0 None

part_by_same : (w : Word) (depth : ℕ) (here : List Token) (f g : ℕ → List Token) → ((n : ℕ) → g n ≡ map bare (f n)) → part_by w depth (map bare here) g ≡ map bare (part_by w depth here f)
part_by_same Ifdef depth here f g same = same (suc depth)
part_by_same Ifndef depth here f g same = same (suc depth)
part_by_same Endif zero here f g same = refl
part_by_same Endif (suc depth) here f g same = same depth
part_by_same Else zero here f g same = refl
part_by_same Else (suc depth) here f g same = same (suc depth)
part_by_same Elsif zero here f g same = refl
part_by_same Elsif (suc depth) here f g same = same (suc depth)
part_by_same _ depth here f g same = same depth

after_part_from_bare : (ts : List Token) (depth : ℕ) (line : Option ℕ) → after_part_from depth line (map bare ts) ≡ map bare (after_part_from depth line ts)
unfolding word_of
after_part_from_bare [] depth line = refl
after_part_from_bare (t ∷ ts) depth None =
    part_by_same (word_of t) depth (t ∷ ts) (λ n. after_part_from n (line_after None t) ts) (λ n. after_part_from n (line_after None t) (map bare ts)) (λ n. after_part_from_bare ts n (line_after None t))
after_part_from_bare (t ∷ ts) depth (Some line) =
    part_by_same (word_at (Some line) t) depth (t ∷ ts) (λ n. after_part_from n (line_after (Some line) t) ts) (λ n. after_part_from n (line_after (Some line) t) (map bare ts)) (λ n. after_part_from_bare ts n (line_after (Some line) t))

pub after_part_bare : (ts : List Token) → after_part (map bare ts) ≡ map bare (after_part ts)
unfolding after_part
after_part_bare ts = after_part_from_bare ts 0 None
