-- Tokens, one after the other.
use Rattle.std.proofs.Common.{◌≡◌, ℕ, zero, suc, ◌+◌, ◌-◌, ◌<◌, ◌≤◌, ◌==◌, ◌||◌, Bool, true, false, List, [], ◌∷◌, ◌++◌, Option, Some, None, option_map, drop, take, length, refl, sym, ap, ◌∙◌, subst, arith, append_assoc, append-nil, length-drop, true≢false, if◌then◌else◌}
use Rattle.std.specs.Prelude.{⊤}
use Rattle.std.specs.List.{prefix_len}
use Rattle.std.proofs.lemmas.List.{take_all}
use Rattle.script_lines.specs.declared.class.Class.TheVariants as class
use Rattle.script_lines.specs.declared.token.Cut.{Cut}
use Rattle.script_lines.specs.declared.token.Token.{Token}
use Rattle.project_lines.specs.Lines.{from_word, is_blank}
use Rattle.project_lines.specs.Numbers.{is_digit}
use Rattle.project_lines.specs.Words.{is_name_start}
use Rattle.script_lines.specs.Classes.{is_in}
use Rattle.script_lines.specs.Tokens.{and_then, front_token, is_end, number_token, quoted_token, sign, sign_by, token_run, tokens, tokens_within, word_token}

pub from_word_is : (text : List ℕ) (n : ℕ) → n ≡ prefix_len (is_in class.Blank) text → take (length text - n) (drop n text) ≡ from_word text
unfolding from_word is_in
from_word_is text n e = take_all (length text - n) (drop n text) (omega (arith, length-drop n text)) ∙ ap (λ k. drop k text) e

word_shorter : (text : List ℕ) → length (from_word text) ≤ length text
unfolding from_word
word_shorter text = omega (arith, length-drop (prefix_len is_blank text) text)

pub behind_is : (text new : List ℕ) (n : ℕ) → new ≡ from_word (take (length text - n) (drop n text)) → new ≡ from_word (drop n text)
behind_is text new n e = e ∙ ap from_word (take_all (length text - n) (drop n text) (omega (arith, length-drop n text)))

-- A token takes a byte or more.

abbrev pub Positive : Option Cut → Type 0
Positive None = ⊤
Positive (Some cut) = 0 < cut.len

quoted_if : (b : Bool) (n : ℕ) (t : Token) → Positive (if b then Some (record { token = t; len = n + 2 }) else None)
quoted_if true n t = omega arith
quoted_if false n t = tt

quoted_positive : (quote : ℕ) (text : List ℕ) → Positive (quoted_token quote text)
unfolding quoted_token
quoted_positive quote text = quoted_if _ _ _

sign_if : (first : ℕ) (o : Option Token) → Positive (Some (sign_by first o))
sign_if first None = omega arith
sign_if first (Some two) = omega arith

sign_positive : (first : ℕ) (text : List ℕ) → Positive (Some (sign first text))
unfolding sign
sign_positive first text = sign_if first _

number_if : (b : Bool) (k places : ℕ) (t u : Token) → Positive (Some (if b then record { token = t; len = 1 + k } else record { token = u; len = 1 + k + 1 + places }))
number_if true k places t u = omega arith
number_if false k places t u = omega arith

number_positive : (k : ℕ) (text : List ℕ) → Positive (Some (number_token (1 + k) text))
unfolding number_token
number_positive k text = number_if _ k _ _ _

front_if : (a b q : Bool) (first : ℕ) (more : List ℕ) → Positive (if a then Some (token_run word_token class.NameByte first more) else (if b then Some (number_token (1 + prefix_len (is_in class.Digit) more) (first ∷ more)) else (if q then quoted_token first more else Some (sign first more))))
front_if true b q first more = omega arith
front_if false true q first more = number_positive (prefix_len (is_in class.Digit) more) (first ∷ more)
front_if false false true first more = quoted_positive first more
front_if false false false first more = sign_positive first more

pub front_positive : (text : List ℕ) → Positive (front_token text)
unfolding front_token
front_positive [] = tt
front_positive (first ∷ more) = front_if (is_name_start first) (is_digit first) (first == 34 || first == 39) first more

-- How many bytes there may be at most plays no part.

rest_shorter : (text : List ℕ) (n : ℕ) → length (from_word (drop n text)) ≤ length text - n
rest_shorter text n = omega (arith, word_shorter (drop n text), length-drop n text)

same_behind : (m n : ℕ) (text : List ℕ) (o : Option Cut) → Positive o → ((cut : Cut) → 0 < cut.len → tokens_within m (from_word (drop cut.len text)) ≡ tokens_within n (from_word (drop cut.len text))) → and_then (tokens_within m) text o ≡ and_then (tokens_within n) text o
same_behind m n text None p h = refl
same_behind m n text (Some cut) p h = ap (option_map (λ more. cut.token ∷ more)) (h cut p)

pub same_within : (m n : ℕ) (text : List ℕ) → length text ≤ m → length text ≤ n → tokens_within m text ≡ tokens_within n text
unfolding tokens_within is_end
same_within zero zero text h k = refl
same_within zero (suc n) [] h k = refl
same_within zero (suc n) (x ∷ xs) h k = absurd (omega arith)
same_within (suc m) zero [] h k = refl
same_within (suc m) zero (x ∷ xs) h k = absurd (omega arith)
same_within (suc m) (suc n) text h k =
    ap (λ o. if is_end text then Some [] else o)
    (same_behind m n text (front_token text) (front_positive text)
    (λ cut p. same_within m n (from_word (drop cut.len text)) (omega (arith, p, h, rest_shorter text cut.len)) (omega (arith, p, k, rest_shorter text cut.len))))

-- One token more.

within_end : (n : ℕ) (rest : List ℕ) → is_end rest ≡ true → tokens_within n rest ≡ Some []
unfolding tokens_within
within_end zero rest e = refl
within_end (suc n) rest e = ap (λ b. if b then Some [] else and_then (tokens_within n) rest (front_token rest)) e

within_more : (n : ℕ) (rest : List ℕ) (o : Option Cut) → is_end rest ≡ false → front_token rest ≡ o → tokens_within (suc n) rest ≡ and_then (tokens_within n) rest o
unfolding tokens_within
within_more n rest o e f = ap (λ b. if b then Some [] else and_then (tokens_within n) rest (front_token rest)) e ∙ ap (and_then (tokens_within n) rest) f

end_empty : is_end [] ≡ true
unfolding is_end
end_empty = refl

-- less is left behind a token
pub less_left : (rest new : List ℕ) (cut : Cut) → is_end rest ≡ false → front_token rest ≡ Some cut → new ≡ from_word (drop cut.len rest) → length new < length rest
less_left [] new cut e f h = absurd (true≢false (sym end_empty ∙ e))
less_left (x ∷ xs) new cut e f h =
    let p : 0 < cut.len = subst Positive f (front_positive (x ∷ xs)) in
    let same : length new ≡ length (from_word (drop cut.len (x ∷ xs))) = ap length h in
    omega (arith, p, same, rest_shorter (x ∷ xs) cut.len)

-- what stands in front, with these tokens behind it
abbrev pub joined : List Token → Option (List Token) → Option (List Token)
joined done o = option_map (λ more. done ++ more) o

join_none : (o : Option (List Token)) → joined [] o ≡ o
join_none None = refl
join_none (Some ts) = refl

join_more : (done : List Token) (t : Token) (o : Option (List Token)) → joined (done ++ t ∷ []) o ≡ joined done (option_map (λ more. t ∷ more) o)
join_more done t None = refl
join_more done t (Some ts) = ap Some (append_assoc done (t ∷ []) ts)

-- the tokens of what is left of a line, behind those that were read
abbrev pub Whole : List Token → List ℕ → List ℕ → Type 0
Whole done rest line = joined done (tokens_within (length rest) rest) ≡ tokens line

pub whole_first : (line rest : List ℕ) → rest ≡ from_word line → Whole [] rest line
unfolding tokens
whole_first line rest e =
    join_none (tokens_within (length rest) rest)
    ∙ (ap (λ r. tokens_within (length r) r) e
    ∙ same_within (length (from_word line)) (length line) (from_word line) (omega arith) (word_shorter line))

pub whole_more : (done : List Token) (rest line : List ℕ) (cut : Cut) → is_end rest ≡ false → front_token rest ≡ Some cut → Whole done rest line → Whole (done ++ cut.token ∷ []) (from_word (drop cut.len rest)) line
whole_more done [] line cut e f h = absurd (true≢false (sym end_empty ∙ e))
whole_more done (x ∷ xs) line cut e f h =
    let behind : List ℕ = from_word (drop cut.len (x ∷ xs)) in
    let p : 0 < cut.len = subst Positive f (front_positive (x ∷ xs)) in
    join_more done cut.token (tokens_within (length behind) behind)
    ∙ (ap (λ o. joined done (option_map (λ more. cut.token ∷ more) o)) (same_within (length behind) (length xs) behind (omega arith) (omega (arith, p, rest_shorter (x ∷ xs) cut.len)))
    ∙ (ap (joined done) (sym (within_more (length xs) (x ∷ xs) (Some cut) e f)) ∙ h))

pub whole_bad : (done : List Token) (rest line : List ℕ) → is_end rest ≡ false → front_token rest ≡ None → Whole done rest line → tokens line ≡ None
whole_bad done [] line e f h = absurd (true≢false (sym end_empty ∙ e))
whole_bad done (x ∷ xs) line e f h = sym h ∙ ap (joined done) (within_more (length xs) (x ∷ xs) None e f)

pub whole_end : (done : List Token) (rest line : List ℕ) → is_end rest ≡ true → Whole done rest line → tokens line ≡ Some done
whole_end done rest line e h = sym h ∙ (ap (joined done) (within_end (length rest) rest e) ∙ ap Some (append-nil done))
