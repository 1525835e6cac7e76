-- Tokens have one answer.
use Rattle.vlog_grammar.proofs.Common.{◌≡◌, ℕ, zero, suc, ◌+◌, ◌-◌, ◌<◌, ◌≤◌, List, [], ◌∷◌, ◌++◌, length, take, drop, Option, Some, None, ◌⊎◌, inl, inr, refl, sym, ap, ◌∙◌, append_assoc, arith}
use Rattle.vlog_grammar.proofs.Common.{cases_lt, append-nil, length-take-le, length-drop, take-append-drop, take-length, Token, Feature, Stop, Unexpected, Unsupported, Trees, tokens_of, refusals_of}
use Rattle.vlog_grammar.proofs.Common.{next_of, IsText, none_refused, AreTreesOf, NoneGoesOn, IsRefused, IsUnexpectedAt, IsRefusedAt, IsStopAt, IsStop, named, first_of}
use Rattle.vlog_grammar.proofs.Reach.{none_refused-append}
use Rattle.vlog_grammar.proofs.Unique.{texts_refused_alike}

-- no text goes on past the place
none_beyond : (done rest : List Token) (j : ℕ) (text : Trees) (more : List Token) → NoneGoesOn done rest → 0 < j → j ≤ length rest → IsText text → tokens_of text ≡ (done ++ take j rest) ++ more → ⊥
none_beyond done [] j text more none pos le d e = absurd (omega arith)
none_beyond done (t ∷ rest) zero text more none pos le d e = absurd (omega arith)
none_beyond done (t ∷ rest) (suc i) text more none pos le d e =
    none text (take i rest ++ more) d (e ∙ append_assoc done (t ∷ take i rest) more)

none_whole : (done rest : List Token) (text : Trees) → NoneGoesOn done rest → IsText text → tokens_of text ≡ done ++ rest → ⊥
none_whole done [] text none d e = none text d (e ∙ append-nil done)
none_whole done (t ∷ rest) text none d e = none text rest d e

take_split : (n j : ℕ) (ts : List Token) → take (n + j) ts ≡ take n ts ++ take j (drop n ts)
take_split zero j ts = ap (λ (k : ℕ). take k ts) (omega arith)
take_split (suc n) j [] = nothing (suc n + j) ∙ sym (nothing j)
  where
    nothing : (k : ℕ) → take k (let none : List Token = [] in none) ≡ []
    nothing zero = refl
    nothing (suc k) = refl
take_split (suc n) j (t ∷ ts) = ap (λ (k : ℕ). take k (t ∷ ts)) (let e : suc n + j ≡ suc (n + j) = omega arith in e) ∙ ap (λ (w : List Token). t ∷ w) (take_split n j ts)

pub take_upto : (n k : ℕ) (ts : List Token) → n ≤ k → take k ts ≡ take n ts ++ take (k - n) (drop n ts)
take_upto n k ts le = ap (λ (i : ℕ). take i ts) (let e : k ≡ n + (k - n) = omega arith in e) ∙ take_split n (k - n) ts

pub stops_before : (ts : List Token) (n k : ℕ) (text : Trees) (more : List Token) → NoneGoesOn (take n ts) (drop n ts) → n < k → k ≤ length ts → IsText text → tokens_of text ≡ take k ts ++ more → ⊥
stops_before ts n k text more none lt le d e =
    none_beyond (take n ts) (drop n ts) (k - n) text more none (omega arith) (omega (arith, length-drop n ts)) d (e ∙ ap (λ (w : List Token). w ++ more) (take_upto n k ts (omega arith)))

-- the reason to refuse the token at a place
refusal_at : List (Option Feature) → ℕ → Option Feature
refusal_at [] i = None
refusal_at (x ∷ xs) zero = x
refusal_at (x ∷ xs) (suc i) = refusal_at xs i

none_at : (done : List Token) (fs : List (Option Feature)) (i : ℕ) → i < length done → refusal_at (none_refused done ++ fs) i ≡ None
unfolding refusal_at
none_at [] fs i lt = absurd (omega arith)
none_at (t ∷ done) fs zero lt = refl
none_at (t ∷ done) fs (suc i) lt = none_at done fs i (omega arith)

some_at : (done : List Token) (x : Feature) (fs : List (Option Feature)) → refusal_at (none_refused done ++ Some x ∷ fs) (length done) ≡ Some x
unfolding refusal_at
some_at [] x fs = refl
some_at (t ∷ done) x fs = some_at done x fs

at_take : (n i : ℕ) (xs : List (Option Feature)) → i < n → refusal_at (take n xs) i ≡ refusal_at xs i
unfolding refusal_at
at_take zero i xs lt = absurd (omega arith)
at_take (suc n) i [] lt = refl
at_take (suc n) zero (x ∷ xs) lt = refl
at_take (suc n) (suc i) (x ∷ xs) lt = at_take n i xs (omega arith)

same_refusal : (ts : List Token) (i : ℕ) (f g : Trees) (x y : List Token) → i < length ts → IsText f → IsText g → tokens_of f ≡ take (suc i) ts ++ x → tokens_of g ≡ take (suc i) ts ++ y → refusal_at (refusals_of f) i ≡ refusal_at (refusals_of g) i
same_refusal ts i f g x y lt d e first second =
    let size : length (take (suc i) ts) ≡ suc i = length-take-le (suc i) ts (omega arith) in
    let same = texts_refused_alike f g (take (suc i) ts) x y d e first second in
    sym (at_take (length (take (suc i) ts)) i (refusals_of f) (omega arith)) ∙ ap (λ (w : List (Option Feature)). refusal_at w i) same ∙ at_take (length (take (suc i) ts)) i (refusals_of g) (omega arith)

-- a text that shows a refusal begins with the refused token too
refused_begins : (ts : List Token) (m : ℕ) (x : Feature) (r : IsRefused x (take m ts) (drop m ts)) → tokens_of r.text ≡ take (suc m) ts ++ r.more
refused_begins ts m x r =
    let front : take (suc m) ts ≡ take m ts ++ r.token ∷ [] = ap (λ (k : ℕ). take k ts) (let e : suc m ≡ m + 1 = omega arith in e) ∙ take_split m 1 ts ∙ ap (λ (w : List Token). take m ts ++ take 1 w) r.is_rest in
    r.begins ∙ sym (append_assoc (take m ts) (r.token ∷ []) r.more) ∙ ap (λ (w : List Token). w ++ r.more) (sym front)

refused_at : (ts : List Token) (m : ℕ) (x : Feature) (r : IsRefused x (take m ts) (drop m ts)) → m < length ts → refusal_at (refusals_of r.text) m ≡ Some x
refused_at ts m x r lt =
    let size : length (take m ts) ≡ m = length-take-le m ts (omega arith) in
    ap (refusal_at (refusals_of r.text)) (sym size) ∙ ap (λ (w : List (Option Feature)). refusal_at w (length (take m ts))) r.first_refused ∙ some_at (take m ts) x r.refusals

-- a text that begins with more tokens, none of them refused, begins with fewer
fewer : (ts : List Token) (i n : ℕ) (text : Trees) (more : List Token) → i < n → tokens_of text ≡ take n ts ++ more → tokens_of text ≡ take (suc i) ts ++ (take (n - suc i) (drop (suc i) ts) ++ more)
fewer ts i n text more lt e =
    e ∙ ap (λ (w : List Token). w ++ more) (take_upto (suc i) n ts (omega arith)) ∙ append_assoc (take (suc i) ts) (take (n - suc i) (drop (suc i) ts)) more

pub refused_first : (ts : List Token) (m n : ℕ) (x : Feature) (text : Trees) (more : List Token) (fs : List (Option Feature)) → m < n → n ≤ length ts → IsRefused x (take m ts) (drop m ts) → IsText text → tokens_of text ≡ take n ts ++ more → refusals_of text ≡ none_refused (take n ts) ++ fs → ⊥
refused_first ts m n x text more fs lt le r d e none =
    let size : length (take n ts) ≡ n = length-take-le n ts (omega arith) in
    let same = same_refusal ts m r.text text r.more _ (omega arith) r.is_text d (refused_begins ts m x r) (fewer ts m n text more lt e) in
    let here = refused_at ts m x r (omega arith) in
    let nothing : refusal_at (refusals_of text) m ≡ None = ap (λ (w : List (Option Feature)). refusal_at w m) none ∙ none_at (take n ts) fs m (omega arith) in
    let wrong : Some x ≡ None = sym here ∙ same ∙ nothing in
    cc

not_unexpected : (ts : List Token) (text : Trees) (n : ℕ) → AreTreesOf text ts → IsUnexpectedAt ts n → ⊥
not_unexpected ts text n r h =
    let whole : ts ≡ take n ts ++ drop n ts = sym (take-append-drop n ts) in
    none_whole (take n ts) (drop n ts) text h.1.none_goes_on r.is_text (r.derives ∙ whole)

not_refused : (ts : List Token) (text : Trees) (m : ℕ) (x : Feature) → AreTreesOf text ts → IsRefusedAt ts m x → ⊥
not_refused ts text m x r h =
    refused_first ts m (length ts) x text [] [] h.0 (omega arith) h.1 r.is_text (r.derives ∙ sym (take-length ts) ∙ sym (append-nil (take (length ts) ts))) (r.none_is_refused ∙ ap none_refused (sym (take-length ts)) ∙ sym (append-nil (none_refused (take (length ts) ts))))

pub read_once : (ts : List Token) (text : Trees) (s : Stop) → AreTreesOf text ts → IsStop ts s → ⊥
read_once ts text (Unexpected at) r h = not_unexpected ts text h.0 r h.1.1
read_once ts text (Unsupported at x) r h = go h.1
  where
    go : IsStopAt ts h.0 (Unsupported at x) → ⊥
    go (inl k) = not_unexpected ts text h.0 r k.1
    go (inr k) = not_refused ts text h.0 x r k.0

unexpected_once : (ts : List Token) (n m : ℕ) → IsUnexpectedAt ts n → IsUnexpectedAt ts m → n ≡ m
unexpected_once ts n m h k = go (cases_lt n m) (cases_lt m n)
  where
    go : (n < m) ⊎ (m ≤ n) → (m < n) ⊎ (n ≤ m) → n ≡ m
    go (inl lt) _ = absurd (stops_before ts n m k.1.before.text k.1.before.more h.1.none_goes_on lt k.0 k.1.before.trees.is_text k.1.before.trees.derives)
    go (inr le) (inl lt) = absurd (stops_before ts m n h.1.before.text h.1.before.more k.1.none_goes_on lt h.0 h.1.before.trees.is_text h.1.before.trees.derives)
    go (inr le) (inr ge) = omega arith

unexpected_refused : (ts : List Token) (n m : ℕ) (x : Feature) → IsUnexpectedAt ts n → IsRefusedAt ts m x → ⊥
unexpected_refused ts n m x h k = go (cases_lt m n)
  where
    go : (m < n) ⊎ (n ≤ m) → ⊥
    go (inl lt) =
        let b = h.1.before in
        refused_first ts m n x b.text b.more (none_refused b.more) lt h.0 k.1 b.trees.is_text b.trees.derives (b.trees.none_is_refused ∙ none_refused-append (take n ts) b.more)
    go (inr le) = stops_before ts n (suc m) k.1.text k.1.more h.1.none_goes_on (omega arith) (omega (arith, k.0)) k.1.is_text (refused_begins ts m x k.1)

refused_twice : (ts : List Token) (m n : ℕ) (x y : Feature) → m < n → IsRefusedAt ts m x → IsRefusedAt ts n y → ⊥
refused_twice ts m n x y lt h k =
    refused_first ts m n x k.1.text (k.1.token ∷ k.1.more) (Some y ∷ k.1.refusals) lt (omega (arith, k.0)) h.1 k.1.is_text k.1.begins k.1.first_refused

refused_once : (ts : List Token) (m n : ℕ) (x y : Feature) → IsRefusedAt ts m x → IsRefusedAt ts n y → (m ≡ n) × (x ≡ y)
refused_once ts m n x y h k = go (cases_lt m n) (cases_lt n m)
  where
    go : (m < n) ⊎ (n ≤ m) → (n < m) ⊎ (m ≤ n) → (m ≡ n) × (x ≡ y)
    go (inl lt) _ = absurd (refused_twice ts m n x y lt h k)
    go (inr le) (inl lt) = absurd (refused_twice ts n m y x lt k h)
    go (inr le) (inr ge) =
        let e : m ≡ n = omega arith in
        let at_m : tokens_of k.1.text ≡ take (suc m) ts ++ k.1.more = refused_begins ts n y k.1 ∙ ap (λ (i : ℕ). take (suc i) ts ++ k.1.more) (sym e) in
        let same = same_refusal ts m h.1.text k.1.text h.1.more k.1.more h.0 h.1.is_text k.1.is_text (refused_begins ts m x h.1) at_m in
        let here = refused_at ts m x h.1 h.0 in
        let there : refusal_at (refusals_of k.1.text) m ≡ Some y = ap (refusal_at (refusals_of k.1.text)) e ∙ refused_at ts n y k.1 k.0 in
        let both : Some x ≡ Some y = sym here ∙ same ∙ there in
        (e, cc)

-- the word at a place is named by one feature or by none
named_once : (ts : List Token) (n m : ℕ) (o p : Option Feature) → IsUnexpectedAt ts n → IsUnexpectedAt ts m → named (next_of (drop n ts)) ≡ o → named (next_of (drop m ts)) ≡ p → (n ≡ m) × (o ≡ p)
named_once ts n m o p h k first second =
    let e = unexpected_once ts n m h k in
    (e, sym first ∙ ap (λ (i : ℕ). named (next_of (drop i ts))) e ∙ second)

same_stop : (ts : List Token) (n m : ℕ) (s t : Stop) → IsStopAt ts n s → IsStopAt ts m t → s ≡ t
same_stop ts n m (Unexpected a) (Unexpected b) h k =
    let e : a ≡ b = h.0 ∙ unexpected_once ts n m h.1 k.1 ∙ sym k.0 in
    ap (λ (i : ℕ). Unexpected i) e
same_stop ts n m (Unexpected a) (Unsupported b y) h (inl k) = let wrong = (named_once ts n m None (Some y) h.1 k.1 h.2 k.2).1 in cc
same_stop ts n m (Unexpected a) (Unsupported b y) h (inr k) = absurd (unexpected_refused ts n m y h.1 k.0)
same_stop ts n m (Unsupported a x) (Unexpected b) (inl h) k = let wrong = (named_once ts n m (Some x) None h.1 k.1 h.2 k.2).1 in cc
same_stop ts n m (Unsupported a x) (Unexpected b) (inr h) k = absurd (unexpected_refused ts m n x k.1 h.0)
same_stop ts n m (Unsupported a x) (Unsupported b y) (inl h) (inl k) =
    let both = named_once ts n m (Some x) (Some y) h.1 k.1 h.2 k.2 in
    let place : a ≡ b = h.0 ∙ both.0 ∙ sym k.0 in
    let feature : x ≡ y = let same = both.1 in cc in
    ap (λ (i : ℕ). Unsupported i x) place ∙ ap (λ (z : Feature). Unsupported b z) feature
same_stop ts n m (Unsupported a x) (Unsupported b y) (inl h) (inr k) = absurd (unexpected_refused ts n m y h.1 k.0)
same_stop ts n m (Unsupported a x) (Unsupported b y) (inr h) (inl k) = absurd (unexpected_refused ts m n x k.1 h.0)
same_stop ts n m (Unsupported a x) (Unsupported b y) (inr h) (inr k) =
    let both = refused_once ts n m x y h.0 k.0 in
    let place : a ≡ b = h.1 ∙ ap (first_of x) both.0 ∙ ap (λ (z : Feature). first_of z m) both.1 ∙ sym k.1 in
    ap (λ (i : ℕ). Unsupported i x) place ∙ ap (λ (z : Feature). Unsupported b z) both.1

pub stops_once : (ts : List Token) (s t : Stop) → IsStop ts s → IsStop ts t → s ≡ t
stops_once ts s t h k = same_stop ts h.0 k.0 s t h.1 k.1
