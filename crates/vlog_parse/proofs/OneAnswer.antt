-- Tokens have one answer.
use Rattle.vlog_parse.proofs.Common.{◌≡◌, ℕ, zero, suc, ◌+◌, ◌<◌, ◌≤◌, List, [], ◌∷◌, ◌++◌, ◌⊎◌, inl, inr, length, get_or, take, sym, ap, subst, ◌∙◌, append_assoc, arith, cases_lt, append-nil}
use Rattle.vlog_parse.proofs.Common.{get_or-take, length-take-le, take-length, Span, Token, ParseError, Classed, Stop, Unexpected, Unsupported, Trees, tokens_of, steps_of, AreTreesOf, IsStopAt}
use Rattle.vlog_parse.proofs.Common.{IsText, steps_for, texts_alike_for, classes, AllShallow, IsTooDeepAt, depths, outermost, walked, AreOneFault, IsFault, IsFirstStop, place, stopped}
use Rattle.vlog_expand.specs.declared.error.ParseError.TheVariants as e
use Rattle.vlog_grammar.proofs.Answer.{read_once, refused_first, stops_before, stops_once, take_upto}
use Rattle.vlog_parse.proofs.Depths.{take-walked, walked_text}
use Rattle.vlog_parse.proofs.Readings.{shown}

-- texts that begin with the same tokens are equally deep there
same_depths : (f g : Trees) (done m n : List Classed) → IsText f → IsText g → tokens_of f ≡ done ++ m → tokens_of g ≡ done ++ n → take (length done) (depths f) ≡ take (length done) (depths g)
same_depths f g done m n d e first second =
    let k = length done in
    let walk : Trees → List ℕ = λ h. walked outermost [] (steps_for k (steps_of h)) in
    let by_steps : (h : Trees) → IsText h → take k (depths h) ≡ walk h = λ h text. ap (take k) (sym (walked_text h text)) ∙ take-walked k outermost [] (steps_of h) in
    by_steps f d ∙ ap (walked outermost []) (texts_alike_for f g done m n d e first second).steps ∙ sym (by_steps g e)

at_all : (ds : List ℕ) → AllShallow ds → (k : ℕ) → get_or ds k 0 ≤ 200
at_all [] h k = omega arith
at_all (d ∷ ds) h zero = h.0
at_all (d ∷ ds) h (suc k) = at_all ds h.1 k

at_front : (n : ℕ) (ds : List ℕ) → AllShallow (take n ds) → (k : ℕ) → k < n → get_or ds k 0 ≤ 200
at_front n ds h k lt = subst (λ (d : ℕ). d ≤ 200) (get_or-take n ds k 0 lt) (at_all (take n ds) h k)

-- no text that begins with the same tokens is shallow where one is too deep
not_shallow : (ts : List Classed) (k n : ℕ) (text : Trees) (more : List Classed) → IsTooDeepAt ts k → k < n → IsText text → tokens_of text ≡ take n ts ++ more → get_or (depths text) k 0 ≤ 200 → ⊥
not_shallow ts k n text more deep lt d begins shallow =
    let within : k < length ts = deep.within in
    let done = take (k + 1) ts in
    let size : length done ≡ k + 1 = length-take-le (k + 1) ts (omega arith) in
    let front = begins ∙ ap (λ (us : List Classed). us ++ more) (take_upto (k + 1) n ts (omega arith)) ∙ append_assoc done _ more in
    let same = same_depths deep.text text done deep.more _ deep.is_text d deep.begins front in
    let at : (g : Trees) → get_or (take (length done) (depths g)) k 0 ≡ get_or (depths g) k 0 = λ g. get_or-take (length done) (depths g) k 0 (omega (arith, size)) in
    let equal : get_or (depths deep.text) k 0 ≡ get_or (depths text) k 0 = sym (at deep.text) ∙ ap (λ (ds : List ℕ). get_or ds k 0) same ∙ at text in
    absurd (omega (arith, deep.deep, equal, shallow))

deep_once : (ts : List Classed) (k n : ℕ) → IsTooDeepAt ts k → IsTooDeepAt ts n → k < n → ⊥
deep_once ts k n first second lt =
    not_shallow ts k (n + 1) second.text second.more first (omega arith) second.is_text second.begins (at_front n (depths second.text) second.before k lt)

-- nothing is too deep at or behind a stop
none_behind : (ts : List Classed) (n k : ℕ) (why : Stop) → IsStopAt ts n why → IsTooDeepAt ts k → n ≤ k → ⊥
none_behind ts n k (Unexpected at) is deep le =
    let within : k < length ts = deep.within in
    stops_before ts n (k + 1) deep.text deep.more is.1.1.none_goes_on (omega arith) (omega arith) deep.is_text deep.begins
none_behind ts n k (Unsupported at x) (inl is) deep le =
    let within : k < length ts = deep.within in
    stops_before ts n (k + 1) deep.text deep.more is.1.1.none_goes_on (omega arith) (omega arith) deep.is_text deep.begins
none_behind ts n k (Unsupported at x) (inr is) deep le =
    let within : k < length ts = deep.within in
    refused_first ts n (k + 1) x deep.text deep.more deep.refusals (omega arith) (omega arith) is.0.1 deep.is_text deep.begins deep.none_is_refused

not_both : (ts : List Classed) (why : Stop) (k : ℕ) → IsFirstStop ts why → IsTooDeepAt ts k → ⊥
not_both ts why k first deep = go (cases_lt k first.number)
  where
    go : (k < first.number) ⊎ (first.number ≤ k) → ⊥
    go (inl before) =
        let here = shown ts first.number why first.is_stop in
        not_shallow ts k first.number here.text here.more deep before here.is_text here.begins (at_front first.number (depths here.text) (first.shallow here.text here.more here.is_text here.begins) k before)
    go (inr behind) = none_behind ts first.number k why first.is_stop deep behind

deep_same : (ts : List Classed) (k n : ℕ) → IsTooDeepAt ts k → IsTooDeepAt ts n → k ≡ n
deep_same ts k n first second = go (cases_lt k n) (cases_lt n k)
  where
    go : (k < n) ⊎ (n ≤ k) → (n < k) ⊎ (k ≤ n) → k ≡ n
    go (inl lt) other = absurd (deep_once ts k n first second lt)
    go (inr le) (inl lt) = absurd (deep_once ts n k second first lt)
    go (inr le) (inr ge) = omega arith

pub not_shallow_whole : (ts : List Classed) (k : ℕ) (text : Trees) → IsTooDeepAt ts k → AreTreesOf text ts → AllShallow (depths text) → ⊥
not_shallow_whole ts k text deep trees shallow =
    let whole : tokens_of text ≡ take (length ts) ts ++ [] = trees.derives ∙ sym (append-nil ts) ∙ ap (λ (us : List Classed). us ++ []) (sym (take-length ts)) in
    not_shallow ts k (length ts) text [] deep deep.within trees.is_text whole (at_all (depths text) shallow k)

pub read_alone : (ts : List Classed) (text : Trees) (why : Stop) → AreTreesOf text ts → IsFirstStop ts why → ⊥
read_alone ts text why trees first = read_once ts text why trees (first.number, first.is_stop)

pub one_fault : (tokens : List Token) (end : Span) (x y : ParseError) → IsFault tokens end x → IsFault tokens end y → AreOneFault x y
one_fault tokens end x y (inl a) (inl b) =
    let same = stops_once (classes tokens) a.0 b.0 (a.1.number, a.1.is_stop) (b.1.number, b.1.is_stop) in
    inr (inr (a.2 ∙ ap (stopped tokens end) same ∙ sym b.2))
one_fault tokens end x y (inl a) (inr (inl b)) = absurd (not_both (classes tokens) a.0 b.0 a.1 b.1)
one_fault tokens end x y (inr (inl a)) (inl b) = absurd (not_both (classes tokens) b.0 a.0 b.1 a.1)
one_fault tokens end x y (inr (inl a)) (inr (inl b)) =
    let same = deep_same (classes tokens) a.0 b.0 a.1 b.1 in
    inr (inr (a.2 ∙ ap (λ (n : ℕ). e.TooDeep (place tokens end n)) same ∙ sym b.2))
one_fault tokens end x y (inr (inr a)) b = inl a
one_fault tokens end x y a (inr (inr b)) = inr (inl b)
