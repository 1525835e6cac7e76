-- What is known of the depths where a reading ends.
use Rattle.vlog_parse.proofs.Common.{◌≡◌, ℕ, suc, ◌+◌, ◌-◌, ◌<◌, ◌≤◌, Bool, List, [], ◌∷◌, ◌++◌, Option, Some, None, ◌⊎◌, inl, inr, length, get_or, take, drop, sym, ap, subst, ◌∙◌, append_assoc}
use Rattle.vlog_parse.proofs.Common.{arith, cases_lt, lt-ltb, le-ltb, append-nil, get_or_append_left, length-take-le, take-append-le, take_at, take-length, Feature, Step, Classed, Stop, Unexpected}
use Rattle.vlog_parse.proofs.Common.{Unsupported, Trees, tokens_of, refusals_of, steps_of, AreStepsOf, AreStepsSoFar, IsReading, IsRefusedAt, IsStopAt, IsText, IsUnexpectedAt, none_refused, taken}
use Rattle.vlog_parse.proofs.Common.{AllShallow, IsShallowBefore, IsTooDeepAt, depths, first_deep, outermost, walked}
use Rattle.std.specs.Prelude.{if◌then◌else◌}
use Rattle.vlog_grammar.proofs.Answer.{take_upto}
use Rattle.vlog_grammar.proofs.Reach.{none_refused-append}
use Rattle.vlog_grammar.proofs.Stops.{taken_steps}
use Rattle.vlog_parse.proofs.Depths.{length-walked, walked_on, walked_text}

-- a text begins with the tokens before number n, and none of these is refused in it
pub record Shown (tokens : List Classed) (n : ℕ) : Type 0 where
  pub within : n ≤ length tokens
  pub text : Trees
  pub is_text : IsText text
  pub more : List Classed
  pub begins : tokens_of text ≡ take n tokens ++ more
  pub refusals : List (Option Feature)
  pub none_is_refused : refusals_of text ≡ none_refused (take n tokens) ++ refusals

by_unexpected : (ts : List Classed) (n : ℕ) → IsUnexpectedAt ts n → Shown ts n
by_unexpected ts n h =
    let before = h.1.before in
    record {
      within = h.0;
      text = before.text;
      is_text = before.trees.is_text;
      more = before.more;
      begins = before.trees.derives;
      refusals = none_refused before.more;
      none_is_refused = before.trees.none_is_refused ∙ none_refused-append (take n ts) before.more;
    }

by_refused : (ts : List Classed) (n : ℕ) (x : Feature) → IsRefusedAt ts n x → Shown ts n
by_refused ts n x h =
    let lt : n < length ts = h.0 in
    record {
      within = omega arith;
      text = h.1.text;
      is_text = h.1.is_text;
      more = h.1.token ∷ h.1.more;
      begins = h.1.begins;
      refusals = Some x ∷ h.1.refusals;
      none_is_refused = h.1.first_refused;
    }

pub shown : (ts : List Classed) (n : ℕ) (why : Stop) → IsStopAt ts n why → Shown ts n
shown ts n (Unexpected at) h = by_unexpected ts n h.1
shown ts n (Unsupported at x) (inl h) = by_unexpected ts n h.1
shown ts n (Unsupported at x) (inr h) = by_refused ts n x h.0

-- a text whose first depths are these
pub record IsRead (tokens : List Classed) (ds : List ℕ) : Type 0 where
  pub shown : Shown tokens (length ds)
  pub later : List ℕ
  pub are : depths shown.text ≡ ds ++ later

-- the depths of a text that begins with the tokens that the steps take
depths_go_on : (ts : List Classed) (n : ℕ) (steps : List Step) → AreStepsSoFar steps (take n ts) → (text : Trees) (more : List Classed) → IsText text → tokens_of text ≡ take n ts ++ more → (later : List ℕ) × (depths text ≡ walked outermost [] steps ++ later)
depths_go_on ts n steps so_far text more d begins =
    let behind = so_far.shared text more d begins in
    let on = walked_on outermost [] steps behind.0 in
    (on.0, sym (walked_text text d) ∙ ap (walked outermost []) behind.1 ∙ on.1)

walked_size : (ts : List Classed) (n : ℕ) (steps : List Step) → n ≤ length ts → AreStepsSoFar steps (take n ts) → length (walked outermost [] steps) ≡ n
walked_size ts n steps within so_far = length-walked outermost [] steps ∙ ap length so_far.take_them ∙ length-take-le n ts within

at_stop : (ts : List Classed) (n : ℕ) (steps : List Step) (why : Stop) → IsStopAt ts n why → AreStepsSoFar steps (take n ts) → IsRead ts (walked outermost [] steps)
at_stop ts n steps why is so_far =
    let here = shown ts n why is in
    let size = walked_size ts n steps here.within so_far in
    let on = depths_go_on ts n steps so_far here.text here.more here.is_text here.begins in
    record {
      shown = record {
        within = subst (λ (k : ℕ). k ≤ length ts) (sym size) here.within;
        text = here.text;
        is_text = here.is_text;
        more = here.more;
        begins = here.begins ∙ ap (λ (k : ℕ). take k ts ++ here.more) (sym size);
        refusals = here.refusals;
        none_is_refused = here.none_is_refused ∙ ap (λ (k : ℕ). none_refused (take k ts) ++ here.refusals) (sym size);
      };
      later = on.0;
      are = on.1;
    }

pub depths_by_steps : (text : Trees) (steps : List Step) → IsText text → steps_of text ≡ steps → depths text ≡ walked outermost [] steps
depths_by_steps text steps d are = sym (walked_text text d) ∙ ap (walked outermost []) are

at_end : (ts : List Classed) (steps : List Step) → AreStepsOf steps ts → IsRead ts (walked outermost [] steps)
at_end ts steps h =
    let ds = walked outermost [] steps in
    let size : length ds ≡ length ts = length-walked outermost [] steps ∙ ap (λ (ss : List Step). length (taken ss)) (sym h.are) ∙ ap length (taken_steps h.text ∙ h.trees.derives) in
    let whole : take (length ds) ts ≡ ts = ap (λ (k : ℕ). take k ts) size ∙ take-length ts in
    record {
      shown = record {
        within = omega (arith, size);
        text = h.text;
        is_text = h.trees.is_text;
        more = [];
        begins = h.trees.derives ∙ sym (append-nil ts) ∙ ap (λ (us : List Classed). us ++ []) (sym whole);
        refusals = [];
        none_is_refused = h.trees.none_is_refused ∙ sym (append-nil (none_refused ts)) ∙ ap (λ (us : List Classed). none_refused us ++ []) (sym whole);
      };
      later = [];
      are = depths_by_steps h.text steps h.trees.is_text h.are ∙ sym (append-nil ds);
    }

-- the first depth above 200
record IsFirstDeep (ds : List ℕ) (k : ℕ) : Type 0 where
  pub within : k < length ds
  pub deep : 200 < get_or ds k 0
  pub before : AllShallow (take k ds)

found : (n : ℕ) (ds : List ℕ) (at : ℕ) → first_deep n ds ≡ Some at → (k : ℕ) × (at ≡ n + k) × IsFirstDeep ds k
found n [] at h = absurd cc
found n (d ∷ ds) at h = go (λ rest. found (n + 1) ds at rest) (cases_lt 200 d)
  where
    go : (first_deep (n + 1) ds ≡ Some at → (k : ℕ) × (at ≡ n + 1 + k) × IsFirstDeep ds k) → (200 < d) ⊎ (d ≤ 200) → (k : ℕ) × (at ≡ n + k) × IsFirstDeep (d ∷ ds) k
    go later (inl deep) =
        let here : Some n ≡ Some at = sym (ap (λ (b : Bool). if b then Some n else first_deep (n + 1) ds) (lt-ltb 200 d deep)) ∙ h in
        let same : n ≡ at = cc in
        (0, omega arith, record { within = omega arith; deep = deep; before = tt })
    go later (inr shallow) =
        let behind = later (sym (ap (λ (b : Bool). if b then Some n else first_deep (n + 1) ds) (le-ltb 200 d shallow)) ∙ h) in
        (suc behind.0, omega (arith, behind.1), record { within = omega (arith, behind.2.within); deep = behind.2.deep; before = (shallow, behind.2.before) })

pub none_found : (n : ℕ) (ds : List ℕ) → first_deep n ds ≡ None → AllShallow ds
none_found n [] h = tt
none_found n (d ∷ ds) h = go (λ rest. none_found (n + 1) ds rest) (cases_lt 200 d)
  where
    go : (first_deep (n + 1) ds ≡ None → AllShallow ds) → (200 < d) ⊎ (d ≤ 200) → AllShallow (d ∷ ds)
    go later (inl deep) =
        let here : Some n ≡ None = sym (ap (λ (b : Bool). if b then Some n else first_deep (n + 1) ds) (lt-ltb 200 d deep)) ∙ h in
        absurd cc
    go later (inr shallow) = (shallow, later (sym (ap (λ (b : Bool). if b then Some n else first_deep (n + 1) ds) (le-ltb 200 d shallow)) ∙ h))

pub is_read : (ts : List Classed) (steps : List Step) (why : Option Stop) → IsReading ts steps why → IsRead ts (walked outermost [] steps)
is_read ts steps None h = at_end ts steps h
is_read ts steps (Some why) h = at_stop ts h.0 steps why h.1 h.2

-- a reading whose first depth above 200 is that of this token
pub deep_at : (ts : List Classed) (ds : List ℕ) (at : ℕ) → IsRead ts ds → first_deep 0 ds ≡ Some at → IsTooDeepAt ts at
deep_at ts ds at read h =
    let first = found 0 ds at h in
    let same : at ≡ first.0 = omega (arith, first.1) in
    let is : IsFirstDeep ds at = subst (IsFirstDeep ds) (sym same) first.2 in
    let below : at < length ds = is.within in
    let here = read.shown in
    let inner : length ds ≤ length ts = here.within in
    let front = take_upto (at + 1) (length ds) ts (omega arith) in
    let left = take (length ds - (at + 1)) (drop (at + 1) ts) in
    record {
      within = omega arith;
      text = here.text;
      is_text = here.is_text;
      more = left ++ here.more;
      begins = here.begins ∙ ap (λ (us : List Classed). us ++ here.more) front ∙ append_assoc (take (at + 1) ts) left here.more;
      refusals = none_refused left ++ here.refusals;
      none_is_refused = here.none_is_refused ∙ ap (λ (us : List Classed). none_refused us ++ here.refusals) front
          ∙ ap (λ (rs : List (Option Feature)). rs ++ here.refusals) (none_refused-append (take (at + 1) ts) left)
          ∙ append_assoc (none_refused (take (at + 1) ts)) (none_refused left) here.refusals;
      deep = subst (λ (d : ℕ). 200 < d) (sym (ap (λ (es : List ℕ). get_or es at 0) read.are ∙ get_or_append_left ds read.later 0 at below)) is.deep;
      before = subst AllShallow (sym (ap (take at) read.are ∙ take-append-le at ds read.later (omega arith))) is.before;
    }

-- a reading with no depth above 200, up to where it stops
pub shallow_to : (ts : List Classed) (n : ℕ) (steps : List Step) (why : Stop) → IsStopAt ts n why → AreStepsSoFar steps (take n ts) → first_deep 0 (walked outermost [] steps) ≡ None → IsShallowBefore ts n
shallow_to ts n steps why is so_far none = λ text more d begins.
    let size = walked_size ts n steps (shown ts n why is).within so_far in
    let on = depths_go_on ts n steps so_far text more d begins in
    subst AllShallow (sym (ap (take n) on.1 ∙ take_at (walked outermost [] steps) on.0 n size)) (none_found 0 _ none)
