-- The first fault of joined lists.
use Rattle.vlog_meaning.proofs.Common.{◌≡◌, ℕ, Bool, true, false, ◌==◌, nat_lt, List, [], ◌∷◌, ◌++◌, map, refl, sym, ap, ◌∙◌, arith, Option, None, Some, if◌then◌else◌, nat_tests, zero, suc, ◌<◌}
use Rattle.vlog_meaning.proofs.Common.{length, get_or, take, append_assoc, Expr, Names, sense, senses, all_signals, all_faults, all_zeros, own_zeros, Span, Fault, rank, precedes, earlier, least}
use Rattle.vlog_meaning.proofs.Common.{least_at, fault}
use Rattle.std.proofs.lemmas.List.{map-append, append-nil}
use Rattle.vlog_meaning.specs.declared.fault.Cause.{Cause}

pub lex_later : (a b c : ℕ) (p q r : Bool) → (p ≡ false → q ≡ false → r ≡ false) → (if b == a then p else nat_lt b a) ≡ false → (if c == b then q else nat_lt c b) ≡ false → (if c == a then r else nat_lt c a) ≡ false
lex_later a b c p q r inner e f = grind (arith, nat_tests)

pub lex_sooner : (a b c : ℕ) (p q r : Bool) → (p ≡ true → q ≡ true → r ≡ true) → (if b == a then p else nat_lt b a) ≡ true → (if c == b then q else nat_lt c b) ≡ true → (if c == a then r else nat_lt c a) ≡ true
lex_sooner a b c p q r inner e f = grind (arith, nat_tests)

pub number_later : (a b c : ℕ) → nat_lt b a ≡ false → nat_lt c b ≡ false → nat_lt c a ≡ false
number_later a b c e f = grind (arith, nat_tests)

pub number_sooner : (a b c : ℕ) → nat_lt b a ≡ true → nat_lt c b ≡ true → nat_lt c a ≡ true
number_sooner a b c e f = grind (arith, nat_tests)

-- what does not come before does not come before what comes after
later : (f g h : Fault) → precedes g f ≡ false → precedes h g ≡ false → precedes h f ≡ false
later f g h = lex_later f.span.file g.span.file h.span.file _ _ _ (lex_later f.span.line g.span.line h.span.line _ _ _ (lex_later f.span.col g.span.col h.span.col _ _ _ (number_later (rank f.cause) (rank g.cause) (rank h.cause))))

sooner : (f g h : Fault) → precedes g f ≡ true → precedes h g ≡ true → precedes h f ≡ true
sooner f g h = lex_sooner f.span.file g.span.file h.span.file _ _ _ (lex_sooner f.span.line g.span.line h.span.line _ _ _ (lex_sooner f.span.col g.span.col h.span.col _ _ _ (number_sooner (rank f.cause) (rank g.cause) (rank h.cause))))

three : (f g h : Fault) (a b : Bool) → precedes g f ≡ a → precedes h g ≡ b → (if precedes h (if precedes g f then g else f) then h else (if precedes g f then g else f)) ≡ (if precedes (if precedes h g then h else g) f then if precedes h g then h else g else f)
three f g h true true e k = let c = sooner f g h e k in rw (e, k, c) refl
three f g h true false e k = rw (e, k, e) refl
three f g h false true e k = rw (e, k) refl
three f g h false false e k = let c = later f g h e k in rw (e, k, c, e) refl

pub earlier_again : (f g h : Option Fault) → earlier (earlier f g) h ≡ earlier f (earlier g h)
unfolding earlier
earlier_again None g h = refl
earlier_again (Some f) None h = refl
earlier_again (Some f) (Some g) None = refl
earlier_again (Some f) (Some g) (Some h) = ap Some (three f g h (precedes g f) (precedes h g) refl refl)

pub least_append : (xs ys : List Fault) → least (xs ++ ys) ≡ earlier (least xs) (least ys)
unfolding least earlier
least_append [] ys = refl
least_append (x ∷ xs) ys = ap (earlier (Some x)) (least_append xs ys) ∙ sym (earlier_again (Some x) (least xs) (least ys))

pub least_at_append : (cause : Cause) (xs ys : List Span) → least_at cause (xs ++ ys) ≡ earlier (least_at cause xs) (least_at cause ys)
least_at_append cause xs ys = ap least (map-append (fault cause) xs ys) ∙ least_append (map (fault cause) xs) (map (fault cause) ys)

pub least_none : (xs : List Fault) → least xs ≡ None → xs ≡ []
unfolding least earlier
least_none [] e = refl
least_none (x ∷ xs) e = go (least xs) e
  where
    go : (o : Option Fault) → earlier (Some x) o ≡ None → x ∷ xs ≡ []
    go None h = cc
    go (Some y) h = cc

pub least_nil : (cause : Cause) → None ≡ least_at cause []
unfolding least
least_nil cause = refl

pub pair_of : (cause : Cause) (xs ys : List Span) (a b r : Option Fault) → r ≡ earlier a b → a ≡ least_at cause xs → b ≡ least_at cause ys → r ≡ least_at cause (xs ++ ys)
pair_of cause xs ys a b r is left right = is ∙ ap (λ (o : Option Fault). earlier o b) left ∙ ap (earlier (least_at cause xs)) right ∙ sym (least_at_append cause xs ys)

-- one expression more
pub signals_take : (names : Names) (es : List Expr) (k : ℕ) (x : Expr) → x ≡ get_or es k x → k < length es → all_signals (senses names (take (suc k) es)) ≡ all_signals (senses names (take k es)) ++ (sense names x).signals
signals_take names [] k x is h = absurd (omega arith)
signals_take names (e ∷ es) zero x is h = append-nil (sense names e).signals ∙ ap (λ (y : Expr). (sense names y).signals) (sym is)
signals_take names (e ∷ es) (suc k) x is h = ap (λ (l : List Fault). (sense names e).signals ++ l) (signals_take names es k x is (omega arith)) ∙ sym (append_assoc (sense names e).signals (all_signals (senses names (take k es))) (sense names x).signals)

pub faults_take : (names : Names) (es : List Expr) (k : ℕ) (x : Expr) → x ≡ get_or es k x → k < length es → all_faults (senses names (take (suc k) es)) ≡ all_faults (senses names (take k es)) ++ (sense names x).faults
faults_take names [] k x is h = absurd (omega arith)
faults_take names (e ∷ es) zero x is h = append-nil (sense names e).faults ∙ ap (λ (y : Expr). (sense names y).faults) (sym is)
faults_take names (e ∷ es) (suc k) x is h = ap (λ (l : List Fault). (sense names e).faults ++ l) (faults_take names es k x is (omega arith)) ∙ sym (append_assoc (sense names e).faults (all_faults (senses names (take k es))) (sense names x).faults)

pub zeros_take : (names : Names) (es : List Expr) (k : ℕ) (x : Expr) → x ≡ get_or es k x → k < length es → all_zeros (senses names (take (suc k) es)) ≡ all_zeros (senses names (take k es)) ++ own_zeros (sense names x)
zeros_take names [] k x is h = absurd (omega arith)
zeros_take names (e ∷ es) zero x is h = append-nil (own_zeros (sense names e)) ∙ ap (λ (y : Expr). own_zeros (sense names y)) (sym is)
zeros_take names (e ∷ es) (suc k) x is h = ap (λ (l : List Span). own_zeros (sense names e) ++ l) (zeros_take names es k x is (omega arith)) ∙ sym (append_assoc (own_zeros (sense names e)) (all_zeros (senses names (take k es))) (own_zeros (sense names x)))
