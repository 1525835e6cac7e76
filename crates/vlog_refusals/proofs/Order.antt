-- Of two refusals of different precedence one comes before the other, so just one of several stands first.
use Rattle.vlog_refusals.proofs.Common.{◌≡◌, inl, inr, ℕ, Bool, false, ◌==◌, nat_lt, List, [], ◌∷◌, refl, sym, ap, ◌∙◌, arith, None, Some, if◌then◌else◌, nat_tests, Precedence}
use Rattle.mcy_base.specs.declared.span.Span.{Span}
use Rattle.vlog_refusals.specs.Order.{precedes, IsAmong, NoneBefore, FirstIsOne}

-- Where neither of two comes before the other.

lex_same : (a b : ℕ) (p q : Bool) → (if a == b then p else nat_lt a b) ≡ false → (if b == a then q else nat_lt b a) ≡ false → a ≡ b
lex_same a b p q e f = grind (arith, nat_tests)

lex_inner : (a b : ℕ) (p : Bool) → a ≡ b → (if a == b then p else nat_lt a b) ≡ false → p ≡ false
lex_inner a b p is e = grind (arith, nat_tests)

number_same : (a b : ℕ) → nat_lt a b ≡ false → nat_lt b a ≡ false → a ≡ b
number_same a b e f = grind (arith, nat_tests)

abbrev span_at : ℕ → ℕ → ℕ → Span
span_at file line col = record { file = file; line = line; col = col }

span_same : (s t : Span) → s.file ≡ t.file → s.line ≡ t.line → s.col ≡ t.col → s ≡ t
span_same s t a b c = ap (λ (n : ℕ). span_at n s.line s.col) a ∙ ap (λ (n : ℕ). span_at t.file n s.col) b ∙ ap (span_at t.file t.line) c

abbrev precedence_at : Span → ℕ → ℕ → Precedence
precedence_at span kind detail = record { span = span; kind = kind; detail = detail }

precedence_same : (x y : Precedence) → x.span ≡ y.span → x.kind ≡ y.kind → x.detail ≡ y.detail → x ≡ y
precedence_same x y a b c = ap (λ (s : Span). precedence_at s x.kind x.detail) a ∙ ap (λ (n : ℕ). precedence_at y.span n x.detail) b ∙ ap (precedence_at y.span y.kind) c

-- the order by place, kind and what is told, from the last of these on
abbrev by_kind : (x y : Precedence) → Bool
by_kind x y = if x.kind == y.kind then nat_lt x.detail y.detail else nat_lt x.kind y.kind

abbrev by_col : (x y : Precedence) → Bool
by_col x y = if x.span.col == y.span.col then by_kind x y else nat_lt x.span.col y.span.col

abbrev by_line : (x y : Precedence) → Bool
by_line x y = if x.span.line == y.span.line then by_col x y else nat_lt x.span.line y.span.line

neither : (x y : Precedence) → precedes x y ≡ false → precedes y x ≡ false → x ≡ y
neither x y i1 j1 =
    let s : Span = x.span in
    let t : Span = y.span in
    let file : s.file ≡ t.file = lex_same s.file t.file (by_line x y) (by_line y x) i1 j1 in
    let i2 : by_line x y ≡ false = lex_inner s.file t.file (by_line x y) file i1 in
    let j2 : by_line y x ≡ false = lex_inner t.file s.file (by_line y x) (sym file) j1 in
    let line : s.line ≡ t.line = lex_same s.line t.line (by_col x y) (by_col y x) i2 j2 in
    let i3 : by_col x y ≡ false = lex_inner s.line t.line (by_col x y) line i2 in
    let j3 : by_col y x ≡ false = lex_inner t.line s.line (by_col y x) (sym line) j2 in
    let col : s.col ≡ t.col = lex_same s.col t.col (by_kind x y) (by_kind y x) i3 j3 in
    let i4 : by_kind x y ≡ false = lex_inner s.col t.col (by_kind x y) col i3 in
    let j4 : by_kind y x ≡ false = lex_inner t.col s.col (by_kind y x) (sym col) j3 in
    let kind : x.kind ≡ y.kind = lex_same x.kind y.kind (nat_lt x.detail y.detail) (nat_lt y.detail x.detail) i4 j4 in
    let i5 : nat_lt x.detail y.detail ≡ false = lex_inner x.kind y.kind (nat_lt x.detail y.detail) kind i4 in
    let j5 : nat_lt y.detail x.detail ≡ false = lex_inner y.kind x.kind (nat_lt y.detail x.detail) (sym kind) j4 in
    precedence_same x y (span_same s t file line col) kind (number_same x.detail y.detail i5 j5)

-- no two have one precedence
abbrev pub AreTold : {A : Type 0} → (A → Precedence) → Type 0
AreTold {A} place = (x y : A) → place x ≡ place y → x ≡ y

-- one of a list does not come before what none of it comes before
not_before : {A : Type 0} (place : A → Precedence) (x y : A) (xs : List A) → IsAmong x xs → NoneBefore place y xs → precedes (place x) (place y) ≡ false
not_before place x y [] a n = absurd a
not_before {A} place x y (z ∷ zs) (inl is) n = ap (λ (w : A). precedes (place w) (place y)) is ∙ n.0
not_before place x y (z ∷ zs) (inr a) n = not_before place x y zs a n.1

none_among : {A : Type 0} (x : A) (xs : List A) → xs ≡ [] → IsAmong x xs → ⊥
none_among x [] e a = a
none_among x (z ∷ zs) e a = absurd cc

pub first_once : {A : Type 0} (place : A → Precedence) → AreTold place → FirstIsOne place
first_once place told xs None None i j = refl
first_once place told xs None (Some y) i j = absurd (none_among y xs i j.0)
first_once place told xs (Some x) None i j = absurd (none_among x xs j i.0)
first_once place told xs (Some x) (Some y) i j = ap Some (told x y (neither (place x) (place y) (not_before place x y xs i.0 j.1) (not_before place y x xs j.0 i.1)))
