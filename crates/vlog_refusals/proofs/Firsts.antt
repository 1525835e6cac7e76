-- The first of joined lists, and the first of what is wrong in expressions.
use Rattle.vlog_refusals.proofs.Common.{◌≡◌, inl, inr, ℕ, Bool, true, false, ◌==◌, nat_lt, List, [], ◌∷◌, ◌++◌, map, refl, ap, subst, arith, Option, None, Some, if◌then◌else◌, nat_tests, append-nil}
use Rattle.vlog_refusals.proofs.Common.{Fault, least, earlier_fault, fault_precedes, Precedence, lex_later, lex_sooner, number_later, number_sooner}
use Rattle.std.specs.Option.{option_map}
use Rattle.vlog_refusals.specs.Order.{fault_precedence, precedes, earlier, IsAmong, NoneBefore, IsFirst}

-- what does not come before does not come before what comes after
later : (f g h : Precedence) → precedes g f ≡ false → precedes h g ≡ false → precedes h f ≡ false
later f g h = lex_later f.span.file g.span.file h.span.file _ _ _ (lex_later f.span.line g.span.line h.span.line _ _ _ (lex_later f.span.col g.span.col h.span.col _ _ _ (lex_later f.kind g.kind h.kind _ _ _ (number_later f.detail g.detail h.detail))))

sooner : (f g h : Precedence) → precedes g f ≡ true → precedes h g ≡ true → precedes h f ≡ true
sooner f g h = lex_sooner f.span.file g.span.file h.span.file _ _ _ (lex_sooner f.span.line g.span.line h.span.line _ _ _ (lex_sooner f.span.col g.span.col h.span.col _ _ _ (lex_sooner f.kind g.kind h.kind _ _ _ (number_sooner f.detail g.detail h.detail))))

number_self : (a : ℕ) → nat_lt a a ≡ false
number_self a = grind (arith, nat_tests)

lex_self : (a : ℕ) (p : Bool) → p ≡ false → (if a == a then p else nat_lt a a) ≡ false
lex_self a p e = grind (arith, nat_tests)

none_itself : (f : Precedence) → precedes f f ≡ false
none_itself f = lex_self f.span.file _ (lex_self f.span.line _ (lex_self f.span.col _ (lex_self f.kind _ (number_self f.detail))))

-- what comes before neither one nor, so, what comes before that
nor : (f g h : Precedence) (b : Bool) → precedes h g ≡ b → precedes g f ≡ true → precedes h f ≡ false → precedes h g ≡ false
nor f g h true is e k = let s : precedes h f ≡ true = sooner f g h e is in cc
nor f g h false is e k = is

-- Lists.

among_left : {A : Type 0} (f : A) (xs ys : List A) → IsAmong f xs → IsAmong f (xs ++ ys)
among_left f [] ys a = absurd a
among_left f (x ∷ xs) ys (inl a) = inl a
among_left f (x ∷ xs) ys (inr a) = inr (among_left f xs ys a)

among_right : {A : Type 0} (f : A) (xs ys : List A) → IsAmong f ys → IsAmong f (xs ++ ys)
among_right f [] ys a = a
among_right f (x ∷ xs) ys a = inr (among_right f xs ys a)

module _ {A : Type 0} (place : A → Precedence) where
  none_both : (f : A) (xs ys : List A) → NoneBefore place f xs → NoneBefore place f ys → NoneBefore place f (xs ++ ys)
  none_both f [] ys a b = b
  none_both f (x ∷ xs) ys a b = (a.0, none_both f xs ys a.1 b)

  none_later : (f g : A) (xs : List A) → precedes (place g) (place f) ≡ false → NoneBefore place g xs → NoneBefore place f xs
  none_later f g [] e a = tt
  none_later f g (x ∷ xs) e a = (later (place f) (place g) (place x) e a.0, none_later f g xs e a.1)

  none_sooner : (f g : A) (xs : List A) → precedes (place g) (place f) ≡ true → NoneBefore place f xs → NoneBefore place g xs
  none_sooner f g [] e a = tt
  none_sooner f g (x ∷ xs) e a = (nor (place f) (place g) (place x) (precedes (place x) (place g)) refl e a.0, none_sooner f g xs e a.1)

  both : (f g : A) (xs ys : List A) (b : Bool) → precedes (place g) (place f) ≡ b → IsFirst place xs (Some f) → IsFirst place ys (Some g) → IsFirst place (xs ++ ys) (Some (if b then g else f))
  both f g xs ys true e i j = (among_right g xs ys j.0, none_both g xs ys (none_sooner f g xs e i.1) j.1)
  both f g xs ys false e i j = (among_left f xs ys i.0, none_both f xs ys i.1 (none_later f g ys e j.1))

  -- the first of two lists in turn
  pub first_both : (f g : Option A) (xs ys : List A) → IsFirst place xs f → IsFirst place ys g → IsFirst place (xs ++ ys) (earlier place f g)
  unfolding earlier
  first_both None g xs ys i j = rw i j
  first_both (Some f) None xs ys i j = rw (j, append-nil xs) i
  first_both (Some f) (Some g) xs ys i j = both f g xs ys (precedes (place g) (place f)) refl i j

  -- where none is the earlier of two, neither is there
  pub none_earlier : (f g : Option A) → None ≡ earlier place f g → f ≡ None
  unfolding earlier
  none_earlier None g e = refl
  none_earlier (Some f) None e = absurd cc
  none_earlier (Some f) (Some g) e = absurd cc

  -- the first of one
  pub first_alone : (f : A) → IsFirst place (f ∷ []) (Some f)
  first_alone f = (inl refl, (none_itself (place f), tt))

  -- What is wrong in expressions, as what is refused for it.

  chosen : (wrong : Fault → A) (f g : Fault) (b : Bool) → (if b then wrong g else wrong f) ≡ wrong (if b then g else f)
  chosen wrong f g true = refl
  chosen wrong f g false = refl

  -- faults stand in the order of what is refused for them
  same_order : (wrong : Fault → A) → ((f : Fault) → place (wrong f) ≡ fault_precedence f) → (f : Fault) (o : Option Fault) → earlier place (Some (wrong f)) (option_map wrong o) ≡ option_map wrong (earlier_fault (Some f) o)
  unfolding earlier earlier_fault
  same_order wrong at f None = refl
  same_order wrong at f (Some g) = rw (at f, at g) (ap Some (chosen wrong f g (fault_precedes g f)))

  wrong_first : (wrong : Fault → A) → ((f : Fault) → place (wrong f) ≡ fault_precedence f) → (fs : List Fault) → IsFirst place (map wrong fs) (option_map wrong (least fs))
  unfolding least
  wrong_first wrong at [] = refl
  wrong_first wrong at (f ∷ more) = subst (IsFirst place (map wrong (f ∷ more))) (same_order wrong at f (least more)) (first_both (Some (wrong f)) (option_map wrong (least more)) (wrong f ∷ []) (map wrong more) (first_alone (wrong f)) (wrong_first wrong at more))

  -- the first fault, as what is refused for it
  pub first_wrong : (wrong : Fault → A) → ((f : Fault) → place (wrong f) ≡ fault_precedence f) → (fs : List Fault) (o : Option Fault) → o ≡ least fs → IsFirst place (map wrong fs) (option_map wrong o)
  first_wrong wrong at fs o is = rw is (wrong_first wrong at fs)
