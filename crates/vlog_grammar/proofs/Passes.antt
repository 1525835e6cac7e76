-- The table passes the tests of a predictive reader.
use Rattle.vlog_grammar.proofs.Common.{◌≡◌, ℕ, zero, suc, Bool, true, false, ◌&&◌, ◌||◌, not, List, [], ◌∷◌, Option, Some, None, refl, sym, ap, ◌∙◌, ltb, rules, sameb, same_true, true_same}
use Rattle.vlog_grammar.proofs.Common.{class_type, Class, Kind, Rule, Symbol, Is, Refused, Of, choice, production, kind_of, parts_of, is_avoided, firsts, follows, is_null, rank_of, height_of}
use Rattle.vlog_grammar.proofs.Common.{cheapest_of, is_same, is_first, is_follow, is_finish, is_plain, can_vanish, can_begin, can_come, all_safe, rest_of, work_of, all_below}
use denote.Enum.Declared.{tag_of}
use Rattle.vlog_grammar.specs.contracts.rule.Kind.{the_type as kind_type}
use Rattle.vlog_grammar.specs.contracts.rule.Rule.{the_type as rule_type}
use Rattle.vlog_grammar.specs.declared.class.Class.TheVariants as c
use Rattle.vlog_grammar.specs.declared.rule.Kind.TheVariants as k
use Rattle.vlog_grammar.specs.declared.rule.Rule.TheVariants as r

abbrev pub implies : Bool → Bool → Bool
implies a b = not a || b

pub implied : (a b : Bool) → implies a b ≡ true → a ≡ true → b ≡ true
implied true b h e = h
implied false b h e = absurd cc

pub and_left : (a b : Bool) → (a && b) ≡ true → a ≡ true
and_left true b h = refl
and_left false b h = h

pub and_right : (a b : Bool) → (a && b) ≡ true → b ≡ true
and_right true b h = h
and_right false b h = absurd cc

abbrev every : {A : Type 0} → (A → Bool) → List A → Bool
every p [] = true
every p (x ∷ xs) = p x && every p xs

abbrev nth : {A : Type 0} → List A → ℕ → Option A
nth [] i = None
nth (x ∷ xs) zero = Some x
nth (x ∷ xs) (suc i) = nth xs i

at_place : {A : Type 0} (p : A → Bool) (xs : List A) (i : ℕ) (x : A) → every p xs ≡ true → nth xs i ≡ Some x → p x ≡ true
at_place p [] i x h e = absurd cc
at_place p (y ∷ ys) zero x h e = let q : y ≡ x = cc in ap p (sym q) ∙ and_left (p y) (every p ys) h
at_place p (y ∷ ys) (suc i) x h e = at_place p ys i x (and_right (p y) (every p ys) h) e

unfoldable classes : List Class
classes = c.Name ∷ c.SystemVerilog ∷ c.Number ∷ c.String ∷ c.System ∷ c.UnaryFunction ∷ c.Module ∷ c.Semicolon ∷ c.EndModule ∷ c.Primitive ∷ c.Or ∷ c.OpenParen ∷ c.AttributeStar ∷ c.AttributeEnd ∷ c.AttributeText ∷ c.Hash ∷ c.Parameter ∷ c.CloseParen ∷ c.Comma ∷ c.Input ∷ c.Output ∷ c.Reg ∷ c.Integer ∷ c.Generate ∷ c.EndGenerate ∷ c.Wire ∷ c.Genvar ∷ c.Localparam ∷ c.Assign ∷ c.Always ∷ c.Initial ∷ c.For ∷ c.Equals ∷ c.If ∷ c.Case ∷ c.Begin ∷ c.End ∷ c.Else ∷ c.Colon ∷ c.Signed ∷ c.OpenBracket ∷ c.CloseBracket ∷ c.Dot ∷ c.EndCase ∷ c.While ∷ c.Repeat ∷ c.Forever ∷ c.At ∷ c.LessEqual ∷ c.CaseZ ∷ c.CaseX ∷ c.Default ∷ c.Star ∷ c.Posedge ∷ c.Negedge ∷ c.OpenBrace ∷ c.CloseBrace ∷ c.PlusColon ∷ c.Power ∷ c.Slash ∷ c.Percent ∷ c.Plus ∷ c.Minus ∷ c.ShiftLeft ∷ c.ShiftRight ∷ c.ShiftLeftSigned ∷ c.ShiftRightSigned ∷ c.Less ∷ c.Greater ∷ c.GreaterEqual ∷ c.Equal ∷ c.Unequal ∷ c.CaseEqual ∷ c.CaseUnequal ∷ c.And ∷ c.Xor ∷ c.Xnor ∷ c.Bar ∷ c.LogicalAnd ∷ c.LogicalOr ∷ c.Question ∷ c.Not ∷ c.Tilde ∷ c.Nand ∷ c.Nor ∷ c.NetKind ∷ c.Inout ∷ c.Function ∷ c.Task ∷ c.Specify ∷ c.Defparam ∷ c.RealOrTime ∷ c.Other ∷ c.Finish ∷ []

class_at : (x : Class) → nth classes (tag_of class_type x) ≡ Some x
unfolding classes
class_at c.Name = refl
class_at _ = refl

at_class : (p : Class → Bool) (x : Class) → every p classes ≡ true → p x ≡ true
at_class p x h = at_place p classes (tag_of class_type x) x h (class_at x)

pub is_same-refl : (a : Class) → is_same a a ≡ true
is_same-refl a = true_same class_type a a refl

abbrev is_rule : Rule → Option Rule → Bool
is_rule x None = false
is_rule x (Some y) = sameb rule_type x y

rule_is : (x : Rule) (o : Option Rule) → is_rule x o ≡ true → o ≡ Some x
rule_is x None h = absurd cc
rule_is x (Some y) h = ap Some (sym (same_true rule_type (search rules) x y h))

same_kind : (x y : Kind) → sameb kind_type x y ≡ true → x ≡ y
same_kind x y h = same_true kind_type (search rules) x y h

abbrev first_test : Rule → Bool
first_test x = every (λ y. implies (can_begin (parts_of x) y) (is_first (kind_of x) y)) classes

first_tested : (x : Rule) → first_test x ≡ true
unfolding production firsts is_null classes
first_tested r.NoDescription = refl
first_tested _ = refl

pub first_closed : (x : Rule) (y : Class) → can_begin (parts_of x) y ≡ true → is_first (kind_of x) y ≡ true
first_closed x y h = implied _ _ (at_class (λ z. implies (can_begin (parts_of x) z) (is_first (kind_of x) z)) y (first_tested x)) h

abbrev null_test : Rule → Bool
null_test x = implies (can_vanish (parts_of x)) (is_null (kind_of x))

null_tested : (x : Rule) → null_test x ≡ true
unfolding production is_null
null_tested r.NoDescription = refl
null_tested _ = refl

pub null_closed : (x : Rule) → can_vanish (parts_of x) ≡ true → is_null (kind_of x) ≡ true
null_closed x h = implied _ _ (null_tested x) h

abbrev pub follows_within : Kind → List Symbol → Class → Bool
follows_within o [] y = true
follows_within o (Is d ∷ ss) y = follows_within o ss y
follows_within o (Refused d f ∷ ss) y = follows_within o ss y
follows_within o (Of j ∷ ss) y = implies (can_come ss (is_follow o y) y) (is_follow j y) && follows_within o ss y

abbrev follow_test : Rule → Bool
follow_test x = every (λ y. follows_within (kind_of x) (parts_of x) y) classes

follow_tested : (x : Rule) → follow_test x ≡ true
unfolding production firsts follows is_null classes
follow_tested r.NoDescription = refl
follow_tested _ = refl

pub follow_closed : (x : Rule) (y : Class) → follows_within (kind_of x) (parts_of x) y ≡ true
follow_closed x y = at_class (λ z. follows_within (kind_of x) (parts_of x) z) y (follow_tested x)

-- the production, where the next token is y
abbrev pub calls_for : Rule → Class → Bool
calls_for x y = can_begin (parts_of x) y || (can_vanish (parts_of x) && (is_follow (kind_of x) y && not (is_avoided x y)))

abbrev choice_test : Rule → Bool
choice_test x = every (λ y. implies (calls_for x y) (is_rule x (choice (kind_of x) y))) classes

choice_tested : (x : Rule) → choice_test x ≡ true
unfolding production firsts follows is_null is_avoided choice classes
choice_tested r.NoDescription = refl
choice_tested _ = refl

pub is_chosen : (x : Rule) (y : Class) → calls_for x y ≡ true → choice (kind_of x) y ≡ Some x
is_chosen x y h = rule_is x _ (implied _ _ (at_class (λ z. implies (calls_for x z) (is_rule x (choice (kind_of x) z))) y (choice_tested x)) h)

abbrev pub is_empty : List Symbol → Bool
is_empty [] = true
is_empty (s ∷ ss) = false

-- what is chosen is of its kind, and isn't avoided there
abbrev chosen_well : Kind → Option Rule → Class → Bool
chosen_well j None y = true
chosen_well j (Some x) y = sameb kind_type (kind_of x) j && not (is_avoided x y)

abbrev well_test : Kind → Bool
well_test x = every (λ y. chosen_well x (choice x y) y) classes

well_tested : (x : Kind) → well_test x ≡ true
unfolding production is_avoided choice classes
well_tested k.SourceText = refl
well_tested _ = refl

not_true : (b : Bool) → not b ≡ true → b ≡ false
not_true true h = absurd cc
not_true false h = refl

well_chosen : (j : Kind) (o : Option Rule) (y : Class) (x : Rule) → chosen_well j o y ≡ true → o ≡ Some x → (kind_of x ≡ j) × (is_avoided x y ≡ false)
well_chosen j None y x h e = absurd cc
well_chosen j (Some z) y x h e =
    let q : z ≡ x = cc in
    let a = same_kind (kind_of z) j (and_left _ _ h) in
    let b = not_true (is_avoided z y) (and_right (sameb kind_type (kind_of z) j) _ h) in
    (ap kind_of (sym q) ∙ a, ap (λ w. is_avoided w y) (sym q) ∙ b)

pub chosen : (j : Kind) (y : Class) (x : Rule) → choice j y ≡ Some x → (kind_of x ≡ j) × (is_avoided x y ≡ false)
chosen j y x e = well_chosen j (choice j y) y x (at_class (λ z. chosen_well j (choice j z) z) y (well_tested j)) e

abbrev avoid_test : Rule → Bool
avoid_test x = every (λ y. implies (is_avoided x y) (is_empty (parts_of x) && not (is_plain y))) classes

avoid_tested : (x : Rule) → avoid_test x ≡ true
unfolding production is_avoided classes
avoid_tested r.NoDescription = refl
avoid_tested _ = refl

pub avoided_is_empty : (x : Rule) (y : Class) → is_avoided x y ≡ true → (is_empty (parts_of x) && not (is_plain y)) ≡ true
avoided_is_empty x y h = implied _ _ (at_class (λ z. implies (is_avoided x z) (is_empty (parts_of x) && not (is_plain z))) y (avoid_tested x)) h

abbrev safe_test : Rule → Bool
safe_test x = all_safe (rest_of (parts_of x))

safe_tested : (x : Rule) → safe_test x ≡ true
unfolding production
safe_tested r.NoDescription = refl
safe_tested _ = refl

pub rest_is_safe : (x : Rule) → all_safe (rest_of (parts_of x)) ≡ true
rest_is_safe = safe_tested

abbrev work_test : Rule → Bool
work_test x = ltb (work_of (parts_of x)) (rank_of (kind_of x))

work_tested : (x : Rule) → work_test x ≡ true
unfolding production is_null rank_of
work_tested r.NoDescription = refl
work_tested _ = refl

pub work_falls : (x : Rule) → ltb (work_of (parts_of x)) (rank_of (kind_of x)) ≡ true
work_falls = work_tested

abbrev cheap_test : Kind → Bool
cheap_test x = sameb kind_type (kind_of (cheapest_of x)) x && (all_safe (parts_of (cheapest_of x)) && all_below (height_of x) (parts_of (cheapest_of x)))

cheap_tested : (x : Kind) → cheap_test x ≡ true
unfolding production height_of cheapest_of
cheap_tested k.SourceText = refl
cheap_tested _ = refl

pub record IsCheap (x : Kind) : Type 0 where
  pub of_kind : kind_of (cheapest_of x) ≡ x
  pub safe : all_safe (parts_of (cheapest_of x)) ≡ true
  pub below : all_below (height_of x) (parts_of (cheapest_of x)) ≡ true

pub cheapest : (x : Kind) → IsCheap x
cheapest x =
    let h = cheap_tested x in
    let m = and_right (sameb kind_type (kind_of (cheapest_of x)) x) _ h in
    record {
      of_kind = same_kind _ x (and_left _ _ h);
      safe = and_left _ _ m;
      below = and_right (all_safe (parts_of (cheapest_of x))) _ m;
    }

pub finish_is_plain : is_plain c.Finish ≡ true
finish_is_plain = refl

pub finish_is_finish : is_finish c.Finish ≡ true
finish_is_finish = refl

pub avoided_is_not_plain : (x : Rule) (y : Class) → is_avoided x y ≡ true → is_plain y ≡ false
avoided_is_not_plain x y h = not_true (is_plain y) (and_right (is_empty (parts_of x)) _ (avoided_is_empty x y h))

finish_test : every (λ y. implies (is_finish y) (is_follow k.SourceText y)) classes ≡ true
unfolding follows classes
finish_test = refl

pub start_follow : (y : Class) → can_come [] (is_finish y) y ≡ true → is_follow k.SourceText y ≡ true
start_follow y h = implied _ _ (at_class (λ z. implies (is_finish z) (is_follow k.SourceText z)) y finish_test) h
