-- The variables of loops, which are no clocks.
use Rattle.flat_clocks.proofs.Common.{◌≡◌, ℕ, Bool, true, false, not, ◌&&◌, List, [], refl, sym, ap, ◌∙◌, subst, fun_ext, Option, None, Some, is_some, if◌then◌else◌, Identifier, LeftSide, Names}
use Rattle.flat_clocks.proofs.Common.{names_of, with_name, Refusal, IsFirst, ClockNames, inside, left_reads, but}
use Rattle.std.specs.Str.{bytes_eq}
use Rattle.vlog_meaning.specs.declared.scope.Decl.{Decl}
use Rattle.vlog_meaning.proofs.Redeclared.{last_counts}

hidden : (d : Decl) (b : Bool) (o : Option Decl) (x : Bool) → (not (is_some (if b then Some d else o)) && x) ≡ (not b && (not (is_some o) && x))
hidden d true o x = refl
hidden d false o x = refl

one_hidden : (variables : Names) (name : List ℕ) (n : Identifier) (d : Decl) (is : ClockNames) → name ≡ n.name → but (with_name variables name (Some d)) is ≡ inside (Some n) (but variables is)
one_hidden variables name n d is e = ap (λ (b : List ℕ). but (with_name variables b (Some d)) is) e ∙ fun_ext (λ other. hidden d (bytes_eq n.name other) (variables other) (is other))

-- a loop with a variable
pub named_hidden : (old new : Names) (name : List ℕ) (n : Identifier) (d : Decl) (o : Option Identifier) → o ≡ Some n → name ≡ n.name → new ≡ with_name old name (Some d) → (is : ClockNames) → but new is ≡ inside o (but old is)
named_hidden old new name n d o some e made is = ap (λ (z : Names). but z is) made ∙ one_hidden old name n d is e ∙ ap (λ (z : Option Identifier). inside z (but old is)) (sym some)

-- a name that was hidden and is declared
pub declared_again : (old mid new : Names) (name : List ℕ) (d : Decl) → mid ≡ with_name old name None → new ≡ with_name mid name (Some d) → new ≡ with_name old name (Some d)
declared_again old mid new name d first last = last ∙ ap (λ (z : Names). with_name z name (Some d)) first ∙ last_counts old name None (Some d)

-- a left side outside of loops
pub left_alone : (variables : List (List ℕ × Decl)) (is : ClockNames) (x : LeftSide) (o : Option Refusal) → IsFirst (left_reads (but (names_of variables) is) x) o → variables ≡ [] → IsFirst (left_reads is x) o
left_alone variables is x o h e = subst (λ (z : List (List ℕ × Decl)). IsFirst (left_reads (but (names_of z) is) x) o) e h
