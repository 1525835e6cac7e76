-- The name of a block is one, and so is what a name stands for in a scope.
use Rattle.flat_once.proofs.Common.{◌≡◌, ℕ, true≢false, List, ◌++◌, Option, None, Some, refl, sym, ◌∙◌, subst, codes, decimal, IsSome, slice_get, Identifier, What, Place}
use Rattle.flat_scopes.specs.Owns.{Own}
use Rattle.flat_items.specs.Flattened.{IsFree, free, taken, IsBlockName, labelled, unlabelled, Sees, here, outside, nowhere}

-- Blocks.

-- what a block is named behind this prefix, where the scope has this of the name
abbrev FreeAt : Own → ℕ → List ℕ → Option What → List ℕ → Type 0
FreeAt own number prefix None name = name ≡ prefix ++ decimal number
FreeAt own number prefix (Some what) name = IsFree own number (prefix ++ codes "0") name

some_free : (own : Own) (number : ℕ) (prefix name : List ℕ) (found : Option What) → IsSome found → IsFree own number (prefix ++ codes "0") name → FreeAt own number prefix found name
some_free own number prefix name None h d = absurd (true≢false (sym h))
some_free own number prefix name (Some what) h d = d

some_taken : (own : Own) (number : ℕ) (prefix name : List ℕ) (found : Option What) → IsSome found → FreeAt own number prefix found name → IsFree own number (prefix ++ codes "0") name
some_taken own number prefix name None h d = absurd (true≢false (sym h))
some_taken own number prefix name (Some what) h d = d

free_at : (own : Own) (number : ℕ) (prefix name : List ℕ) → IsFree own number prefix name → FreeAt own number prefix (own (prefix ++ decimal number)) name
free_at own number prefix name (free p none) = subst (λ (o : Option What). FreeAt own number p o (p ++ decimal number)) (sym none) refl
free_at own number prefix name (taken p n some d) = some_free own number p n (own (p ++ decimal number)) some d

free_once : (own : Own) (number : ℕ) (prefix name other : List ℕ) → IsFree own number prefix name → IsFree own number prefix other → name ≡ other
free_once own number prefix name other (free p none) e = sym (subst (λ (o : Option What). FreeAt own number p o other) none (free_at own number p other e))
free_once own number prefix name other (taken p n some d) e = free_once own number (p ++ codes "0") n other d (some_taken own number p other (own (p ++ decimal number)) some (free_at own number p other e))

abbrev NamedAs : Own → ℕ → Option Identifier → List ℕ → Type 0
NamedAs own number (Some label) name = name ≡ label.name
NamedAs own number None name = IsFree own number (codes "genblk") name

named_as : (own : Own) (number : ℕ) (label : Option Identifier) (name : List ℕ) → IsBlockName own number label name → NamedAs own number label name
named_as own number label name (labelled l) = refl
named_as own number label name (unlabelled n d) = d

pub block_name_once : (own : Own) (number : ℕ) (label : Option Identifier) (name other : List ℕ) → IsBlockName own number label name → IsBlockName own number label other → name ≡ other
block_name_once own number label name other d e = go label (named_as own number label name d) (named_as own number label other e) where
  go : (l : Option Identifier) → NamedAs own number l name → NamedAs own number l other → name ≡ other
  go (Some l) a b = a ∙ sym b
  go None a b = free_once own number (codes "genblk") name other a b

-- Names in scopes.

-- what a name stands for that the scope has as this, with this scope around it
abbrev SeenAs : List Place → List ℕ → Option What → Option ℕ → Option What → Type 0
SeenAs places name (Some x) around what = what ≡ Some x
SeenAs places name None (Some k) what = Sees places name k what
SeenAs places name None None what = what ≡ None

abbrev SeenIn : List Place → List ℕ → Option Place → Option What → Type 0
SeenIn places name None what = ⊥
SeenIn places name (Some p) what = SeenAs places name (p.own name) p.around what

-- it is looked for in the scope of this number
seen_here : (places : List Place) (name : List ℕ) (k : ℕ) (p : Place) (own : Option What) (around : Option ℕ) (what : Option What) → slice_get places k ≡ Some p → p.own name ≡ own → p.around ≡ around
    → SeenAs places name own around what → SeenIn places name (slice_get places k) what
seen_here places name k p own around what got o a h =
    subst (λ (x : Option Place). SeenIn places name x what) (sym got) (subst (λ (x : Option What). SeenAs places name x p.around what) (sym o) (subst (λ (x : Option ℕ). SeenAs places name own x what) (sym a) h))

here_seen : (places : List Place) (name : List ℕ) (k : ℕ) (p : Place) (own : Option What) (around : Option ℕ) (what : Option What) → slice_get places k ≡ Some p → p.own name ≡ own → p.around ≡ around
    → SeenIn places name (slice_get places k) what → SeenAs places name own around what
here_seen places name k p own around what got o a h =
    subst (λ (x : Option ℕ). SeenAs places name own x what) a (subst (λ (x : Option What). SeenAs places name x p.around what) o (subst (λ (x : Option Place). SeenIn places name x what) got h))

seen_in : (places : List Place) (name : List ℕ) (k : ℕ) (what : Option What) → Sees places name k what → SeenIn places name (slice_get places k) what
seen_in places name k what (here n p x got own) = seen_here places name n p (Some x) p.around (Some x) got own refl refl
seen_in places name k what (outside n j p w got own around d) = seen_here places name n p None (Some j) w got own around d
seen_in places name k what (nowhere n p got own around) = seen_here places name n p None None None got own around refl

pub sees_once : (places : List Place) (name : List ℕ) (k : ℕ) (what other : Option What) → Sees places name k what → Sees places name k other → what ≡ other
sees_once places name k what other (here n p x got own) e = sym (here_seen places name n p (Some x) p.around other got own refl (seen_in places name n other e))
sees_once places name k what other (outside n j p w got own around d) e = sees_once places name j w other d (here_seen places name n p None (Some j) other got own around (seen_in places name n other e))
sees_once places name k what other (nowhere n p got own around) e = sym (here_seen places name n p None None other got own around (seen_in places name n other e))
