-- A look-up in the map of a scope.
use Rattle.vlog_meaning.proofs.Common.{◌≡◌, ℕ, List, [], ◌∷◌, map, refl, sym, ap, ◌∙◌, subst, cond, Bool, true, false, ◌&&◌, arith, bytes_eq, slice_cmp, slice_get, Option, None, Some, is_some}
use Rattle.vlog_meaning.proofs.Common.{if◌then◌else◌, nat_tests, Word, Decl, Signal, Constant, names_of, entry_of, with_name, FitsWord, FitsWidth, FitsSignals, fits_width, fits_word}
use Rattle.std.proofs.Math.Path.{fun_ext}
use Rattle.std.specs.Map.{lookup}
use Rattle.std.specs.BTreeMap.{BTreeMap, UpdatesBy, get_by, is_at}
use Rattle.std.specs.String.{string_bytes, string_cmp}
use Rattle.std.specs.Ordering.{nat_cmp}
use Rattle.std.specs.declared.string.String.{String}
use Rattle.std.specs.declared.alloc.Global.{Global}
use Rattle.std.specs.List.{AllZip, list_all}
use Rattle.std.proofs.lemmas.Map.Text.{btree_map_updates_text}
use Rattle.std.proofs.lemmas.Map.Text.{is_eq-slice_cmp}

pub looked_up : (name : List ℕ) (es : List (String Global × Decl)) → lookup (is_at (λ k. slice_cmp nat_cmp name (string_bytes k))) es ≡ names_of (map entry_of es) name
looked_up name [] = refl
looked_up name (e ∷ es) = rw (is_eq-slice_cmp name (string_bytes e.0), looked_up name es) refl

-- a name that the map has, and one that it has not
pub is_there : (name : List ℕ) (m : BTreeMap (String Global) Decl) (b : Bool) → b ≡ is_some (get_by (λ k. slice_cmp nat_cmp name (string_bytes k)) m) → b ≡ is_some (names_of (map entry_of m.entries) name)
is_there name m b is = is ∙ ap is_some (looked_up name m.entries)

-- the names after a change at one of them
pub updated : (name : List ℕ) (m n : BTreeMap (String Global) Decl) (w : Option Decl) → UpdatesBy string_cmp (λ k. slice_cmp nat_cmp name (string_bytes k)) m n w → names_of (map entry_of n.entries) ≡ with_name (names_of (map entry_of m.entries)) name w
updated name m n w u = fun_ext (λ other. sym (looked_up other n.entries) ∙ btree_map_updates_text name m n w u other ∙ ap (λ (o : Option Decl). cond (bytes_eq name other) w o) (looked_up other m.entries))

-- the same, where the change is at a key of these bytes
pub updated_at : (key : String Global) (name : List ℕ) (m n : BTreeMap (String Global) Decl) (w : Option Decl) → string_bytes key ≡ name → UpdatesBy string_cmp (string_cmp key) m n w → names_of (map entry_of n.entries) ≡ with_name (names_of (map entry_of m.entries)) name w
updated_at key name m n w is u = subst (λ (b : List ℕ). names_of (map entry_of n.entries) ≡ with_name (names_of (map entry_of m.entries)) b w) is (updated (string_bytes key) m n w u)

-- clones of the entries are the same entries
pub cloned : (es fs : List (String Global × Decl)) → AllZip (λ p q. (string_bytes q.0 ≡ string_bytes p.0) × (q.1 ≡ p.1)) es fs → map entry_of fs ≡ map entry_of es
cloned [] [] all = refl
cloned [] (f ∷ fs) all = absurd all
cloned (e ∷ es) [] all = absurd all
cloned (e ∷ es) (f ∷ fs) all = grind (arith, all.0, all.1, cloned es fs all.1)

-- each word has its width where each entry's has
module _ (words : List Word) where
  fits_entry : (d : Decl) → fits_word words d ≡ true → FitsWord words (Some d)
  fits_entry (Signal width low is_signed number) e = go (slice_get words number) e
    where
      go : (o : Option Word) → fits_width width o ≡ true → FitsWidth width o
      go (Some word) h = grind (arith, nat_tests)
      go None h = tt
  fits_entry (Constant value low is_signed) e = tt

  one_of : (b : Bool) (o p : Option Decl) → FitsWord words o → FitsWord words p → FitsWord words (if b then o else p)
  one_of true o p h k = h
  one_of false o p h k = k

  both_true : (a b : Bool) → a && b ≡ true → (a ≡ true) × (b ≡ true)
  both_true true true e = (refl, refl)
  both_true true false e = cc
  both_true false b e = cc

  pub all_fit : (entries : List (List ℕ × Decl)) → list_all (λ entry. fits_word words entry.1) entries ≡ true → FitsSignals (names_of entries) words
  all_fit [] e name = tt
  all_fit (entry ∷ more) e name =
      let both = both_true (fits_word words entry.1) (list_all (λ entry. fits_word words entry.1) more) e in
      one_of (bytes_eq name entry.0) (Some entry.1) (names_of more name) (fits_entry entry.1 both.0) (all_fit more both.1 name)

  -- the entries by their values
  pub all_values : (es : List (String Global × Decl)) → list_all (fits_word words) (map (λ (e : String Global × Decl). e.1) es) ≡ list_all (λ entry. fits_word words entry.1) (map entry_of es)
  all_values [] = refl
  all_values (e ∷ es) = rw (all_values es) refl
