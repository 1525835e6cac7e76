-- A look-up in the map of a scope's own names.
use Rattle.flat_scopes.proofs.Common.{◌≡◌, ℕ, List, [], ◌∷◌, map, refl, sym, ap, ◌∙◌, subst, cond, bytes_eq, String, Global, btree_map_updates_text, is_eq-slice_cmp}
use Rattle.std.proofs.Math.Path.{fun_ext}
use Rattle.std.specs.Map.{lookup}
use Rattle.std.specs.BTreeMap.{BTreeMap, UpdatesBy, is_at}
use Rattle.std.specs.String.{string_bytes, string_cmp}
use Rattle.std.specs.Cmp.Lexicographic.{slice_cmp}
use Rattle.std.specs.Ordering.{nat_cmp}
use Rattle.std.specs.Prelude.{Option, Some}
use Rattle.flat_scopes.specs.declared.signal.What.{What}
use Rattle.flat_scopes.specs.Owns.{what_of, own_entry, with_own}

pub looked_up : (name : List ℕ) (es : List (String Global × What)) → lookup (is_at (λ k. slice_cmp nat_cmp name (string_bytes k))) es ≡ what_of (map own_entry es) name
looked_up name [] = refl
looked_up name (e ∷ es) = rw (is_eq-slice_cmp name (string_bytes e.0), looked_up name es) refl

-- the names after a change at one of them
updated : (name : List ℕ) (m n : BTreeMap (String Global) What) (w : What) → UpdatesBy string_cmp (λ k. slice_cmp nat_cmp name (string_bytes k)) m n (Some w) → what_of (map own_entry n.entries) ≡ with_own (what_of (map own_entry m.entries)) name w
updated name m n w u = fun_ext (λ other. sym (looked_up other n.entries) ∙ btree_map_updates_text name m n (Some w) u other ∙ ap (λ (o : Option What). cond (bytes_eq name other) (Some w) o) (looked_up other m.entries))

-- the same, where the change is at a key of these bytes
pub updated_at : (key : String Global) (name : List ℕ) (m n : BTreeMap (String Global) What) (w : What) → string_bytes key ≡ name → UpdatesBy string_cmp (string_cmp key) m n (Some w) → what_of (map own_entry n.entries) ≡ with_own (what_of (map own_entry m.entries)) name w
updated_at key name m n w is u = subst (λ (b : List ℕ). what_of (map own_entry n.entries) ≡ with_own (what_of (map own_entry m.entries)) b w) is (updated (string_bytes key) m n w u)
