-- Look-ups in the map of the numbers of modules.
use Rattle.flat_items.proofs.Common.{◌≡◌, Bool, ℕ, ◌+◌, ◌<◌, List, [], ◌∷◌, map, length, drop, get_or, refl, sym, ap, ◌∙◌, subst, cond, bytes_eq, drop_more, Module, Identifier, ItemError, module_at}
use Rattle.flat_items.proofs.Common.{module_from, placed_in, AreNumbered, number_of, number_entry, with_number}
use Rattle.std.proofs.Math.Path.{fun_ext}
use Rattle.std.specs.Map.{lookup}
use Rattle.std.specs.BTreeMap.{BTreeMap, UpdatesBy, is_at}
use Rattle.std.specs.String.{string_bytes, string_cmp}
use Rattle.std.specs.Cmp.Lexicographic.{slice_cmp}
use Rattle.std.specs.Ordering.{nat_cmp}
use Rattle.std.specs.declared.string.String.{String}
use Rattle.std.specs.declared.alloc.Global.{Global}
use Rattle.std.specs.Prelude.{Option, Some, Result, if◌then◌else◌}
use Rattle.std.proofs.lemmas.Map.Text.{btree_map_updates_text}
use Rattle.std.proofs.lemmas.Map.Text.{is_eq-slice_cmp}

pub looked_up : (name : List ℕ) (es : List (String Global × ℕ)) → lookup (is_at (λ k. slice_cmp nat_cmp name (string_bytes k))) es ≡ number_of (map number_entry es) name
looked_up name [] = refl
looked_up name (e ∷ es) = rw (is_eq-slice_cmp name (string_bytes e.0), looked_up name es) refl

-- the numbers after a change at a name
updated : (name : List ℕ) (m n : BTreeMap (String Global) ℕ) (w : ℕ) → UpdatesBy string_cmp (λ k. slice_cmp nat_cmp name (string_bytes k)) m n (Some w) → number_of (map number_entry n.entries) ≡ with_number (number_of (map number_entry m.entries)) name w
updated name m n w u = fun_ext (λ other. sym (looked_up other n.entries) ∙ btree_map_updates_text name m n (Some w) u other ∙ ap (λ (o : Option ℕ). cond (bytes_eq name other) (Some w) o) (looked_up other m.entries))

-- the same, where the change is at a key of these bytes
pub updated_at : (key : String Global) (name : List ℕ) (m n : BTreeMap (String Global) ℕ) (w : ℕ) → string_bytes key ≡ name → UpdatesBy string_cmp (string_cmp key) m n (Some w) → number_of (map number_entry n.entries) ≡ with_number (number_of (map number_entry m.entries)) name w
updated_at key name m n w is u = subst (λ (b : List ℕ). number_of (map number_entry n.entries) ≡ with_number (number_of (map number_entry m.entries)) b w) is (updated (string_bytes key) m n w u)

-- The modules from a number on, and one before them.
pub one_more : (modules : List Module) (k n : ℕ) (name : List ℕ) (d : Module) (old new : List ℕ → Option ℕ) → k ≡ n + 1 → n < length modules → name ≡ (get_or modules n d).name → ((other : List ℕ) → old other ≡ module_from k (drop k modules) other) → new ≡ with_number old name n
    → (other : List ℕ) → new other ≡ module_from n (drop n modules) other
one_more modules k n name d old new next less first before changed other =
    let rest : old other ≡ module_from (n + 1) (drop (n + 1) modules) other = before other ∙ ap (λ (i : ℕ). module_from i (drop i modules) other) next in
    ap (λ (f : List ℕ → Option ℕ). f other) changed
    ∙ ap (λ (x : List ℕ). if bytes_eq x other then Some n else old other) first
    ∙ ap (λ (o : Option ℕ). if bytes_eq (get_or modules n d).name other then Some n else o) rest
    ∙ ap (λ (l : List Module). module_from n l other) (sym (drop_more modules n d less))

-- Where names have their numbers, an instance has the module that it names.
pub placed_by : (modules : List Module) (numbers : List (List ℕ × ℕ)) (name : Identifier) (told full : Bool) (within around : List ℕ) (found : Result ℕ ItemError) → AreNumbered modules numbers → found ≡ placed_in told name (number_of numbers name.name) within → told ≡ full → within ≡ around → found ≡ placed_in full name (module_at modules name.name) around
placed_by modules numbers name told full within around found numbered is room same = is ∙ ap (λ (o : Option ℕ). placed_in told name o within) (numbered name.name) ∙ ap (λ (b : Bool). placed_in b name (module_at modules name.name) within) room ∙ ap (placed_in full name (module_at modules name.name)) same
