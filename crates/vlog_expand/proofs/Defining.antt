-- What a map of texts defines after a change.
use Rattle.vlog_expand.proofs.Common.{◌≡◌, ℕ, Bool, true, false, cond, List, Option, option_map, refl, ap, ◌∙◌, Bor, Token, Definitions, definitions_of, no_macros, with_text}
use Rattle.std.specs.Str.{bytes_eq}
use Rattle.std.specs.Cmp.Lexicographic.{slice_cmp}
use Rattle.std.specs.Ordering.{nat_cmp}
use Rattle.std.specs.BTreeMap.{BTreeMap, IsEmpty, get_by, is_at, UpdatesBy}
use Rattle.std.specs.Map.{lookup}
use Rattle.std.proofs.lemmas.Map.Text.{btree_map_updates_str}
use Rattle.vlog_expand.specs.declared.macros.Macros.{Macros}

map-cond : (b : Bool) (w x : Option (Bor (List Token))) → option_map (λ text. text.now) (cond b w x) ≡ cond b (option_map (λ text. text.now) w) (option_map (λ text. text.now) x)
map-cond true w x = refl
map-cond false w x = refl

-- definitions that agree at each name are the same
same_definitions : (f g : Definitions) → ((name : List ℕ) → f name ≡ g name) → f ≡ g
same_definitions f g h = λ i name. h name i

abbrev Texts : Type 0
Texts = BTreeMap (Bor (List ℕ)) (Bor (List Token))

pub definitions-updated : (m n : Texts) (name : List ℕ) (w : Option (Bor (List Token))) → UpdatesBy (λ x y. slice_cmp nat_cmp x.now y.now) (λ k. slice_cmp nat_cmp name k.now) m n w → definitions_of (record { texts = n }) ≡ with_text (definitions_of (record { texts = m })) name (option_map (λ text. text.now) w)
unfolding definitions_of with_text
definitions-updated m n name w h =
    same_definitions _ _ (λ q.
    ap (option_map (λ text. text.now)) (btree_map_updates_str name m n w h q)
    ∙ map-cond (bytes_eq name q) w (get_by (λ k. slice_cmp nat_cmp q k.now) m))

pub definitions-empty : (m : Texts) → IsEmpty m → definitions_of (record { texts = m }) ≡ no_macros
unfolding definitions_of no_macros
definitions-empty m h = same_definitions _ _ (λ q. ap (λ es. option_map (λ text. text.now) (lookup (is_at (λ k. slice_cmp nat_cmp q k.now)) es)) h)

pub definitions-read : (m : Macros) (name : List ℕ) → definitions_of m name ≡ option_map (λ text. text.now) (get_by (λ k. slice_cmp nat_cmp name k.now) m.texts)
unfolding definitions_of
definitions-read m name = refl
