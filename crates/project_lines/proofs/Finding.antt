-- The paths that lines of `[files]` make known, and the map that holds them.
use Rattle.project_lines.proofs.Common.{◌≡◌, ℕ, Bool, true, false, cond, ◌&&◌, List, [], ◌∷◌, ◌++◌, Option, Some, None, option_map, is_some, find, bytes_eq, refl, sym, ap, ◌∙◌, subst, Bor, Decides}
use Rattle.project_lines.proofs.Common.{true≢false, if◌then◌else◌, find-append, is_said, key_of, Known, find_path, is_path_of, last_part, no_paths, paths_in, with_first, with_line, with_path}
use Rattle.std.proofs.lemmas.Slice.Eq.{bytes_eq-Decides}
use Rattle.std.specs.Option.{option_or}
use Rattle.std.specs.Cmp.Lexicographic.{slice_cmp}
use Rattle.std.specs.Ordering.{nat_cmp}
use Rattle.std.specs.Map.{lookup}
use Rattle.std.specs.BTreeMap.{BTreeMap, IsEmpty, get_by, is_at, UpdatesBy}
use Rattle.std.proofs.lemmas.Map.Text.{btree_map_updates_str}
use Rattle.project_lines.specs.declared.paths.Paths.{Paths}

same_known : (f g : Known) → ((name : List ℕ) → f name ≡ g name) → f ≡ g
same_known f g h = λ i name. h name i

-- The map.

map-cond : (b : Bool) (w x : Option (Bor (List ℕ))) → option_map (λ path. path.now) (cond b w x) ≡ cond b (option_map (λ path. path.now) w) (option_map (λ path. path.now) x)
map-cond true w x = refl
map-cond false w x = refl

abbrev Texts : Type 0
Texts = BTreeMap (Bor (List ℕ)) (Bor (List ℕ))

pub paths_updated : (m n : Texts) (name : List ℕ) (w : Option (Bor (List ℕ))) → UpdatesBy (λ x y. slice_cmp nat_cmp x.now y.now) (λ k. slice_cmp nat_cmp name k.now) m n w → paths_in (record { by_last_part = n }) ≡ with_path (paths_in (record { by_last_part = m })) name (option_map (λ path. path.now) w)
unfolding paths_in with_path
paths_updated m n name w h =
    same_known _ _ (λ q.
    ap (option_map (λ path. path.now)) (btree_map_updates_str name m n w h q)
    ∙ map-cond (bytes_eq name q) w (get_by (λ k. slice_cmp nat_cmp q k.now) m))

pub paths_empty : (m : Texts) → IsEmpty m → paths_in (record { by_last_part = m }) ≡ no_paths
unfolding paths_in no_paths
paths_empty m h = same_known _ _ (λ q. ap (λ es. option_map (λ path. path.now) (lookup (is_at (λ k. slice_cmp nat_cmp q k.now)) es)) h)

pub paths_read : (m : Paths) (name : List ℕ) → paths_in m name ≡ option_map (λ path. path.now) (get_by (λ k. slice_cmp nat_cmp name k.now) m.by_last_part)
unfolding paths_in
paths_read m name = refl

-- The lines.

pub no_lines : no_paths ≡ find_path []
unfolding no_paths find_path
no_lines = same_known _ _ (λ q. refl)

pub or_none : {X : Type 0} (o : Option X) → option_or o None ≡ o
or_none None = refl
or_none (Some x) = refl

map_or : {X Y : Type 0} (f : X → Y) (o p : Option X) → option_map f (option_or o p) ≡ option_or (option_map f o) (option_map f p)
map_or f None p = refl
map_or f (Some x) p = refl

-- what one line more finds
one_found : (said : Bool) (same : Bool) (line : List ℕ) → option_map key_of (cond (said && same) (Some line) None) ≡ cond said (cond same (Some (key_of line)) None) None
one_found true true line = refl
one_found true false line = refl
one_found false same line = refl

find_more : (lines : List (List ℕ)) (line name : List ℕ) → find_path (lines ++ line ∷ []) name ≡ option_or (find_path lines name) (cond (is_said line) (cond (bytes_eq (last_part (key_of line)) name) (Some (key_of line)) None) None)
unfolding find_path
find_more lines line name =
    ap (option_map key_of) (find-append (is_path_of name) lines (line ∷ []))
    ∙ (map_or key_of (find (is_path_of name) lines) (find (is_path_of name) (line ∷ []))
    ∙ ap (option_or (option_map key_of (find (is_path_of name) lines))) (one_found (is_said line) (bytes_eq (last_part (key_of line)) name) line))

kept : (path : List ℕ) (o : Option (List ℕ)) → is_some o ≡ true → o ≡ option_or o (Some path)
kept path None h = absurd (true≢false (sym h))
kept path (Some x) h = refl

fresh : (path : List ℕ) (o : Option (List ℕ)) → is_some o ≡ false → Some path ≡ option_or o (Some path)
fresh path None h = refl
fresh path (Some x) h = absurd (true≢false h)

-- where the last part is known, the first path stays
known_stays : (known : Known) (part path name : List ℕ) (b : Bool) → Decides b (part ≡ name) → is_some (known part) ≡ true → known name ≡ option_or (known name) (cond b (Some path) None)
known_stays known part path name true d h = kept path (known name) (subst (λ q. is_some (known q) ≡ true) (d.0 refl) h)
known_stays known part path name false d h = sym (or_none (known name))

-- else the path is put there
path_comes : (known : Known) (part path name : List ℕ) (b : Bool) → Decides b (part ≡ name) → is_some (known part) ≡ false → cond b (Some path) (known name) ≡ option_or (known name) (cond b (Some path) None)
path_comes known part path name true d h = fresh path (known name) (subst (λ q. is_some (known q) ≡ false) (d.0 refl) h)
path_comes known part path name false d h = sym (or_none (known name))

first_at : (known : Known) (path name : List ℕ) (v : Bool) → is_some (known (last_part path)) ≡ v → (if v then known else with_path known (last_part path) (Some path)) name ≡ option_or (known name) (cond (bytes_eq (last_part path) name) (Some path) None)
unfolding with_path
first_at known path name true h = known_stays known (last_part path) path name (bytes_eq (last_part path) name) (bytes_eq-Decides (last_part path) name) h
first_at known path name false h = path_comes known (last_part path) path name (bytes_eq (last_part path) name) (bytes_eq-Decides (last_part path) name) h

line_at : (known : Known) (line name : List ℕ) (s : Bool) → (if s then with_first known (key_of line) else known) name ≡ option_or (known name) (cond s (cond (bytes_eq (last_part (key_of line)) name) (Some (key_of line)) None) None)
line_at known line name true = first_at known (key_of line) name (is_some (known (last_part (key_of line)))) refl
line_at known line name false = sym (or_none (known name))

-- one line more
pub path_more : (lines : List (List ℕ)) (line : List ℕ) → with_line (find_path lines) line ≡ find_path (lines ++ line ∷ [])
unfolding with_line
path_more lines line = same_known _ _ (λ name. line_at (find_path lines) line name (is_said line) ∙ sym (find_more lines line name))
