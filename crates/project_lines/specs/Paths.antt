-- Names of files. A line of `[files]` has a path, and its last part stands for it in `[script]`.
use Rattle.std.specs.Prelude.{ℕ, ◌==◌, Bool, ◌&&◌, List, [], ◌∷◌, ◌++◌, Option, None, Some, bytes_eq, find, fold, is_some, length, nat_lt, option_map, unwrap_or, if◌then◌else◌}
use Rattle.std.specs.List.{after_last}
use Rattle.std.specs.Map.{update}
use Rattle.std.specs.BTreeMap.{get_by}
use Rattle.std.specs.Cmp.Lexicographic.{slice_cmp}
use Rattle.std.specs.Ordering.{nat_cmp}
use Rattle.project_lines.specs.declared.error.ProjectError.{ProjectError}
use Rattle.project_lines.specs.declared.error.ProjectError.TheVariants.{BadLine, Repeated, OutOfRange}
use Rattle.project_lines.specs.declared.paths.Paths.{Paths}
use Rattle.project_lines.specs.Lines.{key_of, behind_key, from_word, is_filled, is_said}
use Rattle.project_lines.specs.Words.{is_among}

-- what stands behind the last `/` (47)
unfoldable pub last_part : List ℕ → List ℕ
last_part path = after_last (λ byte. byte == 47) path

-- the line's path has this last part
abbrev pub is_path_of : List ℕ → List ℕ → Bool
is_path_of name line = is_said line && bytes_eq (last_part (key_of line)) name

-- for each name a path, where it stands for one
abbrev pub Known : Type 0
Known = List ℕ → Option (List ℕ)

-- the first path with this last part, among these lines of `[files]`
unfoldable pub find_path : List (List ℕ) → Known
find_path files name = option_map key_of (find (is_path_of name) files)

-- what is read for a name: that path, or the name itself
unfoldable pub path_of : Known → List ℕ → List ℕ
path_of known name = unwrap_or (known name) name

abbrev pub path_fault : Known → ℕ → List ℕ → Option ProjectError
path_fault known number line =
    if is_filled (from_word (behind_key line)) then Some (BadLine number) else
    (if is_some (known (last_part (key_of line))) then Some (Repeated number) else None)

-- what is wrong with a line of `[files]`, where these paths are known
unfoldable pub files_at : Known → ℕ → List ℕ → Option ProjectError
files_at known number line = if is_said line then path_fault known number line else None

-- what is wrong with a line of `[files]` behind these
unfoldable pub files_fault : List (List ℕ) → ℕ → List ℕ → Option ProjectError
files_fault earlier number line = files_at (find_path earlier) number line

-- The map of the reader.

-- what a map of paths knows
unfoldable pub paths_in : Paths → Known
paths_in m name = option_map (λ path. path.now) (get_by (λ k. slice_cmp nat_cmp name k.now) m.by_last_part)

-- The files that are read.

-- the names with one more, which stands there once
unfoldable pub with_name : List (List ℕ) → List ℕ → List (List ℕ)
with_name names name = if is_among name names then names else names ++ name ∷ []

-- the names and those after them, each once
unfoldable pub with_names : List (List ℕ) → List (List ℕ) → List (List ℕ)
with_names names more = fold with_name names more

-- they are more than the 64 files that a project may read
abbrev pub are_too_many : List (List ℕ) → Bool
are_too_many names = nat_lt 64 (length names)

-- a line reads these files besides
unfoldable pub count_fault : List (List ℕ) → ℕ → List (List ℕ) → Option ProjectError
count_fault names number [] = None
count_fault names number (file ∷ more) = if are_too_many (with_names names (file ∷ more)) then Some (OutOfRange number) else None

-- what `reads` gives for each
unfoldable pub gather : {X : Type 0} → (X → List (List ℕ)) → List X → List (List ℕ)
gather reads [] = []
gather reads (one ∷ more) = reads one ++ gather reads more

-- For proofs alone.

unfoldable pub no_paths : Known
no_paths name = None

-- the same with this path for a name
unfoldable pub with_path : Known → List ℕ → Option (List ℕ) → Known
with_path known name path = update bytes_eq known name path

abbrev pub with_first : Known → List ℕ → Known
with_first known path = if is_some (known (last_part path)) then known else with_path known (last_part path) (Some path)

-- the same behind a line of `[files]`
unfoldable pub with_line : Known → List ℕ → Known
with_line known line = if is_said line then with_first known (key_of line) else known
