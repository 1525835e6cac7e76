-- The testbench of a test among the modules of all sources: the one of its name in one of its files. The others are left out.
use Rattle.std.specs.Prelude.{◌≡◌, ℕ, Bool, ◌&&◌, ◌==◌, List, [], ◌∷◌}
use Rattle.std.specs.List.{filter, list_any}
use Rattle.std.specs.Str.{bytes_eq}
use Rattle.mcy_base.specs.declared.span.Span.{Span}
use Rattle.vlog_syntax.specs.declared.module.Module.{Module}
use Rattle.project_benches.specs.declared.choice.Found.{Found}
use Rattle.project_benches.specs.declared.choice.Found.TheVariants.{Nothing, One, Twice}

-- a place in one of the files with these numbers
abbrev pub stands_in : (numbers : List ℕ) → Span → Bool
stands_in numbers at = list_any (λ n. n == at.file) numbers

abbrev pub is_bench : (numbers : List ℕ) → (name : List ℕ) → Module → Bool
is_bench numbers name m = stands_in numbers m.span && bytes_eq name m.name

abbrev pub benches_in : (numbers : List ℕ) → (name : List ℕ) → List Module → List Module
benches_in numbers name modules = filter (is_bench numbers name) modules

-- none, just one, or a second one, whose name has this place
abbrev pub IsFound : List Module → Found → Type 0
IsFound [] Nothing = Unit {0}
IsFound (m ∷ []) (One x) = x.now ≡ m
IsFound (m ∷ n ∷ more) (Twice at) = at ≡ n.span
IsFound modules found = ⊥
