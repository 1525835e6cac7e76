-- Flattening gives one design: the definition of `flat_items` leaves no choice.
use Rattle.std.specs.Prelude.{◌≡◌, ℕ, List, None}
use Rattle.vlog_syntax.specs.declared.module.Module.{Module}
use Rattle.flat_items.specs.Flattened.{Flat, module_at}
use Rattle.flat_items.specs.Replacing.{FlattensTop}

-- Two designs that modules are flattened to with the same top are the same.
abbrev pub FlattensOnce : Type 0
FlattensOnce = (modules : List Module) (top : List ℕ) (flat other : Flat) → FlattensTop modules top flat → FlattensTop modules top other → flat ≡ other

-- The module that is the top is the same too.
abbrev pub HasOneTop : Type 0
HasOneTop = (modules : List Module) (top : List ℕ) (flat other : Flat) (x : FlattensTop modules top flat) (y : FlattensTop modules top other) → x.design.m ≡ y.design.m

-- Where no module has the name of the top, there is no design.
abbrev pub NoTopFlattens : Type 0
NoTopFlattens = (modules : List Module) (top : List ℕ) (flat : Flat) → module_at modules top ≡ None → FlattensTop modules top flat → ⊥
