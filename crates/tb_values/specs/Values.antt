-- Values of expressions of a testbench.
use Rattle.std.specs.Prelude.{ℕ, Bool, not, ◌==◌}
use Rattle.rand_pcg.specs.Lcg.{Lcg}
use Rattle.vlog_syntax.specs.declared.expr.Expr.{Expr}
use Rattle.vlog_meaning.specs.declared.shapes.Shape.{Shape}
use Rattle.vlog_meaning.specs.Integers.{integer, natural}
use Rattle.vlog_meaning.specs.Scopes.{Names, Store}
use Rattle.vlog_meaning.specs.Senses.{sense}
use Rattle.tb_values.specs.Draws.{drawn}

-- the value of one evaluation at a width and sign, and the generator after it
abbrev pub evaluated : Names → ℕ → Expr → Store → Shape → Lcg → ℕ × Lcg
evaluated names phase x store c g = ((drawn names phase x g).0.value store c, (drawn names phase x g).1)

-- the same where the expression stands for itself
abbrev pub own_evaluated : Names → ℕ → Expr → Store → Lcg → ℕ × Lcg
own_evaluated names phase x store g = evaluated names phase x store (sense names x).shape g

-- a condition holds where its value is not 0 (IEEE 1364-2005, 9.4)
abbrev pub condition : Names → ℕ → Expr → Store → Lcg → Bool × Lcg
condition names phase x store g = let v = own_evaluated names phase x store g in (not (v.0 == 0), v.1)

-- how often a statement is repeated (9.6): not at all where the count is negative
abbrev pub turns : Names → ℕ → Expr → Store → Lcg → ℕ × Lcg
turns names phase x store g = let v = own_evaluated names phase x store g in (natural (integer (sense names x).shape v.0), v.1)
