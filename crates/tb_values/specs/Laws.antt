-- Laws of evaluations.
use Rattle.std.specs.Prelude.{◌≡◌, ℕ, false, []}
use Rattle.rand_pcg.specs.Lcg.{Lcg}
use Rattle.vlog_syntax.specs.declared.expr.Expr.{Expr}
use Rattle.vlog_meaning.specs.Scopes.{Names}
use Rattle.vlog_meaning.specs.Senses.{sense, IsWhole}
use Rattle.tb_values.specs.Draws.{drawn, changes}

-- An expression without `$random` and `$time` says in each evaluation what it says in a design, and draws nothing.
abbrev pub OthersStay : Type 0
OthersStay = (names : Names) (phase : ℕ) (x : Expr) (g : Lcg) → changes x ≡ false → drawn names phase x g ≡ (sense names x, g)

-- An expression that has a shape has that shape in each evaluation.
abbrev pub ShapesStay : Type 0
ShapesStay = (names : Names) (phase : ℕ) (x : Expr) (g : Lcg) → IsWhole names x → ((drawn names phase x g).0.faults ≡ []) × ((drawn names phase x g).0.shape ≡ (sense names x).shape)
