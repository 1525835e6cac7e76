-- What is drawn can be evaluated where the expression can, and has its value.
use Rattle.tb_values.proofs.Common.{◌≡◌, ℕ, false, sym, ap, ◌∙◌, subst, Lcg, Expr, Names, Store, Sense, sense, IsWhole, IsContext, drawn, changes}
use Rattle.vlog_meaning.specs.declared.shapes.Shape.{Shape}
use Rattle.tb_values.specs.Values.{evaluated}
use Rattle.tb_values.proofs.Staying.{stays}
use Rattle.tb_values.proofs.Keeping.{shapes_stay}

pub made_whole : (names : Names) (phase : ℕ) (x made : Expr) (g h : Lcg) → (sense names made, h) ≡ drawn names phase x g → IsWhole names x → IsWhole names made
made_whole names phase x made g h is whole = ap (λ (p : Sense × Lcg). p.0.faults) is ∙ (shapes_stay names phase x g whole).0

pub made_context : (names : Names) (phase : ℕ) (x made : Expr) (g h : Lcg) (c : Shape) → (sense names made, h) ≡ drawn names phase x g → IsWhole names x → IsContext (sense names x).shape c → IsContext (sense names made).shape c
made_context names phase x made g h c is whole at = subst (λ (s : Shape). IsContext s c) (sym (ap (λ (p : Sense × Lcg). p.0.shape) is ∙ (shapes_stay names phase x g whole).1)) at

pub made_value : (names : Names) (phase : ℕ) (x made : Expr) (g h : Lcg) (c : Shape) (store : Store) (v : ℕ) → (sense names made, h) ≡ drawn names phase x g → v ≡ (sense names made).value store c → (v, h) ≡ evaluated names phase x store c g
made_value names phase x made g h c store v is value = ap (λ (n : ℕ). (n, h)) value ∙ ap (λ (p : Sense × Lcg). (p.0.value store c, p.1)) is

pub same_value : (names : Names) (phase : ℕ) (x : Expr) (g : Lcg) (c : Shape) (store : Store) (v : ℕ) → changes x ≡ false → v ≡ (sense names x).value store c → (v, g) ≡ evaluated names phase x store c g
same_value names phase x g c store v quiet value = ap (λ (n : ℕ). (n, g)) value ∙ ap (λ (p : Sense × Lcg). (p.0.value store c, p.1)) (sym (stays names phase x g quiet))
