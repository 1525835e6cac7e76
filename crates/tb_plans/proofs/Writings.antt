-- Plans of assignments, from those of their sides.
use Rattle.tb_plans.proofs.Common.{◌≡◌, ℕ, List, ap, sym, ◌∙◌, Lcg, Shape, Names, Store, parts_of, Update, formula_value, Transfer, context_is, parts_written, IsTargetOf, IsTransferOf, IsValueOf}
use Rattle.vlog_syntax.specs.declared.stmt.Assignment.{Assignment}
use Rattle.tb_values.specs.Values.{evaluated}

-- the updates with what the right side comes to
abbrev with_right : Names → ℕ → Store → Assignment → ℕ × Lcg → List Update × Lcg
with_right names phase store a r = parts_written names phase store (parts_of a.left) r.0 r.1

pub transfer_is : (names : Names) (a : Assignment) (t : Transfer) (context : Shape) → context ≡ context_is names a → IsValueOf names a.value context t.value → IsTargetOf names (parts_of a.left) context.width t.target → IsTransferOf names a t
transfer_is names a t context is value target = record {
  means = λ phase store g.
      ap (λ (c : Shape). with_right names phase store a (evaluated names phase a.value store c g)) (sym is)
      ∙ ap (with_right names phase store a) (value.means phase store g)
      ∙ target.means phase store (formula_value t.value store) g;
  fits = λ widths has. record { bits = context.width; value = value.fits widths has; target = target.fits widths has };
}
