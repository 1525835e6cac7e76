-- The first division by 0 at an operator and in its operands.
use Rattle.vlog_meaning.proofs.Common.{◌≡◌, ℕ, [], ◌∷◌, ◌++◌, refl, sym, ap, ◌∙◌, subst, Option, if◌then◌else◌, Span, UnaryOperator, BinaryOperator, Expr, DivideByZero, Fault, Sizing, Shape, IsSized}
use Rattle.vlog_meaning.proofs.Common.{sizing, left_context, right_context, unary_shape, operand_context, divides_by_zero, Names, nothing, Sense, sense, binary_zeros, IsContext, earlier, least_at}
use Rattle.vlog_syntax.specs.declared.expr.Expr.TheVariants as v
use Rattle.vlog_meaning.proofs.Contexts.{operand_within}
use Rattle.vlog_meaning.proofs.Firsts.{pair_of}
use Rattle.vlog_meaning.proofs.Steps as step

-- the context of the operand of `op i`
pub operand_at : (names : Names) (e : Expr) (s : Span) (op : UnaryOperator) (i : Expr) (c si l : Shape) → e ≡ v.Unary s op i → IsContext (sense names e).shape c → si ≡ (sense names i).shape → IsSized si → l ≡ operand_context op si c → IsContext (sense names i).shape l
operand_at names e s op i c si l is at is_i sized is_l =
    let whole : IsContext (unary_shape op si) c = rw is_i (subst (λ (y : Sense). IsContext y.shape c) (ap (sense names) is ∙ step.sense_unary names s op i) at) in
    rw (is_l, ← is_i) (operand_within op si c sized whole)

pub operand_zeros : (names : Names) (e : Expr) (s : Span) (op : UnaryOperator) (i : Expr) (c si l : Shape) (o : Option Fault) → e ≡ v.Unary s op i → si ≡ (sense names i).shape → l ≡ operand_context op si c → o ≡ least_at DivideByZero ((sense names i).zeros l) → o ≡ least_at DivideByZero ((sense names e).zeros c)
operand_zeros names e s op i c si l o is is_i is_l found =
    let at : l ≡ operand_context op (sense names i).shape c = is_l ∙ ap (λ (t : Shape). operand_context op t c) is_i in
    found ∙ ap (λ (t : Shape). least_at DivideByZero ((sense names i).zeros t)) at ∙ sym (ap (λ (x : Sense). least_at DivideByZero (x.zeros c)) (ap (sense names) is ∙ step.sense_unary names s op i))

-- the operator and the operands of `i op j`
pair_zeros : (s : Span) (op : BinaryOperator) (a b : Sense) (c l r : Shape) (o : Option Fault) → l ≡ left_context (sizing op) a.shape b.shape c → r ≡ right_context (sizing op) a.shape b.shape c → o ≡ least_at DivideByZero ((if divides_by_zero op (a.value nothing l) r (b.value nothing r) then s ∷ [] else []) ++ (a.zeros l ++ b.zeros r)) → o ≡ least_at DivideByZero (binary_zeros s op a b c)
pair_zeros s op a b c l r o is_l is_r found = rw (← is_l, ← is_r) found

module _ (names : Names) (e : Expr) (s : Span) (op : BinaryOperator) (i j : Expr) (c si sj : Shape) (k : Sizing) (is : e ≡ v.Binary s op i j) (is_k : k ≡ sizing op) (is_i : si ≡ (sense names i).shape) (is_j : sj ≡ (sense names j).shape) (l r : Shape) (is_l : l ≡ left_context k si sj c) (is_r : r ≡ right_context k si sj c) where
  left_is : l ≡ left_context (sizing op) (sense names i).shape (sense names j).shape c
  left_is = is_l ∙ rw (is_k, is_i, is_j) refl

  right_is : r ≡ right_context (sizing op) (sense names i).shape (sense names j).shape c
  right_is = is_r ∙ rw (is_k, is_i, is_j) refl

  pub operator_zeros : (a b : ℕ) (d x y both o : Option Fault) → a ≡ (sense names i).value nothing l → b ≡ (sense names j).value nothing r → d ≡ least_at DivideByZero (if divides_by_zero op a r b then s ∷ [] else []) → x ≡ least_at DivideByZero ((sense names i).zeros l) → y ≡ least_at DivideByZero ((sense names j).zeros r) → both ≡ earlier x y → o ≡ earlier d both → o ≡ least_at DivideByZero ((sense names e).zeros c)
  operator_zeros a b d x y both o is_a is_b is_d is_x is_y is_both is_o =
      let here : d ≡ least_at DivideByZero (if divides_by_zero op ((sense names i).value nothing l) r ((sense names j).value nothing r) then s ∷ [] else []) = rw (is_a, is_b) at is_d in
      let parts = pair_of DivideByZero ((sense names i).zeros l) ((sense names j).zeros r) x y both is_both is_x is_y in
      let all = pair_of DivideByZero (if divides_by_zero op ((sense names i).value nothing l) r ((sense names j).value nothing r) then s ∷ [] else []) ((sense names i).zeros l ++ (sense names j).zeros r) d both o is_o here parts in
      pair_zeros s op (sense names i) (sense names j) c l r o left_is right_is all ∙ sym (ap (λ (x : Sense). least_at DivideByZero (x.zeros c)) (ap (sense names) is ∙ step.sense_binary names s op i j))
