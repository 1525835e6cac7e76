-- What is heard of an expression, by what is heard of its parts.
use Rattle.tag_script.proofs.Common.{◌≡◌, ℕ, not, List, Option, Ok, Err, sym, ap, ◌∙◌, Expr, fold-roll-Expr, Stop, Valuing, ended, expr_step, followed, name_value, test_number, value_of, heard}
use Rattle.tag_script.proofs.Common.{word_read, Datum, compared, is_true, number, text, truth, word_text}
use Rattle.tag_lines.specs.declared.expr.Comparison.{Comparison}
use Rattle.tag_lines.specs.declared.expr.Expr.TheVariants as v
use Rattle.tag_lines.specs.declared.expr.Expr.TheOpen as o
use Rattle.tag_script.proofs.Following.{ended_is, followed_err, followed_ok, reads_err, reads_ok}

module _ (expect : List ℕ) (results : List (Option ℕ)) (names : List Datum) (x : Expr) where
  at_names : (f : Valuing) → value_of x ≡ f → heard expect results (value_of x names) ≡ heard expect results (f names)
  at_names f e = ap (λ (g : Valuing). heard expect results (g names)) e

  pub number_heard : (n : ℕ) → x ≡ v.Number n → heard expect results (value_of x names) ≡ Ok (number n)
  number_heard n e = at_names _ (ap value_of (e ∙ sym (v.rolls-Number n)) ∙ fold-roll-Expr Valuing expr_step (o.Number n)) ∙ ended_is expect results (number n)

  pub text_heard : (t : List ℕ) → x ≡ v.Text t → heard expect results (value_of x names) ≡ Ok (text t)
  text_heard t e = at_names _ (ap value_of (e ∙ sym (v.rolls-Text t)) ∙ fold-roll-Expr Valuing expr_step (o.Text t)) ∙ ended_is expect results (text t)

  pub name_heard : (place : ℕ) → x ≡ v.Name place → heard expect results (value_of x names) ≡ Ok (name_value names place)
  name_heard place e = at_names _ (ap value_of (e ∙ sym (v.rolls-Name place)) ∙ fold-roll-Expr Valuing expr_step (o.Name place)) ∙ ended_is expect results (name_value names place)

  word_is : (test : ℕ) → x ≡ v.Word test → value_of x ≡ expr_step (o.Word test)
  word_is test e = ap value_of (e ∙ sym (v.rolls-Word test)) ∙ fold-roll-Expr Valuing expr_step (o.Word test)

  pub word_stops : (test : ℕ) (why : Stop) → x ≡ v.Word test → word_read expect results (test_number test) ≡ Err why → heard expect results (value_of x names) ≡ Err why
  word_stops test why e h = at_names _ (word_is test e) ∙ reads_err expect results (test_number test) why (λ w. ended (text (word_text w))) h

  pub word_heard : (test word : ℕ) → x ≡ v.Word test → word_read expect results (test_number test) ≡ Ok word → heard expect results (value_of x names) ≡ Ok (text (word_text word))
  word_heard test word e h = at_names _ (word_is test e) ∙ (reads_ok expect results (test_number test) word (λ w. ended (text (word_text w))) h ∙ ended_is expect results (text (word_text word)))

  not_is : (y : Expr) → x ≡ v.Not y → value_of x ≡ expr_step (o.Not (value_of y))
  not_is y e = ap value_of (e ∙ sym (v.rolls-Not y)) ∙ fold-roll-Expr Valuing expr_step (o.Not y)

  pub not_stops : (y : Expr) (why : Stop) → x ≡ v.Not y → heard expect results (value_of y names) ≡ Err why → heard expect results (value_of x names) ≡ Err why
  not_stops y why e h = at_names _ (not_is y e) ∙ followed_err expect results (value_of y names) (λ value. ended (truth (not (is_true value)))) why h

  pub not_heard : (y : Expr) (value : Datum) → x ≡ v.Not y → heard expect results (value_of y names) ≡ Ok value → heard expect results (value_of x names) ≡ Ok (truth (not (is_true value)))
  not_heard y value e h = at_names _ (not_is y e) ∙ (followed_ok expect results (value_of y names) (λ value. ended (truth (not (is_true value)))) value h ∙ ended_is expect results (truth (not (is_true value))))

  compare_is : (left : Expr) (operator : Comparison) (right : Expr) → x ≡ v.Compare left operator right → value_of x ≡ expr_step (o.Compare (value_of left) operator (value_of right))
  compare_is left operator right e = ap value_of (e ∙ sym (v.rolls-Compare left operator right)) ∙ fold-roll-Expr Valuing expr_step (o.Compare left operator right)

  compare_right : (left : Expr) (operator : Comparison) (right : Expr) (a : Datum) → x ≡ v.Compare left operator right → heard expect results (value_of left names) ≡ Ok a → heard expect results (value_of x names) ≡ heard expect results (followed (value_of right names) (λ b. ended (compared operator a b)))
  compare_right left operator right a e h = at_names _ (compare_is left operator right e) ∙ followed_ok expect results (value_of left names) (λ a. followed (value_of right names) (λ b. ended (compared operator a b))) a h

  pub left_stops : (left : Expr) (operator : Comparison) (right : Expr) (why : Stop) → x ≡ v.Compare left operator right → heard expect results (value_of left names) ≡ Err why → heard expect results (value_of x names) ≡ Err why
  left_stops left operator right why e h = at_names _ (compare_is left operator right e) ∙ followed_err expect results (value_of left names) (λ a. followed (value_of right names) (λ b. ended (compared operator a b))) why h

  pub right_stops : (left : Expr) (operator : Comparison) (right : Expr) (a : Datum) (why : Stop) → x ≡ v.Compare left operator right → heard expect results (value_of left names) ≡ Ok a → heard expect results (value_of right names) ≡ Err why → heard expect results (value_of x names) ≡ Err why
  right_stops left operator right a why e h k = compare_right left operator right a e h ∙ followed_err expect results (value_of right names) (λ b. ended (compared operator a b)) why k

  pub compare_heard : (left : Expr) (operator : Comparison) (right : Expr) (a b : Datum) → x ≡ v.Compare left operator right → heard expect results (value_of left names) ≡ Ok a → heard expect results (value_of right names) ≡ Ok b → heard expect results (value_of x names) ≡ Ok (compared operator a b)
  compare_heard left operator right a b e h k = compare_right left operator right a e h ∙ (followed_ok expect results (value_of right names) (λ b. ended (compared operator a b)) b k ∙ ended_is expect results (compared operator a b))
