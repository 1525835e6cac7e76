-- What is heard of a statement, by what is heard of its expression.
use Rattle.tag_script.proofs.Common.{◌≡◌, ℕ, Bool, true, false, List, Option, Ok, Err, map, sym, ap, ◌∙◌, if◌then◌else◌, bit_or, slice_set, Expr, Stop, Arm, Statement, fold-roll-Statement, Choice}
use Rattle.tag_script.proofs.Common.{Doing, Standing, arm_step, choice, chosen, doing, ended, failed, in_turn, statement_step, tag_bit, value_of, heard, Datum, is_true}
use Rattle.tag_script.specs.declared.evaluation.Stop.TheVariants as stop
use Rattle.tag_script.specs.declared.script.Statement.TheVariants as v
use Rattle.tag_script.specs.declared.script.Statement.TheOpen as o
use Rattle.tag_script.proofs.Following.{ended_is, followed_err, followed_ok}

module _ (expect : List ℕ) (results : List (Option ℕ)) (standing : Standing) (s : Statement) where
  at_standing : (f : Doing) → doing s ≡ f → heard expect results (doing s standing) ≡ heard expect results (f standing)
  at_standing f e = ap (λ (g : Doing). heard expect results (g standing)) e

  assign_is : (place : ℕ) (x : Expr) → s ≡ v.Assign place x → doing s ≡ statement_step (o.Assign place x)
  assign_is place x e = ap doing (e ∙ sym (v.rolls-Assign place x)) ∙ fold-roll-Statement Doing Choice statement_step arm_step (o.Assign place x)

  pub assign_stops : (place : ℕ) (x : Expr) (why : Stop) → s ≡ v.Assign place x → heard expect results (value_of x standing.names) ≡ Err why → heard expect results (doing s standing) ≡ Err why
  assign_stops place x why e h = at_standing _ (assign_is place x e) ∙ followed_err expect results (value_of x standing.names) (λ value. ended (record { names = slice_set standing.names place value; tags = standing.tags })) why h

  pub assign_heard : (place : ℕ) (x : Expr) (value : Datum) → s ≡ v.Assign place x → heard expect results (value_of x standing.names) ≡ Ok value → heard expect results (doing s standing) ≡ Ok (record { names = slice_set standing.names place value; tags = standing.tags })
  assign_heard place x value e h =
      at_standing _ (assign_is place x e)
      ∙ (followed_ok expect results (value_of x standing.names) (λ value. ended (record { names = slice_set standing.names place value; tags = standing.tags })) value h
      ∙ ended_is {A = Standing} expect results (record { names = slice_set standing.names place value; tags = standing.tags }))

  pub tag_heard : (tag : ℕ) → s ≡ v.Tag tag → heard expect results (doing s standing) ≡ Ok (record { names = standing.names; tags = bit_or standing.tags (tag_bit tag) })
  tag_heard tag e =
      at_standing _ (ap doing (e ∙ sym (v.rolls-Tag tag)) ∙ fold-roll-Statement Doing Choice statement_step arm_step (o.Tag tag))
      ∙ ended_is {A = Standing} expect results (record { names = standing.names; tags = bit_or standing.tags (tag_bit tag) })

  assert_is : (line : ℕ) (x : Expr) → s ≡ v.Assert line x → doing s ≡ statement_step (o.Assert line x)
  assert_is line x e = ap doing (e ∙ sym (v.rolls-Assert line x)) ∙ fold-roll-Statement Doing Choice statement_step arm_step (o.Assert line x)

  pub assert_stops : (line : ℕ) (x : Expr) (why : Stop) → s ≡ v.Assert line x → heard expect results (value_of x standing.names) ≡ Err why → heard expect results (doing s standing) ≡ Err why
  assert_stops line x why e h = at_standing _ (assert_is line x e) ∙ followed_err expect results (value_of x standing.names) (λ value. if is_true value then ended standing else failed line) why h

  assert_heard : (line : ℕ) (x : Expr) (value : Datum) (b : Bool) → s ≡ v.Assert line x → heard expect results (value_of x standing.names) ≡ Ok value → is_true value ≡ b → heard expect results (doing s standing) ≡ heard expect results (if b then ended standing else failed line)
  assert_heard line x value b e h t =
      at_standing _ (assert_is line x e)
      ∙ (followed_ok expect results (value_of x standing.names) (λ value. if is_true value then ended standing else failed line) value h
      ∙ ap (λ (c : Bool). heard expect results (if c then ended standing else failed line)) t)

  pub assert_holds : (line : ℕ) (x : Expr) (value : Datum) → s ≡ v.Assert line x → heard expect results (value_of x standing.names) ≡ Ok value → is_true value ≡ true → heard expect results (doing s standing) ≡ Ok standing
  assert_holds line x value e h t = assert_heard line x value true e h t ∙ ended_is expect results standing

  pub assert_fails : (line : ℕ) (x : Expr) (value : Datum) → s ≡ v.Assert line x → heard expect results (value_of x standing.names) ≡ Ok value → is_true value ≡ false → heard expect results (doing s standing) ≡ Err (stop.AssertFailed line)
  unfolding heard
  assert_fails line x value e h t = assert_heard line x value false e h t

  pub if_is : (arms : List Arm) (other : List Statement) → s ≡ v.If arms other → heard expect results (doing s standing) ≡ heard expect results (chosen (map choice arms) (in_turn (map doing other)) standing)
  if_is arms other e = at_standing _ (ap doing (e ∙ sym (v.rolls-If arms other)) ∙ fold-roll-Statement Doing Choice statement_step arm_step (o.If arms other))
