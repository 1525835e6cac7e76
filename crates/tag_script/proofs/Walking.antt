-- What the loops of the evaluation hear, one element more at a time.
use Rattle.tag_script.proofs.Common.{◌≡◌, ℕ, ◌+◌, ◌<◌, Bool, List, ◌∷◌, Option, Ok, Err, map, drop, get_or, length, sym, ap, ◌∙◌, if◌then◌else◌, at_drop_more, Expr, Stop, Arm, Statement, fold_out-Arm}
use Rattle.tag_script.proofs.Common.{Choice, Doing, Standing, arm_step, choice, chosen, decided, decides, doing, ended, in_turn, statement_step, value_of, heard, Datum, is_true}
use Rattle.tag_script.proofs.Following.{followed_err, followed_ok}

module _ (expect : List ℕ) (results : List (Option ℕ)) where
  -- Operands.

  operand_here : (b : Bool) (last : Datum) (xs : List Expr) (names : List Datum) (i : ℕ) (x : Expr) → i < length xs → x ≡ get_or xs i x → heard expect results (decided b last (map value_of (drop i xs)) names) ≡ heard expect results (decided b last (value_of x ∷ map value_of (drop (i + 1) xs)) names)
  operand_here b last xs names i x l e =
      at_drop_more (λ (ys : List Expr). heard expect results (decided b last (map value_of ys) names)) xs i x l
      ∙ ap (λ (y : Expr). heard expect results (decided b last (value_of y ∷ map value_of (drop (i + 1) xs)) names)) (sym e)

  pub operand_stops : (b : Bool) (last : Datum) (xs : List Expr) (names : List Datum) (i : ℕ) (x : Expr) (why : Stop) → i < length xs → x ≡ get_or xs i x → heard expect results (value_of x names) ≡ Err why → heard expect results (decided b last (map value_of (drop i xs)) names) ≡ Err why
  operand_stops b last xs names i x why l e h =
      operand_here b last xs names i x l e
      ∙ followed_err expect results (value_of x names) (λ value. if decides b value then ended value else decided b value (map value_of (drop (i + 1) xs)) names) why h

  pub operand_heard : (b : Bool) (last : Datum) (xs : List Expr) (names : List Datum) (i : ℕ) (x : Expr) (value : Datum) (c : Bool) → i < length xs → x ≡ get_or xs i x → heard expect results (value_of x names) ≡ Ok value → decides b value ≡ c → heard expect results (decided b last (map value_of (drop i xs)) names) ≡ heard expect results (if c then ended value else decided b value (map value_of (drop (i + 1) xs)) names)
  operand_heard b last xs names i x value c l e h t =
      operand_here b last xs names i x l e
      ∙ (followed_ok expect results (value_of x names) (λ value. if decides b value then ended value else decided b value (map value_of (drop (i + 1) xs)) names) value h
      ∙ ap (λ (d : Bool). heard expect results (if d then ended value else decided b value (map value_of (drop (i + 1) xs)) names)) t)

  -- Statements.

  turn_here : (xs : List Statement) (standing : Standing) (i : ℕ) (x : Statement) → i < length xs → x ≡ get_or xs i x → heard expect results (in_turn (map doing (drop i xs)) standing) ≡ heard expect results (in_turn (doing x ∷ map doing (drop (i + 1) xs)) standing)
  turn_here xs standing i x l e =
      at_drop_more (λ (ys : List Statement). heard expect results (in_turn (map doing ys) standing)) xs i x l
      ∙ ap (λ (y : Statement). heard expect results (in_turn (doing y ∷ map doing (drop (i + 1) xs)) standing)) (sym e)

  pub turn_stops : (xs : List Statement) (standing : Standing) (i : ℕ) (x : Statement) (why : Stop) → i < length xs → x ≡ get_or xs i x → heard expect results (doing x standing) ≡ Err why → heard expect results (in_turn (map doing (drop i xs)) standing) ≡ Err why
  turn_stops xs standing i x why l e h =
      turn_here xs standing i x l e ∙ followed_err expect results (doing x standing) (in_turn (map doing (drop (i + 1) xs))) why h

  pub turn_heard : (xs : List Statement) (standing : Standing) (i : ℕ) (x : Statement) (next : Standing) → i < length xs → x ≡ get_or xs i x → heard expect results (doing x standing) ≡ Ok next → heard expect results (in_turn (map doing (drop i xs)) standing) ≡ heard expect results (in_turn (map doing (drop (i + 1) xs)) next)
  turn_heard xs standing i x next l e h =
      turn_here xs standing i x l e ∙ followed_ok expect results (doing x standing) (in_turn (map doing (drop (i + 1) xs))) next h

  -- Arms.

  abbrev opened : Arm → Choice
  opened arm = record { condition = value_of arm.condition; body = in_turn (map doing arm.body) }

  choice_is : (arm : Arm) → choice arm ≡ opened arm
  choice_is arm = fold_out-Arm Doing Choice statement_step arm_step arm

  arm_here : (arms : List Arm) (other : Doing) (standing : Standing) (i : ℕ) (x : Arm) → i < length arms → x ≡ get_or arms i x → heard expect results (chosen (map choice (drop i arms)) other standing) ≡ heard expect results (chosen (opened x ∷ map choice (drop (i + 1) arms)) other standing)
  arm_here arms other standing i x l e =
      at_drop_more (λ (ys : List Arm). heard expect results (chosen (map choice ys) other standing)) arms i x l
      ∙ (ap (λ (y : Arm). heard expect results (chosen (choice y ∷ map choice (drop (i + 1) arms)) other standing)) (sym e)
      ∙ ap (λ (c : Choice). heard expect results (chosen (c ∷ map choice (drop (i + 1) arms)) other standing)) (choice_is x))

  pub arm_stops : (arms : List Arm) (other : Doing) (standing : Standing) (i : ℕ) (x : Arm) (why : Stop) → i < length arms → x ≡ get_or arms i x → heard expect results (value_of x.condition standing.names) ≡ Err why → heard expect results (chosen (map choice (drop i arms)) other standing) ≡ Err why
  arm_stops arms other standing i x why l e h =
      arm_here arms other standing i x l e
      ∙ followed_err expect results (value_of x.condition standing.names) (λ value. if is_true value then in_turn (map doing x.body) standing else chosen (map choice (drop (i + 1) arms)) other standing) why h

  pub arm_heard : (arms : List Arm) (other : Doing) (standing : Standing) (i : ℕ) (x : Arm) (value : Datum) (b : Bool) → i < length arms → x ≡ get_or arms i x → heard expect results (value_of x.condition standing.names) ≡ Ok value → is_true value ≡ b → heard expect results (chosen (map choice (drop i arms)) other standing) ≡ heard expect results (if b then in_turn (map doing x.body) standing else chosen (map choice (drop (i + 1) arms)) other standing)
  arm_heard arms other standing i x value b l e h t =
      arm_here arms other standing i x l e
      ∙ (followed_ok expect results (value_of x.condition standing.names) (λ value. if is_true value then in_turn (map doing x.body) standing else chosen (map choice (drop (i + 1) arms)) other standing) value h
      ∙ ap (λ (c : Bool). heard expect results (if c then in_turn (map doing x.body) standing else chosen (map choice (drop (i + 1) arms)) other standing)) t)
