-- What the parts of an expression have where the whole has a shape, a context and nothing that is not supported; and
-- what the whole makes, from what its parts make.
use Rattle.elab_expr.proofs.Common.{◌≡◌, ℕ, ◌+◌, ◌*◌, ◌<◌, ◌≤◌, ◌^◌, ◌&&◌, ◌==◌, ◌-ℤ◌, ℤ, pos, Bool, true, false, not, List, [], ◌∷◌, ◌++◌, refl, sym, ◌∙◌, ap, subst, arith, true≢false, Option, None}
use Rattle.elab_expr.proofs.Common.{Some, if◌then◌else◌, Span, Bit, Nets, Expr, Expr-F, Number, Identifier, UnaryOperator, BinaryOperator, DivideOrPower, Fault, Shape, function_of, natural, window}
use Rattle.elab_expr.proofs.Common.{extended, IsSized, sizing, pair_shape, unary_shape, unary_value, operand_context, Names, decl_shape, decl_low, decl_value, Sense, sense, senses, step, own}
use Rattle.elab_expr.proofs.Common.{index_of, fault, is_empty, constant_integer, part_width, total_width, joined, repeated, taken, all_signals, call_faults, call_shape, call_signals, call_value}
use Rattle.elab_expr.proofs.Common.{index_features, binary_features, is_division, binary_step, IsWhole, IsContext, left_nil, right_nil, joint_left, joint_right, Building, RunsIn, store, Builds}
use Rattle.elab_expr.proofs.Common.{Evaluates, TakesBits, takes_sign, Plan, Made, plan, plans, plan_step, unsupported_step, made, base_features, all_unsupported, all_cells, call_unsupported}
use Rattle.elab_expr.proofs.Common.{pick_cells, unary_cells, binary_cells, choice_cells, base_indexed, base_unsigned, plan_sense}
use Rattle.vlog_syntax.specs.declared.expr.Expr.TheOpen as e
use Rattle.vlog_syntax.specs.declared.expr.Expr.TheVariants as v
use Rattle.vlog_meaning.specs.declared.function.Function.{Function}
use Rattle.vlog_meaning.specs.declared.function.Function.TheVariants.{Signed, Unsigned, Clog2, Random, Time}
use Rattle.vlog_meaning.proofs.Steps as steps
use Rattle.vlog_meaning.proofs.Whole as whole
use Rattle.elab_expr.proofs.Growing.{made_as, evaluates_as}
use Rattle.expr_plans.proofs.Plans as planned
use Rattle.elab_expr.proofs.Arms.{unextended}
use Rattle.vlog_meaning.proofs.Same.{no_signals}

-- Each production.

module _ (names : Names) (x : Expr) (c : Shape) where
  -- what is not supported in the whole
  none_in : (p : Expr-F Plan) → plan names x ≡ plan_step names p → (plan names x).unsupported ≡ [] → unsupported_step names p ≡ []
  none_in p is none = ap (λ (q : Plan). q.unsupported) (sym is) ∙ none

  faults_in : (a : Sense) → sense names x ≡ a → IsWhole names x → a.faults ≡ []
  faults_in a is is_whole = ap (λ (q : Sense). q.faults) (sym is) ∙ is_whole

  context_in : (a : Sense) → sense names x ≡ a → IsContext (sense names x).shape c → IsContext a.shape c
  context_in a is at = subst (λ (q : Sense). IsContext q.shape c) is at

  wide_in : (a : Sense) → sense names x ≡ a → IsContext (sense names x).shape c → a.shape.width ≤ c.width
  wide_in a is at = (context_in a is at).wide

  -- the parts of an index
  indexed : (features : Sense → List Fault) (i : Expr) → features (plan names i).sense ++ (plan names i).unsupported ≡ [] → (features (sense names i) ≡ []) × ((plan names i).unsupported ≡ [])
  indexed features i none = (subst (λ (q : Sense). features q ≡ []) (plan_sense names i) (left_nil _ _ none), right_nil _ _ none)

  -- a number is constant
  pub number_varies : (n : Number) → x ≡ v.Number n → is_empty (sense names x).signals ≡ true
  number_varies n is = ap (λ (a : Sense). is_empty a.signals) (ap (sense names) is ∙ steps.sense_number names n)

  module _ (n : Identifier) (is : x ≡ v.Name n) where
    is_name : sense names x ≡ step names (e.Name n)
    is_name = ap (sense names) is ∙ steps.sense_name names n

    pub name_wide : IsContext (sense names x).shape c → (decl_shape (names n.name)).width ≤ c.width
    name_wide at = wide_in _ is_name at

    pub name_made : is_empty (sense names x).signals ≡ false → made names x c ≡ []
    name_made varies = made_as names x (e.Name n) c (ap (plan names) is ∙ planned.plan_name names n) varies

    pub name_built : (o m : Building) (bits : List Bit) → is_empty (sense names x).signals ≡ false → Builds o m bits c.width (λ signals. taken (decl_shape (names n.name)) c (decl_value signals (names n.name))) [] → Evaluates names x c o m bits
    name_built o m bits varies b = evaluates_as names x c o m bits (step names (e.Name n)) [] is_name (name_made varies) b

  module _ (n : Identifier) (s : Span) (i : Expr) (is : x ≡ v.BitSelect n s i) where
    is_bit : sense names x ≡ step names (e.BitSelect n s (sense names i))
    is_bit = ap (sense names) is ∙ steps.sense_bit_select names n s i

    bit_plan : plan names x ≡ plan_step names (e.BitSelect n s (plan names i))
    bit_plan = ap (plan names) is ∙ planned.plan_bit_select names n s i

    pub bit_name : IsWhole names x → IsSized (decl_shape (names n.name))
    bit_name h = whole.name_sized n.span (names n.name) (left_nil _ _ (faults_in _ is_bit h))

    pub bit_parts : (plan names x).unsupported ≡ [] → (index_features s (names n.name) (sense names i) ≡ []) × ((plan names i).unsupported ≡ [])
    bit_parts none = indexed (index_features s (names n.name)) i (none_in (e.BitSelect n s (plan names i)) bit_plan none)

    pub bit_wide : IsContext (sense names x).shape c → 1 ≤ c.width
    bit_wide at = wide_in _ is_bit at

    pub bit_made : is_empty (sense names x).signals ≡ false → made names x c ≡ pick_cells names n.name s (plan names i) 1
    bit_made varies = made_as names x (e.BitSelect n s (plan names i)) c bit_plan varies

    pub bit_built : (o m : Building) (bits : List Bit) → is_empty (sense names x).signals ≡ false → Builds o m bits c.width (λ signals. window (index_of signals (sense names i) -ℤ pos (decl_low (names n.name))) 1 (decl_value signals (names n.name))) (pick_cells names n.name s (plan names i) 1) → Evaluates names x c o m bits
    bit_built o m bits varies b = evaluates_as names x c o m bits _ _ is_bit (bit_made varies) b

  module _ (n : Identifier) (s : Span) (a l : Expr) (is : x ≡ v.PartSelect n s a l) where
    is_part : sense names x ≡ step names (e.PartSelect n s (sense names a) (sense names l))
    is_part = ap (sense names) is ∙ steps.sense_part_select names n s a l

    pub part_name : IsWhole names x → IsSized (decl_shape (names n.name))
    part_name h = whole.name_sized n.span (names n.name) (left_nil _ _ (faults_in _ is_part h))

    pub part_made : is_empty (sense names x).signals ≡ false → made names x c ≡ []
    part_made varies = made_as names x (e.PartSelect n s (plan names a) (plan names l)) c (ap (plan names) is ∙ planned.plan_part_select names n s a l) varies

    pub part_built : (o m : Building) (bits : List Bit) (z : ℤ) (size : ℕ) → is_empty (sense names x).signals ≡ false → z ≡ constant_integer (sense names l) → size ≡ (sense names x).shape.width → Builds o m bits c.width (λ signals. window (z -ℤ pos (decl_low (names n.name))) size (decl_value signals (names n.name))) [] → Evaluates names x c o m bits
    part_built o m bits z size varies is_z is_size b =
        let w : size ≡ part_width (constant_integer (sense names a)) (constant_integer (sense names l)) = is_size ∙ ap (λ (q : Sense). q.shape.width) is_part in
        evaluates_as names x c o m bits _ _ is_part (part_made varies)
        (subst (λ (k : ℤ). Builds o m bits c.width (λ signals. window (k -ℤ pos (decl_low (names n.name))) (part_width (constant_integer (sense names a)) (constant_integer (sense names l))) (decl_value signals (names n.name))) []) is_z
        (subst (λ (k : ℕ). Builds o m bits c.width (λ signals. window (z -ℤ pos (decl_low (names n.name))) k (decl_value signals (names n.name))) []) w b))

  module _ (n : Identifier) (s : Span) (b w : Expr) (is : x ≡ v.IndexedPartSelect n s b w) where
    is_indexed : sense names x ≡ step names (e.IndexedPartSelect n s (sense names b) (sense names w))
    is_indexed = ap (sense names) is ∙ steps.sense_indexed_part_select names n s b w

    indexed_plan : plan names x ≡ plan_step names (e.IndexedPartSelect n s (plan names b) (plan names w))
    indexed_plan = ap (plan names) is ∙ planned.plan_indexed_part_select names n s b w

    pub indexed_name : IsWhole names x → IsSized (decl_shape (names n.name))
    indexed_name h = whole.name_sized n.span (names n.name) (left_nil _ _ (faults_in _ is_indexed h))

    indexed_base : (plan names x).unsupported ≡ [] → (base_features s (names n.name) (sense names b) ≡ []) × ((plan names b).unsupported ≡ [])
    indexed_base none = indexed (base_features s (names n.name)) b (none_in (e.IndexedPartSelect n s (plan names b) (plan names w)) indexed_plan none)

    pub indexed_parts : (plan names x).unsupported ≡ [] → (index_features s (names n.name) (sense names b) ≡ []) × ((plan names b).unsupported ≡ [])
    indexed_parts none = (base_indexed s (names n.name) (sense names b) (indexed_base none).0, (indexed_base none).1)

    pub indexed_one : (size : ℕ) → (plan names x).unsupported ≡ [] → IsWhole names b → (sense names b).shape.is_signed ≡ true → is_empty (sense names b).signals ≡ false → size ≡ 1
    indexed_one size none is_whole signed varies = absurd (true≢false (sym signed ∙ base_unsigned s (names n.name) (sense names b) (indexed_base none).0 varies is_whole))

    pub indexed_wide : IsContext (sense names x).shape c → natural (constant_integer (sense names w)) ≤ c.width
    indexed_wide at = wide_in _ is_indexed at

    pub indexed_made : (size : ℕ) → size ≡ natural (constant_integer (sense names w)) → is_empty (sense names x).signals ≡ false → made names x c ≡ pick_cells names n.name s (plan names b) size
    indexed_made size is_size varies = made_as names x (e.IndexedPartSelect n s (plan names b) (plan names w)) c indexed_plan varies ∙ ap (λ (k : ℕ). pick_cells names n.name s (plan names b) k) (ap (λ (q : Sense). natural (constant_integer q)) (plan_sense names w) ∙ sym is_size)

    pub indexed_built : (o m : Building) (bits : List Bit) (size : ℕ) → size ≡ natural (constant_integer (sense names w)) → is_empty (sense names x).signals ≡ false → Builds o m bits c.width (λ signals. window (index_of signals (sense names b) -ℤ pos (decl_low (names n.name))) size (decl_value signals (names n.name))) (pick_cells names n.name s (plan names b) size) → Evaluates names x c o m bits
    indexed_built o m bits size is_size varies h =
        evaluates_as names x c o m bits _ (pick_cells names n.name s (plan names b) size) is_indexed (indexed_made size is_size varies)
        (subst (λ (k : ℕ). Builds o m bits c.width (λ signals. window (index_of signals (sense names b) -ℤ pos (decl_low (names n.name))) k (decl_value signals (names n.name))) (pick_cells names n.name s (plan names b) size)) is_size h)

  module _ (s : Span) (i : Expr) (is : x ≡ v.Parenthesized s i) where
    is_inner : sense names x ≡ step names (e.Parenthesized s (sense names i))
    is_inner = ap (sense names) is ∙ steps.sense_parenthesized names s i

    inner_plan : plan names x ≡ plan_step names (e.Parenthesized s (plan names i))
    inner_plan = ap (plan names) is ∙ planned.plan_parenthesized names s i

    pub inner_supported : (plan names x).unsupported ≡ [] → (plan names i).unsupported ≡ []
    inner_supported none = none_in (e.Parenthesized s (plan names i)) inner_plan none

    pub inner_context : IsContext (sense names x).shape c → IsContext (sense names i).shape c
    inner_context at = context_in _ is_inner at

    pub inner_made : is_empty (sense names x).signals ≡ false → made names x c ≡ made names i c
    inner_made varies = made_as names x (e.Parenthesized s (plan names i)) c inner_plan varies

    pub inner_built : (o m : Building) (bits : List Bit) → is_empty (sense names x).signals ≡ false → Evaluates names i c o m bits → Evaluates names x c o m bits
    inner_built o m bits varies b = evaluates_as names x c o m bits _ _ is_inner (inner_made varies) b

  module _ (s : Span) (op : UnaryOperator) (i : Expr) (is : x ≡ v.Unary s op i) where
    is_unary : sense names x ≡ step names (e.Unary s op (sense names i))
    is_unary = ap (sense names) is ∙ steps.sense_unary names s op i

    unary_plan : plan names x ≡ plan_step names (e.Unary s op (plan names i))
    unary_plan = ap (plan names) is ∙ planned.plan_unary names s op i

    pub unary_supported : (plan names x).unsupported ≡ [] → (plan names i).unsupported ≡ []
    unary_supported none = none_in (e.Unary s op (plan names i)) unary_plan none

    pub unary_context : IsContext (sense names x).shape c → IsContext (unary_shape op (sense names i).shape) c
    unary_context at = context_in _ is_unary at

    pub unary_made : is_empty (sense names x).signals ≡ false → made names x c ≡ unary_cells s op (plan names i) c
    unary_made varies = made_as names x (e.Unary s op (plan names i)) c unary_plan varies

    pub unary_whole : (o m : Building) (bits : List Bit) → is_empty (sense names x).signals ≡ false → Builds o m bits c.width (λ signals. unary_value op (operand_context op (sense names i).shape c) ((sense names i).value signals (operand_context op (sense names i).shape c))) (unary_cells s op (plan names i) c) → Evaluates names x c o m bits
    unary_whole o m bits varies b = evaluates_as names x c o m bits _ _ is_unary (unary_made varies) b

  module _ (s : Span) (op : BinaryOperator) (i j : Expr) (is : x ≡ v.Binary s op i j) where
    is_pair : sense names x ≡ step names (e.Binary s op (sense names i) (sense names j))
    is_pair = ap (sense names) is ∙ steps.sense_binary names s op i j

    pair_plan : plan names x ≡ plan_step names (e.Binary s op (plan names i) (plan names j))
    pair_plan = ap (plan names) is ∙ planned.plan_binary names s op i j

    pub pair_left : (plan names x).unsupported ≡ [] → (plan names i).unsupported ≡ []
    pair_left none = left_nil (plan names i).unsupported (plan names j).unsupported (right_nil (binary_features s op (plan names i).sense (plan names j).sense) ((plan names i).unsupported ++ (plan names j).unsupported) (none_in (e.Binary s op (plan names i) (plan names j)) pair_plan none))

    pub pair_right : (plan names x).unsupported ≡ [] → (plan names j).unsupported ≡ []
    pair_right none = right_nil (plan names i).unsupported (plan names j).unsupported (right_nil (binary_features s op (plan names i).sense (plan names j).sense) ((plan names i).unsupported ++ (plan names j).unsupported) (none_in (e.Binary s op (plan names i) (plan names j)) pair_plan none))

    no_division : (b : Bool) (quiet : Bool) → quiet ≡ false → (if b && not quiet then fault DivideOrPower s ∷ [] else []) ≡ [] → b ≡ false
    no_division false quiet e h = refl
    no_division true true e h = cc
    no_division true false e h = cc

    pub pair_supported : is_empty (sense names x).signals ≡ false → (plan names x).unsupported ≡ [] → is_division op ≡ false
    pair_supported varies none =
        let f : binary_features s op (plan names i).sense (plan names j).sense ≡ [] = left_nil (binary_features s op (plan names i).sense (plan names j).sense) ((plan names i).unsupported ++ (plan names j).unsupported) (none_in (e.Binary s op (plan names i) (plan names j)) pair_plan none) in
        let quiet : is_empty ((plan names i).sense.signals ++ (plan names j).sense.signals) ≡ false =
        ap (λ (a : Sense). is_empty (a.signals ++ (plan names j).sense.signals)) (plan_sense names i) ∙ ap (λ (a : Sense). is_empty ((sense names i).signals ++ a.signals)) (plan_sense names j) ∙ ap (λ (a : Sense). is_empty a.signals) (sym is_pair) ∙ varies in
        no_division (is_division op) _ quiet f

    pub pair_context : IsContext (sense names x).shape c → IsContext (pair_shape (sizing op) (sense names i).shape (sense names j).shape) c
    pair_context at = context_in _ is_pair at

    pub pair_made : is_empty (sense names x).signals ≡ false → made names x c ≡ binary_cells s op (plan names i) (plan names j) c
    pair_made varies = made_as names x (e.Binary s op (plan names i) (plan names j)) c pair_plan varies

    pub pair_built : (o m : Building) (bits : List Bit) → is_empty (sense names x).signals ≡ false → Builds o m bits c.width (λ signals. binary_step op (sense names i) (sense names j) signals c) (binary_cells s op (plan names i) (plan names j) c) → Evaluates names x c o m bits
    pair_built o m bits varies b = evaluates_as names x c o m bits _ _ is_pair (pair_made varies) b

  module _ (s : Span) (t i j : Expr) (is : x ≡ v.Conditional s t i j) where
    is_choice : sense names x ≡ step names (e.Conditional s (sense names t) (sense names i) (sense names j))
    is_choice = ap (sense names) is ∙ steps.sense_conditional names s t i j

    choice_plan : plan names x ≡ plan_step names (e.Conditional s (plan names t) (plan names i) (plan names j))
    choice_plan = ap (plan names) is ∙ planned.plan_conditional names s t i j

    pub choice_supported : (plan names x).unsupported ≡ [] → ((plan names t).unsupported ≡ []) × ((plan names i).unsupported ≡ []) × ((plan names j).unsupported ≡ [])
    choice_supported none =
        let f = none_in (e.Conditional s (plan names t) (plan names i) (plan names j)) choice_plan none in
        let g = right_nil (plan names t).unsupported ((plan names i).unsupported ++ (plan names j).unsupported) f in
        (left_nil (plan names t).unsupported ((plan names i).unsupported ++ (plan names j).unsupported) f, left_nil (plan names i).unsupported (plan names j).unsupported g, right_nil (plan names i).unsupported (plan names j).unsupported g)

    pub choice_yes : IsContext (sense names x).shape c → IsContext (sense names i).shape c
    choice_yes at = joint_left (sense names i).shape (sense names j).shape c (context_in _ is_choice at)

    pub choice_no : IsContext (sense names x).shape c → IsContext (sense names j).shape c
    choice_no at = joint_right (sense names i).shape (sense names j).shape c (context_in _ is_choice at)

    pub choice_made : is_empty (sense names x).signals ≡ false → made names x c ≡ choice_cells s (plan names t) (plan names i) (plan names j) c
    choice_made varies = made_as names x (e.Conditional s (plan names t) (plan names i) (plan names j)) c choice_plan varies

    pub choice_built : (o m : Building) (bits : List Bit) → is_empty (sense names x).signals ≡ false → Builds o m bits c.width (λ signals. if own signals (sense names t) == 0 then (sense names j).value signals c else (sense names i).value signals c) (choice_cells s (plan names t) (plan names i) (plan names j) c) → Evaluates names x c o m bits
    choice_built o m bits varies b = evaluates_as names x c o m bits _ _ is_choice (choice_made varies) b

  module _ (s : Span) (ps : List Expr) (is : x ≡ v.Concatenation s ps) where
    is_join : sense names x ≡ step names (e.Concatenation s (senses names ps))
    is_join = ap (sense names) is ∙ steps.sense_concatenation names s ps

    join_plan : plan names x ≡ plan_step names (e.Concatenation s (plans names ps))
    join_plan = ap (plan names) is ∙ planned.plan_concatenation names s ps

    pub join_supported : (plan names x).unsupported ≡ [] → all_unsupported (plans names ps) ≡ []
    join_supported none = none_in (e.Concatenation s (plans names ps)) join_plan none

    pub join_own : (sense names x).shape ≡ record { width = total_width (senses names ps); is_signed = false }
    join_own = ap (λ (a : Sense). a.shape) is_join

    pub join_made : is_empty (sense names x).signals ≡ false → made names x c ≡ all_cells (plans names ps)
    join_made varies = made_as names x (e.Concatenation s (plans names ps)) c join_plan varies

    pub join_built : (o m : Building) (bits : List Bit) (own : Shape) → own ≡ (sense names x).shape → is_empty (sense names x).signals ≡ false → IsContext (sense names x).shape c → Builds o m bits c.width (λ signals. extended own c.width (joined signals (senses names ps))) (all_cells (plans names ps)) → ((nets : Nets) → RunsIn m nets → joined (store o nets) (senses names ps) < 2 ^ own.width) → Evaluates names x c o m bits
    join_built o m bits own is_own varies at b fits =
        let shape : own ≡ record { width = total_width (senses names ps); is_signed = false } = is_own ∙ join_own in
        evaluates_as names x c o m bits _ _ is_join (join_made varies)
        (unextended o m bits own c.width (λ signals. joined signals (senses names ps)) (all_cells (plans names ps)) (ap (λ (q : Shape). q.is_signed) shape) (subst (λ (q : Shape). q.width ≤ c.width) (sym is_own) at.wide) b fits)

  module _ (s : Span) (k : Expr) (ps : List Expr) (is : x ≡ v.MultipleConcatenation s k ps) where
    is_times : sense names x ≡ step names (e.MultipleConcatenation s (sense names k) (senses names ps))
    is_times = ap (sense names) is ∙ steps.sense_multiple_concatenation names s k ps

    times_plan : plan names x ≡ plan_step names (e.MultipleConcatenation s (plan names k) (plans names ps))
    times_plan = ap (plan names) is ∙ planned.plan_multiple_concatenation names s k ps

    pub times_supported : (plan names x).unsupported ≡ [] → all_unsupported (plans names ps) ≡ []
    times_supported none = none_in (e.MultipleConcatenation s (plan names k) (plans names ps)) times_plan none

    pub times_wide : IsContext (sense names x).shape c → natural (constant_integer (sense names k)) * total_width (senses names ps) ≤ c.width
    times_wide at = wide_in _ is_times at

    pub times_made : is_empty (sense names x).signals ≡ false → made names x c ≡ all_cells (plans names ps)
    times_made varies = made_as names x (e.MultipleConcatenation s (plan names k) (plans names ps)) c times_plan varies

    pub times_built : (o m : Building) (bits : List Bit) (n : ℕ) → n ≡ natural (constant_integer (sense names k)) → is_empty (sense names x).signals ≡ false → Builds o m bits c.width (λ signals. repeated n (total_width (senses names ps)) (joined signals (senses names ps))) (all_cells (plans names ps)) → Evaluates names x c o m bits
    times_built o m bits n is_n varies b =
        evaluates_as names x c o m bits _ _ is_times (times_made varies)
        (subst (λ (i : ℕ). Builds o m bits c.width (λ signals. repeated i (total_width (senses names ps)) (joined signals (senses names ps))) (all_cells (plans names ps))) is_n b)

-- which calls have no fault, are supported and no constant
takes_one : (f : Option Function) (span : Span) (args : List Sense) (ps : List Plan) → call_faults f span args ≡ [] → call_unsupported f span ps ≡ [] → is_empty (call_signals f span ++ all_signals args) ≡ false → TakesBits f args
takes_one (Some Signed) span [] ps fine none varies = cc
takes_one (Some Signed) span (a ∷ []) ps fine none varies = tt
takes_one (Some Signed) span (a ∷ b ∷ more) ps fine none varies = cc
takes_one (Some Unsigned) span [] ps fine none varies = cc
takes_one (Some Unsigned) span (a ∷ []) ps fine none varies = tt
takes_one (Some Unsigned) span (a ∷ b ∷ more) ps fine none varies = cc
takes_one (Some Clog2) span [] ps fine none varies = cc
takes_one (Some Clog2) span (a ∷ []) ps fine none varies =
    let quiet : is_empty (a.signals ++ []) ≡ true = ap (λ (l : List Fault). is_empty (l ++ [])) (no_signals a fine) in
    let no : true ≡ false = sym quiet ∙ varies in cc
takes_one (Some Clog2) span (a ∷ b ∷ more) ps fine none varies = cc
takes_one (Some Random) span args ps fine none varies = cc
takes_one (Some Time) span args ps fine none varies = cc
takes_one None span args ps fine none varies = cc

arguments_supported : (f : Option Function) (span : Span) (args : List Sense) (ps : List Plan) → TakesBits f args → call_unsupported f span ps ≡ [] → all_unsupported ps ≡ []
arguments_supported (Some Signed) span args ps takes none = none
arguments_supported (Some Unsigned) span args ps takes none = none
arguments_supported (Some Clog2) span args ps takes none = none
arguments_supported (Some Random) span args ps takes none = absurd takes
arguments_supported (Some Time) span args ps takes none = absurd takes
arguments_supported None span args ps takes none = none

plus_0 : (n : ℕ) → n + 0 ≡ n
plus_0 n = omega arith

alone : (n : ℕ) → n * 2 ^ 0 + 0 ≡ n
alone n = grind arith

-- the width of a call is that of its argument
call_width : (f : Option Function) (args : List Sense) → TakesBits f args → (call_shape f args).width ≡ total_width args
call_width (Some Signed) (a ∷ []) takes = sym (plus_0 a.shape.width)
call_width (Some Unsigned) (a ∷ []) takes = sym (plus_0 a.shape.width)
call_width (Some Signed) [] takes = absurd takes
call_width (Some Signed) (a ∷ b ∷ more) takes = absurd takes
call_width (Some Unsigned) [] takes = absurd takes
call_width (Some Unsigned) (a ∷ b ∷ more) takes = absurd takes
call_width (Some Clog2) args takes = absurd takes
call_width (Some Random) args takes = absurd takes
call_width (Some Time) args takes = absurd takes
call_width None args takes = absurd takes

call_bits : (f : Option Function) (args : List Sense) (c own : Shape) (o m : Building) (bits : List Bit) (M : List Made) → TakesBits f args → own ≡ record { width = total_width args; is_signed = takes_sign f && c.is_signed } → own.width ≤ c.width → Builds o m bits c.width (λ signals. extended own c.width (joined signals args)) M → ((nets : Nets) → RunsIn m nets → joined (store o nets) args < 2 ^ own.width) → Builds o m bits c.width (λ signals. call_value f args signals c) M
call_bits (Some Signed) (a ∷ []) c own_at o m bits M takes is le b fits = record {
  grows = b.grows;
  cells = b.cells;
  long = b.long;
  below = b.below;
  value_is = λ nets runs. b.value_is nets runs
      ∙ ap (λ (q : Shape). extended q c.width (joined (store o nets) (a ∷ []))) is
      ∙ ap (λ (w : ℕ). extended (record { width = w; is_signed = c.is_signed }) c.width (joined (store o nets) (a ∷ []))) (plus_0 a.shape.width)
      ∙ ap (extended (record { width = a.shape.width; is_signed = c.is_signed }) c.width) (alone (own (store o nets) a));
}
call_bits (Some Unsigned) (a ∷ []) c own_at o m bits M takes is le b fits =
    let plain : Builds o m bits c.width (λ signals. joined signals (a ∷ [])) M = unextended o m bits own_at c.width (λ signals. joined signals (a ∷ [])) M (ap (λ (q : Shape). q.is_signed) is) le b fits in
    record { grows = plain.grows; cells = plain.cells; long = plain.long; below = plain.below; value_is = λ nets runs. plain.value_is nets runs ∙ alone (own (store o nets) a) }
call_bits (Some Signed) [] c own_at o m bits M takes is le b fits = absurd takes
call_bits (Some Signed) (a ∷ d ∷ more) c own_at o m bits M takes is le b fits = absurd takes
call_bits (Some Unsigned) [] c own_at o m bits M takes is le b fits = absurd takes
call_bits (Some Unsigned) (a ∷ d ∷ more) c own_at o m bits M takes is le b fits = absurd takes
call_bits (Some Clog2) args c own_at o m bits M takes is le b fits = absurd takes
call_bits (Some Random) args c own_at o m bits M takes is le b fits = absurd takes
call_bits (Some Time) args c own_at o m bits M takes is le b fits = absurd takes
call_bits None args c own_at o m bits M takes is le b fits = absurd takes

-- a call
module _ (names : Names) (x : Expr) (c : Shape) (n : Identifier) (ps : List Expr) (is : x ≡ v.SystemFunctionCall n ps) (h : IsWhole names x) (none : (plan names x).unsupported ≡ []) (varies : is_empty (sense names x).signals ≡ false) where
  is_call : sense names x ≡ step names (e.SystemFunctionCall n (senses names ps))
  is_call = ap (sense names) is ∙ steps.sense_system_function_call names n ps

  call_plan : plan names x ≡ plan_step names (e.SystemFunctionCall n (plans names ps))
  call_plan = ap (plan names) is ∙ planned.plan_system_function_call names n ps

  call_none : call_unsupported (function_of n.name) n.span (plans names ps) ≡ []
  call_none = ap (λ (q : Plan). q.unsupported) (sym call_plan) ∙ none

  takes : TakesBits (function_of n.name) (senses names ps)
  takes = takes_one (function_of n.name) n.span (senses names ps) (plans names ps) (ap (λ (a : Sense). a.faults) (sym is_call) ∙ h) call_none (ap (λ (a : Sense). is_empty a.signals) (sym is_call) ∙ varies)

  pub call_supported : all_unsupported (plans names ps) ≡ []
  call_supported = arguments_supported (function_of n.name) n.span (senses names ps) (plans names ps) takes call_none

  pub call_wide : (sense names x).shape.width ≡ total_width (senses names ps)
  call_wide = ap (λ (a : Sense). a.shape.width) is_call ∙ call_width (function_of n.name) (senses names ps) takes

  pub call_made : made names x c ≡ all_cells (plans names ps)
  call_made = made_as names x (e.SystemFunctionCall n (plans names ps)) c call_plan varies

  pub call_built : (o m : Building) (bits : List Bit) (own at : Shape) → own ≡ (sense names x).shape → at ≡ record { width = own.width; is_signed = takes_sign (function_of n.name) && c.is_signed } → IsContext (sense names x).shape c → Builds o m bits c.width (λ signals. extended at c.width (joined signals (senses names ps))) (all_cells (plans names ps)) → ((nets : Nets) → RunsIn m nets → joined (store o nets) (senses names ps) < 2 ^ at.width) → Evaluates names x c o m bits
  call_built o m bits own at is_own is_at context b fits =
      let w : own.width ≡ total_width (senses names ps) = ap (λ (q : Shape). q.width) is_own ∙ call_wide in
      let shape : at ≡ record { width = total_width (senses names ps); is_signed = takes_sign (function_of n.name) && c.is_signed } = is_at ∙ ap (λ (k : ℕ). record { width = k; is_signed = takes_sign (function_of n.name) && c.is_signed }) w in
      let le : at.width ≤ c.width = subst (λ (q : Shape). q.width ≤ c.width) (sym is_at) (subst (λ (q : Shape). q.width ≤ c.width) (sym is_own) context.wide) in
      evaluates_as names x c o m bits _ _ is_call call_made (call_bits (function_of n.name) (senses names ps) c at o m bits _ takes shape le b fits)
