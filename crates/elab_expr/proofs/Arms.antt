-- The cells of each production after those of its operands, in plain variables.
use Rattle.elab_expr.proofs.Common.{◌≡◌, ℕ, zero, suc, ◌+◌, ◌-◌, ◌*◌, ◌<◌, ◌≤◌, ◌^◌, ◌&&◌, ◌||◌, ◌==◌, ◌-ℤ◌, ℤ, pos, Bool, true, false, not, nat_lt, nat_le, List, [], ◌∷◌, ◌++◌, length, take, get_or}
use Rattle.elab_expr.proofs.Common.{map, refl, sym, ◌∙◌, ap, subst, arith, append_assoc, Option, None, Some, if◌then◌else◌, nat_tests, ints, length-append, map-append, pow-add, pow_pos, Span, Bit}
use Rattle.elab_expr.proofs.Common.{Mux, Pick, Ror, number, Nets, values, Expr, UnaryOperator, BinaryOperator, first_token, IndexedBase, Shape, Decl, Signal, Constant, integer, window, extended}
use Rattle.elab_expr.proofs.Common.{IsSized, sizing, left_context, right_context, result_width, operand_context, is_reduction, unary_value, binary_value, digit, Names, Store, decl_shape, decl_low}
use Rattle.elab_expr.proofs.Common.{decl_value, Sense, sense, senses, own, index_of, is_empty, fault, index_features, binary_step, total_width, joined, repeated, extended_positive, ElabError}
use Rattle.elab_expr.proofs.Common.{Building, AllBelow, IsSignal, RunsIn, signal, store, Adds, Builds, Evaluates, unary_kind, binary_kind, Made, made_of, plan, plans, made, own_cells, all_cells}
use Rattle.elab_expr.proofs.Common.{cell_of, index_width, pick_cells, condition_cells, unary_cells, binary_cells, choice_cells, IsShort, ShapeOfBits, grows_not, grows_again, grown_nets, runs_before}
use Rattle.elab_expr.proofs.Common.{store_same, below_append, below_later, index_window, plan_sense, plan_first}
use Rattle.vlog_meaning.proofs.Powers.{power_le}
use Rattle.vlog_meaning.proofs.Results.{total_take}
use Rattle.elab_expr.proofs.Bits.{number-fits}
use Rattle.elab_expr.proofs.Growing.{then_adds, none_made, count, more_short, stretched}
use Rattle.elab_expr.proofs.Selects.{number_append}

-- other cells that are the same
pub same_cells : (o n : Building) (y : List Bit) (w : ℕ) (f : Nets → ℕ) (M N : List Made) → N ≡ M → Adds o n y w f M → Adds o n y w f N
same_cells o n y w f M N is b = subst (Adds o n y w f) (sym is) b

pub same_short : (k : ℕ) (M N : List Made) (e : ElabError) → N ≡ M → IsShort (k + length M) e → IsShort (k + length N) e
same_short k M N e is h = subst (λ (l : List Made). IsShort (k + length l) e) (sym is) h

-- `op i`
module _ (names : Names) (x : Expr) (op : UnaryOperator) (span : Span) (c at : Shape) (is : at ≡ operand_context op (sense names x).shape c) where
  abbrev unary_cell : Shape → List Made
  unary_cell s = cell_of (unary_kind op) false (s.width ∷ (if is_reduction op then 1 else s.width) ∷ []) span

  pub unary_cells_are : unary_cells span op (plan names x) c ≡ made names x at ++ cell_of (unary_kind op) false (at.width ∷ (if is_reduction op then 1 else at.width) ∷ []) span
  unary_cells_are = ap (λ (a : Sense). made names x (operand_context op a.shape c) ++ unary_cell (operand_context op a.shape c)) (plan_sense names x) ∙ ap (λ (s : Shape). made names x s ++ unary_cell s) (sym is)

  pub unary_built : (o m n : Building) (a y : List Bit) → Evaluates names x at o m a → Adds m n y c.width (λ nets. unary_value op at (number (values nets a))) (cell_of (unary_kind op) false (at.width ∷ (if is_reduction op then 1 else at.width) ∷ []) span) → Builds o n y c.width (λ signals. unary_value op (operand_context op (sense names x).shape c) ((sense names x).value signals (operand_context op (sense names x).shape c))) (unary_cells span op (plan names x) c)
  unary_built o m n a y p q =
      same_cells o n y c.width _ _ _ unary_cells_are
      (then_adds o m n a y at.width c.width (λ nets. (sense names x).value (store o nets) at) (λ nets. unary_value op at (number (values nets a))) (λ nets. unary_value op (operand_context op (sense names x).shape c) ((sense names x).value (store o nets) (operand_context op (sense names x).shape c))) (made names x at) (unary_cell at) p q
      (λ nets e same. ap (unary_value op at) e ∙ ap (λ (s : Shape). unary_value op s ((sense names x).value (store o nets) s)) is))

-- `i op j`
module _ (names : Names) (i j : Expr) (op : BinaryOperator) (span : Span) (c l r : Shape) (is_l : l ≡ left_context (sizing op) (sense names i).shape (sense names j).shape c) (is_r : r ≡ right_context (sizing op) (sense names i).shape (sense names j).shape c) where
  abbrev pair_cell : Shape → Shape → List Made
  pair_cell s t = cell_of (binary_kind op s.is_signed) s.is_signed (s.width ∷ t.width ∷ result_width (sizing op) s ∷ []) span

  abbrev pair_all : Shape → Shape → List Made
  pair_all s t = made names i s ++ (made names j t ++ pair_cell s t)

  pub binary_cells_are : binary_cells span op (plan names i) (plan names j) c ≡ made names i l ++ (made names j r ++ cell_of (binary_kind op l.is_signed) l.is_signed (l.width ∷ r.width ∷ result_width (sizing op) l ∷ []) span)
  binary_cells_are =
      ap (λ (a : Sense). pair_all (left_context (sizing op) a.shape (plan names j).sense.shape c) (right_context (sizing op) a.shape (plan names j).sense.shape c)) (plan_sense names i)
      ∙ ap (λ (a : Sense). pair_all (left_context (sizing op) (sense names i).shape a.shape c) (right_context (sizing op) (sense names i).shape a.shape c)) (plan_sense names j)
      ∙ ap (λ (s : Shape). pair_all s (right_context (sizing op) (sense names i).shape (sense names j).shape c)) (sym is_l)
      ∙ ap (λ (s : Shape). pair_all l s) (sym is_r)

  pub binary_built : (o m p n : Building) (a b y : List Bit) → Evaluates names i l o m a → Evaluates names j r m p b → Adds p n y c.width (λ nets. binary_value op l (number (values nets a)) r (number (values nets b))) (cell_of (binary_kind op l.is_signed) l.is_signed (l.width ∷ r.width ∷ result_width (sizing op) l ∷ []) span) → Builds o n y c.width (λ signals. binary_step op (sense names i) (sense names j) signals c) (binary_cells span op (plan names i) (plan names j) c)
  binary_built o m p n a b y of_i of_j cell =
      let second : Adds m n y c.width (λ nets. binary_value op l (number (values nets a)) r ((sense names j).value (store m nets) r)) (made names j r ++ pair_cell l r) =
      then_adds m p n b y r.width c.width (λ nets. (sense names j).value (store m nets) r) (λ nets. binary_value op l (number (values nets a)) r (number (values nets b))) (λ nets. binary_value op l (number (values nets a)) r ((sense names j).value (store m nets) r)) (made names j r) (pair_cell l r) of_j cell (λ nets e same. ap (binary_value op l (number (values nets a)) r) e) in
      same_cells o n y c.width _ _ _ binary_cells_are
      (then_adds o m n a y l.width c.width (λ nets. (sense names i).value (store o nets) l) (λ nets. binary_value op l (number (values nets a)) r ((sense names j).value (store m nets) r)) (λ nets. binary_step op (sense names i) (sense names j) (store o nets) c) (made names i l) (made names j r ++ pair_cell l r) of_i second
      (λ nets e same. ap (λ (k : ℕ). binary_value op l k r ((sense names j).value (store m nets) r)) e ∙ ap (λ (s : Store). binary_value op l ((sense names i).value (store o nets) l) r ((sense names j).value s r)) same
      ∙ ap (λ (s : Shape). binary_value op s ((sense names i).value (store o nets) s) r ((sense names j).value (store o nets) r)) is_l
      ∙ ap (λ (s : Shape). binary_value op (left_context (sizing op) (sense names i).shape (sense names j).shape c) ((sense names i).value (store o nets) (left_context (sizing op) (sense names i).shape (sense names j).shape c)) s ((sense names j).value (store o nets) s)) is_r))

-- a condition
module _ (names : Names) (x : Expr) (at : Shape) (first : Span) (is : at ≡ (sense names x).shape) (is_first : first ≡ first_token x) where
  abbrev reduced : ℕ → Span → List Made
  reduced w s = if nat_lt 1 w then cell_of (Some Ror) false (w ∷ 1 ∷ []) s else []

  pub condition_cells_are : condition_cells (plan names x) ≡ made names x at ++ (if nat_lt 1 at.width then cell_of (Some Ror) false (at.width ∷ 1 ∷ []) first else [])
  condition_cells_are =
      ap (λ (a : Sense). made names x a.shape ++ reduced a.shape.width (plan names x).first) (plan_sense names x)
      ∙ ap (λ (s : Shape). made names x s ++ reduced s.width (plan names x).first) (sym is)
      ∙ ap (λ (s : Span). made names x at ++ reduced at.width s) (plan_first names x ∙ sym is_first)

  pub condition_built : (o m n : Building) (a y : List Bit) → Evaluates names x at o m a → Adds m n y 1 (λ nets. digit (not (number (values nets a) == 0))) (if nat_lt 1 at.width then cell_of (Some Ror) false (at.width ∷ 1 ∷ []) first else []) → Builds o n y 1 (λ signals. digit (not (own signals (sense names x) == 0))) (condition_cells (plan names x))
  condition_built o m n a y p q =
      same_cells o n y 1 _ _ _ condition_cells_are
      (then_adds o m n a y at.width 1 (λ nets. (sense names x).value (store o nets) at) (λ nets. digit (not (number (values nets a) == 0))) (λ nets. digit (not (own (store o nets) (sense names x) == 0))) (made names x at) (reduced at.width first) p q
      (λ nets e same. ap (λ (k : ℕ). digit (not (k == 0))) (e ∙ ap (λ (s : Shape). (sense names x).value (store o nets) s) is)))

-- a choice, after its condition
module _ (names : Names) (i j : Expr) (span : Span) (c : Shape) where
  abbrev mux : List Made
  mux = cell_of (Some Mux) false (1 ∷ c.width ∷ c.width ∷ c.width ∷ []) span

  pub choice_adds : (o m p n : Building) (s a b y : List Bit) → Evaluates names i c o m a → Evaluates names j c m p b → Adds p n y c.width (λ nets. if number (values nets s) == 0 then number (values nets b) else number (values nets a)) (cell_of (Some Mux) false (1 ∷ c.width ∷ c.width ∷ c.width ∷ []) span) → Adds o n y c.width (λ nets. if number (values nets s) == 0 then (sense names j).value (store o nets) c else (sense names i).value (store o nets) c) (made names i c ++ (made names j c ++ cell_of (Some Mux) false (1 ∷ c.width ∷ c.width ∷ c.width ∷ []) span))
  choice_adds o m p n s a b y of_i of_j cell =
      let second : Adds m n y c.width (λ nets. if number (values nets s) == 0 then (sense names j).value (store m nets) c else number (values nets a)) (made names j c ++ mux) =
      then_adds m p n b y c.width c.width (λ nets. (sense names j).value (store m nets) c) (λ nets. if number (values nets s) == 0 then number (values nets b) else number (values nets a)) (λ nets. if number (values nets s) == 0 then (sense names j).value (store m nets) c else number (values nets a)) (made names j c) mux of_j cell (λ nets e same. ap (λ (k : ℕ). if number (values nets s) == 0 then k else number (values nets a)) e) in
      then_adds o m n a y c.width c.width (λ nets. (sense names i).value (store o nets) c) (λ nets. if number (values nets s) == 0 then (sense names j).value (store m nets) c else number (values nets a)) (λ nets. if number (values nets s) == 0 then (sense names j).value (store o nets) c else (sense names i).value (store o nets) c) (made names i c) (made names j c ++ mux) of_i second
      (λ nets e same. ap (λ (k : ℕ). if number (values nets s) == 0 then (sense names j).value (store m nets) c else k) e ∙ ap (λ (t : Store). if number (values nets s) == 0 then (sense names j).value t c else (sense names i).value (store o nets) c) same)

digit_0 : (b : Bool) → (digit (not b) == 0) ≡ b
digit_0 true = refl
digit_0 false = refl

-- the whole choice
pub conditional_built : (names : Names) (x i j : Expr) (span : Span) (c : Shape) (o m n : Building) (s y : List Bit) → Builds o m s 1 (λ signals. digit (not (own signals (sense names x) == 0))) (condition_cells (plan names x)) → Adds m n y c.width (λ nets. if number (values nets s) == 0 then (sense names j).value (store m nets) c else (sense names i).value (store m nets) c) (made names i c ++ (made names j c ++ cell_of (Some Mux) false (1 ∷ c.width ∷ c.width ∷ c.width ∷ []) span)) → Builds o n y c.width (λ signals. if own signals (sense names x) == 0 then (sense names j).value signals c else (sense names i).value signals c) (choice_cells span (plan names x) (plan names i) (plan names j) c)
conditional_built names x i j span c o m n s y p q =
    then_adds o m n s y 1 c.width (λ nets. digit (not (own (store o nets) (sense names x) == 0))) (λ nets. if number (values nets s) == 0 then (sense names j).value (store m nets) c else (sense names i).value (store m nets) c) (λ nets. if own (store o nets) (sense names x) == 0 then (sense names j).value (store o nets) c else (sense names i).value (store o nets) c) (condition_cells (plan names x)) (made names i c ++ (made names j c ++ cell_of (Some Mux) false (1 ∷ c.width ∷ c.width ∷ c.width ∷ []) span)) p q
    (λ nets e same. ap (λ (k : ℕ). if k == 0 then (sense names j).value (store m nets) c else (sense names i).value (store m nets) c) e ∙ ap (λ (b : Bool). if b then (sense names j).value (store m nets) c else (sense names i).value (store m nets) c) (digit_0 (own (store o nets) (sense names x) == 0)) ∙ ap (λ (t : Store). if own (store o nets) (sense names x) == 0 then (sense names j).value t c else (sense names i).value t c) same)

-- Selects.

-- a variable place counts from 0
low_0 : (span : Span) (low : ℕ) (b : Bool) → b ≡ false → (if low == 0 || b then [] else fault IndexedBase span ∷ []) ≡ [] → low ≡ 0
low_0 span zero b e h = refl
low_0 span (suc low) true e h = cc
low_0 span (suc low) false e h =
    let no : (suc low == 0) ≡ false = grind (arith, nat_tests) in
    let full : fault IndexedBase span ∷ [] ≡ [] = ap (λ (t : Bool). if t || false then [] else fault IndexedBase span ∷ []) (sym no) ∙ h in cc

low_is_0 : (span : Span) (d : Option Decl) (i : Sense) → index_features span d i ≡ [] → is_empty i.signals ≡ false → decl_low d ≡ 0
low_is_0 span d i none varies = low_0 span (decl_low d) (is_empty i.signals) varies none

minus_0 : (z : ℤ) (k : ℕ) → k ≡ 0 → z -ℤ pos k ≡ z
minus_0 z k e = omega (arith, ints, e)

-- the value of a name has at most 128 bits
decl_small : (b : Building) (nets : Nets) (d : Option Decl) → IsSignal b d → IsSized (decl_shape d) → decl_value (store b nets) d < 2 ^ 128
decl_small b nets (Some (Signal width low signed number)) has sized =
    let fits = number-fits nets (signal b number) in
    let le : 2 ^ length (signal b number) ≤ 2 ^ 128 = power_le (length (signal b number)) 128 (let w = sized.narrow in omega (arith, has.1, w)) in
    omega (arith, fits, le)
decl_small b nets (Some (Constant value low signed)) has sized =
    let fits = value.fits in
    let le : 2 ^ value.width ≤ 2 ^ 128 = power_le value.width 128 value.narrow in
    omega (arith, fits, le)
decl_small b nets None has sized = pow_pos 128

module _ (names : Names) (name : List ℕ) (x : Expr) (span : Span) (size : ℕ) where
  abbrev picking : ℕ → List Made
  picking k = cell_of (Some Pick) false ((decl_shape (names name)).width ∷ k ∷ size ∷ []) span

  pub pick_cells_none : is_empty (sense names x).signals ≡ true → pick_cells names name span (plan names x) size ≡ []
  pick_cells_none e = ap (λ (b : Bool). if b then [] else own_cells (plan names x) ++ picking (index_width (plan names x).sense.shape)) (ap (λ (a : Sense). is_empty a.signals) (plan_sense names x) ∙ e)

  pub pick_cells_are : (at : Shape) (k : ℕ) → is_empty (sense names x).signals ≡ false → at ≡ (sense names x).shape → k ≡ index_width at → pick_cells names name span (plan names x) size ≡ made names x at ++ cell_of (Some Pick) false ((decl_shape (names name)).width ∷ k ∷ size ∷ []) span
  pick_cells_are at k e is is_k =
      ap (λ (b : Bool). if b then [] else own_cells (plan names x) ++ picking (index_width (plan names x).sense.shape)) (ap (λ (a : Sense). is_empty a.signals) (plan_sense names x) ∙ e)
      ∙ ap (λ (a : Sense). made names x a.shape ++ picking (index_width a.shape)) (plan_sense names x)
      ∙ ap (λ (s : Shape). made names x s ++ picking (index_width s)) (sym is)
      ∙ ap (λ (m : ℕ). made names x at ++ picking m) (sym is_k)

  pub pick_built : (at : Shape) (c : ℕ) (o m n : Building) (i y : List Bit) → is_empty (sense names x).signals ≡ false → index_features span (names name) (sense names x) ≡ [] → ((sense names x).shape.is_signed ≡ true → is_empty (sense names x).signals ≡ false → size ≡ 1) → IsSignal m (names name) → IsSized (decl_shape (names name)) → IsSized at → at ≡ (sense names x).shape → Evaluates names x at o m i → Adds m n y c (λ nets. window (pos (extended at (index_width at) (number (values nets i)))) size (decl_value (store m nets) (names name))) (cell_of (Some Pick) false ((decl_shape (names name)).width ∷ index_width at ∷ size ∷ []) span) → Builds o n y c (λ signals. window (index_of signals (sense names x) -ℤ pos (decl_low (names name))) size (decl_value signals (names name))) (pick_cells names name span (plan names x) size)
  pick_built at c o m n i y varies from_0 one has sized sized_at is p q =
      let d : Option Decl = names name in
      let low : decl_low d ≡ 0 = low_is_0 span d (sense names x) from_0 varies in
      let alone : at.is_signed ≡ true → size ≡ 1 = λ e. one (ap (λ (s : Shape). s.is_signed) (sym is) ∙ e) varies in
      let fits : (nets : Nets) → number (values nets i) < 2 ^ at.width = λ nets. subst (λ (k : ℕ). number (values nets i) < 2 ^ k) p.long (number-fits nets i) in
      same_cells o n y c _ _ _ (pick_cells_are at (index_width at) varies is refl)
      (then_adds o m n i y at.width c (λ nets. (sense names x).value (store o nets) at) (λ nets. window (pos (extended at (index_width at) (number (values nets i)))) size (decl_value (store m nets) d)) (λ nets. window (index_of (store o nets) (sense names x) -ℤ pos (decl_low d)) size (decl_value (store o nets) d)) (made names x at) (picking (index_width at)) p q
      (λ nets e same. index_window at (number (values nets i)) size (decl_value (store m nets) d) sized_at.some (fits nets) (decl_small m nets d has sized) alone
      ∙ ap (λ (k : ℕ). window (integer at k) size (decl_value (store m nets) d)) e
      ∙ ap (λ (s : Shape). window (integer s ((sense names x).value (store o nets) s)) size (decl_value (store m nets) d)) is
      ∙ ap (λ (s : Store). window (index_of (store o nets) (sense names x)) size (decl_value s d)) same
      ∙ ap (λ (z : ℤ). window z size (decl_value (store o nets) d)) (sym (minus_0 (index_of (store o nets) (sense names x)) (decl_low d) low))))

-- Parts side by side.

-- one part more, below the others
pub join_adds : (o m n : Building) (all bits after : List Bit) (w u : ℕ) (f g : Nets → ℕ) (M N : List Made) → Adds o m all w f M → Adds m n bits u g N → after ≡ bits ++ all → Adds o n after (w + u) (λ nets. f nets * 2 ^ u + g nets) (M ++ N)
join_adds o m n all bits after w u f g M N p q is = record {
  grows = grows_again o m n p.grows q.grows;
  cells = map-append made_of p.grows.more q.grows.more ∙ ap (λ (l : List Made). l ++ map made_of q.grows.more) p.cells ∙ ap (λ (l : List Made). M ++ l) q.cells;
  long = let l : length (bits ++ all) ≡ length bits + length all = simp length-append in let k = ap length is in omega (arith, l, k, p.long, q.long);
  below = subst (AllBelow n.nets) (sym is) (below_append n.nets bits all q.below (below_later m.nets n.nets all (grown_nets m n q.grows) p.below));
  value_is = λ nets runs.
      ap (λ (l : List Bit). number (values nets l)) is ∙ number_append nets bits all
      ∙ ap (λ (k : ℕ). k * 2 ^ length bits + number (values nets bits)) (p.value_is nets (runs_before m n nets q.grows runs))
      ∙ ap (λ (k : ℕ). f nets * 2 ^ k + number (values nets bits)) q.long
      ∙ ap (λ (k : ℕ). f nets * 2 ^ u + k) (q.value_is nets runs);
}

pub joined_take : (names : Names) (s : Store) (es : List Expr) (k : ℕ) (x : Expr) → x ≡ get_or es k x → k < length es → joined s (senses names (take (suc k) es)) ≡ joined s (senses names (take k es)) * 2 ^ (sense names x).shape.width + own s (sense names x)
joined_take names s [] k x is h = absurd (omega arith)
joined_take names s (e ∷ es) zero x is h = ap (λ (y : Expr). own s (sense names y) * 2 ^ 0 + 0) (sym is) ∙ one (own s (sense names x)) (2 ^ (sense names x).shape.width)
  where
    one : (a p : ℕ) → a * 2 ^ 0 + 0 ≡ 0 * p + a
    one a p = grind arith
joined_take names s (e ∷ es) (suc k) x is h =
    let more = joined_take names s es k x is (omega arith) in
    let wide = total_take names es k x is (omega arith) in
    let w : ℕ = (sense names x).shape.width in
    let t : ℕ = total_width (senses names (take k es)) in
    ap (λ (m : ℕ). own s (sense names e) * 2 ^ m + joined s (senses names (take (suc k) es))) wide
    ∙ ap (λ (m : ℕ). own s (sense names e) * 2 ^ (t + w) + m) more
    ∙ shift (own s (sense names e)) t w (joined s (senses names (take k es))) (own s (sense names x))
  where
    shift : (a t w j b : ℕ) → a * 2 ^ (t + w) + (j * 2 ^ w + b) ≡ (a * 2 ^ t + j) * 2 ^ w + b
    shift a t w j b = let p : 2 ^ (t + w) ≡ 2 ^ t * 2 ^ w = pow-add 2 t w in rw p (grind arith)

pub cells_take : (names : Names) (es : List Expr) (k : ℕ) (x : Expr) → x ≡ get_or es k x → k < length es → all_cells (plans names (take (suc k) es)) ≡ all_cells (plans names (take k es)) ++ made names x (sense names x).shape
cells_take names [] k x is h = absurd (omega arith)
cells_take names (e ∷ es) zero x is h = append_nil (own_cells (plan names e)) ∙ ap (λ (y : Expr). own_cells (plan names y)) (sym is) ∙ ap (λ (a : Sense). made names x a.shape) (plan_sense names x)
  where
    append_nil : (l : List Made) → l ++ [] ≡ l
    append_nil [] = refl
    append_nil (y ∷ l) = ap (λ (t : List Made). y ∷ t) (append_nil l)
cells_take names (e ∷ es) (suc k) x is h = ap (λ (l : List Made). own_cells (plan names e) ++ l) (cells_take names es k x is (omega arith)) ∙ sym (append_assoc (own_cells (plan names e)) (all_cells (plans names (take k es))) (made names x (sense names x).shape))

-- the parts so far
abbrev pub Joins : Names → List Expr → Building → Building → List Bit → Type 0
Joins names es o n bits = Builds o n bits (total_width (senses names es)) (λ signals. joined signals (senses names es)) (all_cells (plans names es))

pub joins_none : (names : Names) (o : Building) (bits : List Bit) → bits ≡ [] → Joins names [] o o bits
joins_none names o bits is = record { grows = grows_not o; cells = none_made o; long = ap length is; below = subst (AllBelow o.nets) (sym is) tt; value_is = λ nets runs. ap (λ (l : List Bit). number (values nets l)) is }

pub joins_more : (names : Names) (es : List Expr) (k : ℕ) (x : Expr) (at : Shape) (o m n : Building) (all bits after : List Bit) → x ≡ get_or es k x → k < length es → at ≡ (sense names x).shape → Joins names (take k es) o m all → Evaluates names x at m n bits → after ≡ bits ++ all → Joins names (take (suc k) es) o n after
joins_more names es k x at o m n all bits after is h is_at p q is_after =
    let so : List Expr = take k es in
    let b : Adds o n after (total_width (senses names so) + at.width) (λ nets. joined (store o nets) (senses names so) * 2 ^ at.width + (sense names x).value (store m nets) at) (all_cells (plans names so) ++ made names x at) =
    join_adds o m n all bits after (total_width (senses names so)) at.width (λ nets. joined (store o nets) (senses names so)) (λ nets. (sense names x).value (store m nets) at) (all_cells (plans names so)) (made names x at) p q is_after in
    record {
      grows = b.grows;
      cells = b.cells ∙ ap (λ (s : Shape). all_cells (plans names so) ++ made names x s) is_at ∙ sym (cells_take names es k x is h);
      long = b.long ∙ ap (λ (s : Shape). total_width (senses names so) + s.width) is_at ∙ sym (total_take names es k x is h);
      below = b.below;
      value_is = λ nets runs. b.value_is nets runs
          ∙ ap (λ (t : Store). joined (store o nets) (senses names so) * 2 ^ at.width + (sense names x).value t at) (store_same o m nets p.grows)
          ∙ ap (λ (s : Shape). joined (store o nets) (senses names so) * 2 ^ s.width + (sense names x).value (store o nets) s) is_at
          ∙ sym (joined_take names (store o nets) es k x is h);
    }

-- the cells so far are no more than all
pub cells_up_to : (names : Names) (es : List Expr) (k : ℕ) → length (all_cells (plans names (take k es))) ≤ length (all_cells (plans names es))
cells_up_to names [] zero = omega arith
cells_up_to names [] (suc k) = omega arith
cells_up_to names (e ∷ es) zero = omega arith
cells_up_to names (e ∷ es) (suc k) =
    let more = cells_up_to names es k in
    let l : length (own_cells (plan names e) ++ all_cells (plans names (take k es))) ≡ length (own_cells (plan names e)) + length (all_cells (plans names (take k es))) = simp length-append in
    let r : length (own_cells (plan names e) ++ all_cells (plans names es)) ≡ length (own_cells (plan names e)) + length (all_cells (plans names es)) = simp length-append in
    omega (arith, more, l, r)

-- an error in a part
pub joins_short : (names : Names) (es : List Expr) (k : ℕ) (x : Expr) (at : Shape) (o m : Building) (all : List Bit) (e : ElabError) → x ≡ get_or es k x → k < length es → at ≡ (sense names x).shape → Joins names (take k es) o m all → IsShort (length m.cells + length (made names x at)) e → IsShort (length o.cells + length (all_cells (plans names es))) e
joins_short names es k x at o m all e is h is_at p short =
    let n = count o m all _ _ _ p in
    let t = cells_take names es k x is h in
    let l : length (all_cells (plans names (take k es)) ++ made names x (sense names x).shape) ≡ length (all_cells (plans names (take k es))) + length (made names x (sense names x).shape) = simp length-append in
    let s : length (made names x at) ≡ length (made names x (sense names x).shape) = ap (λ (c : Shape). length (made names x c)) is_at in
    let u = cells_up_to names es (suc k) in
    let v = ap length t in
    more_short (length m.cells + length (made names x at)) (length o.cells + length (all_cells (plans names es))) e (omega (arith, n, l, s, u, v)) short

-- the bits extended
pub joined_extended : (o n : Building) (xs ys : List Bit) (own : Shape) (w v : ℕ) (f : Store → ℕ) (M : List Made) → own.width ≡ w → Builds o n xs w f M → length ys ≡ v → ((nets : Nets) → number (values nets ys) ≡ extended (ShapeOfBits xs own.is_signed) v (number (values nets xs))) → ((k : ℕ) → AllBelow k xs → AllBelow k ys) → Builds o n ys v (λ signals. extended own v (f signals)) M
joined_extended o n xs ys own w v f M is b long same kept =
    subst (λ (k : ℕ). Builds o n ys v (λ signals. extended (record { width = k; is_signed = own.is_signed }) v (f signals)) M) (sym is)
    (stretched o n xs ys w v own.is_signed (λ nets. f (store o nets)) M b long same (kept n.nets b.below))

-- and fit
pub joined_fits : (o n : Building) (xs : List Bit) (own : Shape) (w : ℕ) (f : Store → ℕ) (M : List Made) (nets : Nets) → own.width ≡ w → Builds o n xs w f M → RunsIn n nets → f (store o nets) < 2 ^ own.width
joined_fits o n xs own w f M nets is b runs =
    let small : number (values nets xs) < 2 ^ length xs = number-fits nets xs in
    let wide : length xs ≡ own.width = b.long ∙ sym is in
    let s : number (values nets xs) < 2 ^ own.width = subst (λ (k : ℕ). number (values nets xs) < 2 ^ k) wide small in
    subst (λ (k : ℕ). k < 2 ^ own.width) (b.value_is nets runs) s

-- where the sign plays no part
pub unextended : (o n : Building) (ys : List Bit) (own : Shape) (v : ℕ) (f : Store → ℕ) (M : List Made) → own.is_signed ≡ false → own.width ≤ v → Builds o n ys v (λ signals. extended own v (f signals)) M → ((nets : Nets) → RunsIn n nets → f (store o nets) < 2 ^ own.width) → Builds o n ys v f M
unextended o n ys own v f M plain le b fits = record {
  grows = b.grows;
  cells = b.cells;
  long = b.long;
  below = b.below;
  value_is = λ nets runs. b.value_is nets runs ∙ extended_positive own v (f (store o nets)) (ap (λ (s : Bool). s && nat_le (2 ^ (own.width - 1)) (f (store o nets))) plain) (fits nets runs) le;
}

-- so many times the same bits
pub replicated_built : (o n : Building) (xs ys : List Bit) (times w v : ℕ) (f : Store → ℕ) (M : List Made) → Builds o n xs w f M → length ys ≡ v → ((nets : Nets) → number (values nets ys) ≡ repeated times (length xs) (number (values nets xs))) → ((k : ℕ) → AllBelow k xs → AllBelow k ys) → Builds o n ys v (λ signals. repeated times w (f signals)) M
replicated_built o n xs ys times w v f M b long same kept = record {
  grows = b.grows;
  cells = b.cells;
  long = long;
  below = kept n.nets b.below;
  value_is = λ nets runs. same nets ∙ ap (λ (k : ℕ). repeated times k (number (values nets xs))) b.long ∙ ap (repeated times w) (b.value_is nets runs);
}
