-- What is laid of the parts of an expression, put together as its production says.
use Rattle.elab_expr.proofs.Common.{◌≡◌, ℕ, zero, suc, ◌<◌, ◌-ℤ◌, ℤ, pos, ◌&&◌, Bool, true, false, List, [], ◌∷◌, ◌++◌, sym, ap, ◌∙◌, take, get_or, length, arith, if◌then◌else◌, Option, Span, Bit}
use Rattle.elab_expr.proofs.Common.{Pick, Number, Identifier, UnaryOperator, BinaryOperator, Expr, first_token, Decl, Shape, function_of, natural, sizing, left_context, right_context, result_width}
use Rattle.elab_expr.proofs.Common.{operand_context, is_reduction, Names, nothing, decl_low, Sense, sense, is_empty, constant_integer, Building, takes_sign, unary_kind, binary_kind, Laid, Layout}
use Rattle.elab_expr.proofs.Common.{layout, layouts, lay, lay_own, lay_parts, lay_select, lay_unary, lay_binary, lay_condition, lay_arms, showing, cell, index_bits, at_width, unary_cell, binary_cell}
use Rattle.elab_expr.proofs.Common.{mux_cell, reduced, name_bits, number_bits, widened, bits_from, times}
use Rattle.vlog_syntax.specs.declared.expr.Expr.TheOpen as e
use Rattle.vlog_syntax.specs.declared.expr.Expr.TheVariants as v
use Rattle.elab_expr.proofs.Layouts.{layout_sense, layout_first, lay_constant, lay_varies, layout_number, layout_name, layout_bit_select, layout_part_select, layout_indexed_part_select}
use Rattle.elab_expr.proofs.Layouts.{layout_parenthesized, layout_unary, layout_binary, layout_conditional, layout_concatenation, layout_multiple_concatenation, layout_system_function_call}

-- `op i`
pub unary_laid : (names : Names) (i : Expr) (op : UnaryOperator) (span : Span) (c at : Shape) (o m n : Building) (a y : List Bit) → at ≡ operand_context op (sense names i).shape c → showing m a ≡ lay names i at o → showing n y ≡ at_width c.width (unary_cell (unary_kind op) (if is_reduction op then 1 else at.width) span (showing m a)) → showing n y ≡ lay_unary span op (layout names i) c o
unary_laid names i op span c at o m n a y is of_i by =
    by ∙ ap (λ (l : Laid). at_width c.width (unary_cell (unary_kind op) (if is_reduction op then 1 else at.width) span l)) of_i
    ∙ ap (λ (s : Shape). at_width c.width (unary_cell (unary_kind op) (if is_reduction op then 1 else s.width) span (lay names i s o))) (is ∙ sym (ap (λ (q : Sense). operand_context op q.shape c) (layout_sense names i)))

-- `i op j`
pub binary_laid : (names : Names) (i j : Expr) (op : BinaryOperator) (span : Span) (c l r : Shape) (o m p n : Building) (a b y : List Bit) → l ≡ left_context (sizing op) (sense names i).shape (sense names j).shape c → r ≡ right_context (sizing op) (sense names i).shape (sense names j).shape c → showing m a ≡ lay names i l o → showing p b ≡ lay names j r m → showing n y ≡ at_width c.width (binary_cell (binary_kind op l.is_signed) l (result_width (sizing op) l) span a (showing p b)) → showing n y ≡ lay_binary span op (layout names i) (layout names j) c o
binary_laid names i j op span c l r o m p n a b y is_l is_r of_i of_j by =
    by ∙ ap (λ (z : Laid). at_width c.width (binary_cell (binary_kind op l.is_signed) l (result_width (sizing op) l) span a z)) of_j
    ∙ ap (whole l r) of_i
    ∙ ap (λ (s : Shape). whole s r (lay names i s o)) (is_l ∙ sym (senses (λ (s t : Shape). left_context (sizing op) s t c)))
    ∙ ap (λ (t : Shape). whole (left_context (sizing op) (layout names i).sense.shape (layout names j).sense.shape c) t (lay names i (left_context (sizing op) (layout names i).sense.shape (layout names j).sense.shape c) o)) (is_r ∙ sym (senses (λ (s t : Shape). right_context (sizing op) s t c)))
  where
    whole : Shape → Shape → Laid → Laid
    whole s t x = at_width c.width (binary_cell (binary_kind op s.is_signed) s (result_width (sizing op) s) span x.bits (lay names j t x.after))

    senses : (f : Shape → Shape → Shape) → f (layout names i).sense.shape (layout names j).sense.shape ≡ f (sense names i).shape (sense names j).shape
    senses f = ap (λ (q : Sense). f q.shape (layout names j).sense.shape) (layout_sense names i) ∙ ap (λ (q : Sense). f (sense names i).shape q.shape) (layout_sense names j)

-- a condition
pub condition_laid : (names : Names) (x : Expr) (at : Shape) (first : Span) (o m n : Building) (a y : List Bit) → at ≡ (sense names x).shape → first ≡ first_token x → showing m a ≡ lay names x at o → showing n y ≡ reduced at.width first (showing m a) → showing n y ≡ lay_condition (layout names x) o
condition_laid names x at first o m n a y is is_first of_x by =
    by ∙ ap (reduced at.width first) of_x
    ∙ ap (λ (s : Shape). reduced s.width first (lay names x s o)) (is ∙ sym (ap (λ (q : Sense). q.shape) (layout_sense names x)))
    ∙ ap (λ (f : Span). reduced (layout names x).sense.shape.width f (lay names x (layout names x).sense.shape o)) (is_first ∙ sym (layout_first names x))

-- a choice after its condition
pub arms_laid : (names : Names) (i j : Expr) (span : Span) (c : Shape) (o m p n : Building) (s a b y : List Bit) → showing m a ≡ lay names i c o → showing p b ≡ lay names j c m → showing n y ≡ mux_cell c.width span s a (showing p b) → showing n y ≡ lay_arms span (layout names i) (layout names j) c (showing o s)
arms_laid names i j span c o m p n s a b y of_i of_j by = by ∙ ap (mux_cell c.width span s a) of_j ∙ ap (λ (x : Laid). mux_cell c.width span s x.bits (lay names j c x.after)) of_i

pub conditional_laid : (names : Names) (x i j : Expr) (span : Span) (c : Shape) (o m n : Building) (s y : List Bit) → showing m s ≡ lay_condition (layout names x) o → showing n y ≡ lay_arms span (layout names i) (layout names j) c (showing m s) → showing n y ≡ lay_arms span (layout names i) (layout names j) c (lay_condition (layout names x) o)
conditional_laid names x i j span c o m n s y of_x by = by ∙ ap (lay_arms span (layout names i) (layout names j) c) of_x

-- selects
module _ (names : Names) (d : Option Decl) (x : Expr) (span : Span) (size width : ℕ) (b : Building) where
  abbrev wired : ℤ → Laid
  wired z = showing b (widened (bits_from (name_bits b d) (z -ℤ pos (decl_low d)) size) false width)

  abbrev picked : Shape → Laid → Laid
  picked s l = at_width width (cell Pick false (name_bits l.after d ∷ index_bits s l.bits ∷ []) size span l.after)

  abbrev chosen : Sense → Laid
  chosen q = if is_empty q.signals then wired (constant_integer q) else picked q.shape (lay names x q.shape b)

  is_chosen : chosen (sense names x) ≡ lay_select d span (layout names x) size width b
  is_chosen = sym (ap chosen (layout_sense names x))

  pub place_laid : (z : ℤ) (bits : List Bit) → is_empty (sense names x).signals ≡ true → z ≡ constant_integer (sense names x) → bits ≡ widened (bits_from (name_bits b d) (z -ℤ pos (decl_low d)) size) false width → showing b bits ≡ lay_select d span (layout names x) size width b
  place_laid z bits quiet is by = ap (showing b) by ∙ ap wired is ∙ sym (ap (λ (t : Bool). if t then wired (constant_integer (sense names x)) else picked (sense names x).shape (lay names x (sense names x).shape b)) quiet) ∙ is_chosen

  pub pick_laid : (at : Shape) (m n : Building) (a y : List Bit) → is_empty (sense names x).signals ≡ false → at ≡ (sense names x).shape → showing m a ≡ lay names x at b → showing n y ≡ at_width width (cell Pick false (name_bits m d ∷ index_bits at a ∷ []) size span m) → showing n y ≡ lay_select d span (layout names x) size width b
  pick_laid at m n a y loud is of_x by = by ∙ ap (picked at) of_x ∙ ap (λ (s : Shape). picked s (lay names x s b)) is ∙ sym (ap (λ (t : Bool). if t then wired (constant_integer (sense names x)) else picked (sense names x).shape (lay names x (sense names x).shape b)) loud) ∙ is_chosen

-- parts side by side: none, and one more
pub parts_more : (names : Names) (es : List Expr) (k : ℕ) (x : Expr) (at : Shape) (o m n : Building) (all bits after : List Bit) → x ≡ get_or es k x → k < length es → at ≡ (sense names x).shape → showing m all ≡ lay_parts (layouts names (take k es)) o [] → showing n bits ≡ lay names x at m → after ≡ bits ++ all → showing n after ≡ lay_parts (layouts names (take (suc k) es)) o []
parts_more names es k x at o m n all bits after is h is_at so_far of_x is_after =
    ap (showing n) is_after
    ∙ ap (λ (l : Laid). showing l.after (l.bits ++ all)) (of_x ∙ ap (λ (s : Shape). lay names x s m) (is_at ∙ sym (ap (λ (q : Sense). q.shape) (layout_sense names x))))
    ∙ ap (next x) so_far
    ∙ sym (taken es k o [] is h)
  where
    next : Expr → Laid → Laid
    next y l = showing (lay_own (layout names y) l.after).after ((lay_own (layout names y) l.after).bits ++ l.bits)

    taken : (es : List Expr) (k : ℕ) (b : Building) (above : List Bit) → x ≡ get_or es k x → k < length es → lay_parts (layouts names (take (suc k) es)) b above ≡ next x (lay_parts (layouts names (take k es)) b above)
    taken [] k b above is h = absurd (omega arith)
    taken (y ∷ es) zero b above is h = ap (λ (z : Expr). next z (showing b above)) (sym is)
    taken (y ∷ es) (suc k) b above is h = taken es k (lay_own (layout names y) b).after ((lay_own (layout names y) b).bits ++ above) is (omega arith)

pub joined_laid : (l : Laid) (m : Building) (all found : List Bit) (signed : Bool) (width : ℕ) → showing m all ≡ l → found ≡ widened all signed width → showing m found ≡ showing l.after (widened l.bits signed width)
joined_laid l m all found signed width is wide = ap (showing m) wide ∙ ap (λ (x : Laid). showing x.after (widened x.bits signed width)) is

pub replicated_laid : (l : Laid) (m : Building) (all found : List Bit) (count width : ℕ) → showing m all ≡ l → found ≡ widened (times count all) false width → showing m found ≡ showing l.after (widened (times count l.bits) false width)
replicated_laid l m all found count width is wide = ap (showing m) wide ∙ ap (λ (x : Laid). showing x.after (widened (times count x.bits) false width)) is

-- The whole: a constant, and an expression of each production.

pub constant_laid : (names : Names) (x : Expr) (c : Shape) (b : Building) (bits : List Bit) → is_empty (sense names x).signals ≡ true → bits ≡ number_bits c.width ((sense names x).value nothing c) → showing b bits ≡ lay names x c b
constant_laid names x c b bits quiet is = ap (showing b) is ∙ sym (lay_constant names x c b quiet)

module _ (names : Names) (x : Expr) (c : Shape) (b : Building) (varies : is_empty (sense names x).signals ≡ false) where
  pub number_whole : (n : Number) (bits : List Bit) → x ≡ v.Number n → bits ≡ number_bits c.width ((sense names x).value nothing c) → showing b bits ≡ lay names x c b
  number_whole n bits is by = ap (showing b) by ∙ sym (lay_varies names x (e.Number n) c b (ap (layout names) is ∙ layout_number names n) varies)

  pub name_whole : (n : Identifier) (bits : List Bit) → x ≡ v.Name n → bits ≡ widened (name_bits b (names n.name)) c.is_signed c.width → showing b bits ≡ lay names x c b
  name_whole n bits is by = ap (showing b) by ∙ sym (lay_varies names x (e.Name n) c b (ap (layout names) is ∙ layout_name names n) varies)

  pub bit_whole : (n : Identifier) (s : Span) (i : Expr) (l : Laid) → x ≡ v.BitSelect n s i → l ≡ lay_select (names n.name) s (layout names i) 1 c.width b → l ≡ lay names x c b
  bit_whole n s i l is by = by ∙ sym (lay_varies names x (e.BitSelect n s (layout names i)) c b (ap (layout names) is ∙ layout_bit_select names n s i) varies)

  pub part_whole : (n : Identifier) (s : Span) (m l : Expr) (z : ℤ) (size : ℕ) (bits : List Bit) → x ≡ v.PartSelect n s m l → z ≡ constant_integer (sense names l) → size ≡ (sense names x).shape.width → bits ≡ widened (bits_from (name_bits b (names n.name)) (z -ℤ pos (decl_low (names n.name))) size) false c.width → showing b bits ≡ lay names x c b
  part_whole n s m l z size bits is is_z is_size by =
      ap (showing b) by
      ∙ ap (λ (k : ℤ). showing b (widened (bits_from (name_bits b (names n.name)) (k -ℤ pos (decl_low (names n.name))) size) false c.width)) (is_z ∙ sym (ap constant_integer (layout_sense names l)))
      ∙ ap (λ (k : ℕ). showing b (widened (bits_from (name_bits b (names n.name)) (constant_integer (layout names l).sense -ℤ pos (decl_low (names n.name))) k) false c.width)) is_size
      ∙ sym (lay_varies names x (e.PartSelect n s (layout names m) (layout names l)) c b (ap (layout names) is ∙ layout_part_select names n s m l) varies)

  pub indexed_whole : (n : Identifier) (s : Span) (i w : Expr) (size : ℕ) (l : Laid) → x ≡ v.IndexedPartSelect n s i w → size ≡ natural (constant_integer (sense names w)) → l ≡ lay_select (names n.name) s (layout names i) size c.width b → l ≡ lay names x c b
  indexed_whole n s i w size l is is_size by =
      by ∙ ap (λ (k : ℕ). lay_select (names n.name) s (layout names i) k c.width b) (is_size ∙ sym (ap (λ (q : Sense). natural (constant_integer q)) (layout_sense names w)))
      ∙ sym (lay_varies names x (e.IndexedPartSelect n s (layout names i) (layout names w)) c b (ap (layout names) is ∙ layout_indexed_part_select names n s i w) varies)

  pub inner_whole : (s : Span) (i : Expr) (l : Laid) → x ≡ v.Parenthesized s i → l ≡ lay names i c b → l ≡ lay names x c b
  inner_whole s i l is by = by ∙ sym (lay_varies names x (e.Parenthesized s (layout names i)) c b (ap (layout names) is ∙ layout_parenthesized names s i) varies)

  pub unary_whole : (s : Span) (op : UnaryOperator) (i : Expr) (l : Laid) → x ≡ v.Unary s op i → l ≡ lay_unary s op (layout names i) c b → l ≡ lay names x c b
  unary_whole s op i l is by = by ∙ sym (lay_varies names x (e.Unary s op (layout names i)) c b (ap (layout names) is ∙ layout_unary names s op i) varies)

  pub binary_whole : (s : Span) (op : BinaryOperator) (i j : Expr) (l : Laid) → x ≡ v.Binary s op i j → l ≡ lay_binary s op (layout names i) (layout names j) c b → l ≡ lay names x c b
  binary_whole s op i j l is by = by ∙ sym (lay_varies names x (e.Binary s op (layout names i) (layout names j)) c b (ap (layout names) is ∙ layout_binary names s op i j) varies)

  pub conditional_whole : (s : Span) (t i j : Expr) (l : Laid) → x ≡ v.Conditional s t i j → l ≡ lay_arms s (layout names i) (layout names j) c (lay_condition (layout names t) b) → l ≡ lay names x c b
  conditional_whole s t i j l is by = by ∙ sym (lay_varies names x (e.Conditional s (layout names t) (layout names i) (layout names j)) c b (ap (layout names) is ∙ layout_conditional names s t i j) varies)

  pub concatenation_whole : (s : Span) (ps : List Expr) (shape : Shape) (l : Laid) → x ≡ v.Concatenation s ps → shape ≡ (sense names x).shape → l ≡ showing (lay_parts (layouts names ps) b []).after (widened (lay_parts (layouts names ps) b []).bits shape.is_signed c.width) → l ≡ lay names x c b
  concatenation_whole s ps shape l is is_shape by =
      let at = ap (layout names) is ∙ layout_concatenation names s ps in
      let unsigned : shape.is_signed ≡ false = ap (λ (t : Shape). t.is_signed) is_shape ∙ ap (λ (q : Sense). q.shape.is_signed) (sym (layout_sense names x) ∙ ap (λ (p : Layout). p.sense) at) in
      by ∙ ap (λ (k : Bool). showing (lay_parts (layouts names ps) b []).after (widened (lay_parts (layouts names ps) b []).bits k c.width)) unsigned
      ∙ sym (lay_varies names x (e.Concatenation s (layouts names ps)) c b at varies)

  pub multiple_whole : (s : Span) (k : Expr) (ps : List Expr) (count : ℕ) (l : Laid) → x ≡ v.MultipleConcatenation s k ps → count ≡ natural (constant_integer (sense names k)) → l ≡ showing (lay_parts (layouts names ps) b []).after (widened (times count (lay_parts (layouts names ps) b []).bits) false c.width) → l ≡ lay names x c b
  multiple_whole s k ps count l is is_count by =
      by ∙ ap (λ (m : ℕ). showing (lay_parts (layouts names ps) b []).after (widened (times m (lay_parts (layouts names ps) b []).bits) false c.width)) (is_count ∙ sym (ap (λ (q : Sense). natural (constant_integer q)) (layout_sense names k)))
      ∙ sym (lay_varies names x (e.MultipleConcatenation s (layout names k) (layouts names ps)) c b (ap (layout names) is ∙ layout_multiple_concatenation names s k ps) varies)

  pub call_whole : (n : Identifier) (ps : List Expr) (own_shape shape : Shape) (l : Laid) → x ≡ v.SystemFunctionCall n ps → shape ≡ record { width = own_shape.width; is_signed = takes_sign (function_of n.name) && c.is_signed } → l ≡ showing (lay_parts (layouts names ps) b []).after (widened (lay_parts (layouts names ps) b []).bits shape.is_signed c.width) → l ≡ lay names x c b
  call_whole n ps own_shape shape l is is_shape by =
      by ∙ ap (λ (t : Shape). showing (lay_parts (layouts names ps) b []).after (widened (lay_parts (layouts names ps) b []).bits t.is_signed c.width)) is_shape
      ∙ sym (lay_varies names x (e.SystemFunctionCall n (layouts names ps)) c b (ap (layout names) is ∙ layout_system_function_call names n ps) varies)
