-- Formulas of expressions, from those of their parts.
use Rattle.tb_formulas.proofs.Common.{◌≡◌, ℕ, suc, ◌+◌, ◌*◌, ◌<◌, ◌≤◌, ◌^◌, Bool, true, false, ℤ, pos, ◌==◌, List, [], ◌∷◌, length, get_or, drop, take, refl, sym, ap, ◌∙◌, arith, subst, ◌-ℤ◌, None}
use Rattle.tb_formulas.proofs.Common.{Result, Ok, Err, IfOk, if◌then◌else◌, pow_pos, UnaryOperator, BinaryOperator, Expr, Decl, Shape, function_of, integer, extended, natural, window, clog2, Names}
use Rattle.tb_formulas.proofs.Common.{Store, nothing, store_of, decl_shape, decl_low, decl_value, Sense, sense, senses, step, own, index_of, taken, joined, repeated, total_width, call_shape}
use Rattle.tb_formulas.proofs.Common.{call_value, part_width, constant_integer, IsWhole, IsContext, IsWholeCall, wider, context_sized, are_paired, parts_drop, total_take, total_parts, joined_step}
use Rattle.tb_formulas.proofs.Common.{whole_part, Formula, HasSignal, formula_value, FitsIn, Serves, Makes}
use Rattle.std.specs.Prelude.{Option, Some}
use Rattle.std.proofs.lemmas.List.{drop_all}
use Rattle.mcy_base.specs.declared.span.Span.{Span}
use Rattle.vlog_syntax.specs.declared.identifier.Identifier.{Identifier}
use Rattle.vlog_syntax.specs.declared.identifier.Number.{Number}
use Rattle.vlog_syntax.specs.declared.expr.Expr.TheOpen as e
use Rattle.vlog_syntax.specs.declared.expr.Expr.TheVariants as v
use Rattle.vlog_meaning.specs.declared.function.Function.{Function}
use Rattle.vlog_meaning.specs.declared.function.Function.TheVariants.{Signed, Unsigned, Clog2, Random, Time}
use Rattle.vlog_meaning.specs.declared.operator.Sizing.{Sizing}
use Rattle.vlog_meaning.specs.declared.operator.Sizing.TheVariants.{Common, Left, Compared, Apart}
use Rattle.vlog_meaning.specs.Operators.{IsSized, ArePaired, bit, sizing, pair_shape, left_context, right_context, result_width, is_reduction, unary_shape, operand_context, unary_value, binary_value}
use Rattle.vlog_meaning.proofs.Steps as s
use Rattle.tb_formulas.specs.declared.formula.Formula.TheOpen as o
use Rattle.tb_formulas.specs.declared.formula.Formula.TheVariants as u
use Rattle.tb_formulas.proofs.Layers.{closed, valued}
use Rattle.tb_formulas.proofs.Values.{says_number}
use Rattle.tb_formulas.proofs.Widening.{widens}
use Rattle.tb_formulas.proofs.Bits.{number_fits}

pub ok_both : {A E : Type 0} (r : Result A E) (P Q R : A → Type 0) → ((a : A) → P a → Q a → R a) → IfOk r P → IfOk r Q → IfOk r R
ok_both (Ok a) P Q R f p q = f a p q
ok_both (Err x) P Q R f p q = tt

pub joined_fits_in : (widths : List ℕ) (f : Formula) (w : ℕ) (g : Formula) (k : ℕ) → k + w ≤ 128 → FitsIn widths f k → FitsIn widths g w → FitsIn widths (u.Joined f w g) (k + w)
joined_fits_in widths f w g k narrow upper lower = closed widths (o.Joined f w g) (u.Joined f w g) (k + w) (u.rolls-Joined f w g) ((k, narrow, omega arith, upper), lower)

pub made_number : (names : Names) (value : Store → ℕ) (n b : ℕ) → ((store : Store) → b ≡ value store) → b < 2 ^ n → Makes names value n (u.Number b)
made_number names value n b is small = record { means = λ store. sym (says_number (u.Number b) store b refl) ∙ is store; fits = λ widths has. number_fits widths b n small }

-- what a formula makes of a tree, it makes of one that says the same
pub same_made : (names : Names) (x : Expr) (y : Sense) (c : Shape) (f : Formula) → sense names x ≡ y → Makes names (λ store. y.value store c) c.width f → Makes names (λ store. (sense names x).value store c) c.width f
same_made names x y c f eq h = record { means = λ store. h.means store ∙ sym (ap (λ (z : Sense). z.value store c) eq); fits = h.fits }

-- the same of one that stands for itself
pub stepped : (names : Names) (x : Expr) (y : Sense) (c : Shape) (f : Formula) → sense names x ≡ y → IsContext (sense names x).shape c → Makes names (λ store. y.value store c) y.shape.width f → Makes names (λ store. (sense names x).value store c) c.width f
stepped names x y c f eq at h = record {
  means = λ store. h.means store ∙ sym (ap (λ (z : Sense). z.value store c) eq);
  fits = λ widths has. widens widths f y.shape.width c.width (subst (λ (z : Sense). z.shape.width ≤ c.width) eq at.wide) (h.fits widths has);
}

pub own_made : (names : Names) (x : Expr) (t : Shape) (f : Formula) → t ≡ (sense names x).shape → Makes names (λ store. (sense names x).value store t) t.width f → Makes names (λ store. own store (sense names x)) (sense names x).shape.width f
own_made names x t f is h = subst (λ (q : Shape). Makes names (λ store. (sense names x).value store q) q.width f) is h

pub number_wide : (names : Names) (x : Expr) (n : Number) (c : Shape) (w : ℕ) → x ≡ v.Number n → IsContext (sense names x).shape c → w ≡ n.value.width → w ≤ c.width
number_wide names x n c w is at is_w = let wide : n.value.width ≤ c.width = subst (λ (z : Sense). z.shape.width ≤ c.width) (ap (sense names) is ∙ s.sense_number names n) at.wide in omega (arith, wide, is_w)

pub number_made : (names : Names) (x : Expr) (n : Number) (c : Shape) (w b : ℕ) (f : Formula) → x ≡ v.Number n → w ≡ n.value.width → b ≡ n.value.bits → ((store : Store) → formula_value f store ≡ extended (record { width = w; is_signed = c.is_signed }) c.width b) → ((widths : List ℕ) → FitsIn widths f c.width) → Makes names (λ store. (sense names x).value store c) c.width f
number_made names x n c w b f is is_w is_b means fits = record {
  means = λ store. means store ∙ ap (λ (k : ℕ). extended (record { width = k; is_signed = c.is_signed }) c.width b) is_w ∙ ap (extended (record { width = n.value.width; is_signed = c.is_signed }) c.width) is_b ∙ sym (ap (λ (z : Sense). z.value store c) (ap (sense names) is ∙ s.sense_number names n));
  fits = λ widths has. fits widths;
}

pub name_context : (names : Names) (x : Expr) (n : Identifier) (c : Shape) (d : Option Decl) → x ≡ v.Name n → d ≡ names n.name → IsContext (sense names x).shape c → IsContext (decl_shape d) c
name_context names x n c d is is_d at = subst (λ (z : Option Decl). IsContext (decl_shape z) c) (sym is_d) (subst (λ (z : Sense). IsContext z.shape c) (ap (sense names) is ∙ s.sense_name names n) at)

pub name_made : (names : Names) (x : Expr) (n : Identifier) (c : Shape) (d : Option Decl) (f : Formula) → x ≡ v.Name n → d ≡ names n.name → ((store : Store) → formula_value f store ≡ taken (decl_shape d) c (decl_value store d)) → ((widths : List ℕ) → HasSignal widths d → FitsIn widths f c.width) → Makes names (λ store. (sense names x).value store c) c.width f
name_made names x n c d f is is_d means fits = record {
  means = λ store. means store ∙ ap (λ (z : Option Decl). taken (decl_shape z) c (decl_value store z)) is_d ∙ sym (ap (λ (z : Sense). z.value store c) (ap (sense names) is ∙ s.sense_name names n));
  fits = λ widths has. fits widths (subst (HasSignal widths) (sym is_d) (has n.name));
}

-- Selects.

pub bit_made : (names : Names) (x : Expr) (n : Identifier) (p : Span) (i : Expr) (c : Shape) (f : Formula) → x ≡ v.BitSelect n p i → IsContext (sense names x).shape c → Makes names (λ store. window (index_of store (sense names i) -ℤ pos (decl_low (names n.name))) 1 (decl_value store (names n.name))) 1 f → Makes names (λ store. (sense names x).value store c) c.width f
bit_made names x n p i c f is at h = stepped names x (step names (e.BitSelect n p (sense names i))) c f (ap (sense names) is ∙ s.sense_bit_select names n p i) at h

pub indexed_made : (names : Names) (x : Expr) (n : Identifier) (p : Span) (b w : Expr) (c : Shape) (k : ℕ) (f : Formula) → x ≡ v.IndexedPartSelect n p b w → IsContext (sense names x).shape c → k ≡ natural (constant_integer (sense names w)) → Makes names (λ store. window (index_of store (sense names b) -ℤ pos (decl_low (names n.name))) k (decl_value store (names n.name))) k f → Makes names (λ store. (sense names x).value store c) c.width f
indexed_made names x n p b w c k f is at is_k h = stepped names x (step names (e.IndexedPartSelect n p (sense names b) (sense names w))) c f (ap (sense names) is ∙ s.sense_indexed_part_select names n p b w) at (subst (λ (j : ℕ). Makes names (λ store. window (index_of store (sense names b) -ℤ pos (decl_low (names n.name))) j (decl_value store (names n.name))) j f) is_k h)

module _ (names : Names) (x : Expr) (n : Identifier) (p : Span) (m l : Expr) (y z : ℤ) (is : x ≡ v.PartSelect n p m l) (is_y : y ≡ constant_integer (sense names m)) (is_z : z ≡ constant_integer (sense names l)) where
  width_is : part_width (constant_integer (sense names m)) (constant_integer (sense names l)) ≡ part_width y z
  width_is = ap (λ (a : ℤ). part_width a (constant_integer (sense names l))) (sym is_y) ∙ ap (part_width y) (sym is_z)

  pub part_sizes : IsWhole names x → (1 ≤ part_width y z) × (part_width y z ≤ 128)
  part_sizes whole = let facts = whole_part names x n p m l is whole in subst (λ (w : ℕ). (1 ≤ w) × (w ≤ 128)) width_is (facts.some, facts.narrow)

  pub part_made : (c : Shape) (d : Option Decl) (w : ℕ) (f : Formula) → IsContext (sense names x).shape c → d ≡ names n.name → w ≡ part_width y z → ((store : Store) → formula_value f store ≡ window (z -ℤ pos (decl_low d)) w (decl_value store d)) → ((widths : List ℕ) → HasSignal widths d → FitsIn widths f w) → Makes names (λ store. (sense names x).value store c) c.width f
  part_made c d w f at is_d is_w means fits =
      let wide : w ≡ part_width (constant_integer (sense names m)) (constant_integer (sense names l)) = is_w ∙ sym width_is in
      stepped names x (step names (e.PartSelect n p (sense names m) (sense names l))) c f (ap (sense names) is ∙ s.sense_part_select names n p m l) at (record {
        means = λ store. means store ∙ ap (λ (k : ℕ). window (z -ℤ pos (decl_low d)) k (decl_value store d)) wide ∙ ap (λ (q : Option Decl). window (z -ℤ pos (decl_low q)) (part_width (constant_integer (sense names m)) (constant_integer (sense names l))) (decl_value store q)) is_d ∙ ap (λ (a : ℤ). window (a -ℤ pos (decl_low (names n.name))) (part_width (constant_integer (sense names m)) (constant_integer (sense names l))) (decl_value store (names n.name))) is_z;
        fits = λ widths has. subst (FitsIn widths f) wide (fits widths (subst (HasSignal widths) (sym is_d) (has n.name)));
      })

module _ (names : Names) (name : List ℕ) (i : Expr) (d : Option Decl) (w : ℕ) (is_d : d ≡ names name) (f : Formula) where
  pub picked : (shape : Shape) (bits : ℕ) (place : ℤ) → shape ≡ (sense names i).shape → place ≡ integer shape bits → ((store : Store) → bits ≡ (sense names i).value store shape) → ((store : Store) → formula_value f store ≡ window (place -ℤ pos (decl_low d)) w (decl_value store d)) → ((widths : List ℕ) → HasSignal widths d → FitsIn widths f w) → Makes names (λ store. window (index_of store (sense names i) -ℤ pos (decl_low (names name))) w (decl_value store (names name))) w f
  picked shape bits place is_s is_place at means fits = record {
    means = λ store. means store ∙ ap (λ (q : Option Decl). window (place -ℤ pos (decl_low q)) w (decl_value store q)) is_d ∙ ap (λ (z : ℤ). window (z -ℤ pos (decl_low (names name))) w (decl_value store (names name))) (is_place ∙ ap (integer shape) (at store) ∙ ap (λ (s : Shape). integer s ((sense names i).value store s)) is_s);
    fits = λ widths has. fits widths (subst (HasSignal widths) (sym is_d) (has name));
  }

  pub aimed : (shape : Shape) (g : Formula) → shape ≡ (sense names i).shape → Makes names (λ store. (sense names i).value store shape) shape.width g → ((store : Store) → formula_value f store ≡ window (integer shape (formula_value g store) -ℤ pos (decl_low d)) w (decl_value store d)) → ((widths : List ℕ) → HasSignal widths d → FitsIn widths g shape.width → FitsIn widths f w) → Makes names (λ store. window (index_of store (sense names i) -ℤ pos (decl_low (names name))) w (decl_value store (names name))) w f
  aimed shape g is_s h means fits = record {
    means = λ store. means store ∙ ap (λ (q : Option Decl). window (integer shape (formula_value g store) -ℤ pos (decl_low q)) w (decl_value store q)) is_d ∙ ap (λ (z : ℤ). window (z -ℤ pos (decl_low (names name))) w (decl_value store (names name))) (ap (integer shape) (h.means store) ∙ ap (λ (s : Shape). integer s ((sense names i).value store s)) is_s);
    fits = λ widths has. fits widths (subst (HasSignal widths) (sym is_d) (has name)) (h.fits widths has);
  }

-- Operators.

unary_at : (b : Bool) (i c : Shape) → IsSized i → IsContext (if b then bit else i) c → IsSized (if b then i else c) × ((if b then bit else (if b then i else c)).width ≤ c.width)
unary_at true i c sized at = (sized, at.wide)
unary_at false i c sized at = (context_sized i c sized at, omega arith)

pub unary_made : (names : Names) (x : Expr) (p : Span) (op : UnaryOperator) (i : Expr) (c si l : Shape) (f : Formula) → x ≡ v.Unary p op i → IsContext (sense names x).shape c → si ≡ (sense names i).shape → IsSized si → l ≡ operand_context op si c → Makes names (λ store. (sense names i).value store l) l.width f → Makes names (λ store. (sense names x).value store c) c.width (u.Unary op l f)
unary_made names x p op i c si l f is at is_i sized is_l h =
    let eq = ap (sense names) is ∙ s.sense_unary names p op i in
    let whole : IsContext (unary_shape op si) c = rw is_i (subst (λ (y : Sense). IsContext y.shape c) eq at) in
    let sizes : IsSized l × ((unary_shape op l).width ≤ c.width) = rw is_l (unary_at (is_reduction op) si c sized whole) in
    let there : l ≡ operand_context op (sense names i).shape c = is_l ∙ ap (λ (t : Shape). operand_context op t c) is_i in
    record {
      means = λ store. valued (o.Unary op l f) (u.Unary op l f) store (u.rolls-Unary op l f) ∙ ap (unary_value op l) (h.means store) ∙ ap (λ (t : Shape). unary_value op t ((sense names i).value store t)) there ∙ sym (ap (λ (y : Sense). y.value store c) eq);
      fits = λ widths has. closed widths (o.Unary op l f) (u.Unary op l f) c.width (u.rolls-Unary op l f) (sizes.0, sizes.1, h.fits widths has);
    }

binary_at : (r : Sizing) (i j c : Shape) → IsSized i → IsSized j → IsContext (pair_shape r i j) c → IsSized (left_context r i j c) × IsSized (right_context r i j c) × (result_width r (left_context r i j c) ≤ c.width)
binary_at Common i j c si sj at = let some : 1 ≤ c.width = omega (arith, at.wide, si.some) in (record { some = some; narrow = at.narrow }, record { some = some; narrow = at.narrow }, omega arith)
binary_at Left i j c si sj at = (context_sized i c si at, sj, omega arith)
binary_at Compared i j c si sj at = (record { some = omega (arith, si.some); narrow = omega (arith, si.narrow, sj.narrow) }, record { some = omega (arith, si.some); narrow = omega (arith, si.narrow, sj.narrow) }, at.wide)
binary_at Apart i j c si sj at = (si, sj, at.wide)

pub binary_made : (names : Names) (x : Expr) (p : Span) (op : BinaryOperator) (i j : Expr) (c si sj : Shape) (r : Sizing) (l t : Shape) (f g : Formula) → x ≡ v.Binary p op i j → IsContext (sense names x).shape c → r ≡ sizing op → si ≡ (sense names i).shape → sj ≡ (sense names j).shape → IsSized si → IsSized sj → l ≡ left_context r si sj c → t ≡ right_context r si sj c → Makes names (λ store. (sense names i).value store l) l.width f → Makes names (λ store. (sense names j).value store t) t.width g → Makes names (λ store. (sense names x).value store c) c.width (u.Binary op l t f g)
binary_made names x p op i j c si sj r l t f g is at is_r is_i is_j sized_i sized_j is_l is_t h k =
    let eq = ap (sense names) is ∙ s.sense_binary names p op i j in
    let whole : IsContext (pair_shape (sizing op) si sj) c = rw (is_i, is_j) (subst (λ (y : Sense). IsContext y.shape c) eq at) in
    let left : l ≡ left_context (sizing op) si sj c = is_l ∙ ap (λ (q : Sizing). left_context q si sj c) is_r in
    let right : t ≡ right_context (sizing op) si sj c = is_t ∙ ap (λ (q : Sizing). right_context q si sj c) is_r in
    let sizes : IsSized l × IsSized t × (result_width (sizing op) l ≤ c.width) = rw (left, right) (binary_at (sizing op) si sj c sized_i sized_j whole) in
    let paired : ArePaired (sizing op) l t = rw (left, right) (are_paired (sizing op) si sj c) in
    let left_there : l ≡ left_context (sizing op) (sense names i).shape (sense names j).shape c = left ∙ ap (λ (q : Shape). left_context (sizing op) q sj c) is_i ∙ ap (λ (q : Shape). left_context (sizing op) (sense names i).shape q c) is_j in
    let right_there : t ≡ right_context (sizing op) (sense names i).shape (sense names j).shape c = right ∙ ap (λ (q : Shape). right_context (sizing op) q sj c) is_i ∙ ap (λ (q : Shape). right_context (sizing op) (sense names i).shape q c) is_j in
    record {
      means = λ store. valued (o.Binary op l t f g) (u.Binary op l t f g) store (u.rolls-Binary op l t f g) ∙ ap (λ (a : ℕ). binary_value op l a t (formula_value g store)) (h.means store) ∙ ap (binary_value op l ((sense names i).value store l) t) (k.means store) ∙ ap (λ (q : Shape). binary_value op q ((sense names i).value store q) t ((sense names j).value store t)) left_there ∙ ap (λ (q : Shape). binary_value op (left_context (sizing op) (sense names i).shape (sense names j).shape c) ((sense names i).value store (left_context (sizing op) (sense names i).shape (sense names j).shape c)) q ((sense names j).value store q)) right_there ∙ sym (ap (λ (y : Sense). y.value store c) eq);
      fits = λ widths has. closed widths (o.Binary op l t f g) (u.Binary op l t f g) c.width (u.rolls-Binary op l t f g) (sizes.0, sizes.1, paired, sizes.2, h.fits widths has, k.fits widths has);
    }

pub choice_made : (names : Names) (x : Expr) (p : Span) (b i j : Expr) (c : Shape) (f g h : Formula) → x ≡ v.Conditional p b i j → Makes names (λ store. own store (sense names b)) (sense names b).shape.width f → Makes names (λ store. (sense names i).value store c) c.width g → Makes names (λ store. (sense names j).value store c) c.width h → Makes names (λ store. (sense names x).value store c) c.width (u.Conditional f g h)
choice_made names x p b i j c f g h is mf mg mh =
    let eq = ap (sense names) is ∙ s.sense_conditional names p b i j in
    record {
      means = λ store. valued (o.Conditional f g h) (u.Conditional f g h) store (u.rolls-Conditional f g h) ∙ ap (λ (a : ℕ). if a == 0 then formula_value h store else formula_value g store) (mf.means store) ∙ ap (λ (a : ℕ). if own store (sense names b) == 0 then a else formula_value g store) (mh.means store) ∙ ap (λ (a : ℕ). if own store (sense names b) == 0 then (sense names j).value store c else a) (mg.means store) ∙ sym (ap (λ (y : Sense). y.value store c) eq);
      fits = λ widths has. closed widths (o.Conditional f g h) (u.Conditional f g h) c.width (u.rolls-Conditional f g h) (((sense names b).shape.width, mf.fits widths has), mg.fits widths has, mh.fits widths has);
    }

-- Concatenations.

begins : (names : Names) (ps : List Expr) (store : Store) → formula_value (u.Number 0) store * 2 ^ total_width (senses names (drop 0 ps)) + joined store (senses names (drop 0 ps)) ≡ joined store (senses names ps)
begins names ps store = let none : formula_value (u.Number 0) store ≡ 0 = sym (says_number (u.Number 0) store 0 refl) in ap (λ (n : ℕ). n * 2 ^ total_width (senses names ps) + joined store (senses names ps)) none ∙ omega arith

-- what is joined with the first k parts, and what they fit
pub record Goes (names : Names) (ps : List Expr) (k : ℕ) (f : Formula) : Type 0 where
  pub same : (store : Store) → formula_value f store * 2 ^ total_width (senses names (drop k ps)) + joined store (senses names (drop k ps)) ≡ joined store (senses names ps)
  pub fits : Serves names f (total_width (senses names (take k ps)))

pub goes_first : (names : Names) (ps : List Expr) → Goes names ps 0 (u.Number 0)
goes_first names ps = record { same = begins names ps; fits = λ widths has. number_fits widths 0 (total_width (senses names (take 0 ps))) (pow_pos (total_width (senses names (take 0 ps)))) }

pub goes_on : (names : Names) (ps : List Expr) (k : ℕ) (x : Expr) (own_shape : Shape) (f g h : Formula) → x ≡ get_or ps k x → k < length ps → own_shape ≡ (sense names x).shape → total_width (senses names ps) ≤ 128 → Makes names (λ store. (sense names x).value store own_shape) own_shape.width g → Goes names ps k f → ((store : Store) → formula_value h store ≡ formula_value f store * 2 ^ own_shape.width + formula_value g store) → ((widths : List ℕ) (j : ℕ) → j + own_shape.width ≤ 128 → FitsIn widths f j → FitsIn widths g own_shape.width → FitsIn widths h (j + own_shape.width)) → Goes names ps (suc k) h
goes_on names ps k x own_shape f g h is within is_own narrow made goes means fits =
    let W : ℕ = (sense names x).shape.width in
    let rest : List Expr = drop (suc k) ps in
    let before : ℕ = total_width (senses names (take k ps)) in
    let wide : own_shape.width ≡ W = ap (λ (q : Shape). q.width) is_own in
    let split : drop k ps ≡ x ∷ rest = parts_drop names ps k x is within in
    let more : total_width (senses names (take (suc k) ps)) ≡ before + W = total_take names ps k x is within in
    let all : total_width (senses names (take (suc k) ps)) + total_width (senses names rest) ≡ total_width (senses names ps) = total_parts names ps (suc k) in
    record {
      same = λ store.
          let V : ℕ = own store (sense names x) in
          let T : ℕ = total_width (senses names rest) in
          let J : ℕ = joined store (senses names rest) in
          let value : formula_value g store ≡ V = made.means store ∙ ap ((sense names x).value store) is_own in
          let new : formula_value h store ≡ formula_value f store * 2 ^ W + V = means store ∙ ap (λ (n : ℕ). formula_value f store * 2 ^ n + formula_value g store) wide ∙ ap (λ (n : ℕ). formula_value f store * 2 ^ W + n) value in
          let old : formula_value f store * 2 ^ (W + T) + (V * 2 ^ T + J) ≡ joined store (senses names ps) = subst (λ (l : List Expr). formula_value f store * 2 ^ total_width (senses names l) + joined store (senses names l) ≡ joined store (senses names ps)) split (goes.same store) in
          ap (λ (n : ℕ). n * 2 ^ T + J) new ∙ joined_step (formula_value f store) 0 W V T J ∙ old;
      fits = λ widths has.
          let sum : before + own_shape.width ≡ total_width (senses names (take (suc k) ps)) = omega (arith, more, wide) in
          let small : before + own_shape.width ≤ 128 = omega (arith, sum, all, narrow) in
          subst (FitsIn widths h) sum (fits widths before small (goes.fits widths has) (made.fits widths has));
    }

pub goes_all : (names : Names) (ps : List Expr) (k : ℕ) (f : Formula) → length ps ≤ k → Goes names ps k f → Makes names (λ store. joined store (senses names ps)) (total_width (senses names ps)) f
goes_all names ps k f all goes =
    let none : drop k ps ≡ [] = drop_all k ps all in
    let sum : total_width (senses names (take k ps)) + total_width (senses names (drop k ps)) ≡ total_width (senses names ps) = total_parts names ps k in
    let left : total_width (senses names (drop k ps)) ≡ 0 = ap (λ (l : List Expr). total_width (senses names l)) none in
    let wide : total_width (senses names (take k ps)) ≡ total_width (senses names ps) = omega (arith, sum, left) in
    record {
      means = λ store. let h : formula_value f store * 2 ^ 0 + 0 ≡ joined store (senses names ps) = subst (λ (l : List Expr). formula_value f store * 2 ^ total_width (senses names l) + joined store (senses names l) ≡ joined store (senses names ps)) none (goes.same store) in omega (arith, h);
      fits = λ widths has. subst (FitsIn widths f) wide (goes.fits widths has);
    }

pub repeated_made : (names : Names) (ps : List Expr) (times w : ℕ) (f g : Formula) → w ≡ total_width (senses names ps) → g ≡ f → times * total_width (senses names ps) ≤ 128 → Makes names (λ store. joined store (senses names ps)) (total_width (senses names ps)) f → Makes names (λ store. repeated times (total_width (senses names ps)) (joined store (senses names ps))) (times * total_width (senses names ps)) (u.Repeated times w g)
repeated_made names ps times w f g is_w is_g few h =
    let W : ℕ = total_width (senses names ps) in
    let same : u.Repeated times W f ≡ u.Repeated times w g = ap (λ (k : ℕ). u.Repeated times k f) (sym is_w) ∙ ap (u.Repeated times w) (sym is_g) in
    subst (Makes names (λ store. repeated times W (joined store (senses names ps))) (times * W)) same (record {
      means = λ store. valued (o.Repeated times W f) (u.Repeated times W f) store (u.rolls-Repeated times W f) ∙ ap (repeated times W) (h.means store);
      fits = λ widths has. closed widths (o.Repeated times W f) (u.Repeated times W f) (times * W) (u.rolls-Repeated times W f) (few, omega arith, h.fits widths has);
    })

pub join_made : (names : Names) (x : Expr) (p : Span) (ps : List Expr) (c : Shape) (f : Formula) → x ≡ v.Concatenation p ps → IsContext (sense names x).shape c → Makes names (λ store. joined store (senses names ps)) (total_width (senses names ps)) f → Makes names (λ store. (sense names x).value store c) c.width f
join_made names x p ps c f is at h = stepped names x (step names (e.Concatenation p (senses names ps))) c f (ap (sense names) is ∙ s.sense_concatenation names p ps) at h

pub times_made : (names : Names) (x : Expr) (p : Span) (k : Expr) (ps : List Expr) (c : Shape) (times : ℕ) (f : Formula) → x ≡ v.MultipleConcatenation p k ps → IsContext (sense names x).shape c → times ≡ natural (constant_integer (sense names k)) → Makes names (λ store. repeated times (total_width (senses names ps)) (joined store (senses names ps))) (times * total_width (senses names ps)) f → Makes names (λ store. (sense names x).value store c) c.width f
times_made names x p k ps c times f is at is_times h = stepped names x (step names (e.MultipleConcatenation p (sense names k) (senses names ps))) c f (ap (sense names) is ∙ s.sense_multiple_concatenation names p k ps) at (subst (λ (n : ℕ). Makes names (λ store. repeated n (total_width (senses names ps)) (joined store (senses names ps))) (n * total_width (senses names ps)) f) is_times h)

-- Calls.

pub single : (es : List Expr) (x : Expr) → x ≡ get_or es 0 x → length es ≡ 1 → es ≡ x ∷ []
single [] x is one = absurd (omega (arith, one))
single (y ∷ []) x is one = ap (λ (z : Expr). z ∷ []) (sym is)
single (y ∷ z ∷ more) x is one = absurd (omega (arith, one))

none_called : (names : Names) (f : Option Function) (es : List Expr) (store : Store) (c : Shape) → (length es ≡ 1 → ⊥) → 0 ≡ call_value f (senses names es) store c
none_called names (Some Signed) [] store c many = refl
none_called names (Some Signed) (x ∷ []) store c many = absurd (many refl)
none_called names (Some Signed) (x ∷ y ∷ more) store c many = refl
none_called names (Some Unsigned) [] store c many = refl
none_called names (Some Unsigned) (x ∷ []) store c many = absurd (many refl)
none_called names (Some Unsigned) (x ∷ y ∷ more) store c many = refl
none_called names (Some Clog2) [] store c many = refl
none_called names (Some Clog2) (x ∷ []) store c many = absurd (many refl)
none_called names (Some Clog2) (x ∷ y ∷ more) store c many = refl
none_called names (Some Random) es store c many = refl
none_called names (Some Time) es store c many = refl
none_called names None es store c many = refl

pub several_made : (names : Names) (f : Option Function) (es : List Expr) (c : Shape) → (length es ≡ 1 → ⊥) → Makes names (λ store. call_value f (senses names es) store c) c.width (u.Number 0)
several_made names f es c many = made_number names _ c.width 0 (λ store. none_called names f es store c many) (pow_pos c.width)

pub unknown_made : (names : Names) (f : Option Function) (es : List Expr) (c : Shape) → f ≡ None → Makes names (λ store. call_value f (senses names es) store c) c.width (u.Number 0)
unknown_made names f es c is = made_number names _ c.width 0 (λ store. ap (λ (o : Option Function). call_value o (senses names es) store c) (sym is)) (pow_pos c.width)

module _ (names : Names) (f : Option Function) (g : Function) (es : List Expr) (x : Expr) (is : f ≡ Some g) (at : x ≡ get_or es 0 x) (one : length es ≡ 1) where
  pub one_whole : IsWholeCall f (senses names es) → IsWholeCall (Some g) (sense names x ∷ [])
  one_whole whole = subst (λ (l : List Expr). IsWholeCall (Some g) (senses names l)) (single es x at one) (subst (λ (o : Option Function). IsWholeCall o (senses names es)) is whole)

  pub one_context : (c : Shape) → IsContext (call_shape f (senses names es)) c → IsContext (call_shape (Some g) (sense names x ∷ [])) c
  one_context c within = subst (λ (l : List Expr). IsContext (call_shape (Some g) (senses names l)) c) (single es x at one) (subst (λ (o : Option Function). IsContext (call_shape o (senses names es)) c) is within)

  pub one_made : (c : Shape) (h : Formula) → Makes names (λ store. call_value (Some g) (sense names x ∷ []) store c) c.width h → Makes names (λ store. call_value f (senses names es) store c) c.width h
  one_made c h made = subst (λ (o : Option Function). Makes names (λ store. call_value o (senses names es) store c) c.width h) (sym is) (subst (λ (l : List Expr). Makes names (λ store. call_value (Some g) (senses names l) store c) c.width h) (sym (single es x at one)) made)

module _ (names : Names) (g : Function) (x : Expr) (c : Shape) where
  pub signed_whole : g ≡ Signed → IsWholeCall (Some g) (sense names x ∷ []) → IsWhole names x
  signed_whole is whole = subst (λ (k : Function). IsWholeCall (Some k) (sense names x ∷ [])) is whole

  pub unsigned_whole : g ≡ Unsigned → IsWholeCall (Some g) (sense names x ∷ []) → IsWhole names x
  unsigned_whole is whole = subst (λ (k : Function). IsWholeCall (Some k) (sense names x ∷ [])) is whole

  pub clog2_whole : g ≡ Clog2 → IsWholeCall (Some g) (sense names x ∷ []) → IsWhole names x
  clog2_whole is whole = subst (λ (k : Function). IsWholeCall (Some k) (sense names x ∷ [])) is whole

  pub signed_made : (t : Shape) (h : Formula) → g ≡ Signed → IsContext (call_shape (Some g) (sense names x ∷ [])) c → t ≡ (sense names x).shape → IsSized t → Makes names (λ store. own store (sense names x)) (sense names x).shape.width h → Makes names (λ store. call_value (Some g) (sense names x ∷ []) store c) c.width (u.Extended (record { width = t.width; is_signed = c.is_signed }) c.width h)
  signed_made t h is within is_t sized made =
      let at : IsContext (call_shape (Some Signed) (sense names x ∷ [])) c = subst (λ (k : Function). IsContext (call_shape (Some k) (sense names x ∷ [])) c) is within in
      let l : Shape = record { width = t.width; is_signed = c.is_signed } in
      let W : ℕ = (sense names x).shape.width in
      let wide : t.width ≡ W = ap (λ (q : Shape). q.width) is_t in
      let is_l : l ≡ record { width = W; is_signed = c.is_signed } = ap (λ (n : ℕ). record { width = n; is_signed = c.is_signed }) wide in
      subst (λ (k : Function). Makes names (λ store. call_value (Some k) (sense names x ∷ []) store c) c.width (u.Extended l c.width h)) (sym is) (record {
        means = λ store. valued (o.Extended l c.width h) (u.Extended l c.width h) store (u.rolls-Extended l c.width h) ∙ ap (extended l c.width) (made.means store) ∙ ap (λ (q : Shape). extended q c.width (own store (sense names x))) is_l;
        fits = λ widths has. closed widths (o.Extended l c.width h) (u.Extended l c.width h) c.width (u.rolls-Extended l c.width h) (record { some = sized.some; narrow = sized.narrow }, omega (arith, at.wide, wide), at.narrow, omega arith, subst (FitsIn widths h) (sym wide) (made.fits widths has));
      })

  pub unsigned_made : (t : Shape) (h : Formula) → g ≡ Unsigned → IsContext (call_shape (Some g) (sense names x ∷ [])) c → t ≡ (sense names x).shape → Makes names (λ store. (sense names x).value store t) t.width h → Makes names (λ store. call_value (Some g) (sense names x ∷ []) store c) c.width h
  unsigned_made t h is within is_t made =
      let at : IsContext (call_shape (Some Unsigned) (sense names x ∷ [])) c = subst (λ (k : Function). IsContext (call_shape (Some k) (sense names x ∷ [])) c) is within in
      let wide : t.width ≡ (sense names x).shape.width = ap (λ (q : Shape). q.width) is_t in
      subst (λ (k : Function). Makes names (λ store. call_value (Some k) (sense names x ∷ []) store c) c.width h) (sym is) (record {
        means = λ store. made.means store ∙ ap ((sense names x).value store) is_t;
        fits = λ widths has. widens widths h t.width c.width (omega (arith, wide, at.wide)) (made.fits widths has);
      })

  pub clog2_made : (t : Shape) (n m : ℕ) → g ≡ Clog2 → IsContext (call_shape (Some g) (sense names x ∷ [])) c → t ≡ (sense names x).shape → n ≡ (sense names x).value (store_of []) t → m ≡ clog2 n → m ≤ 128 → Makes names (λ store. call_value (Some g) (sense names x ∷ []) store c) c.width (u.Number m)
  clog2_made t n m is within is_t is_n is_m small =
      let at : IsContext (call_shape (Some Clog2) (sense names x ∷ [])) c = subst (λ (k : Function). IsContext (call_shape (Some k) (sense names x ∷ [])) c) is within in
      let held : store_of [] ≡ nothing = λ i k. 0 in
      let value : m ≡ clog2 (own nothing (sense names x)) = is_m ∙ ap clog2 (is_n ∙ ap ((sense names x).value (store_of [])) is_t ∙ ap (λ (q : Store). own q (sense names x)) held) in
      subst (λ (k : Function). Makes names (λ store. call_value (Some k) (sense names x ∷ []) store c) c.width (u.Number m)) (sym is) (made_number names _ c.width m (λ store. value) (wider m 32 c.width (omega arith) at.wide))

  pub random_made : g ≡ Random → Makes names (λ store. call_value (Some g) (sense names x ∷ []) store c) c.width (u.Number 0)
  random_made is = made_number names _ c.width 0 (λ store. ap (λ (k : Function). call_value (Some k) (sense names x ∷ []) store c) (sym is)) (pow_pos c.width)

  pub time_made : g ≡ Time → Makes names (λ store. call_value (Some g) (sense names x ∷ []) store c) c.width (u.Number 0)
  time_made is = made_number names _ c.width 0 (λ store. ap (λ (k : Function). call_value (Some k) (sense names x ∷ []) store c) (sym is)) (pow_pos c.width)

pub call_made : (names : Names) (x : Expr) (n : Identifier) (es : List Expr) (g : Option Function) (ps : List Expr) (c : Shape) (f : Formula) → x ≡ v.SystemFunctionCall n es → g ≡ function_of n.name → ps ≡ es → Makes names (λ store. call_value g (senses names ps) store c) c.width f → Makes names (λ store. (sense names x).value store c) c.width f
call_made names x n es g ps c f is is_g is_p h = same_made names x (step names (e.SystemFunctionCall n (senses names es))) c f (ap (sense names) is ∙ s.sense_system_function_call names n es) (subst (λ (k : Option Function). Makes names (λ store. call_value k (senses names es) store c) c.width f) is_g (subst (λ (l : List Expr). Makes names (λ store. call_value g (senses names l) store c) c.width f) is_p h))

pub inner_made : (names : Names) (x : Expr) (p : Span) (i : Expr) (c : Shape) (f : Formula) → x ≡ v.Parenthesized p i → Makes names (λ store. (sense names i).value store c) c.width f → Makes names (λ store. (sense names x).value store c) c.width f
inner_made names x p i c f is h = same_made names x (step names (e.Parenthesized p (sense names i))) c f (ap (sense names) is ∙ s.sense_parenthesized names p i) h
