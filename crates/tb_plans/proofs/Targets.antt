-- Targets of left sides of one part.
use Rattle.tb_plans.proofs.Common.{◌≡◌, zero, suc, ℕ, ◌<◌, ◌≤◌, ◌/◌, ◌^◌, List, [], ◌∷◌, ◌++◌, ap, sym, ◌∙◌, arith, subst, Option, Some, ℤ, mod-eq_of_lt, Lcg, Expr, Shape, integer, Names, Store}
use Rattle.tb_plans.proofs.Common.{sense, Part, Vector, part_vector, select_width, Update, vector_is, window_of, IsDrawn, listed, clip_update, Window, some_bits, window_update, updates_of}
use Rattle.tb_plans.proofs.Common.{window_drawn, base_drawn, index_drawn, Formula, valued, formula_value, FitsIn, Target, IsTargetOf, target_updates, TargetFits, IsValueOf}
use Rattle.tb_assigns.specs.declared.clip.Clip.{Clip}
use Rattle.tb_assigns.specs.declared.piece.Piece.{Piece}
use Rattle.tb_assigns.specs.declared.piece.Vector as code
use Rattle.tb_formulas.specs.declared.formula.Formula.TheOpen as o
use Rattle.tb_formulas.specs.declared.formula.Formula.TheVariants as v
use Rattle.tb_formulas.specs.declared.formula.Formula.TheVariants.{Number}
use Rattle.tb_assigns.proofs.Clips.{whole}

pub number_is : (f : Formula) (n : ℕ) (store : Store) → f ≡ Number n → formula_value f store ≡ n
number_is f n store is = valued (o.Number n) f store (v.rolls-Number n ∙ sym is)

-- a value that has no more bits than its place is written as it is
pub filled : (signal low width v : ℕ) → 1 ≤ width → v < 2 ^ width → listed (Some (record { signal = signal; low = low; width = width; value = v })) ≡ some_bits signal low width v
filled signal low zero v some fits = absurd (omega (arith, some))
filled signal low (suc n) v some fits =
    let made : ℕ → List Update = λ x. record { signal = signal; low = low; width = suc n; value = x } ∷ [] in
    sym (ap made (mod-eq_of_lt fits))

pub piece_target : (names : Names) (p : Part) (piece : Piece) (clip : Clip) (bits : ℕ) (t : Target) → ((phase : ℕ) (store : Store) (g : Lcg) → IsDrawn names phase store p g g piece) → ((v : ℕ) → clip_update clip v ≡ window_update (window_of piece) v) → ((store : Store) (v : ℕ) → target_updates t store v ≡ clip_update clip v) → ((widths : List ℕ) → TargetFits widths bits t) → IsTargetOf names (p ∷ []) bits t
piece_target names p piece clip bits t drawn clipped written fits = record {
  means = λ phase store v g.
      let joined : List Window × Lcg → List Update × Lcg = λ a. (updates_of (a.0 ++ []) v, a.1) in
      ap joined (sym (drawn phase store g))
      ∙ ap (λ (n : ℕ). (window_update (window_of piece) n, g)) (whole v)
      ∙ ap (λ (us : List Update). (us, g)) (sym (written store v ∙ clipped v));
  fits = λ widths has. fits widths;
}

pub index_target : (names : Names) (p : Part) (vector : code.Vector) (size : ℕ) (shape : Shape) (x : Expr) (f : Formula) (bits : ℕ) (t : Target) → part_vector names p ≡ Some (vector_is vector) → size ≡ select_width names (vector_is vector) p.select → shape ≡ (sense names x).shape → ((phase : ℕ) (store : Store) (g : Lcg) → base_drawn names phase store (vector_is vector) p.select g ≡ index_drawn names phase store x g) → IsValueOf names x (sense names x).shape f → ((store : Store) (v : ℕ) → target_updates t store v ≡ window_update (record { vector = vector_is vector; base = integer shape (formula_value f store); size = size }) v) → ((widths : List ℕ) → FitsIn widths f shape.width → TargetFits widths bits t) → IsTargetOf names (p ∷ []) bits t
index_target names p vector size shape x f bits t known sized own based value written fits = record {
  means = λ phase store v g.
      let joined : Option Vector → List Update × Lcg = λ o. let a = window_drawn names phase store p.select o g in (updates_of (a.0 ++ []) v, a.1) in
      let from : ℤ × Lcg → List Update × Lcg = λ b. (window_update (record { vector = vector_is vector; base = b.0; size = select_width names (vector_is vector) p.select }) (v / 2 ^ 0), b.1) in
      let at : ℤ = integer (sense names x).shape (formula_value f store) in
      ap joined known
      ∙ ap from (based phase store g)
      ∙ ap (λ (a : ℕ × Lcg). from (integer (sense names x).shape a.0, a.1)) (value.means phase store g)
      ∙ ap (λ (n : ℕ). (window_update (record { vector = vector_is vector; base = at; size = select_width names (vector_is vector) p.select }) n, g)) (whole v)
      ∙ ap (λ (n : ℕ). (window_update (record { vector = vector_is vector; base = at; size = n }) v, g)) (sym sized)
      ∙ ap (λ (s : Shape). (window_update (record { vector = vector_is vector; base = integer s (formula_value f store); size = size }) v, g)) (sym own)
      ∙ ap (λ (us : List Update). (us, g)) (sym (written store v));
  fits = λ widths has. fits widths (subst (λ (s : Shape). FitsIn widths f s.width) (sym own) (value.fits widths has));
}
