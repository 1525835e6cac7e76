-- Pieces are what the parts of a left side write.
use Rattle.tb_assigns.proofs.Common.{◌≡◌, suc, ℕ, ◌<◌, List, [], ◌∷◌, ◌++◌, map, refl, ap, sym, ◌∙◌, length, get_or, take, append_assoc, append-nil, Some, Option, ℤ, map-append, Lcg, Expr, LeftSide}
use Rattle.tb_assigns.proofs.Common.{integer, bound_integer, Names, Store, sense, Part, Vector, part_vector, select_width, parts_of, concatenated, parts_take, evaluated, Piece, Window, index_drawn}
use Rattle.tb_assigns.proofs.Common.{base_drawn, window_drawn, windows_drawn, vector_is, window_of, windows_of, IsDrawn, onto, AreDrawn}
use Rattle.vlog_meaning.specs.declared.shapes.Shape.{Shape}

pub index_is : (names : Names) (phase : ℕ) (store : Store) (index : Expr) (g h : Lcg) (v : ℕ) (b : ℤ) (shape : Shape) → b ≡ integer shape v → (v, h) ≡ evaluated names phase index store shape g → shape ≡ (sense names index).shape → (b, h) ≡ index_drawn names phase store index g
index_is names phase store index g h v b shape is value own =
    let number : Shape → ℕ × Lcg → ℤ × Lcg = λ s p. (integer s p.0, p.1) in
    ap (λ (z : ℤ). (z, h)) is ∙ ap (number shape) value ∙ ap (λ (s : Shape). number s (evaluated names phase index store s g)) own

pub piece_drawn : (names : Names) (phase : ℕ) (store : Store) (p : Part) (g h : Lcg) (piece : Piece) → part_vector names p ≡ Some (vector_is piece.vector) → piece.size ≡ select_width names (vector_is piece.vector) p.select → (bound_integer piece.base, h) ≡ base_drawn names phase store (vector_is piece.vector) p.select g → IsDrawn names phase store p g h piece
piece_drawn names phase store p g h piece known size base =
    let made : ℕ → ℤ × Lcg → List Window × Lcg = λ n b. (record { vector = vector_is piece.vector; base = b.0; size = n } ∷ [], b.1) in
    ap (λ (n : ℕ). made n (bound_integer piece.base, h)) size
    ∙ ap (made (select_width names (vector_is piece.vector) p.select)) base
    ∙ ap (λ (o : Option Vector). window_drawn names phase store p.select o g) (sym known)

pub one_drawn : (names : Names) (phase : ℕ) (store : Store) (parts : List Part) (p : Part) (g h : Lcg) (piece : Piece) (before after : List Piece) → parts ≡ p ∷ [] → IsDrawn names phase store p g h piece → after ≡ before ++ piece ∷ [] → AreDrawn names phase store parts g h before after
one_drawn names phase store parts p g h piece before after is drawn pushed =
    let joined : List Window × Lcg → List Window × Lcg = λ d. (windows_of before ++ (d.0 ++ []), d.1) in
    ap (λ (l : List Piece). (windows_of l, h)) pushed
    ∙ ap (λ (l : List Window). (l, h)) (map-append window_of before (piece ∷ []))
    ∙ ap joined drawn
    ∙ ap (λ (ps : List Part). onto (windows_of before) (windows_drawn names phase store ps g)) (sym is)

windows_append : (names : Names) (phase : ℕ) (store : Store) (ps qs : List Part) (g : Lcg) → windows_drawn names phase store (ps ++ qs) g ≡ onto (windows_drawn names phase store ps g).0 (windows_drawn names phase store qs (windows_drawn names phase store ps g).1)
windows_append names phase store [] qs g = refl
windows_append names phase store (p ∷ ps) qs g =
    let a : List Window × Lcg = window_drawn names phase store p.select (part_vector names p) g in
    let d : List Window × Lcg = windows_drawn names phase store ps a.1 in
    let q : List Window × Lcg = windows_drawn names phase store qs d.1 in
    ap (onto a.0) (windows_append names phase store ps qs a.1) ∙ ap (λ (l : List Window). (l, q.1)) (sym (append_assoc a.0 d.0 q.0))

drawn_append : (names : Names) (phase : ℕ) (store : Store) (ps qs : List Part) (g h j : Lcg) (before mid after : List Piece) → AreDrawn names phase store ps g h before mid → AreDrawn names phase store qs h j mid after → AreDrawn names phase store (ps ++ qs) g j before after
drawn_append names phase store ps qs g h j before mid after first second =
    let d : List Window × Lcg = windows_drawn names phase store ps g in
    let q : List Window × Lcg = windows_drawn names phase store qs d.1 in
    second
    ∙ ap (λ (m : List Window × Lcg). onto m.0 (windows_drawn names phase store qs m.1)) first
    ∙ ap (λ (l : List Window). (l, q.1)) (append_assoc (windows_of before) d.0 q.0)
    ∙ ap (onto (windows_of before)) (sym (windows_append names phase store ps qs g))

pub none_drawn : (names : Names) (phase : ℕ) (store : Store) (g : Lcg) (before : List Piece) → AreDrawn names phase store [] g g before before
none_drawn names phase store g before = ap (λ (l : List Window). (l, g)) (sym (append-nil (windows_of before)))

pub next_drawn : (names : Names) (phase : ℕ) (store : Store) (parts : List LeftSide) (k : ℕ) (x : LeftSide) (g h j : Lcg) (before mid after : List Piece) → x ≡ get_or parts k x → k < length parts → AreDrawn names phase store (concatenated (map parts_of (take k parts))) g h before mid → AreDrawn names phase store (parts_of x) h j mid after → AreDrawn names phase store (concatenated (map parts_of (take (suc k) parts))) g j before after
next_drawn names phase store parts k x g h j before mid after is within first second =
    ap (λ (l : List Window × Lcg). l) (drawn_append names phase store (concatenated (map parts_of (take k parts))) (parts_of x) g h j before mid after first second)
    ∙ ap (λ (ps : List Part). onto (windows_of before) (windows_drawn names phase store ps g)) (sym (parts_take parts k x is within))
