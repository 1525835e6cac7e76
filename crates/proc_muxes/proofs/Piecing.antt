-- The pieces of a left side, with the cells of its indices.
use Rattle.proc_muxes.proofs.Common.{◌≡◌, ℕ, zero, suc, ◌+◌, ◌<◌, ◌≤◌, false, List, [], ◌∷◌, ◌++◌, map, take, length, get_or, Option, Some, None, refl, sym, ◌∙◌, ap, subst, arith, append_assoc}
use Rattle.proc_muxes.proofs.Common.{map-append, Span, Bit, Expr, Identifier, LeftSide, Names, Shape, sense, constant_integer, is_constant, BitOf, Indexed, Part, parts_of, parts_width, concatenated}
use Rattle.proc_muxes.proofs.Common.{AllBelow, Building, Grows, HasSignals, Evaluates, refusals, made, index_width, index_wide, index_narrow, at_cell, IsShort, ElabError, count, more_short}
use Rattle.proc_muxes.proofs.Common.{signals_kept, below_later, grown_nets, Piece, Place, From, At, Index, variable_index, IsLaid, BuildsIndex, BuildsIndices, CanWrite, CanWriteAll, index_cells}
use Rattle.proc_muxes.proofs.Common.{indices_cells, IsPlace, indices_of, ArePieces, CanBePlaced, IsFitPiece, AreFitPieces, index_at, IsPlaced, MakesPiece, MakesPieces}
use Rattle.proc_muxes.specs.Pieces.{index_bits}
use Rattle.proc_muxes.proofs.Keeping.{grows-indices}
use Rattle.elab_proc.proofs.Lists.{parts_take}

-- An index.

index-some : (names : Names) (span : Span) (i : Expr) → is_constant names i ≡ false → index_at names span i ≡ Some (record { place = span; expr = i })
index-some names span i e = rw e refl

pub placed-variable : (names : Names) (span : Span) (i : Expr) (a b : Building) (bits index : List Bit) → is_constant names i ≡ false → 1 ≤ (sense names i).shape.width → (sense names i).shape.width ≤ 128 → Evaluates names i (sense names i).shape a b bits → IsLaid names i (sense names i).shape a b bits
    → index ≡ at_cell (sense names i).shape bits → length index ≡ index_width (sense names i).shape → ((n : ℕ) → AllBelow n bits → AllBelow n index) → IsPlaced names span i a b (At index span)
placed-variable names span i a b bits index e some narrow f laid shown long below =
    let j : Index = record { place = span; expr = i } in
    let is : Some j ≡ index_at names span i = sym (index-some names span i e) in
    let s : Shape = (sense names i).shape in
    let wide : 1 ≤ index_width s = let w = index_wide s in omega arith in
    record {
      is = subst (λ (o : Option Index). IsPlace o (constant_integer (sense names i)) (At index span)) is refl;
      fit = λ low h. (h j (sym is), (subst (λ (n : ℕ). 1 ≤ n) (sym long) wide, subst (λ (n : ℕ). n ≤ 128) (sym long) (index_narrow s narrow), below b.nets f.below));
      built = subst (λ (o : Option Index). BuildsIndex names o a b index) is (bits, f, laid, shown, some);
    }

pub index-counted : (names : Names) (i : Option Index) (a b : Building) (bits : List Bit) → BuildsIndex names i a b bits → length b.cells ≡ length a.cells + index_cells names i
index-counted names None a b bits f = ap (λ (m : Building). length m.cells) f.0 ∙ omega arith
index-counted names (Some i) a b bits f = count a b f.0 _ _ (made names i.expr (sense names i.expr).shape) f.1

-- One part.

-- Several parts.

pub indices-counted : (names : Names) (ps : List Part) (a b : Building) (indices : List (List Bit)) → BuildsIndices names ps a b indices → length b.cells ≡ length a.cells + indices_cells names ps
indices-counted names [] a b indices f = ap (λ (m : Building). length m.cells) f.0 ∙ omega arith
indices-counted names (p ∷ ps) a b indices f =
    let here = index-counted names (variable_index names p.select) a f.0 f.1 f.3 in
    let later = indices-counted names ps f.0 b f.2 f.4 in
    omega (arith, here, later)

indices-append : (names : Names) (ps qs : List Part) (a m b : Building) (is js : List (List Bit)) → BuildsIndices names ps a m is → BuildsIndices names qs m b js → BuildsIndices names (ps ++ qs) a b (is ++ js)
indices-append names [] qs a m b is js f g =
    subst (λ (l : List (List Bit)). BuildsIndices names qs a b (l ++ js)) (sym f.1) (subst (λ (n : Building). BuildsIndices names qs n b js) f.0 g)
indices-append names (p ∷ ps) qs a m b is js f g =
    (f.0, f.1, f.2 ++ js, f.3, indices-append names ps qs f.0 m b f.2 js f.4 g, ap (λ (l : List (List Bit)). l ++ js) f.5)

pieces-append : (names : Names) (ps qs : List Part) (xs ys : List Piece) → ArePieces names ps xs → ArePieces names qs ys → ArePieces names (ps ++ qs) (xs ++ ys)
pieces-append names [] qs [] ys f g = g
pieces-append names [] qs (x ∷ xs) ys f g = absurd f
pieces-append names (p ∷ ps) qs [] ys f g = absurd f
pieces-append names (p ∷ ps) qs (x ∷ xs) ys f g = (f.0, pieces-append names ps qs xs ys f.1 g)

place-later : (n m low : ℕ) (place : Place) → n ≤ m → CanBePlaced n low place → CanBePlaced m low place
place-later n m low (From bound) le h = h
place-later n m low (At index span) le h = (h.0, (h.1.0, h.1.1, below_later n m index le h.1.2))

pub piece-later : (n m : ℕ) (x : Piece) → n ≤ m → IsFitPiece n x → IsFitPiece m x
piece-later n m x le h = record { some = h.some; narrow = h.narrow; place = place-later n m x.low x.place le h.place }

pub pieces-later : (n m : ℕ) (xs : List Piece) → n ≤ m → AreFitPieces n xs → AreFitPieces m xs
pieces-later n m [] le h = tt
pieces-later n m (x ∷ xs) le h = (piece-later n m x le h.0, pieces-later n m xs le h.1)

fit-append : (n : ℕ) (xs ys : List Piece) → AreFitPieces n xs → AreFitPieces n ys → AreFitPieces n (xs ++ ys)
fit-append n [] ys h k = k
fit-append n (x ∷ xs) ys h k = (h.0, fit-append n xs ys h.1 k)

pub makes-one : (names : Names) (ps : List Part) (p : Part) (a b : Building) (x : Piece) (xs ys : List Piece) → ps ≡ p ∷ [] → MakesPiece names p a b x → ys ≡ xs ++ x ∷ [] → MakesPieces names ps a b xs ys
makes-one names ps p a b x xs ys is f e =
    subst (λ (l : List Part). MakesPieces names l a b xs ys) (sym is)
    (record { more = x ∷ []; joined = e; are = (f.piece, tt); fit = (f.fit, tt); built = (b, index_bits x.place, [], f.built, (refl, refl), refl) })

pub makes-more : (names : Names) (ps qs : List Part) (a m b : Building) (xs ys zs : List Piece) → MakesPieces names ps a m xs ys → MakesPieces names qs m b ys zs → MakesPieces names (ps ++ qs) a b xs zs
makes-more names ps qs a m b xs ys zs f g = record {
  more = f.more ++ g.more;
  joined = g.joined ∙ ap (λ (l : List Piece). l ++ g.more) f.joined ∙ append_assoc xs f.more g.more;
  are = pieces-append names ps qs f.more g.more f.are g.are;
  fit = fit-append b.nets f.more g.more (pieces-later m.nets b.nets f.more (grown_nets m b (grows-indices names qs m b (indices_of g.more) g.built)) f.fit) g.fit;
  built = subst (λ (l : List (List Bit)). BuildsIndices names (ps ++ qs) a b l) (sym (map-append (λ (x : Piece). index_bits x.place) f.more g.more)) (indices-append names ps qs a m b (indices_of f.more) (indices_of g.more) f.built g.built);
}

pub makes-grows : (names : Names) (ps : List Part) (a b : Building) (xs ys : List Piece) → MakesPieces names ps a b xs ys → Grows a b
makes-grows names ps a b xs ys f = grows-indices names ps a b (indices_of f.more) f.built

pub makes-signals : (names : Names) (ps : List Part) (a b : Building) (xs ys : List Piece) → MakesPieces names ps a b xs ys → HasSignals names a → HasSignals names b
makes-signals names ps a b xs ys f h = signals_kept names a b (makes-grows names ps a b xs ys f) h

pub makes-counted : (names : Names) (ps : List Part) (a b : Building) (xs ys : List Piece) → MakesPieces names ps a b xs ys → length b.cells ≡ length a.cells + indices_cells names ps
makes-counted names ps a b xs ys f = indices-counted names ps a b (indices_of f.more) f.built

-- Several left sides.

pub makes-next : (names : Names) (parts : List LeftSide) (k : ℕ) (x : LeftSide) (a m b : Building) (xs ys zs : List Piece) → x ≡ get_or parts k x → k < length parts → MakesPieces names (concatenated (map parts_of (take k parts))) a m xs ys → MakesPieces names (parts_of x) m b ys zs → MakesPieces names (concatenated (map parts_of (take (suc k) parts))) a b xs zs
makes-next names parts k x a m b xs ys zs is h f g =
    subst (λ (l : List Part). MakesPieces names l a b xs zs) (sym (parts_take parts k x is h)) (makes-more names (concatenated (map parts_of (take k parts))) (parts_of x) a m b xs ys zs f g)

can-right : (names : Names) (ps qs : List Part) → CanWriteAll names (ps ++ qs) → CanWriteAll names qs
can-right names [] qs h = h
can-right names (p ∷ ps) qs h = can-right names ps qs h.1

can-left : (names : Names) (ps qs : List Part) → CanWriteAll names (ps ++ qs) → CanWriteAll names ps
can-left names [] qs h = tt
can-left names (p ∷ ps) qs h = (h.0, can-left names ps qs h.1)

pub can-element : (names : Names) (parts : List LeftSide) (k : ℕ) (x : LeftSide) → x ≡ get_or parts k x → k < length parts → CanWriteAll names (concatenated (map parts_of parts)) → CanWriteAll names (parts_of x)
can-element names [] k x is h can = absurd (omega arith)
can-element names (y ∷ ys) zero x is h can = subst (λ (z : LeftSide). CanWriteAll names (parts_of z)) (sym is) (can-left names (parts_of y) (concatenated (map parts_of ys)) can)
can-element names (y ∷ ys) (suc k) x is h can = can-element names ys k x is (omega arith) (can-right names (parts_of y) (concatenated (map parts_of ys)) can)

cells-append : (names : Names) (ps qs : List Part) → indices_cells names (ps ++ qs) ≡ indices_cells names ps + indices_cells names qs
cells-append names [] qs = omega arith
cells-append names (p ∷ ps) qs = let e = cells-append names ps qs in omega (arith, e)

pub width-append : (names : Names) (ps qs : List Part) → parts_width names (ps ++ qs) ≡ parts_width names ps + parts_width names qs
width-append names [] qs = omega arith
width-append names (p ∷ ps) qs = let e = width-append names ps qs in omega (arith, e)

-- so many parts have no more than all
cells-within : (names : Names) (parts : List LeftSide) (k : ℕ) → indices_cells names (concatenated (map parts_of (take k parts))) ≤ indices_cells names (concatenated (map parts_of parts))
cells-within names [] zero = omega arith
cells-within names [] (suc k) = omega arith
cells-within names (y ∷ ys) zero = omega arith
cells-within names (y ∷ ys) (suc k) =
    let e = cells-within names ys k in
    let f = cells-append names (parts_of y) (concatenated (map parts_of (take k ys))) in
    let g = cells-append names (parts_of y) (concatenated (map parts_of ys)) in
    omega (arith, e, f, g)

width-within : (names : Names) (parts : List LeftSide) (k : ℕ) → parts_width names (concatenated (map parts_of (take k parts))) ≤ parts_width names (concatenated (map parts_of parts))
width-within names [] zero = omega arith
width-within names [] (suc k) = omega arith
width-within names (y ∷ ys) zero = omega arith
width-within names (y ∷ ys) (suc k) =
    let e = width-within names ys k in
    let f = width-append names (parts_of y) (concatenated (map parts_of (take k ys))) in
    let g = width-append names (parts_of y) (concatenated (map parts_of ys)) in
    omega (arith, e, f, g)

pub width-next : (names : Names) (parts : List LeftSide) (k : ℕ) (x : LeftSide) → x ≡ get_or parts k x → k < length parts → parts_width names (concatenated (map parts_of (take (suc k) parts))) ≡ parts_width names (concatenated (map parts_of (take k parts))) + parts_width names (parts_of x)
width-next names parts k x is h = ap (parts_width names) (parts_take parts k x is h) ∙ width-append names (concatenated (map parts_of (take k parts))) (parts_of x)

-- one part more has no more bits than all
pub width-fits : (names : Names) (parts : List LeftSide) (k : ℕ) (x : LeftSide) (n : ℕ) → x ≡ get_or parts k x → k < length parts → parts_width names (concatenated (map parts_of parts)) ≤ n → parts_width names (concatenated (map parts_of (take k parts))) + parts_width names (parts_of x) ≤ n
width-fits names parts k x n is h all =
    let e = width-next names parts k x is h in
    let f = width-within names parts (suc k) in
    omega (arith, e, f, all)

-- an error in one part
pub element-short : (names : Names) (parts : List LeftSide) (k : ℕ) (x : LeftSide) (a m : Building) (xs ys : List Piece) (e : ElabError) → x ≡ get_or parts k x → k < length parts → MakesPieces names (concatenated (map parts_of (take k parts))) a m xs ys → IsShort (length m.cells + indices_cells names (parts_of x)) e → IsShort (length a.cells + indices_cells names (concatenated (map parts_of parts))) e
element-short names parts k x a m xs ys e is h f short =
    let n = makes-counted names (concatenated (map parts_of (take k parts))) a m xs ys f in
    let next = ap (indices_cells names) (parts_take parts k x is h) ∙ cells-append names (concatenated (map parts_of (take k parts))) (parts_of x) in
    let within = cells-within names parts (suc k) in
    more_short (length m.cells + indices_cells names (parts_of x)) (length a.cells + indices_cells names (concatenated (map parts_of parts))) e (omega (arith, n, next, within)) short

-- What the code of one part asks and gives.

pub clear-bit : (names : Names) (n : Identifier) (span : Span) (i : Expr) → CanWrite names (record { name = n; select = BitOf span i }) → is_constant names i ≡ false → refusals names i (sense names i).shape ≡ []
clear-bit names n span i can e = can.1.index (record { place = span; expr = i }) (rw e refl)

pub clear-indexed : (names : Names) (n : Identifier) (span : Span) (base count : Expr) → CanWrite names (record { name = n; select = Indexed span base count }) → is_constant names base ≡ false → refusals names base (sense names base).shape ≡ []
clear-indexed names n span base count can e = can.1.index (record { place = span; expr = base }) (rw e refl)
