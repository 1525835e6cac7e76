-- The pieces of a left side are written from the last one on, and what an assignment has changed.
use Rattle.proc_muxes.proofs.Common.{◌≡◌, ℕ, suc, ◌+◌, ◌-◌, ◌<◌, ◌≤◌, max, ℤ, Bool, List, [], ◌∷◌, ◌++◌, take, drop, length, get_or, Option, Some, None, refl, sym, ◌∙◌, ap, subst, arith, append-nil}
use Rattle.proc_muxes.proofs.Common.{take-length, length-take-le, length-drop, Span, Bit, Put, Expr, bound_integer, Names, nothing, sense, assigned, Part, Vector, part_vector, part_width, width_by}
use Rattle.proc_muxes.proofs.Common.{parts_of, parts_width, select_base, bits_from, written, Assigning, Done, Assign, Target, part_targets, parts_targets, Building, Grows, AllBelow, Evaluates, made}
use Rattle.proc_muxes.proofs.Common.{IsShort, ElabError, count, more_short, below_later, grown_nets, grows_again, Change, Piece, Place, From, At, Work, held, with_held, IsLaid, Index, variable_index}
use Rattle.proc_muxes.proofs.Common.{PutsPart, PutsParts, BuildsIndices, distinct, AreHeld, put_cells, puts_cells, place_cells, pieces_cells, assign_cells, vector_at, IsPlace, indices_of, IsPiece}
use Rattle.proc_muxes.proofs.Common.{ArePieces, IsHeldPiece, AreHeldPieces, sizes, piece_target, piece_targets, MakesPieces, Keeps, PutsAt, change_of, changes_of, joined, Built}
use Rattle.vlog_meaning.specs.declared.bound.Bound.{Bound}
use Rattle.proc_muxes.specs.Pieces.{index_bits}
use Rattle.proc_muxes.proofs.Bits.{length-written, below-written, below-take, below-drop}
use Rattle.proc_muxes.proofs.Frames.{keeps-grown, keeps-again, keeps-turned, keeps-widths, keeps-held, stands-held, held-grown}
use Rattle.proc_muxes.proofs.Keeping.{keeps-cell, grows-indices}
use Rattle.proc_muxes.proofs.Joining.{join-all}
use Rattle.proc_muxes.proofs.Merging.{changes-same}
use Rattle.proc_muxes.proofs.Piecing.{makes-grows, makes-counted}

-- One piece at a known place.

-- the bits that were written from a number on
abbrev WritesFrom : Bool → Piece → Bound → List Bit → Work → Work → Type 0
WritesFrom kind x base bits a b = (v : Vector) → v.low ≡ x.low → v.width ≡ length (held a kind x.number) → b ≡ with_held kind x.number (written (held a kind x.number) (bits_from v (bound_integer base) (length bits)) bits) a

pub keeps-from : (kind : Bool) (x : Piece) (base : Bound) (bits : List Bit) (a b : Work) → IsHeldPiece a kind x → AllBelow a.building.nets bits → WritesFrom kind x base bits a b → Keeps (piece_target kind x ∷ []) a b
keeps-from kind x base bits a b h below f =
    let old : List Bit = held a kind x.number in
    let v : Vector = record { number = x.number; width = length old; low = x.low } in
    let ps : List (Option ℕ) = bits_from v (bound_integer base) (length bits) in
    subst (λ (w : Work). Keeps (piece_target kind x ∷ []) a w) (sym (f v refl refl))
    (keeps-held (piece_target kind x) (written old ps bits) a h.known (length-written old ps bits) (λ s. below-written a.building.nets old ps bits (stands-held a kind x.number s) below))

-- One piece at an index.

pub keeps-at : (kind : Bool) (x : Piece) (span : Span) (index bits : List Bit) (a b : Work) → IsHeldPiece a kind x → PutsAt span kind x.number index bits a b → Keeps (piece_target kind x ∷ []) a b
keeps-at kind x span index bits a b h f =
    let old : List Bit = held a kind x.number in
    subst (λ (w : Work). Keeps (piece_target kind x ∷ []) a w) (sym f.2)
    (keeps-cell (piece_target kind x) Put (old ∷ index ∷ bits ∷ []) (length old) span a f.0 h.known refl f.1)

-- Pieces.

held-piece : (ts : List Target) (kind : Bool) (a b : Work) (x : Piece) → Keeps ts a b → IsHeldPiece a kind x → IsHeldPiece b kind x
held-piece ts kind a b x k h = record {
  known = rw k.adds.count h.known;
  long = keeps-widths ts a b k kind x.number ∙ h.long;
  some = h.some;
  narrow = h.narrow;
}

pub held-pieces : (ts : List Target) (kind : Bool) (a b : Work) (xs : List Piece) → Keeps ts a b → AreHeldPieces a kind xs → AreHeldPieces b kind xs
held-pieces ts kind a b [] k h = tt
held-pieces ts kind a b (x ∷ xs) k h = (held-piece ts kind a b x k h.0, held-pieces ts kind a b xs k h.1)

pub pieces-held : (names : Names) (kind : Bool) (a : Work) (ps : List Part) (xs : List Piece) → ArePieces names ps xs → AreHeld a (parts_targets kind names ps) → AreHeldPieces a kind xs
pieces-held names kind a [] [] f h = tt
pieces-held names kind a [] (x ∷ xs) f h = absurd f
pieces-held names kind a (p ∷ ps) [] f h = absurd f
pieces-held names kind a (p ∷ ps) (x ∷ xs) f h =
    let k = subst (λ (o : Option Vector). AreHeld a (part_targets kind p o ++ parts_targets kind names ps)) f.0.vector h in
    (record { known = k.0.known; long = k.0.long; some = k.0.some; narrow = k.0.narrow }, pieces-held names kind a ps xs f.1 k.1)

pub sizes-are : (names : Names) (ps : List Part) (xs : List Piece) → ArePieces names ps xs → parts_width names ps ≡ sizes xs
sizes-are names [] [] f = refl
sizes-are names [] (x ∷ xs) f = absurd f
sizes-are names (p ∷ ps) [] f = absurd f
sizes-are names (p ∷ ps) (x ∷ xs) f =
    let here : part_width names p ≡ x.size = ap (λ (o : Option Vector). width_by names p.select o) f.0.vector ∙ f.0.size in
    let later = sizes-are names ps xs f.1 in
    omega (arith, here, later)

-- pieces make as many puts as their parts
place-counted : (o : Option Index) (base : ℤ) (place : Place) → IsPlace o base place → put_cells o ≡ place_cells place
place-counted None base (From bound) h = refl
place-counted None base (At index span) h = absurd h
place-counted (Some i) base (From bound) h = absurd h
place-counted (Some i) base (At index span) h = refl

pub puts-counted : (names : Names) (ps : List Part) (xs : List Piece) → ArePieces names ps xs → puts_cells names ps ≡ pieces_cells xs
puts-counted names [] [] f = refl
puts-counted names [] (x ∷ xs) f = absurd f
puts-counted names (p ∷ ps) [] f = absurd f
puts-counted names (p ∷ ps) (x ∷ xs) f =
    let here = place-counted (variable_index names p.select) (select_base names nothing (vector_at x) p.select) x.place f.0.place in
    let later = puts-counted names ps xs f.1 in
    omega (arith, here, later)

-- a list by its first item and the others
pub split-list : (l : List Piece) (x : Piece) (k : ℕ) → 1 ≤ length l → x ≡ get_or l 0 x → k ≡ length l - 1 → l ≡ x ∷ take k (drop 1 l)
split-list [] x k some is e = absurd (omega arith)
split-list (y ∷ more) x k some is e =
    let long : k ≡ length more = (let j : suc (length more) - 1 ≡ length more = omega arith in e ∙ j) in
    let all : take k more ≡ more = ap (λ (n : ℕ). take n more) long ∙ take-length more in
    ap (λ (z : Piece). z ∷ more) (sym is) ∙ ap (λ (l : List Piece). x ∷ l) (sym all)

pub puts-none : (kind : Bool) (l : List Piece) (bits : List Bit) (a : Work) → length l < 1 → (names : Names) (ps : List Part) → ArePieces names ps l → PutsParts kind names ps bits (indices_of l) a a
puts-none kind [] bits a h names [] f = refl
puts-none kind [] bits a h names (p ∷ ps) f = absurd f
puts-none kind (x ∷ xs) bits a h names ps f = absurd (omega arith)

puts-first : (kind : Bool) (x : Piece) (xs : List Piece) (bits : List Bit) (rest : ℕ) (a m b : Work) → rest ≡ sizes xs → ((names : Names) (ps : List Part) → ArePieces names ps xs → PutsParts kind names ps (take rest bits) (indices_of xs) a m) → ((names : Names) (p : Part) → IsPiece names p x → PutsPart kind names p (part_vector names p) (drop rest bits) (index_bits x.place) m b) → (names : Names) (ps : List Part) → ArePieces names ps (x ∷ xs) → PutsParts kind names ps bits (indices_of (x ∷ xs)) a b
puts-first kind x xs bits rest a m b e f g names [] h = absurd h
puts-first kind x xs bits rest a m b e f g names (p ∷ ps) h =
    let same : rest ≡ parts_width names ps = e ∙ sym (sizes-are names ps xs h.1) in (
      m,
      subst (λ (n : ℕ). PutsParts kind names ps (take n bits) (indices_of xs) a m) same (f names ps h.1),
      subst (λ (n : ℕ). PutsPart kind names p (part_vector names p) (drop n bits) (index_bits x.place) m b) same (g names p h.0),
    )

pub puts-more : (kind : Bool) (l : List Piece) (x : Piece) (xs : List Piece) (bits : List Bit) (rest : ℕ) (a m b : Work) → l ≡ x ∷ xs → rest ≡ sizes xs → ((names : Names) (ps : List Part) → ArePieces names ps xs → PutsParts kind names ps (take rest bits) (indices_of xs) a m) → ((names : Names) (p : Part) → IsPiece names p x → PutsPart kind names p (part_vector names p) (drop rest bits) (index_bits x.place) m b) → (names : Names) (ps : List Part) → ArePieces names ps l → PutsParts kind names ps bits (indices_of l) a b
puts-more kind l x xs bits rest a m b is e f g =
    subst (λ (t : List Piece). (names : Names) (ps : List Part) → ArePieces names ps t → PutsParts kind names ps bits (indices_of t) a b) (sym is) (puts-first kind x xs bits rest a m b e f g)

pub keeps-more : (kind : Bool) (l : List Piece) (x : Piece) (xs : List Piece) (a m b : Work) → l ≡ x ∷ xs → Keeps (piece_targets kind xs) a m → Keeps (piece_target kind x ∷ []) m b → Keeps (piece_targets kind l) a b
keeps-more kind l x xs a m b is f g =
    subst (λ (t : List Piece). Keeps (piece_targets kind t) a b) (sym is)
    (keeps-turned (piece_targets kind xs) (piece_target kind x ∷ []) a b (keeps-again (piece_targets kind xs) (piece_target kind x ∷ []) a m b f g))

-- Changes.

pub changes-pieces : (names : Names) (kind : Bool) (a : Work) (ps : List Part) (xs : List Piece) → ArePieces names ps xs → changes_of a (piece_targets kind xs) ≡ changes_of a (parts_targets kind names ps)
changes-pieces names kind a [] [] f = refl
changes-pieces names kind a [] (x ∷ xs) f = absurd f
changes-pieces names kind a (p ∷ ps) [] f = absurd f
changes-pieces names kind a (p ∷ ps) (x ∷ xs) f =
    subst (λ (o : Option Vector). changes_of a (piece_targets kind (x ∷ xs)) ≡ changes_of a (part_targets kind p o ++ parts_targets kind names ps)) (sym f.0.vector)
    (ap (λ (l : List Change). change_of a (piece_target kind x) ∷ l) (changes-pieces names kind a ps xs f.1))

-- An assignment.

pub assignment-built : (s : Assigning) (a b : Work) (mid last : Building) (right : List Bit) (xs : List Piece) (cs : List Change) → Evaluates s.names s.right (assigned (sense s.names s.right) (parts_width s.names (parts_of s.left))) a.building mid right → IsLaid s.names s.right (assigned (sense s.names s.right) (parts_width s.names (parts_of s.left))) a.building mid right → MakesPieces s.names (parts_of s.left) mid last [] xs → ((names : Names) (ps : List Part) → ArePieces names ps xs → PutsParts s.is_blocking names ps (take (parts_width s.names (parts_of s.left)) right) (indices_of xs) (record a { building = last }) b) → cs ≡ joined [] (changes_of (record a { building = last }) (piece_targets s.is_blocking xs)) → Built (Assign s Done) a b cs
assignment-built s a b mid last right xs cs ev laid makes puts is =
    let ps : List Part = parts_of s.left in
    let ts : List Target = parts_targets s.is_blocking s.names ps in
    let c : Work = record a { building = last } in
    let are : ArePieces s.names ps xs = subst (λ (l : List Piece). ArePieces s.names ps l) (sym makes.joined) makes.are in
    let built : BuildsIndices s.names ps mid last (indices_of xs) = subst (λ (l : List Piece). BuildsIndices s.names ps mid last (indices_of l)) (sym makes.joined) makes.built in
    let grows : Grows a.building last = grows_again a.building mid last ev.grows (grows-indices s.names ps mid last (indices_of xs) built) in
    record {
      builds = (b, (mid, last, right, indices_of xs, ev, built, puts s.names ps are, laid), refl);
      changes_are =
          is
          ∙ ap (λ (l : List Change). joined [] l) (changes-pieces s.names s.is_blocking c ps xs are ∙ changes-same a c ts (λ kind n. held-grown a last kind n grows))
          ∙ join-all a ts
          ∙ ap (λ (l : List Target). changes_of a (distinct l)) (sym (append-nil ts));
    }

pub right-below : (names : Names) (ps : List Part) (a mid last : Building) (w width : ℕ) (right : List Bit) (xs ys : List Piece) → AllBelow mid.nets right → MakesPieces names ps mid last xs ys → AllBelow last.nets (take width right)
right-below names ps a mid last w width right xs ys below makes =
    below_later mid.nets last.nets (take width right) (grown_nets mid last (makes-grows names ps mid last xs ys makes)) (below-take mid.nets width right below)

-- Where there are too many cells.

-- the bits of a right side at its width
abbrev pub RightIs : Assigning → Building → Building → List Bit → Type 0
RightIs s a mid right = Evaluates s.names s.right (assigned (sense s.names s.right) (parts_width s.names (parts_of s.left))) a mid right

abbrev pub right_cells : Assigning → ℕ
right_cells s = length (made s.names s.right (assigned (sense s.names s.right) (parts_width s.names (parts_of s.left))))

right-counted : (s : Assigning) (a mid : Building) (right : List Bit) → RightIs s a mid right → length mid.cells ≡ length a.cells + right_cells s
right-counted s a mid right f = count a mid right _ _ (made s.names s.right (assigned (sense s.names s.right) (parts_width s.names (parts_of s.left)))) f

pub short-puts : (s : Assigning) (a mid last : Building) (right : List Bit) (xs : List Piece) (e : ElabError) → RightIs s a mid right → MakesPieces s.names (parts_of s.left) mid last [] xs → IsShort (length last.cells + pieces_cells xs) e → IsShort (length a.cells + assign_cells s) e
short-puts s a mid last right xs e f g h =
    let n = right-counted s a mid right f in
    let m = makes-counted s.names (parts_of s.left) mid last [] xs g in
    let are : ArePieces s.names (parts_of s.left) xs = subst (λ (l : List Piece). ArePieces s.names (parts_of s.left) l) (sym g.joined) g.are in
    let puts = puts-counted s.names (parts_of s.left) xs are in
    more_short (length last.cells + pieces_cells xs) (length a.cells + assign_cells s) e (omega (arith, n, m, puts)) h

-- What is asked of the pieces.

-- pieces that were made from no others
pub made-pieces : (names : Names) (ps : List Part) (a b : Building) (xs : List Piece) → MakesPieces names ps a b [] xs → ArePieces names ps xs
made-pieces names ps a b xs f = subst (λ (l : List Piece). ArePieces names ps l) (sym f.joined) f.are

-- the variables after the cells of the right side and the indices
pub grown-work : (s : Assigning) (a : Work) (mid last : Building) (right : List Bit) (xs : List Piece) → RightIs s a.building mid right → MakesPieces s.names (parts_of s.left) mid last [] xs → Keeps [] a (record a { building = last })
grown-work s a mid last right xs f g =
    keeps-grown a last (grows_again a.building mid last f.grows (makes-grows s.names (parts_of s.left) mid last [] xs g))

pub made-held : (s : Assigning) (a : Work) (mid last : Building) (right : List Bit) (xs : List Piece) → RightIs s a.building mid right → MakesPieces s.names (parts_of s.left) mid last [] xs → AreHeld a (parts_targets s.is_blocking s.names (parts_of s.left)) → AreHeldPieces (record a { building = last }) s.is_blocking xs
made-held s a mid last right xs f g h =
    held-pieces [] s.is_blocking a (record a { building = last }) xs (grown-work s a mid last right xs f g) (pieces-held s.names s.is_blocking a (parts_of s.left) xs (made-pieces s.names (parts_of s.left) mid last xs g) h)

-- as many bits are written as the pieces have
pub taken-long : (s : Assigning) (mid last : Building) (right : List Bit) (xs : List Piece) (own : ℕ) → length right ≡ max own (parts_width s.names (parts_of s.left)) → MakesPieces s.names (parts_of s.left) mid last [] xs → length (take (parts_width s.names (parts_of s.left)) right) ≡ sizes xs
taken-long s mid last right xs own long g =
    let w : ℕ = parts_width s.names (parts_of s.left) in
    let enough : w ≤ length right = omega (arith, long) in
    length-take-le w right enough ∙ sizes-are s.names (parts_of s.left) xs (made-pieces s.names (parts_of s.left) mid last xs g)

-- The last piece, and the ones before it.

pub rest-size : (l : List Piece) (x : Piece) (xs : List Piece) (bits : List Bit) → l ≡ x ∷ xs → length bits ≡ sizes l → length bits - x.size ≡ sizes xs
rest-size l x xs bits is long =
    let all : sizes l ≡ x.size + sizes xs = ap sizes is in
    omega (arith, long, all)

pub rest-long : (l : List Piece) (x : Piece) (xs : List Piece) (bits : List Bit) → l ≡ x ∷ xs → length bits ≡ sizes l → length (take (length bits - x.size) bits) ≡ sizes xs
rest-long l x xs bits is long =
    let le : length bits - x.size ≤ length bits = omega arith in
    length-take-le (length bits - x.size) bits le ∙ rest-size l x xs bits is long

pub rest-below : (n m j k : ℕ) (bits : List Bit) → n ≤ m → AllBelow n bits → AllBelow m (take j (drop k bits))
rest-below n m j k bits le h = below_later n m (take j (drop k bits)) le (below-take n j (drop k bits) (below-drop n k bits h))

drop-all : (k : ℕ) (bits : List Bit) → take (length bits - k) (drop k bits) ≡ drop k bits
drop-all k bits = ap (λ (n : ℕ). take n (drop k bits)) (sym (length-drop k bits)) ∙ take-length (drop k bits)

pub puts-rest : (kind : Bool) (l : List Piece) (x : Piece) (xs : List Piece) (bits : List Bit) (a m b : Work) → l ≡ x ∷ xs → length bits ≡ sizes l → ((names : Names) (ps : List Part) → ArePieces names ps xs → PutsParts kind names ps (take (length bits - x.size) bits) (indices_of xs) a m) → ((names : Names) (p : Part) → IsPiece names p x → PutsPart kind names p (part_vector names p) (take (length bits - (length bits - x.size)) (drop (length bits - x.size) bits)) (index_bits x.place) m b) → (names : Names) (ps : List Part) → ArePieces names ps l → PutsParts kind names ps bits (indices_of l) a b
puts-rest kind l x xs bits a m b is long f g =
    puts-more kind l x xs bits (length bits - x.size) a m b is (rest-size l x xs bits is long) f
    (λ names p h. subst (λ (t : List Bit). PutsPart kind names p (part_vector names p) t (index_bits x.place) m b) (drop-all (length bits - x.size) bits) (g names p h))

-- What the code has, as what it stands for.

pub right-is : (s : Assigning) (a mid : Building) (right : List Bit) (x : Expr) (w : ℕ) → x ≡ s.right → w ≡ parts_width s.names (parts_of s.left) → Evaluates s.names x (assigned (sense s.names x) w) a mid right → RightIs s a mid right
right-is s a mid right x w is long f =
    subst (λ (n : ℕ). Evaluates s.names s.right (assigned (sense s.names s.right) n) a mid right) long
    (subst (λ (y : Expr). Evaluates s.names y (assigned (sense s.names y) w) a mid right) is f)

pub right-laid : (s : Assigning) (a mid : Building) (right : List Bit) (x : Expr) (w : ℕ) → x ≡ s.right → w ≡ parts_width s.names (parts_of s.left) → IsLaid s.names x (assigned (sense s.names x) w) a mid right → IsLaid s.names s.right (assigned (sense s.names s.right) (parts_width s.names (parts_of s.left))) a mid right
right-laid s a mid right x w is long f =
    subst (λ (n : ℕ). IsLaid s.names s.right (assigned (sense s.names s.right) n) a mid right) long
    (subst (λ (y : Expr). IsLaid s.names y (assigned (sense s.names y) w) a mid right) is f)

pub taken-as : (w v : ℕ) (r right : List Bit) (ys xs : List Piece) → w ≡ v → r ≡ right → ys ≡ xs → length (take v right) ≡ sizes xs → length (take w r) ≡ sizes ys
taken-as w v r right ys xs e f g h =
    ap (λ (n : ℕ). length (take n r)) e ∙ ap (λ (l : List Bit). length (take v l)) f ∙ h ∙ sym (ap sizes g)

pub puts-as : (kind : Bool) (w v : ℕ) (r right : List Bit) (ys xs : List Piece) (a b : Work) → w ≡ v → r ≡ right → ys ≡ xs → ((names : Names) (ps : List Part) → ArePieces names ps ys → PutsParts kind names ps (take w r) (indices_of ys) a b) → (names : Names) (ps : List Part) → ArePieces names ps xs → PutsParts kind names ps (take v right) (indices_of xs) a b
puts-as kind w v r right ys xs a b e f g h =
    subst (λ (l : List Piece). (names : Names) (ps : List Part) → ArePieces names ps l → PutsParts kind names ps (take v right) (indices_of l) a b) g
    (λ names ps are. subst (λ (n : ℕ). PutsParts kind names ps (take n right) (indices_of ys) a b) e (subst (λ (l : List Bit). PutsParts kind names ps (take w l) (indices_of ys) a b) f (h names ps are)))
