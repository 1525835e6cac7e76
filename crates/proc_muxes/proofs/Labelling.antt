-- The labels of an item, one after the other.
use Rattle.proc_muxes.proofs.Common.{◌≡◌, ℕ, zero, suc, ◌+◌, ◌<◌, ◌≤◌, ◌%◌, ◌/◌, Bool, true, false, List, [], ◌∷◌, ◌++◌, drop, length, get_or, refl, sym, ◌∙◌, ap, subst, arith, ◌==◌, drop_more}
use Rattle.proc_muxes.proofs.Common.{drop_all, Span, Bit, Fixed, Net, Eq, Lor, first_token, Expr, CaseKind, Shape, Names, bits_of, Selection, dont_care, Building, Grows, AllBelow, fresh_bits}
use Rattle.proc_muxes.proofs.Common.{Evaluates, made, IsShort, ElabError, count, more_short, grows_again, length_fresh, IsOf, IsLaid, AddsCell, kept, mattering, case_shape, BuildsEqual, BuildsLabel}
use Rattle.proc_muxes.proofs.Common.{BuildsMore, BuildsMatch, IsClearLabel, AreClearLabels, equal_cells, labels_cells, match_cells}
use Rattle.vlog_effects.proofs.Numbers.{length-bits_of}
use Rattle.proc_muxes.proofs.Counting.{label-counted, cell-counted}
use Rattle.proc_muxes.proofs.Gates.{kept-length}
use Rattle.proc_muxes.proofs.Keeping.{fresh-after}

-- The bits that matter.

mattering-most : (ignored : List Bool) → mattering ignored ≤ length ignored
mattering-most [] = omega arith
mattering-most (true ∷ ignored) = let k = mattering-most ignored in omega (arith, k)
mattering-most (false ∷ ignored) = let k = mattering-most ignored in omega (arith, k)

kept-below : (n : ℕ) (ignored : List Bool) (xs : List Bit) → AllBelow n xs → AllBelow n (kept ignored xs)
kept-below n [] xs h = tt
kept-below n (i ∷ ignored) [] h = tt
kept-below n (true ∷ ignored) (Fixed b ∷ xs) h = kept-below n ignored xs h
kept-below n (true ∷ ignored) (Net k ∷ xs) h = kept-below n ignored xs h.1
kept-below n (false ∷ ignored) (Fixed b ∷ xs) h = kept-below n ignored xs h
kept-below n (false ∷ ignored) (Net k ∷ xs) h = (h.0, kept-below n ignored xs h.1)

-- the bits of a list from one on are kept behind those that were found
abbrev pub KeptSo : ℕ → List Bit → ℕ → ℕ → List Bit → Type 0
KeptSo ignored xs k rest found = found ++ kept (bits_of (length (drop k xs)) rest) (drop k xs) ≡ kept (bits_of (length xs) ignored) xs

kept-here : (xs : List Bit) (k rest : ℕ) (d : Bit) → k < length xs → kept (bits_of (length (drop k xs)) rest) (drop k xs) ≡ kept ((rest % 2 == 1) ∷ bits_of (length (drop (k + 1) xs)) (rest / 2)) (get_or xs k d ∷ drop (k + 1) xs)
kept-here xs k rest d h = ap (λ (l : List Bit). kept (bits_of (length l) rest) l) (drop_more xs k d h)

pub kept_skip : (ignored : ℕ) (xs found : List Bit) (k rest : ℕ) → k < length xs → (rest % 2 == 1) ≡ true → KeptSo ignored xs k rest found → KeptSo ignored xs (k + 1) (rest / 2) found
kept_skip ignored xs found k rest h b so =
    let after : List Bit = drop (k + 1) xs in
    let d : Bit = Fixed false in
    sym (ap (λ (l : List Bit). found ++ l) (kept-here xs k rest d h ∙ ap (λ (c : Bool). kept (c ∷ bits_of (length after) (rest / 2)) (get_or xs k d ∷ after)) b)) ∙ so

-- A label.

-- the bits that matter are as many on both sides
pub kept-long : (names : Names) (kind : CaseKind) (size : Shape) (x : Expr) (bits : List Bit) (found : List Bit) → IsClearLabel names size x → length bits ≡ size.width → found ≡ kept (bits_of (length bits) (dont_care kind x)) bits → (length found ≡ mattering (bits_of size.width (dont_care kind x))) × (length found ≤ 128)
kept-long names kind size x bits found clear long is =
    let ignored : List Bool = bits_of size.width (dont_care kind x) in
    let all : length ignored ≡ size.width = length-bits_of size.width (dont_care kind x) in
    let e : length found ≡ mattering ignored =
    ap (λ (l : List Bit). length l) (is ∙ ap (λ (n : ℕ). kept (bits_of n (dont_care kind x)) bits) long) ∙ kept-length ignored bits (all ∙ sym long) in
    let most = mattering-most ignored in
    (e, omega (arith, e, most, all, clear.within.narrow))

pub kept-stands : (n k ignored : ℕ) (bits found : List Bit) → found ≡ kept (bits_of k ignored) bits → AllBelow n bits → AllBelow n found
kept-stands n k ignored bits found is h = subst (AllBelow n) (sym is) (kept-below n (bits_of k ignored) bits h)

pub equal-test : (n : ℕ) (xs ys : List Bit) (at : Span) (mid b : Building) (test : List Bit) → BuildsEqual n xs ys at mid b test → (length test ≡ 1) × AllBelow b.nets test
equal-test zero xs ys at mid b test f = (ap (λ (l : List Bit). length l) f.1, subst (AllBelow b.nets) (sym f.1) tt)
equal-test (suc n) xs ys at mid b test f =
    (ap (λ (l : List Bit). length l) f.1 ∙ length_fresh mid.nets 1, subst (AllBelow b.nets) (sym f.1) (fresh-after mid b Eq (xs ∷ ys ∷ []) 1 at f.0))

more-bit : (c : Selection) (selector : List Bit) (xs : List Expr) (before : List Bit) (a b : Building) (test : List Bit) → BuildsMore c selector xs before a b test → length before ≡ 1 → AllBelow a.nets before → (length test ≡ 1) × AllBelow b.nets test
more-bit c selector [] before a b test f one below = (ap (λ (l : List Bit). length l) f.1 ∙ one, subst (AllBelow b.nets) (sym f.1) (subst (λ (m : Building). AllBelow m.nets before) (sym f.0) below))
more-bit c selector (x ∷ more) before a b test f one below =
    more-bit c selector more (fresh_bits f.0.nets 1) f.1 b test f.5 (length_fresh f.0.nets 1) (fresh-after f.0 f.1 Lor (before ∷ f.2 ∷ []) 1 (first_token x) f.4)

-- what is built for an item's labels is one bit
pub match-bit : (c : Selection) (selector : List Bit) (xs : List Expr) (a b : Building) (test : List Bit) → BuildsMatch c selector xs a b test → (length test ≡ 1) × AllBelow b.nets test
match-bit c selector [] a b test f = absurd f
match-bit c selector (x ∷ more) a b test f =
    let l = f.2 in
    let ignored : List Bool = bits_of c.width (dont_care c.kind x) in
    let first = equal-test (mattering ignored) (kept ignored selector) (kept ignored l.1) (first_token x) l.0 f.0 f.1 l.3 in
    more-bit c selector more f.1 f.0 b test f.3 first.0 first.1

-- what compares the same bits
equal-again : (n m : ℕ) (xs ys zs ws : List Bit) (at : Span) (a b : Building) (test : List Bit) → n ≡ m → xs ≡ zs → ys ≡ ws → BuildsEqual n xs ys at a b test → BuildsEqual m zs ws at a b test
equal-again n m xs ys zs ws at a b test e f g h =
    subst (λ (k : ℕ). BuildsEqual k zs ws at a b test) e (subst (λ (l : List Bit). BuildsEqual n l ws at a b test) f (subst (λ (l : List Bit). BuildsEqual n xs l at a b test) g h))

pub label-built : (names : Names) (kind : CaseKind) (size : Shape) (selector : List Bit) (x : Expr) (old mid new : Building) (bits left right test : List Bit) → IsClearLabel names size x → length selector ≡ size.width → Evaluates names x size old mid bits → IsLaid names x size old mid bits → left ≡ kept (bits_of (length selector) (dont_care kind x)) selector → right ≡ kept (bits_of (length bits) (dont_care kind x)) bits → BuildsEqual (length left) left right (first_token x) mid new test → (c : Selection) → IsOf c names kind size → BuildsLabel c selector x old new test
label-built names kind size selector x old mid new bits left right test clear long ev laid is_left is_right f c of =
    let shape_is : case_shape c ≡ size = λ j. record { width = of.width_is j; is_signed = of.sign_is j } in
    let same : bits_of size.width (dont_care kind x) ≡ bits_of c.width (dont_care c.kind x) = λ j. bits_of (sym of.width_is j) (dont_care (sym of.kind_is j) x) in
    let of_left : length left ≡ mattering (bits_of size.width (dont_care kind x)) = (kept-long names kind size x selector left clear long is_left).0 in (
      mid,
      bits,
      subst (λ (n : Names). Evaluates n x (case_shape c) old mid bits) (sym of.names_are) (subst (λ (s : Shape). Evaluates names x s old mid bits) (sym shape_is) ev),
      equal-again (length left) (mattering (bits_of c.width (dont_care c.kind x))) left right (kept (bits_of c.width (dont_care c.kind x)) selector) (kept (bits_of c.width (dont_care c.kind x)) bits) (first_token x) mid new test
          (of_left ∙ ap mattering same)
          (is_left ∙ ap (λ (w : ℕ). kept (bits_of w (dont_care kind x)) selector) long ∙ ap (λ (i : List Bool). kept i selector) same)
          (is_right ∙ ap (λ (w : ℕ). kept (bits_of w (dont_care kind x)) bits) ev.long ∙ ap (λ (i : List Bool). kept i bits) same)
          f,
      subst (λ (n : Names). IsLaid n x (case_shape c) old mid bits) (sym of.names_are) (subst (λ (s : Shape). IsLaid names x s old mid bits) (sym shape_is) laid),
    )

pub equal-short : (names : Names) (kind : CaseKind) (size : Shape) (selector : List Bit) (x : Expr) (old mid : Building) (bits left : List Bit) (e : ElabError) → IsClearLabel names size x → length selector ≡ size.width → Evaluates names x size old mid bits → left ≡ kept (bits_of (length selector) (dont_care kind x)) selector → IsShort (length mid.cells + equal_cells (length left)) e → IsShort (length old.cells + (length (made names x size) + equal_cells (mattering (bits_of size.width (dont_care kind x))))) e
equal-short names kind size selector x old mid bits left e clear long ev is short =
    let own = count old mid bits _ _ (made names x size) ev in
    let same : equal_cells (length left) ≡ equal_cells (mattering (bits_of size.width (dont_care kind x))) = ap equal_cells (kept-long names kind size x selector left clear long is).0 in
    more_short _ _ e (omega (arith, own, same)) short

-- Labels.

pub clear-at : (names : Names) (size : Shape) (xs : List Expr) (k : ℕ) (x : Expr) → x ≡ get_or xs k x → k < length xs → AreClearLabels names size xs → IsClearLabel names size x
clear-at names size [] k x at h clear = absurd (omega arith)
clear-at names size (y ∷ ys) zero x at h clear = subst (IsClearLabel names size) (sym at) clear.0
clear-at names size (y ∷ ys) (suc k) x at h clear = clear-at names size ys k x at (omega arith) clear.1

-- what the labels that are left lead to
pub record Matched (names : Names) (kind : CaseKind) (size : Shape) (selector : List Bit) (all rest : List Expr) (old now : Building) (test : List Bit) : Type 0 where
  pub grows : Grows old now
  pub one : length test ≡ 1
  pub below : AllBelow now.nets test
  pub same : (c : Selection) → IsOf c names kind size → (end : Building) (last : List Bit) → BuildsMore c selector rest test now end last → BuildsMatch c selector all old end last
  pub count : (c : Selection) → IsOf c names kind size → length now.cells + labels_cells c rest ≡ length old.cells + match_cells c all

pub match-first : (names : Names) (kind : CaseKind) (size : Shape) (selector : List Bit) (all : List Expr) (x : Expr) (old now : Building) (test : List Bit) → x ≡ get_or all 0 x → 0 < length all → ((c : Selection) → IsOf c names kind size → BuildsLabel c selector x old now test) → Grows old now → length test ≡ 1 → AllBelow now.nets test → Matched names kind size selector all (drop 1 all) old now test
match-first names kind size selector [] x old now test at h label g one below = absurd (omega arith)
match-first names kind size selector (y ∷ ys) x old now test at h label g one below =
    let here : (c : Selection) → IsOf c names kind size → BuildsLabel c selector y old now test = λ c of. subst (λ (z : Expr). BuildsLabel c selector z old now test) at (label c of) in
    let rest : drop 1 (y ∷ ys) ≡ ys = nothing ys in
    subst (λ (l : List Expr). Matched names kind size selector (y ∷ ys) l old now test) (sym rest) (record {
      grows = g;
      one = one;
      below = below;
      same = λ c of end last more. (now, test, here c of, more);
      count = λ c of. let k = label-counted c selector y old now test (here c of) in omega (arith, k);
    }) where
      nothing : (l : List Expr) → drop 0 l ≡ l
      nothing [] = refl
      nothing (z ∷ l) = refl

pub match-more : (names : Names) (kind : CaseKind) (size : Shape) (selector : List Bit) (all : List Expr) (k : ℕ) (x : Expr) (old now mid last : Building) (test found next : List Bit) → x ≡ get_or all k x → k < length all → ((c : Selection) → IsOf c names kind size → BuildsLabel c selector x now mid found) → Grows now mid → AddsCell Lor (test ∷ found ∷ []) 1 (first_token x) mid last → next ≡ fresh_bits mid.nets 1 → Matched names kind size selector all (drop k all) old now test → Matched names kind size selector all (drop (k + 1) all) old last next
match-more names kind size selector all k x old now mid last test found next at h label g cell is m =
    let rest : drop k all ≡ x ∷ drop (k + 1) all = drop_more all k x h ∙ ap (λ (y : Expr). y ∷ drop (k + 1) all) (sym at) in
    let r : Matched names kind size selector all (x ∷ drop (k + 1) all) old now test = subst (λ (l : List Expr). Matched names kind size selector all l old now test) rest m in
    record {
      grows = grows_again old now last r.grows (grows_again now mid last g cell.0);
      one = ap (λ (l : List Bit). length l) is ∙ length_fresh mid.nets 1;
      below = subst (AllBelow last.nets) (sym is) (fresh-after mid last Lor (test ∷ found ∷ []) 1 (first_token x) cell);
      same = λ c of end t more. r.same c of end t (mid, last, found, label c of, cell, subst (λ (l : List Bit). BuildsMore c selector (drop (k + 1) all) l last end t) is more);
      count = λ c of.
          let here = label-counted c selector x now mid found (label c of) in
          let joined = cell-counted Lor (test ∷ found ∷ []) 1 (first_token x) mid last cell in
          let before = r.count c of in
          omega (arith, here, joined, before);
    }

pub match-end : (names : Names) (kind : CaseKind) (size : Shape) (selector : List Bit) (all : List Expr) (k : ℕ) (old now : Building) (test : List Bit) → length all ≤ k → Matched names kind size selector all (drop k all) old now test → (c : Selection) → IsOf c names kind size → BuildsMatch c selector all old now test
match-end names kind size selector all k old now test h m c of =
    m.same c of now test (subst (λ (l : List Expr). BuildsMore c selector l test now now test) (sym (drop_all k all h)) (refl, refl))

-- a label and its `lor` have room where all have
pub label-short : (names : Names) (kind : CaseKind) (size : Shape) (selector : List Bit) (all : List Expr) (k : ℕ) (x : Expr) (old now : Building) (test : List Bit) (e : ElabError) → x ≡ get_or all k x → k < length all → Matched names kind size selector all (drop k all) old now test → IsShort (length now.cells + (length (made names x size) + equal_cells (mattering (bits_of size.width (dont_care kind x))))) e → (c : Selection) → IsOf c names kind size → IsShort (length old.cells + match_cells c all) e
label-short names kind size selector all k x old now test e at h m short c of =
    let rest : drop k all ≡ x ∷ drop (k + 1) all = drop_more all k x h ∙ ap (λ (y : Expr). y ∷ drop (k + 1) all) (sym at) in
    let r : Matched names kind size selector all (x ∷ drop (k + 1) all) old now test = subst (λ (l : List Expr). Matched names kind size selector all l old now test) rest m in
    let shape_is : case_shape c ≡ size = λ j. record { width = of.width_is j; is_signed = of.sign_is j } in
    let own : length (made c.names x (case_shape c)) ≡ length (made names x size) = ap (λ (y : Names). length (made y x (case_shape c))) of.names_are ∙ ap (λ (s : Shape). length (made names x s)) shape_is in
    let eq : equal_cells (mattering (bits_of c.width (dont_care c.kind x))) ≡ equal_cells (mattering (bits_of size.width (dont_care kind x))) = λ j. equal_cells (mattering (bits_of (of.width_is j) (dont_care (of.kind_is j) x))) in
    let count = r.count c of in
    more_short _ (length old.cells + match_cells c all) e (omega (arith, own, eq, count)) short

pub lor-short : (names : Names) (kind : CaseKind) (size : Shape) (selector : List Bit) (all : List Expr) (k : ℕ) (x : Expr) (old now mid : Building) (test found : List Bit) (e : ElabError) → x ≡ get_or all k x → k < length all → Matched names kind size selector all (drop k all) old now test → ((c : Selection) → IsOf c names kind size → BuildsLabel c selector x now mid found) → IsShort (length mid.cells + 1) e → (c : Selection) → IsOf c names kind size → IsShort (length old.cells + match_cells c all) e
lor-short names kind size selector all k x old now mid test found e at h m label short c of =
    let rest : drop k all ≡ x ∷ drop (k + 1) all = drop_more all k x h ∙ ap (λ (y : Expr). y ∷ drop (k + 1) all) (sym at) in
    let r : Matched names kind size selector all (x ∷ drop (k + 1) all) old now test = subst (λ (l : List Expr). Matched names kind size selector all l old now test) rest m in
    let here = label-counted c selector x now mid found (label c of) in
    let count = r.count c of in
    more_short (length mid.cells + 1) (length old.cells + match_cells c all) e (omega (arith, here, count)) short
