-- What the rows of sqlite_schema say is one schema, laid out in one way.
use Rattle.std.proofs.Common.{◌≡◌, ◌≢◌, ℕ, ◌-◌, ◌<◌, Bool, false, List, [], ◌∷◌, map, length, get_or, suc, refl, sym, ap, ap₂, subst, ◌∙◌, inl, inr, arith, pos, codes}
use Rattle.sqlite_value.specs.declared.value.Value.TheVariants.{Int, Text}
use Rattle.sqlite_value.specs.Order.{Row, column, bytes}
use Rattle.sqlite_trees.specs.declared.store.Shape.{Shape}
use Rattle.sqlite_trees.specs.Objects.{number_in}
use Rattle.sqlite_trees.specs.View.{View}
use Rattle.sqlite_schema.specs.declared.schema.Schema.{Schema}
use Rattle.sqlite_rules.proofs.ListLemmas.{all_has}
use Rattle.sqlite_catalog.specs.Reading.{AreRead, coded, coded_by, IsIndexShaped, IsTableShaped, IsViewShaped}
use Rattle.sqlite_catalog.proofs.ReadLemmas.{read_once}
use Rattle.sqlite_store.specs.declared.catalog.Wanted.{Wanted}
use Rattle.sqlite_store.specs.Joined.{joined}
use Rattle.sqlite_store.specs.Listing.{listed_from}
use Rattle.sqlite.specs.Opening.{HasTree, IsListedIn, Knows, layout_at, layout_of, Meets, shape_of, Suits, unsorted}
use Rattle.sqlite.proofs.OpenLemmas.{unsorted_code, unsorted_plain}

apart_words : (row : Row) (a b : List ℕ) (k : ℕ) → get_or a k 0 ≢ get_or b k 0 → column row 1 ≡ Text a → column row 1 ≡ Text b → ⊥
apart_words row a b k other p q = other (ap (λ x. get_or (bytes x) k 0) (sym p ∙ q))

-- a row suits one shape
suits_once : (rows : List Row) (row : Row) (flag : Bool) (s t : Shape) → Suits rows row flag s → Suits rows row flag t → s ≡ t
suits_once rows row flag s t (inl a) (inl b) = a.1 ∙ sym b.1
suits_once rows row flag s t (inl a) (inr (inl b)) = absurd (elim a.0
    [ inl view ↦ apart_words row (codes "view") (codes "index") 0 (omega arith) view b.0 | inr trigger ↦ apart_words row (codes "trigger") (codes "index") 0 (omega arith) trigger b.0 ])
suits_once rows row flag s t (inl a) (inr (inr b)) = absurd (elim a.0
    [ inl view ↦ apart_words row (codes "view") (codes "table") 0 (omega arith) view b.0 | inr trigger ↦ apart_words row (codes "trigger") (codes "table") 1 (omega arith) trigger b.0 ])
suits_once rows row flag s t (inr (inl a)) (inl b) = absurd (elim b.0
    [ inl view ↦ apart_words row (codes "view") (codes "index") 0 (omega arith) view a.0 | inr trigger ↦ apart_words row (codes "trigger") (codes "index") 0 (omega arith) trigger a.0 ])
suits_once rows row flag s t (inr (inl a)) (inr (inl b)) = elim a.1 [
  | inl ours ↦ elim b.1 [ inl same ↦ ours.1 ∙ sym same.1 | inr not ↦ absurd (not.0 ours.0) ]
  | inr other ↦ elim b.1 [ inl ours ↦ absurd (other.0 ours.0) | inr same ↦ other.1 ∙ sym same.1 ]
]
suits_once rows row flag s t (inr (inl a)) (inr (inr b)) = absurd (apart_words row (codes "index") (codes "table") 0 (omega arith) a.0 b.0)
suits_once rows row flag s t (inr (inr a)) (inl b) = absurd (elim b.0
    [ inl view ↦ apart_words row (codes "view") (codes "table") 0 (omega arith) view a.0 | inr trigger ↦ apart_words row (codes "trigger") (codes "table") 1 (omega arith) trigger a.0 ])
suits_once rows row flag s t (inr (inr a)) (inr (inl b)) = absurd (apart_words row (codes "index") (codes "table") 0 (omega arith) b.0 a.0)
suits_once rows row flag s t (inr (inr a)) (inr (inr b)) = elim a.1 [
  | inl ours ↦ elim b.1 [ inl same ↦ ours.1 ∙ sym same.1 | inr not ↦ absurd (not.0 ours.0) ]
  | inr other ↦ elim b.1 [ inl ours ↦ absurd (other.0 ours.0) | inr same ↦ other.1 ∙ sym same.1 ]
]

map_same : {X Y : Type 0} (f g : X → Y) (xs : List X) → ((at : ℕ) (d : X) → at < length xs → f (get_or xs at d) ≡ g (get_or xs at d)) → map f xs ≡ map g xs
map_same f g [] same = refl
map_same f g (x ∷ xs) same = ap₂ (λ y ys. y ∷ ys) (same 0 x (omega arith)) (map_same f g xs (λ at d low. same (suc at) d (omega arith)))

-- the code of a row says nothing of an order
coded_unsorted : (row : Row) (s : Shape) → coded row (unsorted s) ≡ coded row s
coded_unsorted row s = ap (λ code. column row 0 ∷ column row 1 ∷ column row 2 ∷ column row 3 ∷ column row 4 ∷ Int (pos code) ∷ []) (unsorted_code s)

same_coded : (v w : View) (row : Row) → shape_of v row ≡ shape_of w row → coded_by v.shape row ≡ coded_by w.shape row
same_coded v w row same = sym (coded_unsorted row (layout_of v row).0) ∙ ap (coded row) same ∙ coded_unsorted row (layout_of w row).0

-- a schema lays out each tree that it lists in one way
same_layout : (v w : View) (schema : Schema) (tree : ℕ) → Knows v schema → Knows w schema → IsListedIn schema tree → unsorted (v.shape tree) ≡ unsorted (w.shape tree) → layout_at v tree ≡ layout_at w tree
same_layout v w schema tree known also (inl (inl (table, has, is))) same =
    let p = all_has (IsTableShaped v) schema.tables table known.tables has in
    let q = all_has (IsTableShaped w) schema.tables table also.tables has in
    subst (λ (k : ℕ). layout_at v k ≡ layout_at w k) is (ap₂ (λ (s : Shape) (r : ℕ). let pair : Shape × ℕ = (s, r) in pair) (p.0 ∙ sym q.0) (p.1 ∙ sym q.1))
same_layout v w schema tree known also (inl (inr (index, has, is))) same =
    let p = all_has (IsIndexShaped v schema.tables) schema.indexes index known.indexes has in
    let q = all_has (IsIndexShaped w schema.tables) schema.indexes index also.indexes has in
    let found = sym p.1.1 ∙ q.1.1 in
    let one : p.1.0 ≡ q.1.0 = cc in
    subst (λ (k : ℕ). layout_at v k ≡ layout_at w k) is (ap₂ (λ (s : Shape) (r : ℕ). let pair : Shape × ℕ = (s, r) in pair) (p.0 ∙ sym q.0) (p.1.2 ∙ rw one (sym q.1.2)))
same_layout v w schema tree known also (inr (view, has, is)) same =
    let p = all_has (IsViewShaped v) schema.views view known.views has in
    let q = all_has (IsViewShaped w) schema.views view also.views has in
    let here : unsorted (v.shape view.tree) ≡ unsorted (w.shape view.tree) = subst (λ (k : ℕ). unsorted (v.shape k) ≡ unsorted (w.shape k)) (sym is) same in
    subst (λ (k : ℕ). layout_at v k ≡ layout_at w k) is
    (ap₂ (λ (s : Shape) (r : ℕ). let pair : Shape × ℕ = (s, r) in pair) (sym (unsorted_plain (v.shape view.tree) p.1) ∙ here ∙ unsorted_plain (w.shape view.tree) q.1) (p.0 ∙ sym q.0))

same_laid : (v w : View) (schema : Schema) (row : Row) → Knows v schema → Knows w schema → HasTree schema row → shape_of v row ≡ shape_of w row → layout_of v row ≡ layout_of w row
same_laid v w schema row known also (tree, low, id, listed) same =
    let place : number_in (column row 0) - 1 ≡ tree = omega (arith, ap number_in id) in
    subst (λ (k : ℕ). layout_at v k ≡ layout_at w k) (sym place)
    (same_layout v w schema tree known also listed (subst (λ (k : ℕ). unsorted (v.shape k) ≡ unsorted (w.shape k)) place same))

-- so these rows list one list of objects
pub listed_once : (rows : List Row) (roots : List Bool) (schema other : Schema) (wanted others : List Wanted) → Meets schema wanted rows roots → Meets other others rows roots
    → listed_from 0 wanted ≡ listed_from 0 others
listed_once rows roots schema other wanted others m n =
    let shapes = λ (at : ℕ) (d : Row) (low : at < length rows). suits_once rows (get_or rows at d) (get_or roots at false) _ _ (m.suit at d low) (n.suit at d low) in
    let coded_rows : map (coded_by m.shown.shape) rows ≡ map (coded_by n.shown.shape) rows =
    map_same (coded_by m.shown.shape) (coded_by n.shown.shape) rows (λ at d low. same_coded m.shown n.shown (get_or rows at d) (shapes at d low)) in
    let read = subst (λ xs. AreRead xs schema) coded_rows m.read in
    let same : schema ≡ other = read_once _ schema other read.tables read.indexes read.views n.read in
    let known : Knows m.shown other = subst (Knows m.shown) same m.knows in
    let layouts : map (layout_of m.shown) rows ≡ map (layout_of n.shown) rows =
    map_same (layout_of m.shown) (layout_of n.shown) rows (λ at d low. same_laid m.shown n.shown other (get_or rows at d) known n.knows (n.named at d low) (shapes at d low)) in
    sym m.whole ∙ ap (joined rows) layouts ∙ n.whole
