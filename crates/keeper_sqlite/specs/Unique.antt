-- Rows stand for one book: lemmas that the laws of the keeper rest on.
use Rattle.std.proofs.Common.{◌≡◌, ◌≢◌, suc, length, inl, inr, arith, ℕ, ◌+◌, ◌≤◌, pos, List, [], ◌∷◌, map, filter, Bool, true, false, not, refl, sym, ap, subst, ◌∙◌, IsPermutation, nat_lt}
use Rattle.std.specs.List.{AllByRecursion, AllZip}
use Rattle.std.proofs.lemmas.List.Sorted.{IsPermutation-map, IsPermutation-sym, IsPermutation-trans, length_permutation}
use Rattle.std.proofs.lemmas.Bool.{lt-ltb}
use Rattle.sqlite_trees.proofs.ListLemmas.{all_of, filter_same, all_weaker, all-permutation, filter_all, filter_none, IsPermutation-filter}
use Rattle.sqlite.proofs.Callers.{one_permutation}
use Rattle.sqlite.specs.declared.types.Value.{Value}
use Rattle.sqlite.specs.declared.types.Value.TheVariants.{Int, Blob}
use Rattle.sqlite.specs.Order.{Row, column}
use Rattle.sqlite.specs.Tree.{Trees}
use Rattle.mcy_keeper.specs.declared.book.Entry.{Entry}
use Rattle.mcy_keeper.specs.declared.book.Book.{Book}
use Rattle.sqlite.specs.Schema.{Schema}
use Rattle.sqlite.specs.Effect.{IsDatabase}
use Rattle.keeper_sqlite.specs.declared.read.JournalTable.{JournalTable}
use Rattle.keeper_sqlite.specs.declared.read.JournalTable.TheVariants.{First, Second}
use Rattle.keeper_sqlite.specs.Tables.{IsBookSchema, IsFirstSchema, no_schema}
use Rattle.keeper_sqlite.specs.Stands.{StandsFor}
use Rattle.keeper_sqlite.specs.Rows.{entry_row, item_rows, other_of, rows_in, table_of, FitsTable, RisesFrom, HoldsJournal, HoldsBook}

-- For proofs alone.

-- a list of things under numbers that rise
abbrev Rises : {X : Type 0} → (X → ℕ) → ℕ → List X → Type 0
Rises key low [] = Unit {0}
Rises key low (x ∷ xs) = (low ≤ key x) × Rises key (key x + 1) xs

at_least : {X : Type 0} (key : X → ℕ) (low : ℕ) (xs : List X) → Rises key low xs → AllByRecursion (λ x. low ≤ key x) xs
at_least key low [] up = tt
at_least key low (x ∷ xs) up = (up.0, all_weaker _ (λ y. low ≤ key y) (λ y h. omega (arith, up.0)) xs (at_least key (key x + 1) xs up.1))

module _ {X : Type 0} (key : X → ℕ) where
  above : X → X → Bool
  above x y = nat_lt (key x) (key y)

  not_itself : (x : X) → above x x ≡ false
  unfolding above
  not_itself x = grind arith

  all_above : (x : X) (xs : List X) → Rises key (key x + 1) xs → AllByRecursion (λ y. above x y ≡ true) xs
  unfolding above
  all_above x xs up = all_weaker _ (λ y. nat_lt (key x) (key y) ≡ true) (λ y h. lt-ltb (key x) (key y) (omega arith)) xs (at_least key (key x + 1) xs up)

  rest_above : (x : X) (xs : List X) → Rises key (key x + 1) xs → filter (above x) (x ∷ xs) ≡ xs
  rest_above x xs up = rw (not_itself x) (filter_all (above x) xs (all_above x xs up))

  below : X → X → Bool
  below x y = not (above x y)

  front : (x : X) (xs : List X) → Rises key (key x + 1) xs → filter (below x) (x ∷ xs) ≡ x ∷ []
  unfolding below
  front x xs up = rw (not_itself x, filter_none (λ y. not (above x y)) xs (all_weaker _ (λ y. not (above x y) ≡ false) (λ y h. ap not h) xs (all_above x xs up)))

  same_above : (x y : X) → key x ≡ key y → (z : X) → above x z ≡ above y z
  unfolding above
  same_above x y e z = ap (λ n. nat_lt n (key z)) e

  -- two rising lists with the same members are the same
  pub one_rising : (low low2 : ℕ) (xs ys : List X) → Rises key low xs → Rises key low2 ys → IsPermutation xs ys → xs ≡ ys
  unfolding below
  one_rising low low2 [] [] p q same = refl
  one_rising low low2 [] (y ∷ ys) p q same = absurd (omega (arith, length_permutation _ _ same))
  one_rising low low2 (x ∷ xs) [] p q same = absurd (omega (arith, length_permutation _ _ same))
  one_rising low low2 (x ∷ xs) (y ∷ ys) p q same =
      let x_first : key x ≤ key y = (all-permutation (λ z. key x ≤ key z) (x ∷ xs) (y ∷ ys) same (at_least key (key x) (x ∷ xs) (omega arith, p.1))).0 in
      let y_first : key y ≤ key x = (all-permutation (λ z. key y ≤ key z) (y ∷ ys) (x ∷ xs) (IsPermutation-sym _ _ same) (at_least key (key y) (y ∷ ys) (omega arith, q.1))).0 in
      let level : key x ≡ key y = omega arith in
      let rest : IsPermutation xs ys =
      subst (IsPermutation xs) (filter_same (above x) (above y) (y ∷ ys) (all_of _ (same_above x y level) (y ∷ ys)) ∙ rest_above y ys q.1)
      (subst (λ l. IsPermutation l (filter (above x) (y ∷ ys))) (rest_above x xs p.1) (IsPermutation-filter (above x) _ _ same)) in
      let head : IsPermutation (x ∷ []) (y ∷ []) =
      subst (IsPermutation (x ∷ [])) (filter_same (below x) (below y) (y ∷ ys) (all_of _ (λ z. ap not (same_above x y level z)) (y ∷ ys)) ∙ front y ys q.1)
      (subst (λ l. IsPermutation l (filter (below x) (y ∷ ys))) (front x xs p.1) (IsPermutation-filter (below x) _ _ same)) in
      let one : y ∷ [] ≡ x ∷ [] = one_permutation x (y ∷ []) head in
      let equal : x ≡ y = cc in
      λ i. equal i ∷ one_rising (key x + 1) (key y + 1) xs ys p.1 q.1 rest i

-- ---- the rows of a book

abbrev num : Value → ℕ
num (Int (pos n)) = n
num _ = 0

abbrev body : Value → List ℕ
body (Blob b) = b
body _ = []

abbrev entry_in : Row → Entry
entry_in r = record { seq = num (column r 0); mutation = num (column r 2); test = num (column r 3); word = num (column r 4); mark = num (column r 5); tags = num (column r 6); bound = num (column r 7) }

-- a row of `journal` has no eighth column, which reads as a bound of 0
one_in : (table : JournalTable) (e : Entry) → FitsTable table e → entry_in (entry_row table e) ≡ e
one_in First e fit = λ i. record e { bound = sym fit i }
one_in Second e fit = refl

entries_in : (table : JournalTable) (entries : List Entry) → AllByRecursion (FitsTable table) entries → map entry_in (map (entry_row table) entries) ≡ entries
entries_in table [] fit = refl
entries_in table (e ∷ entries) fit = λ i. one_in table e fit.0 i ∷ entries_in table entries fit.1 i

bodies_in : (n : ℕ) (bodies : List (List ℕ)) → map (λ r. body (column r 2)) (item_rows n bodies) ≡ bodies
bodies_in n [] = refl
bodies_in n (b ∷ bodies) = ap (λ l. b ∷ l) (bodies_in (n + 1) bodies)

entries_rise : (low : ℕ) (entries : List Entry) → RisesFrom low entries → Rises (λ (e : Entry). e.seq) low entries
entries_rise low [] up = tt
entries_rise low (e ∷ entries) up = (up.0, entries_rise (e.seq + 1) entries up.1)

items_rise : (n : ℕ) (bodies : List (List ℕ)) → Rises (λ (r : Row). num (column r 0)) n (item_rows n bodies)
items_rise n [] = tt
items_rise n (b ∷ bodies) = (omega arith, items_rise (n + 1) bodies)

pub journal_one : (table : JournalTable) (rows : List Row) (a b : List Entry) → HoldsJournal table rows a → HoldsJournal table rows b → a ≡ b
journal_one table rows a b p q =
    let same : IsPermutation (map entry_in (map (entry_row table) a)) (map entry_in (map (entry_row table) b)) = IsPermutation-map entry_in _ _ (IsPermutation-trans _ _ _ p.same (IsPermutation-sym _ _ q.same)) in
    let both : IsPermutation a b = subst (λ l. IsPermutation l b) (entries_in table a p.fit) (subst (IsPermutation (map entry_in (map (entry_row table) a))) (entries_in table b q.fit) same) in
    one_rising (λ (e : Entry). e.seq) 0 0 a b (entries_rise 0 a p.rising) (entries_rise 0 b q.rising) both

items_one : (rows : List Row) (a b : List (List ℕ)) → IsPermutation (item_rows 0 a) rows → IsPermutation (item_rows 0 b) rows → a ≡ b
items_one rows a b p q =
    let same = one_rising (λ (r : Row). num (column r 0)) 0 0 (item_rows 0 a) (item_rows 0 b) (items_rise 0 a) (items_rise 0 b) (IsPermutation-trans _ _ _ p (IsPermutation-sym _ _ q)) in
    sym (bodies_in 0 a) ∙ ap (map (λ (r : Row). body (column r 2))) same ∙ bodies_in 0 b

-- books with the same items of meta have their rows in the same journal
same_table : (a b : Book) → a.meta ≡ b.meta → table_of a ≡ table_of b
same_table a b same = ap (λ (meta : List (List ℕ)). table_of (record { meta = meta; mutations = []; journal = [] })) same

pub book_one : (schema : Schema) (trees : Trees) (a b : Book) → HoldsBook schema trees a → HoldsBook schema trees b → a ≡ b
book_one schema trees a b p q =
    let meta = items_one (trees 0) a.meta b.meta p.meta q.meta in
    let mutations = items_one (trees 1) a.mutations b.mutations p.mutations q.mutations in
    let other : HoldsJournal (table_of a) (rows_in schema trees (table_of a)) b.journal =
    subst (λ table. HoldsJournal table (rows_in schema trees table) b.journal) (sym (same_table a b meta)) q.journal in
    let journal = journal_one (table_of a) (rows_in schema trees (table_of a)) a.journal b.journal p.journal other in
    λ i. record { meta = meta i; mutations = mutations i; journal = journal i }

-- ---- which tables there are

zip_length : {A B : Type 0} (R : A → B → Type 0) (xs : List A) (ys : List B) → AllZip R xs ys → length xs ≡ length ys
zip_length R [] [] all = refl
zip_length R [] (y ∷ ys) all = absurd all
zip_length R (x ∷ xs) [] all = absurd all
zip_length R (x ∷ xs) (y ∷ ys) all = ap suc (zip_length R xs ys all.1)

-- trees list one number of tables
same_count : (trees : Trees) (s t : Schema) → IsDatabase (record { schema = s; trees = trees }) → IsDatabase (record { schema = t; trees = trees }) → length s.tables ≡ length t.tables
same_count trees s t one two = sym (zip_length _ _ _ one.lists.listed.tables) ∙ zip_length _ _ _ two.lists.listed.tables

clash : (trees : Trees) (s t : Schema) (m n : ℕ) → length s.tables ≡ m → length t.tables ≡ n → m ≢ n → IsDatabase (record { schema = s; trees = trees }) → IsDatabase (record { schema = t; trees = trees }) → ⊥
clash trees s t m n p q apart one two = apart (sym p ∙ same_count trees s t one two ∙ q)

four : (s : Schema) → IsBookSchema s → length s.tables ≡ 4
four s b = ap (λ (x : Schema). length x.tables) b.is

three : (s : Schema) → IsFirstSchema s → length s.tables ≡ 3
three s b = ap (λ (x : Schema). length x.tables) b.is

-- the rows of `journal2` are the same, whichever schema of a book the trees are read by
same_rows : (trees : Trees) (s t : Schema) → IsBookSchema s → IsBookSchema t → (table : JournalTable) → rows_in s trees table ≡ rows_in t trees table
same_rows trees s t p q First = refl
same_rows trees s t p q Second = ap (λ (x : Schema). rows_in x trees Second) p.is ∙ sym (ap (λ (x : Schema). rows_in x trees Second) q.is)

pub read_alike : (s t : Schema) (trees : Trees) (book : Book) → ((table : JournalTable) → rows_in s trees table ≡ rows_in t trees table) → HoldsBook s trees book → HoldsBook t trees book
read_alike s t trees book same holds = record {
  meta = holds.meta;
  mutations = holds.mutations;
  journal = subst (λ rows. HoldsJournal (table_of book) rows book.journal) (same (table_of book)) holds.journal;
  other = sym (same (other_of (table_of book))) ∙ holds.other;
}

-- three tables have no `journal2`
no_second : (s t : Schema) (trees : Trees) → IsFirstSchema s → IsFirstSchema t → (table : JournalTable) → rows_in s trees table ≡ rows_in t trees table
no_second s t trees p q First = refl
no_second s t trees p q Second = ap (λ (x : Schema). rows_in x trees Second) p.is ∙ sym (ap (λ (x : Schema). rows_in x trees Second) q.is)

-- trees stand for one book
pub stands_one : (trees : Trees) (a b : Book) → StandsFor trees a → StandsFor trees b → a ≡ b
stands_one trees a b (inl p) (inl q) = book_one q.0 trees a b (read_alike p.0 q.0 trees a (same_rows trees p.0 q.0 p.1.tables q.1.tables) p.1.rows) q.1.rows
stands_one trees a b (inl p) (inr (inl q)) = absurd (clash trees p.0 q.0 4 3 (four p.0 p.1.tables) (three q.0 q.1.tables) (omega arith) p.1.sound q.1.sound)
stands_one trees a b (inl p) (inr (inr q)) = absurd (clash trees p.0 no_schema 4 0 (four p.0 p.1.tables) refl (omega arith) p.1.sound q.0)
stands_one trees a b (inr (inl p)) (inl q) = absurd (clash trees p.0 q.0 3 4 (three p.0 p.1.tables) (four q.0 q.1.tables) (omega arith) p.1.sound q.1.sound)
stands_one trees a b (inr (inl p)) (inr (inl q)) = book_one q.0 trees a b (read_alike p.0 q.0 trees a (no_second p.0 q.0 trees p.1.tables q.1.tables) p.1.rows) q.1.rows
stands_one trees a b (inr (inl p)) (inr (inr q)) = absurd (clash trees p.0 no_schema 3 0 (three p.0 p.1.tables) refl (omega arith) p.1.sound q.0)
stands_one trees a b (inr (inr p)) (inl q) = absurd (clash trees no_schema q.0 0 4 refl (four q.0 q.1.tables) (omega arith) p.0 q.1.sound)
stands_one trees a b (inr (inr p)) (inr (inl q)) = absurd (clash trees no_schema q.0 0 3 refl (three q.0 q.1.tables) (omega arith) p.0 q.1.sound)
stands_one trees a b (inr (inr p)) (inr (inr q)) = p.1 ∙ sym q.1

-- by the schema that the trees are known to have
pub stands_in : (schema : Schema) (trees : Trees) (book : Book) → IsFirstSchema schema → IsDatabase (record { schema = schema; trees = trees }) → StandsFor trees book → HoldsBook schema trees book
stands_in schema trees book b sound (inl p) = absurd (clash trees p.0 schema 4 3 (four p.0 p.1.tables) (three schema b) (omega arith) p.1.sound sound)
stands_in schema trees book b sound (inr (inl p)) = read_alike p.0 schema trees book (no_second p.0 schema trees p.1.tables b) p.1.rows
stands_in schema trees book b sound (inr (inr p)) = absurd (clash trees no_schema schema 0 3 refl (three schema b) (omega arith) p.0 sound)

pub stands_with : (schema : Schema) (trees : Trees) (book : Book) → IsBookSchema schema → IsDatabase (record { schema = schema; trees = trees }) → StandsFor trees book → HoldsBook schema trees book
stands_with schema trees book b sound (inl p) = read_alike p.0 schema trees book (same_rows trees p.0 schema p.1.tables b) p.1.rows
stands_with schema trees book b sound (inr (inl p)) = absurd (clash trees p.0 schema 3 4 (three p.0 p.1.tables) (four schema b) (omega arith) p.1.sound sound)
stands_with schema trees book b sound (inr (inr p)) = absurd (clash trees no_schema schema 0 4 refl (four schema b) (omega arith) p.0 sound)
