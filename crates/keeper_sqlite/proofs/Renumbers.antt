-- What the UPDATE that sets the number of the format leaves.
use Rattle.keeper_sqlite.proofs.Common.{◌≡◌, ℕ, ◌+◌, ◌<◌, ◌≤◌, ◌⊎◌, arith, pos, negsuc, List, [], ◌∷◌, length, map, flat_map, Bool, true, false, not, cond, None, Some, Ok, Err, Result, OnOk, refl}
use Rattle.keeper_sqlite.proofs.Common.{sym, ap, subst, ◌∙◌, codes, is_eq, int_cmp, IsPermutation, list_all, nat_tests, ints, IsPermutation-cons, IsPermutation-map, IsPermutation-trans, Null, Int}
use Rattle.keeper_sqlite.proofs.Common.{Blob, Error, Binary, Update, Tally, Does, Edit, are_fresh, edit_of, edited, left_by, understood, binary, is_true, from_truth, Row, overlay, IsAnswer, Output}
use Rattle.keeper_sqlite.proofs.Common.{Query, inner, end, output, Given, Written, State, ExecutesInside, mode_of, Env, col, lit, op2, holds, Trees, has_rowid, put_row, without_rowid, one_step}
use Rattle.keeper_sqlite.proofs.Common.{runs_as, statement_of, ids_of, everything, along_permutation, IsPermutation-filter, IsPermutation-flat_map, value_cmp-Int, in_second, second_number}
use Rattle.keeper_sqlite.proofs.Common.{NUMBER_SECOND, BookTables, book_schema, meta_columns, rowid_table, second_tree, IsBookSchema, item_row, item_rows, Renumbers}
use Rattle.sqlite.specs.Effect.{Database}
use Rattle.sqlite_sql.specs.declared.ops.BinaryOp.TheVariants.{Compare}
use Rattle.sqlite_sql.specs.declared.ops.CompareOp.TheVariants.{Eq}
use Rattle.keeper_sqlite.proofs.Meant.{Means, means}
use Rattle.keeper_sqlite.proofs.Begins.{cast_meta}
use Rattle.keeper_sqlite.proofs.Inserts.{elsewhere, not_both, put_permutes, same_value, went}

-- the old rowid, and then the new row: its rowid, nothing in the place of the key, and the new body
abbrev numbering_query : Query
numbering_query = record {
  from = inner 0 end;
  filter = op2 (Compare Eq Binary) (col 1 0) (lit (Int (pos 0))) ∷ [];
  group = None;
  project = col 1 0 ∷ col 1 0 ∷ lit Null ∷ lit (Blob second_number) ∷ [];
  distinct = false;
  collations = [];
  order = [];
  limit = lit (Int (negsuc 0));
  offset = lit (Int (pos 0));
}

number_means : (t : BookTables) → Means (book_schema t) NUMBER_SECOND.now (Update 0 (record { lets = []; body = numbering_query }))
unfolding everything
number_means t = means (book_schema t) NUMBER_SECOND.now _ refl

-- ---- the row that is found

truth_back : (b : Bool) → is_true (from_truth (Some b)) ≡ b
truth_back true = refl
truth_back false = refl

-- WHERE item = 0
abbrev has_number : ℕ → List ℕ → Bool
has_number n body = holds ([] ∷ item_row n body ∷ []) (op2 (Compare Eq Binary) (col 1 0) (lit (Int (pos 0))))

is_numbered : (n : ℕ) (body : List ℕ) → has_number n body ≡ is_eq (int_cmp (pos n) (pos 0))
unfolding binary
is_numbered n body = truth_back _ ∙ ap is_eq (value_cmp-Int (pos n) (pos 0))

is_other : (n : ℕ) (body : List ℕ) → 1 ≤ n → has_number n body ≡ false
is_other n body high = is_numbered n body ∙ grind (arith, ints, nat_tests)

abbrev pick : Row → List Env
pick row = cond (list_all (holds ([] ∷ row ∷ [])) numbering_query.filter) (([] ∷ row ∷ []) ∷ []) []

none_picked : (n : ℕ) (items : List (List ℕ)) → 1 ≤ n → flat_map pick (item_rows n items) ≡ []
none_picked n [] high = refl
none_picked n (body ∷ items) high = rw (is_other n body high) (none_picked (n + 1) items (omega arith))

-- the rows that the query gives of these items: one, or none where there is no item
abbrev answer_of : List (List ℕ) → List Row
answer_of [] = []
answer_of (body ∷ more) = (Int (pos 0) ∷ Int (pos 0) ∷ Null ∷ Blob second_number ∷ []) ∷ []

abbrev first_of : List (List ℕ) → List Env
first_of [] = []
first_of (body ∷ more) = ([] ∷ item_row 0 body ∷ []) ∷ []

picked : (items : List (List ℕ)) → flat_map pick (item_rows 0 items) ≡ first_of items
picked [] = refl
picked (body ∷ more) = rw (is_numbered 0 body) (ap (λ l. ([] ∷ item_row 0 body ∷ []) ∷ l) (none_picked 1 more (omega arith)))

shown_of : (items : List (List ℕ)) → map (λ (p : Output). p.1) (map (output numbering_query) (first_of items)) ≡ answer_of items
shown_of [] = refl
shown_of (body ∷ more) = refl

-- a list of at most one element has no other order
short_same : {X : Type 0} (xs ys : List X) → IsPermutation xs ys → length xs ≤ 1 → ys ≡ xs
short_same {X} = along_permutation (λ (xs ys : List X). length xs ≤ 1 → ys ≡ xs)
    (λ xs short. refl)
    (λ x xs ys h short. ap (λ l. x ∷ l) (h (omega arith)))
    (λ x y xs short. absurd (omega arith))
    (λ xs ys zs p q short. q (omega (arith, ap length (p short))) ∙ p short)

one_answer : (items : List (List ℕ)) → length (answer_of items) ≤ 1
one_answer [] = omega arith
one_answer (body ∷ more) = omega arith

found_is : (items : List (List ℕ)) (rows : List Row) (db : Trees) → IsPermutation (item_rows 0 items) (db 0) → IsAnswer numbering_query (overlay db []) [] rows → rows ≡ answer_of items
found_is items rows db same a =
    let staged : a.staged ≡ flat_map pick (db 0) = a.grouped in
    let first : IsPermutation (first_of items) a.staged = subst (IsPermutation (first_of items)) (sym staged) (subst (λ l. IsPermutation l (flat_map pick (db 0))) (picked items) (IsPermutation-flat_map pick (item_rows 0 items) (db 0) same)) in
    let kept : IsPermutation (map (output numbering_query) (first_of items)) a.kept = subst (IsPermutation (map (output numbering_query) (first_of items))) (sym a.distinct) (IsPermutation-map (output numbering_query) _ _ first) in
    let all : IsPermutation (map (λ (p : Output). p.1) (map (output numbering_query) (first_of items))) (map (λ (p : Output). p.1) a.ordered) = IsPermutation-map (λ (p : Output). p.1) _ _ (IsPermutation-trans _ _ _ kept a.same) in
    let shown : IsPermutation (answer_of items) rows = subst (λ l. IsPermutation l rows) (shown_of items) (subst (IsPermutation (map (λ (p : Output). p.1) (map (output numbering_query) (first_of items)))) (sym a.shown) all) in
    short_same (answer_of items) rows shown (one_answer items)

-- ---- the row in its place

-- items from a number above 0 on are not taken out with number 0
other_id : (n : ℕ) (body : List ℕ) → 1 ≤ n → has_rowid (pos 0) (item_row n body) ≡ false
other_id n body high = ap is_eq (value_cmp-Int (pos n) (pos 0)) ∙ grind (arith, ints, nat_tests)

first_id : (body : List ℕ) → has_rowid (pos 0) (item_row 0 body) ≡ true
first_id body = ap is_eq (value_cmp-Int (pos 0) (pos 0))

others_stay : (n : ℕ) (items : List (List ℕ)) → 1 ≤ n → without_rowid (pos 0) (item_rows n items) ≡ item_rows n items
others_stay n [] high = refl
others_stay n (item ∷ items) high = rw (other_id n item high) (ap (λ l. item_row n item ∷ l) (others_stay (n + 1) items (omega arith)))

-- item 0 is taken out, and put back with the new body
renumbered : (item : List ℕ) (more : List (List ℕ)) → item_row 0 second_number ∷ without_rowid (pos 0) (item_rows 0 (item ∷ more)) ≡ item_rows 0 (in_second (item ∷ more))
renumbered item more = rw (first_id item) (ap (λ l. item_row 0 second_number ∷ l) (others_stay 1 more (omega arith)))

abbrev pub edit : BookTables → Trees → List Row → Edit
edit t db found = edit_of db (rowid_table (codes "meta") 0 meta_columns t.meta) (ids_of found) Given 1 found

written : (t : BookTables) (db : Trees) (items : List (List ℕ)) → IsPermutation (item_rows 0 items) (db 0) → are_fresh (left_by db (edit t db (answer_of items))) (edit t db (answer_of items)).news ≡ true
    → IsPermutation (item_rows 0 (in_second items)) (edited db (edit t db (answer_of items)))
written t db [] same fresh = same
written t db (item ∷ more) same fresh =
    let row = item_row 0 second_number in
    let left = without_rowid (pos 0) (db 0) in
    let free : are_fresh left (row ∷ []) ≡ true = subst (λ r. are_fresh left (r ∷ []) ≡ true) (cast_meta t 0 second_number) fresh in
    let rest : IsPermutation (row ∷ without_rowid (pos 0) (item_rows 0 (item ∷ more))) (row ∷ left) = IsPermutation-cons row _ _ (IsPermutation-filter (λ r. not (has_rowid (pos 0) r)) _ _ same) in
    let whole : IsPermutation (item_rows 0 (in_second (item ∷ more))) (row ∷ left) = subst (λ l. IsPermutation l (row ∷ left)) (renumbered item more) rest in
    subst (λ r. IsPermutation (item_rows 0 (in_second (item ∷ more))) (put_row r left)) (sym (cast_meta t 0 second_number)) (IsPermutation-trans _ _ _ whole (put_permutes row left (not_both _ free)))

-- what the UPDATE leaves
pub numbers : (old new : State) (r : Result ℕ Error) → ExecutesInside 0 NUMBER_SECOND.now [] old new r → IsBookSchema old.now.schema → OnOk r (Renumbers old new)
numbers old new (Err e) h b = tt
numbers old new (Ok count) h b =
    let w = runs_as NUMBER_SECOND.now [] old new _ b.is _ (number_means b.of).command (number_means b.of).plain count h.0 in
    let db = old.now.trees in
    let text = statement_of NUMBER_SECOND.now (understood (book_schema b.of) NUMBER_SECOND.now) in
    let done = went (subst (λ s. Does old.step_limit (mode_of old) [] (record old.now { schema = s }) text None (Update 0 (record { lets = []; body = numbering_query })) (Ok (w.tally, new.now))) b.is w.changed) in
    let now = ap (λ (p : Tally × Database). p.1) (same_value (went (went done.2).2).2) in
    let found = went done.1 in
    let gone = went found.2 in
    let trees : done.0.trees ≡ gone.0 = ap (λ (it : Written). it.trees) (same_value gone.2) in
    let next : new.now.trees ≡ gone.0 = ap (λ (d : Database). d.trees) now ∙ trees in
    let applied = one_step (book_schema b.of) _ db gone.0 (edit b.of db found.0) refl gone.1 in
    record {
      schema = ap (λ (d : Database). d.schema) now ∙ sym b.is;
      own = λ items same.
          let is : found.0 ≡ answer_of items = found_is items found.0 db same (found.1.answer Null) in
          let fresh = subst (λ f. are_fresh (left_by db (edit b.of db f)) (edit b.of db f).news ≡ true) is applied.fresh in
          subst (IsPermutation (item_rows 0 (in_second items))) (sym (ap (λ (x : Trees). x 0) next ∙ applied.rows ∙ ap (λ f. edited db (edit b.of db f)) is)) (written b.of db items same fresh);
      others = λ x other low. ap (λ (y : Trees). y x) next
          ∙ elsewhere gone.0 db 0 4 x other (subst (λ n. (x < 3) ⊎ (x ≡ n)) (ap second_tree b.is) low) applied.tables.0 applied.tables.1.0 applied.tables.1.1.0 applied.tables.1.1.1.0;
      sound = λ _. w.sound;
      committed = h.1.committed_is;
      mode = h.1.mode;
    }
