-- The faults of a statement, from those of its parts.
use Rattle.tb_checks.proofs.Common.{◌≡◌, List, [], ◌∷◌, ◌++◌, map, refl, ap, ◌∙◌, flat_map, Expr, CaseItem, out-CaseItem, Stmt, roll-Stmt, Stmt-F, fold-roll-Stmt, fold_out-CaseItem, map-Stmt}
use Rattle.tb_checks.proofs.Common.{labels_in, BenchFault, Rules, ItemFaults, all_faults, all_labels, all_bodies, stmt_step, item_step, stmt_faults, item_faults}

module _ (r : Rules) where
  -- a layer, with the faults of its parts
  abbrev pub inside : Stmt-F Stmt CaseItem → Stmt-F (List BenchFault) ItemFaults
  inside o = map-Stmt Stmt CaseItem (List BenchFault) ItemFaults (stmt_faults r) (item_faults r) o

  pub layer_is : (x : Stmt) (o : Stmt-F Stmt CaseItem) → x ≡ roll-Stmt o → stmt_faults r x ≡ stmt_step r (inside o)
  layer_is x o is = ap (stmt_faults r) is ∙ fold-roll-Stmt (List BenchFault) ItemFaults (stmt_step r) item_step o

  pub item_is : (x : CaseItem) → item_faults r x ≡ record { labels = labels_in x; body = stmt_faults r (out-CaseItem x).body }
  item_is x = fold_out-CaseItem (List BenchFault) ItemFaults (stmt_step r) item_step x

  pub statements_are : (xs : List Stmt) → all_faults (map (stmt_faults r) xs) ≡ flat_map (stmt_faults r) xs
  statements_are [] = refl
  statements_are (x ∷ xs) = ap (λ (l : List BenchFault). stmt_faults r x ++ l) (statements_are xs)

  pub bodies_are : (xs : List CaseItem) → all_bodies (map (item_faults r) xs) ≡ flat_map (λ (i : CaseItem). (item_faults r i).body) xs
  bodies_are [] = refl
  bodies_are (x ∷ xs) = ap (λ (l : List BenchFault). (item_faults r x).body ++ l) (bodies_are xs)

  pub labels_are : (xs : List CaseItem) → all_labels (map (item_faults r) xs) ≡ flat_map labels_in xs
  labels_are [] = refl
  labels_are (x ∷ xs) = ap (λ (i : ItemFaults). i.labels ++ all_labels (map (item_faults r) xs)) (item_is x) ∙ ap (λ (l : List Expr). labels_in x ++ l) (labels_are xs)
