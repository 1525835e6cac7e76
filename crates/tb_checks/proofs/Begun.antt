-- Statements that may set the clock, by their layers, and those of blocks.
use Rattle.tb_checks.proofs.Common.{◌≡◌, zero, suc, ℕ, ◌<◌, Bool, true, false, not, ◌&&◌, ◌||◌, List, [], ◌∷◌, ◌++◌, map, refl, sym, ap, ◌∙◌, subst, arith, append_assoc, length, get_or, take, drop}
use Rattle.tb_checks.proofs.Common.{Option, None, Some, append-nil, Span, Identifier, CaseItem, roll-CaseItem, Stmt, roll-Stmt, out-Stmt, out-roll-Stmt, roll-out-Stmt, Stmt-F, CaseItem-F}
use Rattle.tb_checks.proofs.Common.{fold-CaseItem, fold-roll-Stmt, fold-roll-CaseItem, fold_out-Stmt, ind-Stmt, map-Stmt, BenchFault, IsFirst, Begun, waits, is_start, first_faults, some_sets}
use Rattle.tb_checks.proofs.Common.{turn_faults, may_behind, block_faults, sets_in, starting_in, begun_step, item_again, begun, sets, starting, Rules, stmt_faults}
use Rattle.vlog_syntax.specs.declared.stmt.Stmt.TheOpen as s
use Rattle.vlog_syntax.specs.declared.stmt.Stmt.TheVariants as sv
use Rattle.tb_checks.proofs.Firsts.{Joins}

module _ (r : Rules) where
  abbrev again : CaseItem → CaseItem
  again = fold-CaseItem Begun CaseItem (begun_step r) item_again

  -- Each statement is made of its parts again.

  abbrev Same : Stmt → Type 0
  Same x = (begun r x).whole ≡ x

  abbrev SameItem : CaseItem → Type 0
  SameItem i = again i ≡ i

  abbrev Kept : Type 0
  Kept = (x : Stmt) × Same x

  abbrev KeptItem : Type 0
  KeptItem = (i : CaseItem) × SameItem i

  abbrev plain : Stmt-F Kept KeptItem → Stmt-F Stmt CaseItem
  plain y = map-Stmt Kept KeptItem Stmt CaseItem (λ (w : Kept). w.0) (λ (w : KeptItem). w.0) y

  abbrev pub begun_in : Stmt-F Stmt CaseItem → Stmt-F Begun CaseItem
  begun_in o = map-Stmt Stmt CaseItem Begun CaseItem (begun r) again o

  abbrev remade : Stmt-F Stmt CaseItem → Stmt-F Stmt CaseItem
  remade o = map-Stmt Begun CaseItem Stmt CaseItem (λ (b : Begun). b.whole) (λ (i : CaseItem). i) (begun_in o)

  all_same : (ws : List Kept) → map (λ (b : Begun). b.whole) (map (begun r) (map (λ (w : Kept). w.0) ws)) ≡ map (λ (w : Kept). w.0) ws
  all_same [] = refl
  all_same (w ∷ more) = rw (w.1, all_same more) refl

  items_same : (ws : List KeptItem) → map (λ (i : CaseItem). i) (map again (map (λ (w : KeptItem). w.0) ws)) ≡ map (λ (w : KeptItem). w.0) ws
  items_same [] = refl
  items_same (w ∷ more) = rw (w.1, items_same more) refl

  layer_same : (y : Stmt-F Kept KeptItem) → remade (plain y) ≡ plain y
  layer_same (s.Null at) = refl
  layer_same (s.SeqBlock at label body) = rw (all_same body) refl
  layer_same (s.Conditional at c first None) = rw (first.1) refl
  layer_same (s.Conditional at c first (Some second)) = rw (first.1, second.1) refl
  layer_same (s.Case at kind selector items) = rw (items_same items) refl
  layer_same (s.For at start c step body) = rw (body.1) refl
  layer_same (s.While at c body) = rw (body.1) refl
  layer_same (s.Repeat at c body) = rw (body.1) refl
  layer_same (s.Forever at body) = rw (body.1) refl
  layer_same (s.EventControl at control body) = rw (body.1) refl
  layer_same (s.DelayControl at delay body) = rw (body.1) refl
  layer_same (s.SystemTaskEnable n arguments) = refl
  layer_same (s.BlockingAssignment x) = refl
  layer_same (s.NonblockingAssignment x) = refl

  stmt_same : (x : Stmt-F Stmt CaseItem) → remade x ≡ x → Same (roll-Stmt x)
  stmt_same x h = ap (λ (b : Begun). b.whole) (fold-roll-Stmt Begun CaseItem (begun_step r) item_again x) ∙ ap roll-Stmt h

  item_same : (x : CaseItem-F Stmt CaseItem) → Same x.body → SameItem (roll-CaseItem x)
  item_same x h = fold-roll-CaseItem Begun CaseItem (begun_step r) item_again x ∙ ap (λ (b : Stmt). roll-CaseItem (record { span = x.span; labels = x.labels; body = b })) h

  pub own : (x : Stmt) → Same x
  own =
      ind-Stmt Same SameItem
      (λ x y is. stmt_same x (subst (λ (z : Stmt-F Stmt CaseItem). remade z ≡ z) is (layer_same y)))
      (λ x y is. item_same x (subst (λ (z : CaseItem-F Stmt CaseItem). Same z.body) is y.body.1))

  -- A statement by its layer.

  layer_is : (x : Stmt) → begun r x ≡ begun_step r (begun_in (out-Stmt x))
  layer_is x = fold_out-Stmt Begun CaseItem (begun_step r) item_again x

  pub starting_is : (x : Stmt) → starting r x ≡ starting_in r x (begun_in (out-Stmt x))
  starting_is x =
      let whole = sym (ap (λ (b : Begun). b.whole) (layer_is x)) ∙ own x in
      ap (λ (b : Begun). b.starting) (layer_is x) ∙ ap (λ (w : Stmt). starting_in r w (begun_in (out-Stmt x))) whole

  sets_is : (x : Stmt) → sets r x ≡ sets_in r x (begun_in (out-Stmt x))
  sets_is x =
      let whole = sym (ap (λ (b : Begun). b.whole) (layer_is x)) ∙ own x in
      ap (λ (b : Begun). b.sets) (layer_is x) ∙ ap (λ (w : Stmt). sets_in r w (begun_in (out-Stmt x))) whole

  block_layer : (x : Stmt) (at : Span) (label : Option Identifier) (body : List Stmt) → x ≡ sv.SeqBlock at label body → out-Stmt x ≡ s.SeqBlock at label body
  block_layer x at label body e = ap out-Stmt (e ∙ sym (sv.rolls-SeqBlock at label body)) ∙ out-roll-Stmt (s.SeqBlock at label body)

  pub block_starts : (x : Stmt) (at : Span) (label : Option Identifier) (body ys : List Stmt) (o : Option BenchFault) → x ≡ sv.SeqBlock at label body → ys ≡ body → IsFirst (block_faults r true (map (begun r) ys)) o → IsFirst (starting r x) o
  block_starts x at label body ys o e f h = subst (λ (l : List BenchFault). IsFirst l o) (sym (starting_is x ∙ ap (λ (z : Stmt-F Stmt CaseItem). starting_in r x (begun_in z)) (block_layer x at label body e) ∙ ap (λ (l : List Stmt). block_faults r true (map (begun r) l)) (sym f))) h

  pub block_sets : (x : Stmt) (at : Span) (label : Option Identifier) (body ys : List Stmt) (b : Bool) → x ≡ sv.SeqBlock at label body → ys ≡ body → b ≡ some_sets (map (begun r) ys) → b ≡ sets r x
  block_sets x at label body ys b e f h = h ∙ ap (λ (l : List Stmt). some_sets (map (begun r) l)) f ∙ sym (sets_is x ∙ ap (λ (z : Stmt-F Stmt CaseItem). sets_in r x (begun_in z)) (block_layer x at label body e))

  abbrev NoBlock : Stmt → Type 0
  NoBlock x = (at : Span) (label : Option Identifier) (body : List Stmt) → x ≡ sv.SeqBlock at label body → ⊥

  pub other_starts : (x : Stmt) → NoBlock x → starting r x ≡ first_faults r x
  other_starts x none = starting_is x ∙ go (out-Stmt x) (roll-out-Stmt x)
    where
      go : (z : Stmt-F Stmt CaseItem) → roll-Stmt z ≡ x → starting_in r x (begun_in z) ≡ first_faults r x
      go (s.SeqBlock at label body) e = absurd (none at label body (sym e ∙ sv.rolls-SeqBlock at label body))
      go (s.Null at) e = refl
      go (s.Conditional at c a b) e = refl
      go (s.Case at kind c items) e = refl
      go (s.For at start c step body) e = refl
      go (s.While at c body) e = refl
      go (s.Repeat at c body) e = refl
      go (s.Forever at body) e = refl
      go (s.EventControl at control body) e = refl
      go (s.DelayControl at c body) e = refl
      go (s.SystemTaskEnable n arguments) e = refl
      go (s.BlockingAssignment y) e = refl
      go (s.NonblockingAssignment y) e = refl

  pub other_sets : (x : Stmt) → NoBlock x → sets r x ≡ is_start r (out-Stmt x)
  other_sets x none = sets_is x ∙ go (out-Stmt x) (roll-out-Stmt x)
    where
      go : (z : Stmt-F Stmt CaseItem) → roll-Stmt z ≡ x → sets_in r x (begun_in z) ≡ is_start r (out-Stmt x)
      go (s.SeqBlock at label body) e = absurd (none at label body (sym e ∙ sv.rolls-SeqBlock at label body))
      go (s.Null at) e = refl
      go (s.Conditional at c a b) e = refl
      go (s.Case at kind c items) e = refl
      go (s.For at start c step body) e = refl
      go (s.While at c body) e = refl
      go (s.Repeat at c body) e = refl
      go (s.Forever at body) e = refl
      go (s.EventControl at control body) e = refl
      go (s.DelayControl at c body) e = refl
      go (s.SystemTaskEnable n arguments) e = refl
      go (s.BlockingAssignment y) e = refl
      go (s.NonblockingAssignment y) e = refl

  -- Statements of a block, one after the other.

  pub turn_else : (x : Stmt) (o : Option BenchFault) → IsFirst (stmt_faults r x) o → IsFirst (turn_faults r false (begun r x)) o
  turn_else x o h = subst (λ (z : Stmt). IsFirst (stmt_faults r z) o) (sym (own x)) h

  pub behind_is : (may_start : Bool) (x : Stmt) (s w : Bool) → s ≡ sets r x → w ≡ waits x → may_start && not (s || w) ≡ may_behind may_start (begun r x)
  behind_is may_start x s w e f = ap (λ (a : Bool). may_start && not (a || w)) e ∙ ap (λ (a : Bool). may_start && not (sets r x || a)) (f ∙ ap waits (sym (own x)))

  -- whether the clock may be set behind statements
  abbrev pub still_may : Bool → List Begun → Bool
  still_may may_start [] = may_start
  still_may may_start (x ∷ more) = still_may (may_behind may_start x) more

  faults_more : (may_start : Bool) (xs : List Begun) (x : Begun) → block_faults r may_start (xs ++ x ∷ []) ≡ block_faults r may_start xs ++ turn_faults r (still_may may_start xs) x
  faults_more may_start [] x = append-nil (turn_faults r may_start x)
  faults_more may_start (y ∷ ys) x = ap (λ (l : List BenchFault). turn_faults r may_start y ++ l) (faults_more (may_behind may_start y) ys x) ∙ sym (append_assoc (turn_faults r may_start y) (block_faults r (may_behind may_start y) ys) (turn_faults r (still_may (may_behind may_start y) ys) x))

  may_more : (may_start : Bool) (xs : List Begun) (x : Begun) → still_may may_start (xs ++ x ∷ []) ≡ may_behind (still_may may_start xs) x
  may_more may_start [] x = refl
  may_more may_start (y ∷ ys) x = may_more (may_behind may_start y) ys x

  taken : (xs : List Stmt) (k : ℕ) (x : Stmt) → x ≡ get_or xs k x → k < length xs → map (begun r) (take (suc k) xs) ≡ map (begun r) (take k xs) ++ begun r x ∷ []
  taken [] k x is h = absurd (omega (arith, h))
  taken (y ∷ ys) zero x is h = ap (λ (z : Stmt). begun r z ∷ []) (sym is)
  taken (y ∷ ys) (suc k) x is h = ap (λ (l : List Begun). begun r y ∷ l) (taken ys k x is (omega arith))

  pub block_more : (xs : List Stmt) (k : ℕ) (x : Stmt) (may_start : Bool) (a b o : Option BenchFault) → x ≡ get_or xs k x → k < length xs → may_start ≡ still_may true (map (begun r) (take k xs)) → IsFirst (block_faults r true (map (begun r) (take k xs))) a → IsFirst (turn_faults r may_start (begun r x)) b → Joins a b o → IsFirst (block_faults r true (map (begun r) (take (suc k) xs))) o
  block_more xs k x may_start a b o is h may first next joins =
      let before : List Begun = map (begun r) (take k xs) in
      let all = ap (block_faults r true) (taken xs k x is h) ∙ faults_more true before (begun r x) in
      subst (λ (l : List BenchFault). IsFirst l o) (sym all) (joins (block_faults r true before) (turn_faults r (still_may true before) (begun r x)) first (subst (λ (m : Bool). IsFirst (turn_faults r m (begun r x)) b) may next))

  pub may_next : (xs : List Stmt) (k : ℕ) (x : Stmt) (may_start next : Bool) → x ≡ get_or xs k x → k < length xs → may_start ≡ still_may true (map (begun r) (take k xs)) → next ≡ may_behind may_start (begun r x) → next ≡ still_may true (map (begun r) (take (suc k) xs))
  may_next xs k x may_start next is h may so = so ∙ ap (λ (m : Bool). may_behind m (begun r x)) may ∙ sym (ap (still_may true) (taken xs k x is h) ∙ may_more true (map (begun r) (take k xs)) (begun r x))

  -- The first of statements that sets the clock or waits.

  dropped : (xs : List Stmt) (k : ℕ) (x : Stmt) → x ≡ get_or xs k x → k < length xs → drop k xs ≡ x ∷ drop (suc k) xs
  dropped [] k x is h = absurd (omega (arith, h))
  dropped (y ∷ ys) zero x is h = ap (λ (z : Stmt). z ∷ ys) (sym is)
  dropped (y ∷ ys) (suc k) x is h = dropped ys k x is (omega arith)

  rest_sets : (xs : List Stmt) (k : ℕ) (x : Stmt) (s w : Bool) → x ≡ get_or xs k x → k < length xs → s ≡ sets r x → w ≡ waits x → some_sets (map (begun r) (drop k xs)) ≡ s || (not w && some_sets (map (begun r) (drop (suc k) xs)))
  rest_sets xs k x s w is h e f =
      let rest : Bool = some_sets (map (begun r) (drop (suc k) xs)) in
      ap (λ (l : List Stmt). some_sets (map (begun r) l)) (dropped xs k x is h) ∙ ap (λ (a : Bool). a || (not (waits (begun r x).whole) && rest)) (sym e) ∙ ap (λ (a : Bool). s || (not a && rest)) (ap waits (own x) ∙ sym f)

  pub sets_here : (xs : List Stmt) (k : ℕ) (x : Stmt) (s : Bool) (all : Bool) → x ≡ get_or xs k x → k < length xs → s ≡ sets r x → s ≡ true → some_sets (map (begun r) (drop k xs)) ≡ all → true ≡ all
  sets_here xs k x s all is h e yes_it_is inv = sym (rest_sets xs k x s (waits x) is h e refl ∙ ap (λ (a : Bool). a || (not (waits x) && some_sets (map (begun r) (drop (suc k) xs)))) yes_it_is) ∙ inv

  pub waits_here : (xs : List Stmt) (k : ℕ) (x : Stmt) (s w : Bool) (all : Bool) → x ≡ get_or xs k x → k < length xs → s ≡ sets r x → s ≡ false → w ≡ waits x → w ≡ true → some_sets (map (begun r) (drop k xs)) ≡ all → false ≡ all
  waits_here xs k x s w all is h e off f on inv =
      let rest : Bool = some_sets (map (begun r) (drop (suc k) xs)) in
      sym (rest_sets xs k x s w is h e f ∙ ap (λ (a : Bool). a || (not w && rest)) off ∙ ap (λ (a : Bool). not a && rest) on) ∙ inv

  pub neither_here : (xs : List Stmt) (k : ℕ) (x : Stmt) (s w : Bool) (all : Bool) → x ≡ get_or xs k x → k < length xs → s ≡ sets r x → s ≡ false → w ≡ waits x → w ≡ false → some_sets (map (begun r) (drop k xs)) ≡ all → some_sets (map (begun r) (drop (suc k) xs)) ≡ all
  neither_here xs k x s w all is h e off f none inv =
      let rest : Bool = some_sets (map (begun r) (drop (suc k) xs)) in
      sym (rest_sets xs k x s w is h e f ∙ ap (λ (a : Bool). a || (not w && rest)) off ∙ ap (λ (a : Bool). not a && rest) none) ∙ inv
