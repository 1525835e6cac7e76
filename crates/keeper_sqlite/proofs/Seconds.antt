-- What the making of `journal2` beside three tables leaves.
use Rattle.keeper_sqlite.proofs.Common.{◌≡◌, ◌<◌, zero, suc, inr, codes, arith, List, [], refl, sym, ap, subst, ◌∙◌, ℕ, Option, None, Some, true, false, Ok, Err, Result, OnOk, IfErr, IsTrue, Schema}
use Rattle.keeper_sqlite.proofs.Common.{Trees, CompileError, Error, table_defined_by, created, next_tree, KeepsRows, lacks_sequence, understood, IsDatabase, State, Executes, ExecutesIn}
use Rattle.keeper_sqlite.proofs.Common.{ExecutesInside, KeepsCounts, Shows, FailsToCommit, Ghosts, Held, state, Compiled, Exists, everything, CREATE_SECOND, first_schema, FirstTables, IsFirstSchema}
use Rattle.keeper_sqlite.proofs.Common.{rows_in, no_table, defined, second_table, MakesTable, AddsSecond, HasAddedSecond, MayMake, IsNotAddedTo, Second}
use Rattle.sqlite_schema.specs.Names.{index_named}
use Rattle.keeper_sqlite.proofs.Creates.{creates}
use Rattle.keeper_sqlite.proofs.SecondText.{reads_second, taken_second}

uncounted : (t : FirstTables) → lacks_sequence (created (first_schema t) second_table) ≡ false
unfolding everything second_table no_table
uncounted t = refl

meant : (old new : State) (text : List ℕ) (count : ℕ) → Executes text [] old new (Ok count) → (c : Compiled) × (understood old.now.schema text ≡ Ok c)
unfolding ExecutesIn
meant old new text count h = (h.0, h.1.is)

second_is : second_table ≡ defined (table_defined_by CREATE_SECOND.now)
unfolding second_table
second_is = refl

pub creates_second : (old new : State) (r : Result ℕ Error) → IsFirstSchema old.now.schema → ExecutesInside 0 CREATE_SECOND.now [] old new r → OnOk r (MakesTable old.now.schema second_table old new)
creates_second old new (Err e) b h = tt
creates_second old new (Ok count) b h = go (index_named (first_schema b.of) (codes "journal2")) refl
  where
    go : (o : Option ℕ) → index_named (first_schema b.of) (codes "journal2") ≡ o → MakesTable old.now.schema second_table old new
    go None free = subst (λ s. MakesTable s second_table old new) (sym b.is) (creates old new (first_schema b.of) CREATE_SECOND.now second_table (Ok count) b.is (reads_second b.of free) second_is (uncounted b.of) h)
    go (Some at) taken =
        let known = meant old new CREATE_SECOND.now count h.0 in
        absurd (let no : ◌≡◌ {A = Result Compiled CompileError} (Ok known.0) (Err Exists) = sym known.1 ∙ ap (λ s. understood s CREATE_SECOND.now) b.is ∙ taken_second b.of at taken in cc)

below_three : (f g : Trees) → g 0 ≡ f 0 → g 1 ≡ f 1 → g 2 ≡ f 2 → (n : ℕ) → n < 3 → g n ≡ f n
below_three f g p q r zero low = p
below_three f g p q r (suc zero) low = q
below_three f g p q r (suc (suc zero)) low = r
below_three f g p q r (suc (suc (suc n))) low = absurd (omega arith)

-- what the making of the fourth leaves beside three
pub second_added : (s t : State) → IsFirstSchema s.now.schema → IsDatabase s.now → MakesTable s.now.schema second_table s t → AddsSecond s.now t.now
second_added s t b sound made =
    let rows : KeepsRows (first_schema b.of).tables s.now.trees t.now.trees = subst (λ (x : Schema). KeepsRows x.tables s.now.trees t.now.trees) b.is made.others in
    record {
      tables = b;
      was_sound = sound;
      sound = made.sound;
      schema = made.schema_is;
      kept = below_three s.now.trees t.now.trees rows.0 rows.1.0 rows.1.1.0;
      empty = ap (λ x. rows_in x t.now.trees Second) (made.schema_is ∙ ap (λ x. created x second_table) b.is) ∙ subst (λ x. t.now.trees (next_tree x) ≡ []) b.is made.empty;
    }

-- and so it is once that is committed
pub second_made : {S : Type 0} (g : Ghosts S) (old mid end : Held S) (r : Result (Unit {0}) Error) → IsFirstSchema old.schema → (IsTrue (state g old).is_open → IsDatabase (state g old).now) → (IsTrue (state g old).is_open → (state g old).now ≡ (state g old).committed)
    → MakesTable old.schema second_table (state g (record old { in_transaction = true })) (state g mid)
    → OnOk r (IsTrue (state g mid).in_transaction × Shows (state g mid) (state g end) (state g mid).now (state g mid).now false × KeepsCounts (state g mid) (state g end) × ((state g end).marks ≡ []))
    → OnOk r (HasAddedSecond (state g old) (state g end))
second_made g old mid end (Err e) b sound settled made ok = tt
second_made g old mid end (Ok x) b sound settled made ok = record {
  was_open = made.was_open;
  was_committed = sym (settled made.was_open);
  adds = subst (AddsSecond (state g old).now) (sym ok.1.now_is) (second_added (state g (record old { in_transaction = true })) (state g mid) b (sound made.was_open) made);
  is_open = ok.1.is_open;
  autocommit = ok.1.mode;
  committed = ok.1.committed_is ∙ sym ok.1.now_is;
}

-- the commit of it was refused
pub adding_refused : {S : Type 0} (g : Ghosts S) (start before after : Held S) (r : Result (Unit {0}) Error) → MakesTable start.schema second_table (state g start) (state g before) → IfErr r (FailsToCommit (state g before) (state g after))
    → IfErr r (IsNotAddedTo g start)
adding_refused g start before after (Ok x) made h = tt
adding_refused g start before after (Err e) made h = (after, inr (before, made, h))

-- what the commit of it may leave
pub may_add : {S : Type 0} (g : Ghosts S) (old mid : Held S) (trees : Trees) → IsFirstSchema old.schema → (IsTrue (state g old).is_open → IsDatabase (state g old).now) → (IsTrue (state g old).is_open → (state g old).now ≡ (state g old).committed)
    → MakesTable old.schema second_table (state g (record old { in_transaction = true })) (state g mid) → trees ≡ (state g mid).now.trees → MayMake (state g old) trees
may_add g old mid trees b sound settled made is =
    (made.was_open, inr (sym (settled made.was_open), ((state g mid).now, second_added (state g (record old { in_transaction = true })) (state g mid) b (sound made.was_open) made, is)))
