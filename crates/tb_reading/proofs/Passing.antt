-- The processes of items without a fault pass the tests of the evaluators.
use Rattle.tb_reading.proofs.Common.{◌≡◌, List, [], length, ◌∷◌, refl, sym, subst, All, map-append, All-nil, All-cons, All-head, All-tail, All-append, ProcessKind, Stmt, out-Stmt, Passes, bench_tests}
use Rattle.tb_reading.proofs.Common.{BenchItem, Context, AreFaultless, processes, bodies, item_processes, of_kind, always_layer}
use Rattle.vlog_syntax.specs.declared.item.ProcessKind.TheVariants as k
use Rattle.vlog_syntax.specs.declared.stmt.CaseItem.{CaseItem}
use Rattle.vlog_syntax.specs.declared.stmt.Stmt.TheOpen as s
use Rattle.vlog_syntax.specs.declared.stmt.Stmt.TheOpen.{Stmt-F}
use Rattle.tb_known.proofs.Processes.{faultless, waits}
use Rattle.tb_items.specs.declared.item.BenchItem.TheVariants as b
use Rattle.tb_apart.specs.Laws.{IsCleanItem}
use Rattle.tb_apart.proofs.Clean.{items_clean}

module _ (c : Context) (wanted : ProcessKind) where
  abbrev P : Stmt → Type 0
  P = Passes (bench_tests c.names)

  one_passes : (x : Stmt) → P x → All P (x ∷ [])
  one_passes x h = All-cons P x [] h (All-nil P)

  always_passes : (body : Stmt) (o : Stmt-F Stmt CaseItem) → out-Stmt body ≡ o → P body → All P (bodies (always_layer body o ∷ []))
  always_passes body (s.EventControl at control inner) is h = one_passes inner (waits c.names body at control inner is h)
  always_passes body (s.Null at) is h = one_passes body h
  always_passes body (s.SeqBlock at label inner) is h = one_passes body h
  always_passes body (s.Conditional at x first second) is h = one_passes body h
  always_passes body (s.Case at kind x items) is h = one_passes body h
  always_passes body (s.For at start x step inner) is h = one_passes body h
  always_passes body (s.While at x inner) is h = one_passes body h
  always_passes body (s.Repeat at x inner) is h = one_passes body h
  always_passes body (s.Forever at inner) is h = one_passes body h
  always_passes body (s.DelayControl at x inner) is h = one_passes body h
  always_passes body (s.SystemTaskEnable n arguments) is h = one_passes body h
  always_passes body (s.BlockingAssignment y) is h = one_passes body h
  always_passes body (s.NonblockingAssignment y) is h = one_passes body h

  of_kind_passes : (w kind : ProcessKind) (body : Stmt) → P body → All P (bodies (of_kind w kind body))
  of_kind_passes k.Initial k.Initial body h = one_passes body h
  of_kind_passes k.Initial k.Always body h = All-nil P
  of_kind_passes k.Always k.Initial body h = All-nil P
  of_kind_passes k.Always k.Always body h = always_passes body (out-Stmt body) refl h

  item_passes : (x : BenchItem) → IsCleanItem c x → All P (bodies (item_processes wanted x))
  item_passes (b.Runs p) h = of_kind_passes wanted p.kind p.body (faultless c.names c.clock h.0 p h.1)
  item_passes (b.Refused f) h = All-nil P
  item_passes (b.Starts k x) h = All-nil P
  item_passes (b.Drives n x) h = All-nil P
  item_passes (b.Assigns a) h = All-nil P
  item_passes (b.Clocks at g) h = All-nil P
  item_passes (b.Holds at) h = All-nil P
  item_passes (b.Reads x) h = All-nil P
  item_passes (b.Enters port x) h = All-nil P
  item_passes (b.Leaves port left) h = All-nil P

  all_pass : (items : List BenchItem) → All (IsCleanItem c) items → All P (bodies (processes wanted items))
  all_pass [] h = All-nil P
  all_pass (x ∷ xs) h =
      let first : All P (bodies (item_processes wanted x)) = item_passes x (All-head (IsCleanItem c) x xs h) in
      let rest : All P (bodies (processes wanted xs)) = all_pass xs (All-tail (IsCleanItem c) x xs h) in
      subst (All P) (sym (map-append (λ y. y.body) (item_processes wanted x) (processes wanted xs))) (All-append P (bodies (item_processes wanted x)) (bodies (processes wanted xs)) first rest)

pub processes_pass : (c : Context) (items : List BenchItem) (kind : ProcessKind) → AreFaultless c items (length items) → All (Passes (bench_tests c.names)) (bodies (processes kind items))
processes_pass c items kind none = all_pass c kind items (items_clean c items none)
