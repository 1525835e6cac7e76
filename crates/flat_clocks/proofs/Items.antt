-- What is refused in an item, from what is refused in its parts.
use Rattle.flat_clocks.proofs.Common.{◌≡◌, ℕ, List, sym, subst, Option, Expr, Names, Signal, FlatItem, Flat, Refusal, IsFirst, Clocks, clock_names, names_at, passed_on}
use Rattle.vlog_syntax.specs.declared.item.Process.{Process}
use Rattle.flat_instances.specs.declared.item.FlatItem.TheVariants as f
use Rattle.flat_clocks.specs.Refusals.{process_reads, entering_reads, clock_refusals}

module _ (c : Clocks) (flat : Flat) (item : FlatItem) (o : Option Refusal) (k : ℕ) (names : Names) (at : names_at flat.places k ≡ names) where
  pub enters_refused : (port : ℕ) (value v : Expr) (signals : List Signal) → item ≡ f.Enters port k value → signals ≡ flat.signals → v ≡ value → IsFirst (entering_reads (clock_names c names) v (passed_on signals port names v)) o → IsFirst (clock_refusals c flat.signals flat.places item) o
  enters_refused port value v signals is same e h =
      subst (λ (x : FlatItem). IsFirst (clock_refusals c flat.signals flat.places x) o) (sym is)
      (subst (λ (n : Names). IsFirst (entering_reads (clock_names c n) value (passed_on flat.signals port n value)) o) (sym at)
      (subst (λ (x : Expr). IsFirst (entering_reads (clock_names c names) x (passed_on flat.signals port names x)) o) e
      (subst (λ (s : List Signal). IsFirst (entering_reads (clock_names c names) v (passed_on s port names v)) o) same h)))

  pub runs_refused : (p q : Process) → item ≡ f.Runs k p → q ≡ p → IsFirst (process_reads (clock_names c names) q) o → IsFirst (clock_refusals c flat.signals flat.places item) o
  runs_refused p q is e h =
      subst (λ (x : FlatItem). IsFirst (clock_refusals c flat.signals flat.places x) o) (sym is)
      (subst (λ (n : Names). IsFirst (process_reads (clock_names c n) p) o) (sym at)
      (subst (λ (x : Process). IsFirst (process_reads (clock_names c names) x) o) e h))
