-- The nets of items without a fault can settle, where none is on a loop.
use Rattle.tb_wired.proofs.Common.{◌≡◌, ℕ, true, List, [], length, sym, subst, All, Names, AreSized, BenchItem, Ready, wiring, AreApart, IsSided, IsNetted, nodes_of, nets_apart, IsFaultless, IsWired}
use Rattle.tb_nets.specs.declared.nets.Nets.{Nets}
use Rattle.tb_refusals.specs.Refusals.{Context, is_design, some_item, AreFaultless}
use Rattle.tb_apart.proofs.Clean.{nets_clean}
use Rattle.tb_wired.specs.declared.wired.Wired.TheVariants as wired
use Rattle.tb_wired.proofs.Sides.{CanAll, all_sided, all_can}
use Rattle.tb_wired.proofs.Single.{HasDesign, design_once}

-- what holds of the nets of items without a fault
record Holding (names : Names) (inputs outputs : List ℕ) (items : List BenchItem) : Type 0 where
  sided : All (IsSided names) (nodes_of items)
  can : CanAll names (nodes_of items)
  apart : AreApart (wiring names inputs outputs) (nodes_of items)

at_context : (c : Context) (inputs : List ℕ) (items : List BenchItem) → AreSized c.names → AreFaultless c items (length items) → Holding c.names inputs c.outputs items
at_context c inputs items sized none = record {
  sided = all_sided c.names (nodes_of items) (nets_clean c items none);
  can = all_can c.names (nodes_of items) (nets_clean c items none);
  apart = nets_apart c items inputs sized none;
}

holding : (names : Names) (inputs outputs : List ℕ) (items : List BenchItem) → AreSized names → IsFaultless names outputs items → Holding names inputs outputs items
holding names inputs outputs items sized f =
    subst (λ (ns : Names). Holding ns inputs outputs items) f.names_are
    (subst (λ (os : List ℕ). Holding f.context.names inputs os items) f.outputs_are
    (at_context f.context inputs items (subst AreSized (sym f.names_are) sized) f.none))

pub are_sided : (names : Names) (outputs : List ℕ) (items : List BenchItem) → AreSized names → IsFaultless names outputs items → All (IsSided names) (nodes_of items)
are_sided names outputs items sized f = (holding names [] outputs items sized f).sided

pub are_wired : (names : Names) (inputs outputs : List ℕ) (items : List BenchItem) (nets : Nets) → AreSized names → some_item is_design items ≡ true → IsFaultless names outputs items → IsNetted (wiring names inputs outputs) (nodes_of items) (Ready nets) → IsWired names inputs outputs items (wired.Nets nets)
are_wired names inputs outputs items nets sized some_is f netted =
    let h : Holding names inputs outputs items = holding names inputs outputs items sized f in (
      netted.0,
      λ widths entered shown. record {
        sides = subst (CanAll names) (sym netted.0) h.can;
        settled = netted.1;
        apart = subst (AreApart (wiring names inputs outputs)) (sym netted.0) h.apart;
        design = subst HasDesign (sym netted.0) (design_once f.context items f.none some_is);
        entered = entered;
        shown = shown;
      },
    )
