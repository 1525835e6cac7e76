-- A connection is added by the cells of its value and the joints of its port.
use Rattle.flat_assigns.proofs.Common.{◌≡◌, ℕ, List, [], length, Option, refl, sym, ap, ◌∙◌, subst, append-nil, Bit, Expr, Shape, Names, Store, Building, AllBelow, Grows, signal, Made, Place, Assign}
use Rattle.flat_assigns.proofs.Common.{HasOwnNets, AddsItem, AreJoints, StandsBelow, places_from, whole, own_stays, IsReady, IsBuilt, IsJoinedTo, right_cells, right_shape, right_value}
use Rattle.netlist_core.specs.declared.cell.Cell.{Cell}
use Rattle.netlist_core.specs.Numbers.{number}
use Rattle.netlist_core.specs.Runs.{Nets, values}
use Rattle.elab_expr.specs.Evaluates.{Builds, Evaluates}
use Rattle.flat_runs.proofs.Growing.{cells_extend}
use Rattle.flat_runs.proofs.Joining.{assigns_add, joints_stand}
use Rattle.flat_assigns.proofs.Joins.{own_joined}

-- where the cells were added
pub own_between : (old mid : Building) → IsReady old → Grows old mid → HasOwnNets mid
own_between old mid ready grows = let extends = cells_extend old mid ready.stands grows in own_stays old mid ready.own extends.0.signals extends.0.nets

pub signals_between : (old mid : Building) → Grows old mid → mid.signals ≡ old.signals
signals_between old mid grows = ap (λ (x : Building). x.signals) grows.is

pub built : (old mid new : Building) (left : List (Option Place)) (value : Store → ℕ) (bits : List Bit) (width : ℕ) (added : List Made) → IsReady old → Builds old mid bits width value added → IsJoinedTo mid new left bits → IsBuilt old new (Assign left value) added
built old mid new left value bits width added ready made joined =
    let extends = cells_extend old mid ready.stands made.grows in
    let own = own_stays old mid ready.own extends.0.signals extends.0.nets in
    let here = subst (λ (x : Building). AreJoints x left bits joined.0) made.grows.is joined.1 in
    record {
      adds = subst (λ (x : Building). AddsItem old x (Assign left value)) (sym joined.2) (assigns_add old mid left value bits joined.0 ready.own extends.0 made.value_is here);
      ready = record { own = own_joined mid new left bits own joined; stands = subst StandsBelow (sym joined.2) (joints_stand mid left bits joined.0 own extends.1 made.below joined.1) };
      more = made.grows.more;
      cells = ap (λ (x : Building). x.cells) joined.2 ∙ ap (λ (x : Building). x.cells) made.grows.is;
      made = made.cells;
      registers = ap (λ (x : Building). x.registers) joined.2 ∙ ap (λ (x : Building). x.registers) made.grows.is;
      declared = ap (λ (x : Building). x.declared) joined.2 ∙ ap (λ (x : Building). x.declared) made.grows.is;
      starts = ap (λ (x : Building). x.starts) joined.2 ∙ ap (λ (x : Building). x.starts) made.grows.is;
    }

whole_joined : (old mid new : Building) (bits shown : List Bit) (port w : ℕ) → shown ≡ bits → w ≡ length (signal old port) → IsJoinedTo mid new (places_from port 0 w) shown → IsJoinedTo mid new (whole old port) bits
whole_joined old mid new bits shown port w same wide h =
    let P : List Bit → Type 0 = λ l. IsJoinedTo mid new (places_from port 0 w) l in
    let Q : ℕ → Type 0 = λ n. IsJoinedTo mid new (places_from port 0 n) bits in
    subst Q wide (subst P same h)

-- an expression
pub input_built : (names : Names) (right : Expr) (old mid new : Building) (bits shown : List Bit) (c : Shape) (port w : ℕ) → IsReady old → Evaluates names right c old mid bits → c ≡ right_shape names right (length (signal old port)) → shown ≡ bits → w ≡ length (signal old port) → IsJoinedTo mid new (places_from port 0 w) shown
    → IsBuilt old new (Assign (whole old port) (right_value names right (length (signal old port)))) (right_cells names right (length (signal old port)))
input_built names right old mid new bits shown c port w ready made shape same wide joined =
    let s : Shape = right_shape names right (length (signal old port)) in
    let here = subst (λ (x : Shape). Evaluates names right x old mid bits) shape made in
    built old mid new (whole old port) (right_value names right (length (signal old port))) bits s.width (right_cells names right (length (signal old port))) ready here (whole_joined old mid new bits shown port w same wide joined)

-- an expression whose bits are joined to places
pub parts_built : (names : Names) (right : Expr) (old mid new : Building) (left : List (Option Place)) (bits shown : List Bit) (c : Shape) (width : ℕ) → IsReady old → Evaluates names right c old mid bits → c ≡ right_shape names right width → shown ≡ bits → IsJoinedTo mid new left shown
    → IsBuilt old new (Assign left (right_value names right width)) (right_cells names right width)
parts_built names right old mid new left bits shown c width ready made shape same joined =
    let s : Shape = right_shape names right width in
    let here = subst (λ (x : Shape). Evaluates names right x old mid bits) shape made in
    let P : List Bit → Type 0 = λ l. IsJoinedTo mid new left l in
    built old mid new left (right_value names right width) bits s.width (right_cells names right width) ready here (subst P same joined)

-- nothing
nothing_added : (b : Building) (bits : List Bit) (width value : ℕ) → length bits ≡ width → ((n : ℕ) → AllBelow n bits) → ((nets : Nets) → number (values nets bits) ≡ value) → Builds b b bits width (λ store. value) []
nothing_added b bits width value long below is = record {
  grows = record { more = []; is = ap (λ (l : List Cell). let x : Building = record b { cells = l } in x) (sym (append-nil b.cells)); added = refl };
  cells = refl;
  long = long;
  below = below b.nets;
  value_is = λ nets runs. is nets;
}

pub tie_built : (old new : Building) (bits shown : List Bit) (port w : ℕ) → IsReady old → length bits ≡ w → ((n : ℕ) → AllBelow n bits) → ((nets : Nets) → number (values nets bits) ≡ 0) → shown ≡ bits → w ≡ length (signal old port) → IsJoinedTo old new (places_from port 0 w) shown → IsBuilt old new (Assign (whole old port) (λ store. 0)) []
tie_built old new bits shown port w ready long below is same wide joined = built old old new (whole old port) (λ store. 0) bits w [] ready (nothing_added old bits w 0 long below is) (whole_joined old old new bits shown port w same wide joined)
