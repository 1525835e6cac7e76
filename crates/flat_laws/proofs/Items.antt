-- Items and parts of a design, where there are more signals and scopes; and what an instance lists itself.
use Rattle.flat_laws.proofs.Common.{◌≡◌, ℕ, ◌+◌, ◌<◌, ◌≤◌, Bool, true, false, List, [], ◌∷◌, ◌++◌, length, Option, None, Some, refl, arith, option_to_list, slice_get, if◌then◌else◌, option_map}
use Rattle.flat_laws.proofs.Common.{slice_get_within, Expr, Identifier, Direction, Placing, Port, Signal, What, Opened, FlatItem, value_faults, first_of, fault_item, name_item, own_faults, listed_of}
use Rattle.flat_laws.proofs.Common.{wires_of, ItemStands, AllStand, declares, times_declared}
use Rattle.vlog_syntax.specs.declared.item.Direction.TheVariants.{Input, Output}
use Rattle.vlog_syntax.specs.Places.{first_token}
use Rattle.flat_scopes.specs.declared.signal.What.TheVariants as w
use Rattle.flat_scopes.specs.Opens.{signal_port, port_at}
use Rattle.flat_instances.specs.declared.error.ItemError.TheVariants.{PortMismatch}
use Rattle.flat_instances.specs.declared.error.ParameterError.{ParameterError}
use Rattle.flat_instances.specs.declared.item.FlatItem.TheVariants as f
use Rattle.flat_scopes.specs.declared.wire.Wire.{Wire}
use Rattle.flat_scopes.specs.declared.wire.Wire.TheVariants.{To, Mismatch}
use Rattle.flat_instances.specs.Wires.{is_left, output_item, port_item, found_item, wire_item, wired, is_wired, open_item, open_found, unwired_item, unwired, connected}

-- Items.

pub item_on : (n m n' m' : ℕ) (item : FlatItem) → n ≤ n' → m ≤ m' → ItemStands n m item → ItemStands n' m' item
item_on n m n' m' (f.Declares k) a b h = omega (arith, a, h)
item_on n m n' m' (f.Assigns k left right) a b h = omega (arith, b, h)
item_on n m n' m' (f.Drives k net value) a b h = omega (arith, b, h)
item_on n m n' m' (f.Enters port k value) a b h = let x = h.0 in let y = h.1 in (omega (arith, a, x), omega (arith, b, y))
item_on n m n' m' (f.Open port) a b h = omega (arith, a, h)
item_on n m n' m' (f.Leaves k value inside port) a b h = let x = h.0 in let y = h.1 in (omega (arith, b, x), omega (arith, b, y), h.2)
item_on n m n' m' (f.Runs k process) a b h = omega (arith, b, h)
item_on n m n' m' (f.Starts number k value) a b h = let x = h.0 in let y = h.1 in (omega (arith, a, x), omega (arith, b, y))
item_on n m n' m' (f.Refuses error) a b h = tt

pub items_on : (n m n' m' : ℕ) (items : List FlatItem) → n ≤ n' → m ≤ m' → AllStand n m items → AllStand n' m' items
items_on n m n' m' [] a b h = tt
items_on n m n' m' (x ∷ more) a b h = (item_on n m n' m' x a b h.0, items_on n m n' m' more a b h.1)

pub items_more : (n m : ℕ) (xs ys : List FlatItem) → AllStand n m xs → AllStand n m ys → AllStand n m (xs ++ ys)
items_more n m [] ys h g = g
items_more n m (x ∷ xs) ys h g = (h.0, items_more n m xs ys h.1 g)

pub declared_more : (k : ℕ) (xs ys : List FlatItem) → times_declared k (xs ++ ys) ≡ times_declared k xs + times_declared k ys
declared_more k [] ys = omega arith
declared_more k (x ∷ xs) ys = let e = declared_more k xs ys in omega (arith, e)

-- Items that stand, and declare nothing.

abbrev pub IsListed : ℕ → ℕ → FlatItem → Type 0
IsListed n m item = ItemStands n m item × ((k : ℕ) → declares k item ≡ 0)

abbrev pub AreListed : ℕ → ℕ → List FlatItem → Type 0
AreListed n m [] = Unit {0}
AreListed n m (x ∷ more) = IsListed n m x × AreListed n m more

pub listed_stand : (n m : ℕ) (xs : List FlatItem) → AreListed n m xs → AllStand n m xs
listed_stand n m [] h = tt
listed_stand n m (x ∷ xs) h = (h.0.0, listed_stand n m xs h.1)

pub listed_none : (n m k : ℕ) (xs : List FlatItem) → AreListed n m xs → times_declared k xs ≡ 0
listed_none n m k [] h = refl
listed_none n m k (x ∷ xs) h = let e = listed_none n m k xs h.1 in let z = h.0.1 k in omega (arith, e, z)

listed_more : (n m : ℕ) (xs ys : List FlatItem) → AreListed n m xs → AreListed n m ys → AreListed n m (xs ++ ys)
listed_more n m [] ys h g = g
listed_more n m (x ∷ xs) ys h g = (h.0, listed_more n m xs ys h.1 g)

-- The connections of an instance, where there are so many signals and both scopes.

abbrev PortBelow : ℕ → Option Port → Type 0
PortBelow n None = Unit {0}
PortBelow n (Some p) = p.number < n

port_below : (child : Opened) (found : Option What) → PortBelow (length child.signals) (port_at child found)
port_below child (Some (w.Variable k)) = go (slice_get child.signals k) refl where
  directed : (d : Option Direction) → k < length child.signals → PortBelow (length child.signals) (option_map (λ direction. record { number = k; direction = direction }) d)
  directed None less = tt
  directed (Some x) less = less

  go : (g : Option Signal) → slice_get child.signals k ≡ g → PortBelow (length child.signals) (signal_port k g)
  go None e = tt
  go (Some g) e = directed g.direction (slice_get_within child.signals k g e)
port_below child (Some w.Constant) = tt
port_below child (Some w.Genvar) = tt
port_below child (Some w.Inside) = tt
port_below child None = tt

module _ (m outside inside : ℕ) (o : outside < m) (i : inside < m) where
  output_listed : (n : ℕ) (port : Identifier) (value : Expr) → IsListed n m (output_item outside inside port value)
  output_listed n port value = go (is_left value) refl where
    go : (b : Bool) → is_left value ≡ b → IsListed n m (if b then f.Leaves outside value inside port else f.Refuses (PortMismatch (first_token value)))
    go true e = ((o, i, e), λ k. refl)
    go false e = (tt, λ k. refl)

  port_listed : (n : ℕ) (port : Identifier) (value : Option Expr) (number : ℕ) (direction : Direction) → number < n → AreListed n m (option_to_list (port_item outside inside port value number direction))
  port_listed n port None number Input less = ((less, λ k. refl), tt)
  port_listed n port (Some value) number Input less = (((less, o), λ k. refl), tt)
  port_listed n port None number Output less = tt
  port_listed n port (Some value) number Output less = (output_listed n port value, tt)

  found_listed : (n : ℕ) (port : Identifier) (value : Option Expr) (found : Option Port) → PortBelow n found → AreListed n m (option_to_list (found_item outside inside port value found))
  found_listed n port value None h = tt
  found_listed n port value (Some p) h = port_listed n port value p.number p.direction h

  wire_listed : (child : Opened) (x : Wire) → AreListed (length child.signals) m (option_to_list (wire_item outside inside child x))
  wire_listed child (Mismatch at) = ((tt, λ k. refl), tt)
  wire_listed child (To port value) = found_listed (length child.signals) port value (port_at child (child.own port.name)) (port_below child (child.own port.name))

  wired_listed : (child : Opened) (xs : List Wire) → AreListed (length child.signals) m (wired outside inside child xs)
  wired_listed child [] = tt
  wired_listed child (x ∷ xs) = listed_more (length child.signals) m (option_to_list (wire_item outside inside child x)) (wired outside inside child xs) (wire_listed child x) (wired_listed child xs)

  open_listed : (n number : ℕ) (direction : Direction) → number < n → AreListed n m (option_to_list (open_item number direction))
  open_listed n number Input less = ((less, λ k. refl), tt)
  open_listed n number Output less = tt

  open_found_listed : (n : ℕ) (found : Option Port) → PortBelow n found → AreListed n m (option_to_list (open_found found))
  open_found_listed n None h = tt
  open_found_listed n (Some p) h = open_listed n p.number p.direction h

  unwired_one : (child : Opened) (xs : List Wire) (port : Identifier) → AreListed (length child.signals) m (option_to_list (unwired_item child xs port))
  unwired_one child xs port = go (is_wired xs port.name) where
    go : (b : Bool) → AreListed (length child.signals) m (option_to_list (if b then None else open_found (port_at child (child.own port.name))))
    go true = tt
    go false = open_found_listed (length child.signals) (port_at child (child.own port.name)) (port_below child (child.own port.name))

  unwired_listed : (child : Opened) (xs : List Wire) (ports : List Identifier) → AreListed (length child.signals) m (unwired child xs ports)
  unwired_listed child xs [] = tt
  unwired_listed child xs (port ∷ more) = listed_more (length child.signals) m (option_to_list (unwired_item child xs port)) (unwired child xs more) (unwired_one child xs port) (unwired_listed child xs more)

  fault_listed : (n : ℕ) (e : Option ParameterError) → AreListed n m (option_to_list (fault_item e))
  fault_listed n None = tt
  fault_listed n (Some e) = ((tt, λ k. refl), tt)

  name_listed : (n : ℕ) (is_twice : Bool) (name : Identifier) → AreListed n m (option_to_list (name_item is_twice name))
  name_listed n false name = tt
  name_listed n true name = ((tt, λ k. refl), tt)

  pub instance_listed : (refused : List ParameterError) (ports : List Identifier) (x : Placing) (child : Opened) → AreListed (length child.signals) m (listed_of outside inside refused ports x child)
  instance_listed refused ports x child =
      let n = length child.signals in
      let wires = wires_of ports x.instance in
      let fault = first_of (first_of None refused) (value_faults child.steps) in
      let own = listed_more n m (option_to_list (fault_item fault)) (option_to_list (name_item x.is_twice x.instance.name)) (fault_listed n fault) (name_listed n x.is_twice x.instance.name) in
      listed_more n m (own_faults refused x child) (connected outside inside child wires ports) own
      (listed_more n m (wired outside inside child wires) (unwired child wires ports) (wired_listed child wires) (unwired_listed child wires ports))
