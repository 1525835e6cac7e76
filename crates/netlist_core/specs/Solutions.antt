-- Exactly one run.
use Rattle.std.specs.Prelude.{◌≡◌, ℕ, ◌≤◌, ◌<◌, ◌^◌, ◌⊎◌, List, [], ◌∷◌, ◌++◌, length}
use Rattle.std.specs.List.{Contains}
use Rattle.netlist_core.specs.declared.bit.Bit.{Bit}
use Rattle.netlist_core.specs.declared.raw.RawNetlist.{RawNetlist}
use Rattle.netlist_core.specs.Runs.{Nets, Reader, Sight, bits_at, q_bits, IsRunBy, plain, Holds, shown, taken}
use Rattle.netlist_core.specs.Orders.{Reads, IsOrder}
use Rattle.netlist_core.specs.Checked.{Plan, IsSound}
use Rattle.netlist_core.specs.Settled.{laid_all, after_order}
use Rattle.netlist_core.specs.Drivers.{times, y_bits, drivers}

-- each value fits its port
abbrev pub FitPorts : List (List Bit) → List ℕ → Type 0
FitPorts [] [] = Unit {0}
FitPorts (bits ∷ more) (v ∷ vs) = (v < 2 ^ length bits) × FitPorts more vs
FitPorts ports vs = ⊥

-- a value for each input, and for each register
abbrev pub FitsInputs : RawNetlist → List ℕ → Type 0
FitsInputs netlist inputs = FitPorts (bits_at netlist.inputs) inputs

abbrev pub FitsRegisters : RawNetlist → List ℕ → Type 0
FitsRegisters netlist state = FitPorts (q_bits netlist.registers) state

abbrev pub AllFitInputs : RawNetlist → List (List ℕ) → Type 0
AllFitInputs netlist [] = Unit {0}
AllFitInputs netlist (inputs ∷ later) = FitsInputs netlist inputs × AllFitInputs netlist later

-- the same values at each net that is driven, in each cycle
abbrev pub AgreeDriven : RawNetlist → List Nets → List Nets → Type 0
AgreeDriven netlist [] [] = Unit {0}
AgreeDriven netlist (x ∷ xs) (y ∷ ys) = ((n : ℕ) → 1 ≤ drivers netlist n → x n ≡ y n) × AgreeDriven netlist xs ys
AgreeDriven netlist xs ys = ⊥

-- What readers see.

-- the bits of inputs, of Q's and of Y's
abbrev pub driving : RawNetlist → List (List Bit)
driving netlist = bits_at netlist.inputs ++ (q_bits netlist.registers ++ y_bits netlist.cells)

-- two nets are one, or stand together in an input, a Q or a Y
abbrev pub StandTogether : RawNetlist → ℕ → ℕ → Type 0
StandTogether netlist n m = (n ≡ m) ⊎ ((bits : List Bit) × Contains (driving netlist) bits × (1 ≤ times n bits) × (1 ≤ times m bits))

-- two values for all nets are the same at these bits and at all that stand together with them
abbrev pub AgreeAround : RawNetlist → List Bit → Nets → Nets → Type 0
AgreeAround netlist bits a b = (n m : ℕ) → 1 ≤ times n bits → StandTogether netlist n m → a m ≡ b m

-- As many bits are seen as there are, and what is seen rests on the values at these bits and at those that stand
-- together with them.
pub record IsCausal (netlist : RawNetlist) (sight : Nets → Sight) : Type 0 where
  pub wide : (nets : Nets) (reader : Reader) (bits : List Bit) → length (sight nets reader bits) ≡ length bits
  pub alike : (a b : Nets) (reader : Reader) (bits : List Bit) → AgreeAround netlist bits a b → sight a reader bits ≡ sight b reader bits

-- There is a run, and any two have the same values at all nets that are driven.
pub record HasOneRunBy (sight : Nets → Sight) (netlist : RawNetlist) (state : List ℕ) (inputs : List (List ℕ)) : Type 0 where
  pub run : (cycles : List Nets) × IsRunBy sight netlist state inputs cycles
  pub one : (xs ys : List Nets) → IsRunBy sight netlist state inputs xs → IsRunBy sight netlist state inputs ys → AgreeDriven netlist xs ys

-- exactly one run for each list of inputs and register values
abbrev pub HasOneRun : RawNetlist → Type 0
HasOneRun netlist = (state : List ℕ) (inputs : List (List ℕ)) → FitsRegisters netlist state → AllFitInputs netlist inputs → HasOneRunBy plain netlist state inputs

-- The nets that come of laying inputs and registers, and computing the cells in an order.
abbrev pub settled : (Nets → Sight) → RawNetlist → List ℕ → Nets → List ℕ → List ℕ → Nets
settled sight netlist order nets inputs state = after_order sight netlist.cells order (laid_all (laid_all nets (bits_at netlist.inputs) inputs) (q_bits netlist.registers) state)

-- The laws of a netlist that passes.

-- exactly one run for each sight that rests on what stands there
abbrev pub OneRunBySight : Type 0
OneRunBySight = (plan : Plan) (sight : Nets → Sight) → IsSound plan → IsCausal plan.raw sight → (state : List ℕ) (inputs : List (List ℕ)) → FitsRegisters plan.raw state → AllFitInputs plan.raw inputs → HasOneRunBy sight plan.raw state inputs

-- any two solutions of a cycle show the same, and leave the same in the registers
abbrev pub OneAnswerBySight : Type 0
OneAnswerBySight = (plan : Plan) (sight : Nets → Sight) → IsSound plan → IsCausal plan.raw sight → (inputs state : List ℕ) (x y : Nets) → Holds (sight x) x plan.raw inputs state → Holds (sight y) y plan.raw inputs state → (shown (sight x) plan.raw ≡ shown (sight y) plan.raw) × (taken (sight x) 0 plan.raw.registers ≡ taken (sight y) 0 plan.raw.registers)

-- computing the cells in their order solves the equations of a cycle, whatever the nets were before
abbrev pub OrderSettles : Type 0
OrderSettles = (plan : Plan) (sight : Nets → Sight) → IsSound plan → IsCausal plan.raw sight → (nets : Nets) (inputs state : List ℕ) → FitsInputs plan.raw inputs → FitsRegisters plan.raw state → Holds (sight (settled sight plan.raw plan.order nets inputs state)) (settled sight plan.raw plan.order nets inputs state) plan.raw inputs state

-- two orders of a netlist are one
abbrev pub OneOrder : Type 0
OneOrder = (netlist : RawNetlist) (xs ys : List ℕ) → IsOrder (length netlist.cells) (Reads netlist) xs → IsOrder (length netlist.cells) (Reads netlist) ys → xs ≡ ys
