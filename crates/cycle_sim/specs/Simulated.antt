-- What a simulator holds.
use Rattle.std.specs.Prelude.{◌≡◌, ℕ, List, [], ◌∷◌, map, length}
use Rattle.mcy_base.specs.declared.word.Word.{Word}
use Rattle.netlist_core.specs.declared.bit.Bit.{Bit}
use Rattle.netlist_core.specs.declared.raw.RawNetlist.{RawNetlist}
pub use Rattle.netlist_core.specs.Numbers.{numbers_of}
use Rattle.netlist_core.specs.Runs.{Nets}
use Rattle.netlist_core.specs.Settled.{laid_all, all_zero}
use Rattle.netlist_core.specs.Solutions.{driving}
use Rattle.netlist_core.specs.Checked.{Plan}

-- A netlist, the numbers at inputs, Q's and Y's, in this order, as they were last settled, and the registers' values now.
pub record Simulated : Type 0 where
  pub plan : Plan
  pub table : List ℕ
  pub registers : List ℕ

-- the nets that have these numbers at inputs, Q's and Y's
abbrev pub nets_of : RawNetlist → List ℕ → Nets
nets_of netlist table = laid_all all_zero (driving netlist) table

-- the values of the nets as they were last settled
abbrev pub settled_nets : Simulated → Nets
settled_nets s = nets_of s.plan.raw s.table

-- a word for each port, of its width
abbrev pub HaveWidths : List (List Bit) → List Word → Type 0
HaveWidths [] [] = Unit {0}
HaveWidths (bits ∷ more) (word ∷ words) = (word.width ≡ length bits) × HaveWidths more words
HaveWidths ports words = ⊥

-- the start values
abbrev pub starts_of : RawNetlist → List ℕ
starts_of netlist = map (λ r. r.start.bits) netlist.registers
