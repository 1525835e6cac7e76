-- What is known of the nets while they are followed.
use Rattle.std.specs.Prelude.{◌≡◌, ◌≢◌, ◌⊎◌, ℕ, ◌+◌, ◌<◌, List, [], ◌∷◌, length, slice_index_or}
use Rattle.std.specs.List.{Contains}
use Rattle.netlist_core.specs.declared.bit.Bit.{Bit}
use Rattle.netlist_core.specs.declared.bit.Bit.TheVariants.{Net}
use Rattle.net_builder.specs.declared.steps.Step.{Step}
use Rattle.net_builder.specs.declared.tracing.Mark.{Mark}
use Rattle.net_builder.specs.declared.tracing.Mark.TheVariants.{Unknown, Open, Ends, Loops}
use Rattle.net_builder.specs.declared.tracing.Trace.{Trace}
use Rattle.net_builder.specs.Finished.{LeadsTo, Follows, IsOnLoop}
use Rattle.net_builder.specs.Stepping.{next_in}

-- For proofs alone.

-- The steps of the nets, what is known of each, the nets on the way, and one net of each loop that was found.
pub record Known : Type 0 where
  pub steps : List Step
  pub marks : List Mark
  pub path : List ℕ
  pub loops : List ℕ

abbrev pub known_of : Trace → Known
known_of t = record { steps = t.steps; marks = t.marks.items; path = t.path.items; loops = t.loops.items }

abbrev pub next_of : Known → ℕ → Step
next_of t = next_in t.steps

abbrev pub mark_in : List Mark → ℕ → Mark
mark_in marks n = slice_index_or marks n (Ends (Net n))

abbrev pub mark_of : Known → ℕ → Mark
mark_of t = mark_in t.marks

-- how many nets aren't known
abbrev pub one_unknown : Mark → ℕ
one_unknown Unknown = 1
one_unknown Open = 0
one_unknown (Ends bit) = 0
one_unknown Loops = 0

abbrev pub unknowns : List Mark → ℕ
unknowns [] = 0
unknowns (m ∷ more) = one_unknown m + unknowns more

-- the net leads into one of the loops
abbrev pub LeadsInto : (ℕ → Step) → List ℕ → ℕ → Type 0
LeadsInto next loops n = (c : ℕ) × Contains loops c × IsOnLoop next c × ((n ≡ c) ⊎ Follows next n c)

-- a net on the way leads to the net that is met
abbrev pub Comes : Known → ℕ → ℕ → Type 0
Comes t net n = Follows (next_of t) n net

-- the mark is true of the net
abbrev pub Fits : Known → Mark → ℕ → Type 0
Fits t Unknown n = ⊥
Fits t Open n = ⊥
Fits t (Ends bit) n = LeadsTo (next_of t) n bit
Fits t Loops n = LeadsInto (next_of t) t.loops n

-- What is known is so, the open nets are those on the way, and each of these has the property.
pub record IsTraced (t : Known) (P : ℕ → Type 0) : Type 0 where
  pub room : length t.marks ≡ length t.steps
  pub ended : (n : ℕ) (bit : Bit) → mark_of t n ≡ Ends bit → LeadsTo (next_of t) n bit
  pub looped : (n : ℕ) → mark_of t n ≡ Loops → LeadsInto (next_of t) t.loops n
  pub opened : (n : ℕ) → mark_of t n ≡ Open → Contains t.path n
  pub way : (n : ℕ) → Contains t.path n → P n
  pub inside : (n : ℕ) → Contains t.path n → n < length t.marks
  pub loops : (c : ℕ) → Contains t.loops c → IsOnLoop (next_of t) c

-- nothing is open
pub record IsDone (t : Known) : Type 0 where
  pub empty : t.path ≡ []
  pub traced : IsTraced t (λ n. ⊥)

-- the steps and the loops are as they were, and what was known is known
pub record Keeps (old new : Known) : Type 0 where
  pub steps : new.steps ≡ old.steps
  pub loops : new.loops ≡ old.loops
  pub known : (n : ℕ) → mark_of old n ≢ Unknown → mark_of new n ≢ Unknown

-- where a net leads, and to itself where that isn't known
abbrev pub end_by : Mark → ℕ → Bit
end_by Unknown n = Net n
end_by Open n = Net n
end_by (Ends bit) n = bit
end_by Loops n = Net n

abbrev pub end_in : Known → ℕ → Bit
end_in t n = end_by (mark_of t n) n
