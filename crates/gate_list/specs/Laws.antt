-- Gates have values, and each one only one.
use Rattle.std.specs.Prelude.{◌≡◌, ◌≤◌, ℕ}
use Rattle.clause_store.specs.Clauses.{Values}
use Rattle.gate_list.specs.Gates.{Gates, count, AreOrdered, Hold}

-- the same values up to this variable
abbrev pub AgreeUpTo : ℕ → Values → Values → Type 0
AgreeUpTo most values others = (v : ℕ) → v ≤ most → values v ≡ others v

-- Whatever the free bits are, the gates can have values in which they hold.
abbrev pub GatesHaveValues : Type 0
GatesHaveValues = (gates : Gates) (start : Values) → AreOrdered gates.free gates.made → (values : Values) × AgreeUpTo gates.free values start × Hold gates values

-- The free bits settle every gate.
abbrev pub GatesHaveOneValue : Type 0
GatesHaveOneValue = (gates : Gates) (values others : Values) → AreOrdered gates.free gates.made → Hold gates values → Hold gates others → AgreeUpTo gates.free values others → AgreeUpTo (count gates) values others
