-- Number literals in the places of constants.
use Rattle.std.specs.Prelude.{◌≡◌, []}
use Rattle.vlog_meaning.specs.Senses.{Sense, constant_integer, constant_faults}

-- For proofs alone.

-- a constant of the same integer, in which nothing is wrong
pub record IsLiteral (x a : Sense) : Type 0 where
  pub integer : constant_integer x ≡ constant_integer a
  pub signals : x.signals ≡ []
  pub faults : constant_faults x ≡ []
