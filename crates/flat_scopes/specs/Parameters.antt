-- What a parameter is declared as (IEEE 1364-2005, 4.10 and 12.2).
use Rattle.std.specs.Prelude.{◌≡◌, ℕ, ◌≤◌, ◌%◌, ◌^◌, Bool, ◌||◌, List}
use Rattle.mcy_base.specs.declared.word.Word.{Word}
use Rattle.vlog_meaning.specs.declared.fault.Fault.{Fault}
use Rattle.vlog_meaning.specs.declared.scope.Decl.{Decl}
use Rattle.vlog_meaning.specs.declared.scope.Decl.TheVariants.{Signal, Constant}
use Rattle.vlog_meaning.specs.Scopes.{nothing}
use Rattle.vlog_meaning.specs.Senses.{Sense, own, assigned, constant_faults, constant_faults_at}
use Rattle.flat_scopes.specs.declared.parameter.ParameterBits.{ParameterBits}
use Rattle.flat_scopes.specs.declared.parameter.ParameterBits.TheVariants.{OfValue, OfRange}

-- a range has from 1 to 128 bits
abbrev pub HasBits : ParameterBits → Type 0
HasBits (OfValue is_signed) = Unit {0}
HasBits (OfRange bits is_signed) = (1 ≤ bits.width) × (bits.width ≤ 128)

-- why its value is no constant
abbrev pub parameter_faults : ParameterBits → Sense → List Fault
parameter_faults (OfValue is_signed) a = constant_faults a
parameter_faults (OfRange bits is_signed) a = constant_faults_at a (assigned a bits.width)

-- the bits of the value are its own, count from 0, and it is signed where either is; with a range it is assigned to so many
-- bits, which count by the range
abbrev pub HasValue : ParameterBits → Sense → Word → ℕ → Bool → Type 0
HasValue (OfValue signed) a value low is_signed = (value.width ≡ a.shape.width) × (value.bits ≡ own nothing a) × (low ≡ 0) × (is_signed ≡ (signed || a.shape.is_signed))
HasValue (OfRange bits signed) a value low is_signed = (value.width ≡ bits.width) × (value.bits ≡ a.value nothing (assigned a bits.width) % 2 ^ bits.width) × (low ≡ bits.low) × (is_signed ≡ signed)

-- it is a constant with this value
abbrev pub IsDeclared : ParameterBits → Sense → Decl → Type 0
IsDeclared bits a (Constant value low is_signed) = HasValue bits a value low is_signed
IsDeclared bits a (Signal width low is_signed number) = ⊥
