-- How gates are made: what is folded, in which order inputs stand, and which gates are one.
--
-- The equations are those of and-inverter graphs with xor and mux: an operation on constants, on one literal twice, or on a literal
-- and its negation makes no gate.
use Rattle.std.specs.Prelude.{suc, pos, ◌+◌, ◌&&◌, Bool, false, true, not, [], ◌∷◌, ◌++◌, ℤ, neg_ℤ, if◌then◌else◌, nat_le}
use Rattle.std.specs.List.{list_any, position_or_len}
use Rattle.std.specs.Ordering.{int_eq}
use Rattle.clause_store.specs.Clauses.{variable}
use Rattle.clause_store.specs.Propagation.{is_positive}
use Rattle.gate_list.specs.declared.gate.Gate.{Gate}
use Rattle.gate_list.specs.declared.gate.Gate.TheVariants.{And, Xor, Mux}
use Rattle.gate_list.specs.declared.literal.GateLit.{GateLit}
use Rattle.gate_list.specs.declared.literal.GateLit.TheVariants.{Fixed, Var}
use Rattle.gate_list.specs.Gates.{Gates}

abbrev pub negated : GateLit → GateLit
negated (Fixed b) = Fixed (not b)
negated (Var l) = Var (neg_ℤ l)

-- the negation where this is 1
abbrev pub negated_if : Bool → GateLit → GateLit
negated_if odd x = if odd then negated x else x

-- the same kind and the same inputs
abbrev pub same_gate : Gate → Gate → Bool
same_gate (And a b) (And c d) = int_eq a c && int_eq b d
same_gate (Xor a b) (Xor c d) = int_eq a c && int_eq b d
same_gate (Mux s a b) (Mux t c d) = int_eq s t && (int_eq a c && int_eq b d)
same_gate g h = false

-- the gates and a literal over them
pub record Made : Type 0 where
  pub gates : Gates
  pub lit : GateLit

-- a gate that stands there already is that one, and else it is added at the end
abbrev pub with_gate : Gates → Gate → Made
with_gate gates gate = record {
  gates = record gates { made = if list_any (same_gate gate) gates.made then gates.made else gates.made ++ gate ∷ [] };
  lit = Var (pos (suc (gates.free + position_or_len (same_gate gate) gates.made)));
}

-- no gate is made
abbrev pub folded : Gates → GateLit → Made
folded gates lit = record { gates = gates; lit = lit }

-- the inputs of `and` stand in order of variable
abbrev pub and_gate : ℤ → ℤ → Gate
and_gate a b = if nat_le (variable a) (variable b) then And a b else And b a

abbrev pub and_of : Gates → GateLit → GateLit → Made
and_of gates (Fixed false) x = folded gates (Fixed false)
and_of gates (Fixed true) x = folded gates x
and_of gates (Var a) (Fixed false) = folded gates (Fixed false)
and_of gates (Var a) (Fixed true) = folded gates (Var a)
and_of gates (Var a) (Var b) =
    if int_eq a b then folded gates (Var a)
    else if int_eq a (neg_ℤ b) then folded gates (Fixed false)
    else with_gate gates (and_gate a b)

-- by De Morgan
abbrev pub or_of : Gates → GateLit → GateLit → Made
or_of gates a b = let made = and_of gates (negated a) (negated b) in record made { lit = negated made.lit }

-- the inputs of `xor` stand in order of variable, as they are without their signs
abbrev pub xor_gate : ℤ → ℤ → Gate
xor_gate a b = if nat_le (variable a) (variable b) then Xor (pos (variable a)) (pos (variable b)) else Xor (pos (variable b)) (pos (variable a))

-- whether just one of the literals is negated
abbrev pub differ_in_sign : ℤ → ℤ → Bool
differ_in_sign a b = if is_positive a then not (is_positive b) else is_positive b

abbrev pub xor_of : Gates → GateLit → GateLit → Made
xor_of gates (Fixed b) x = folded gates (negated_if b x)
xor_of gates (Var a) (Fixed b) = folded gates (negated_if b (Var a))
xor_of gates (Var a) (Var b) =
    if int_eq a b then folded gates (Fixed false)
    else if int_eq a (neg_ℤ b) then folded gates (Fixed true)
    else let made = with_gate gates (xor_gate a b) in record made { lit = negated_if (differ_in_sign a b) made.lit }

-- a mux with a literal at s: `a` where it is 0, `b` where it is 1
abbrev pub mux_at : Gates → ℤ → GateLit → GateLit → Made
mux_at gates s (Fixed false) b = and_of gates (Var s) b
mux_at gates s (Fixed true) b = or_of gates (Var (neg_ℤ s)) b
mux_at gates s (Var a) (Fixed false) = and_of gates (Var (neg_ℤ s)) (Var a)
mux_at gates s (Var a) (Fixed true) = or_of gates (Var s) (Var a)
mux_at gates s (Var a) (Var b) = with_gate gates (Mux s a b)

abbrev pub same_lit : GateLit → GateLit → Bool
same_lit (Fixed a) (Fixed b) = if a then b else not b
same_lit (Var a) (Var b) = int_eq a b
same_lit a b = false

abbrev pub mux_of : Gates → GateLit → GateLit → GateLit → Made
mux_of gates (Fixed false) a b = folded gates a
mux_of gates (Fixed true) a b = folded gates b
mux_of gates (Var s) a b = if same_lit a b then folded gates a else mux_at gates s a b
