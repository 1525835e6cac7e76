-- How many constructs may be open.
use Rattle.std.proofs.Common.{◌≡◌, ℕ, zero, suc, ◌-◌, ◌<◌, List, None, refl, ap, arith}
use Rattle.script_lines.specs.declared.token.Token.{Token}
use Rattle.tag_lines.specs.declared.parting.Separator.TheVariants as sep
use Rattle.tag_lines.specs.Grammar.{Words, chain, deeper, expression, inner, negation, nothing, operand, part}

pub operand_is : (w : Words) (room : ℕ) (tokens : List Token) → operand w room tokens ≡ negation w (deeper w room) (inner w room) tokens
unfolding operand deeper inner expression
operand_is w zero tokens = refl
operand_is w (suc room) tokens = refl

pub deeper_none : (w : Words) (room : ℕ) (tokens : List Token) → room ≡ 0 → deeper w room tokens ≡ None
unfolding deeper nothing
deeper_none w zero tokens e = refl
deeper_none w (suc room) tokens e = absurd (omega arith)

pub deeper_more : (w : Words) (room : ℕ) (tokens : List Token) → 0 < room → deeper w room tokens ≡ operand w (room - 1) tokens
unfolding deeper
deeper_more w zero tokens l = absurd (omega arith)
deeper_more w (suc room) tokens l = ap (λ (r : ℕ). operand w r tokens) (omega arith)

pub inner_none : (w : Words) (room : ℕ) (tokens : List Token) → room ≡ 0 → inner w room tokens ≡ None
unfolding inner nothing
inner_none w zero tokens e = refl
inner_none w (suc room) tokens e = absurd (omega arith)

pub inner_more : (w : Words) (room : ℕ) (tokens : List Token) → 0 < room → inner w room tokens ≡ chain sep.Or (part w (room - 1) sep.Or) tokens
unfolding inner expression part
inner_more w zero tokens l = absurd (omega arith)
inner_more w (suc room) tokens l = ap (λ (r : ℕ). chain sep.Or (part w r sep.Or) tokens) (omega arith)
