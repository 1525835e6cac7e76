-- How many constructs may be open.
use Rattle.std.proofs.Common.{◌≡◌, ℕ, zero, suc, ◌-◌, ◌<◌, List, None, refl, ap, arith}
use Rattle.script_lines.specs.declared.token.Token.{Token}
use Rattle.report_lines.specs.declared.parting.Level.TheVariants as level
use Rattle.report_lines.specs.Grammar.{chain, deeper, expression, inner, negation, nothing, operand, part}

pub operand_is : (tags : List (List ℕ)) (room : ℕ) (tokens : List Token) → operand tags room tokens ≡ negation tags (deeper tags room) (inner tags room) tokens
unfolding operand deeper inner expression
operand_is tags zero tokens = refl
operand_is tags (suc room) tokens = refl

pub deeper_none : (tags : List (List ℕ)) (room : ℕ) (tokens : List Token) → room ≡ 0 → deeper tags room tokens ≡ None
unfolding deeper nothing
deeper_none tags zero tokens e = refl
deeper_none tags (suc room) tokens e = absurd (omega arith)

pub deeper_more : (tags : List (List ℕ)) (room : ℕ) (tokens : List Token) → 0 < room → deeper tags room tokens ≡ operand tags (room - 1) tokens
unfolding deeper
deeper_more tags zero tokens l = absurd (omega arith)
deeper_more tags (suc room) tokens l = ap (λ (r : ℕ). operand tags r tokens) (omega arith)

pub inner_none : (tags : List (List ℕ)) (room : ℕ) (tokens : List Token) → room ≡ 0 → inner tags room tokens ≡ None
unfolding inner nothing
inner_none tags zero tokens e = refl
inner_none tags (suc room) tokens e = absurd (omega arith)

pub inner_more : (tags : List (List ℕ)) (room : ℕ) (tokens : List Token) → 0 < room → inner tags room tokens ≡ chain level.Or (part tags (room - 1) level.Or) tokens
unfolding inner expression part
inner_more tags zero tokens l = absurd (omega arith)
inner_more tags (suc room) tokens l = ap (λ (r : ℕ). chain level.Or (part tags r level.Or) tokens) (omega arith)
