use Rattle.vlog_token.proofs.Common.{◌%◌, ◌^◌, sym, ap, ◌∙◌, list_all, take_rest, is_digit_part, filled, positional, x_digit, z_digit}
use Rattle.vlog_token.proofs.NumberLemmas.{digits_are}
use Rattle.vlog_token.proofs.numeral.digits_number.Goals as goal

pub returns-then-are_digit_parts : goal.returns-then-are_digit_parts
returns-then-are_digit_parts c =
    let digits = c.args.digits.now in
    let radix = c.args.radix in
    let width = c.args.width in
    let x_left = c.filled-x_left.ensures ∙ ap (λ b. filled b width) c.is_x.ensures in
    let z_left = c.filled-z_left.ensures ∙ ap (λ b. filled b width) c.is_z.ensures in
    digits_are width radix c.args.is_signed digits c.word.result.width c.word.result.bits c.plane_bits-then-are_digit_parts.result c.plane_bits-then-are_digit_parts-2.result c.in-len1-up.len_at_least (sym c.is_digit.ensures ∙ c.if-is_digit.true)
    (ap (list_all (is_digit_part radix)) (sym (take_rest digits 1)) ∙ sym c.are_digit_parts.ensures ∙ c.if-are_digit_parts.true) c.word.ensures.width
    (c.word.ensures.bits ∙ c.plane_bits.ensures)
    (c.plane_bits-then-are_digit_parts.ensures ∙ ap (λ left. positional (x_digit radix) radix left digits % 2 ^ width) x_left)
    (c.plane_bits-then-are_digit_parts-2.ensures ∙ ap (λ left. positional (z_digit radix) radix left digits % 2 ^ width) z_left)
