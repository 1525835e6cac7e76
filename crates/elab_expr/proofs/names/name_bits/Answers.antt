use Rattle.elab_expr.proofs.Common.{ap, ◌∙◌, decl_value, store, name_bits}
use Rattle.elab_expr.proofs.names.name_bits.Goals as goal

pub returns-in_ok-constant_bits-in-Some-Constant-clause-below : goal.returns-in_ok-constant_bits-in-Some-Constant-clause-below
returns-in_ok-constant_bits-in-Some-Constant-clause-below c = c.in_ok-constant_bits-in-Some-Constant.ensures.below _

pub returns-in_ok-constant_bits-in-None-clause-below : goal.returns-in_ok-constant_bits-in-None-clause-below
returns-in_ok-constant_bits-in-None-clause-below c = c.in_ok-constant_bits-in-None.ensures.below _

pub returns-in_ok-constant_bits-in-Some-Constant-clause-value : goal.returns-in_ok-constant_bits-in-Some-Constant-clause-value
returns-in_ok-constant_bits-in-Some-Constant-clause-value c = λ nets. c.in_ok-constant_bits-in-Some-Constant.ensures.value nets ∙ c.bits-in-Some-Constant.ensures.bits ∙ ap (decl_value (store c.args.builder.now nets)) (rw c.as_str.ensures at (rw c.in-Some-Constant.field-0-is at c.in-Some-Constant.ensures))

pub returns-in_ok-constant_bits-in-None-clause-value : goal.returns-in_ok-constant_bits-in-None-clause-value
returns-in_ok-constant_bits-in-None-clause-value c = λ nets. c.in_ok-constant_bits-in-None.ensures.value nets ∙ ap (decl_value (store c.args.builder.now nets)) (rw c.as_str.ensures at c.in-None.ensures)

pub returns-in_ok-constant_bits-in-Some-Constant-clause-is : goal.returns-in_ok-constant_bits-in-Some-Constant-clause-is
returns-in_ok-constant_bits-in-Some-Constant-clause-is c = (rw (c.bits-in-Some-Constant.ensures.bits, c.width.ensures.width) at c.in_ok-constant_bits-in-Some-Constant.ensures.is) ∙ ap (name_bits c.args.builder.now) (rw c.as_str.ensures at (rw c.in-Some-Constant.field-0-is at c.in-Some-Constant.ensures))

pub returns-in_ok-constant_bits-in-None-clause-is : goal.returns-in_ok-constant_bits-in-None-clause-is
returns-in_ok-constant_bits-in-None-clause-is c = c.in_ok-constant_bits-in-None.ensures.is ∙ ap (name_bits c.args.builder.now) (rw c.as_str.ensures at c.in-None.ensures)
