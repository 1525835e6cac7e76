use Rattle.flat_assigns.proofs.Common.{◌≡◌, ◌+◌, ◌<◌, List, [], length, sym, ◌∙◌, ap, subst, arith, slice_index_or, Bit, Shape, least, names_of, IsWhole, signal, made, IsShort, right_shape}
use Rattle.net_builder.specs.Errors.{elab_error}
use Rattle.flat_assigns.proofs.Adding.{own_between, signals_between, input_built}
use Rattle.flat_assigns.proofs.Laying.{input_laid}
use Rattle.flat_assigns.proofs.Shapes.{same_refusals, whole_built, whole_from}
use Rattle.flat_assigns.proofs.connection.build_input.Goals as goal

pub join_port-requires-clause-own : goal.join_port-requires-clause-own
join_port-requires-clause-own c = own_between c.args.builder.now c.build_expr.new.builder c.requires.ready c.in-Ok.ensures.built.grows

pub join_port-requires-clause-port : goal.join_port-requires-clause-port
join_port-requires-clause-port c = subst (λ (l : List (List Bit)). c.args.port < length l) (sym (signals_between c.args.builder.now c.build_expr.new.builder c.in-Ok.ensures.built.grows)) c.requires.port

pub join_port-requires-clause-width : goal.join_port-requires-clause-width
join_port-requires-clause-width c = ap length c.bits.ensures ∙ ap (λ (l : List (List Bit)). length (slice_index_or l c.args.port [])) (sym (signals_between c.args.builder.now c.build_expr.new.builder c.in-Ok.ensures.built.grows))

pub join_port-requires-clause-enough : goal.join_port-requires-clause-enough
join_port-requires-clause-enough c =
    let shown = ap length c.as_slice.ensures in
    omega (arith, shown, c.in-Ok.ensures.built.long, c.context_of-context.ensures.wide)

pub returns-in-Err-clause-refused : goal.returns-in-Err-clause-refused
returns-in-Err-clause-refused c = λ f h.
    let names = names_of c.args.scope.now in
    let same = same_refusals names c.args.right.now c.context_of-context.result (length (signal c.args.builder.now c.args.port)) (λ whole. c.context_of-context.ensures.shape whole ∙ ap (right_shape names c.args.right.now) (ap length c.bits.ensures)) in
    let told = c.in-Err.ensures.refused f (ap least same ∙ h) in
    let first = told.0 in
    let error : c.in-Err.error ≡ elab_error f = cc in
    (cc, told.1)

pub returns-in-Err-clause-short : goal.returns-in-Err-clause-short
returns-in-Err-clause-short c = λ none.
    let names = names_of c.args.scope.now in
    let shape : IsWhole names c.args.right.now → c.context_of-context.result ≡ right_shape names c.args.right.now (length (signal c.args.builder.now c.args.port)) = λ whole. c.context_of-context.ensures.shape whole ∙ ap (right_shape names c.args.right.now) (ap length c.bits.ensures) in
    let same = same_refusals names c.args.right.now c.context_of-context.result (length (signal c.args.builder.now c.args.port)) shape in
    let whole = whole_from names c.args.right.now (right_shape names c.args.right.now (length (signal c.args.builder.now c.args.port))) none in
    subst (λ (s : Shape). IsShort (length c.args.builder.now.cells + length (made names c.args.right.now s)) c.in-Err.error) (shape whole) (c.in-Err.ensures.short (same ∙ none))

pub returns-in_err-join_port-in-Ok-clause-refused : goal.returns-in_err-join_port-in-Ok-clause-refused
returns-in_err-join_port-in-Ok-clause-refused c = λ f h.
    let names = names_of c.args.scope.now in
    let same = same_refusals names c.args.right.now c.context_of-context.result (length (signal c.args.builder.now c.args.port)) (λ whole. c.context_of-context.ensures.shape whole ∙ ap (right_shape names c.args.right.now) (ap length c.bits.ensures)) in
    let told = (c.in-Ok.ensures.refused f (ap least same ∙ h)).0 in
    absurd cc

pub returns-in_ok-join_port-in-Ok-clause-refused : goal.returns-in_ok-join_port-in-Ok-clause-refused
returns-in_ok-join_port-in-Ok-clause-refused c = λ f h.
    let names = names_of c.args.scope.now in
    let same = same_refusals names c.args.right.now c.context_of-context.result (length (signal c.args.builder.now c.args.port)) (λ whole. c.context_of-context.ensures.shape whole ∙ ap (right_shape names c.args.right.now) (ap length c.bits.ensures)) in
    let told = (c.in-Ok.ensures.refused f (ap least same ∙ h)).0 in
    absurd cc

pub returns-in_ok-join_port-in-Ok-clause-built : goal.returns-in_ok-join_port-in-Ok-clause-built
returns-in_ok-join_port-in-Ok-clause-built c =
    let names = names_of c.args.scope.now in
    let whole = whole_built names c.args.right.now c.context_of-context.result (λ f h. let told = (c.in-Ok.ensures.refused f h).0 in cc) in
    let shape = c.context_of-context.ensures.shape whole ∙ ap (right_shape names c.args.right.now) (ap length c.bits.ensures) in
    input_built names c.args.right.now c.args.builder.now c.build_expr.new.builder c.join_port.new.builder _ c.as_slice.result.now c.context_of-context.result c.args.port _ c.requires.ready c.in-Ok.ensures.built shape c.as_slice.ensures (ap length c.bits.ensures) c.in_ok-join_port-in-Ok.ensures

pub returns-in_ok-join_port-in-Ok-clause-laid : goal.returns-in_ok-join_port-in-Ok-clause-laid
returns-in_ok-join_port-in-Ok-clause-laid c =
    let names = names_of c.args.scope.now in
    let whole = whole_built names c.args.right.now c.context_of-context.result (λ f h. let told = (c.in-Ok.ensures.refused f h).0 in cc) in
    let shape = c.context_of-context.ensures.shape whole ∙ ap (right_shape names c.args.right.now) (ap length c.bits.ensures) in
    input_laid names c.args.right.now c.args.builder.now c.build_expr.new.builder c.join_port.new.builder _ c.as_slice.result.now c.context_of-context.result c.args.port _ c.in-Ok.ensures.laid shape c.as_slice.ensures (ap length c.bits.ensures) c.in_ok-join_port-in-Ok.ensures
