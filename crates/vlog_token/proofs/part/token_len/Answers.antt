use Rattle.vlog_token.proofs.Common.{sym, ap, ◌∙◌, subst, arith, slice_index, take_rest, Number, Symbol, Fits, IsShape, IsSymbol, IsBodyOf, IsLongestFront, NoFront}
use Rattle.std.proofs.Common.{Some, None}
use Rattle.vlog_token.proofs.SymbolFronts.{symbol_front}
use Rattle.vlog_token.proofs.ShapeFronts.{shape_front}
use Rattle.vlog_token.proofs.KindLemmas.{kind_starts}
use Rattle.vlog_token.proofs.TokenLemmas.{marked_front, marked_if}
use Rattle.vlog_token.proofs.part.token_len.Goals as goal

pub returns-in-Number : goal.returns-in-Number
returns-in-Number c =
    let bytes = c.args.bytes.now in
    let start = kind_starts (slice_index bytes 0) Number (c.requires.kind ∙ ap Some c.in-Number.is) in
    subst (λ k. IsLongestFront (Fits k) bytes c.shape_len.result) (sym c.in-Number.is)
    (subst (IsLongestFront IsShape bytes) (sym c.shape_len.ensures.len)
    (shape_front bytes c.requires.some start (omega (arith, c.shape_len.ensures.len, c.shape_len.ensures.within))))

pub returns-in-Symbol : goal.returns-in-Symbol
returns-in-Symbol c =
    let bytes = c.args.bytes.now in
    let start = kind_starts (slice_index bytes 0) Symbol (c.requires.kind ∙ ap Some c.in-Symbol.is) in
    subst (λ k. IsLongestFront (Fits k) bytes c.symbol_len.result) (sym c.in-Symbol.is)
    (subst (IsLongestFront IsSymbol bytes) (sym c.symbol_len.ensures) (symbol_front bytes c.requires.some start))

pub returns-in-Some : goal.returns-in-Some
returns-in-Some c =
    let bytes = c.args.bytes.now in
    let marked = marked_if c.args.kind c.in_default.not-Name c.in_default.not-Number c.in_default.not-Symbol in
    marked_front c.args.kind bytes (Some c.in-Some.len) marked c.requires.some c.requires.kind
    (subst (λ body. IsLongestFront (IsBodyOf c.args.kind) body c.in-Some.len) (take_rest bytes 1) c.in-Some.ensures)

pub returns-in-None : goal.returns-in-None
returns-in-None c =
    let bytes = c.args.bytes.now in
    let marked = marked_if c.args.kind c.in_default.not-Name c.in_default.not-Number c.in_default.not-Symbol in
    marked_front c.args.kind bytes None marked c.requires.some c.requires.kind
    (subst (NoFront (IsBodyOf c.args.kind)) (take_rest bytes 1) c.in-None.ensures)
