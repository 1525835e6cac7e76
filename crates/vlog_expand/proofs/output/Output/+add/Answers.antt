use Rattle.vlog_expand.proofs.Common.{length, arith, ◌≡◌, ◌<◌, false, inr, sym, Some, None, err_from_is_err_and, definitions_of, is_use, name_of, word_of}
use Rattle.vlog_expand.proofs.Using.{expanded-given, expanded-deep, expanded-unknown, expanded-full, text-refused, text-given}
use Rattle.vlog_expand.proofs.output.Output.+add.Goals as goal

pub returns-then-not-is_use-clause-ok : goal.returns-then-not-is_use-clause-ok
returns-then-not-is_use-clause-ok t c =
    let plain : is_use (word_of c.args.token.now) ≡ false = cc in
    rw (expanded-given c.args.depth (definitions_of c.args.macros.now) c.args.token.now c.args.self.now.left plain) c.give.ensures.ok

pub returns-then-not-is_use-clause-err : goal.returns-then-not-is_use-clause-err
returns-then-not-is_use-clause-err t c =
    let plain : is_use (word_of c.args.token.now) ≡ false = cc in
    rw (expanded-given c.args.depth (definitions_of c.args.macros.now) c.args.token.now c.args.self.now.left plain) c.give.ensures.err

pub returns-then-depth-eq0-clause-err : goal.returns-then-depth-eq0-clause-err
returns-then-depth-eq0-clause-err t c = inr (expanded-deep c.args.depth (definitions_of c.args.macros.now) c.args.token.now _ (sym c.if-not-is_use.ensures) c.if-depth-eq0.true)

pub returns-in-None-clause-err : goal.returns-in-None-clause-err
returns-in-None-clause-err t c =
    let none : definitions_of c.args.macros.now (name_of c.args.token.now) ≡ None = cc (c.in-None.ensures, c.name_of.ensures) in
    inr (expanded-unknown c.args.depth (definitions_of c.args.macros.now) c.args.token.now _ (sym c.if-not-is_use.ensures) c.if-depth-eq0.false none)

pub returns-in_err-count-in-Some-clause-err : goal.returns-in_err-count-in-Some-clause-err
returns-in_err-count-in-Some-clause-err t c =
    let some : definitions_of c.args.macros.now (name_of c.args.token.now) ≡ Some c.in-Some.text.now = cc (c.in-Some.ensures, c.name_of.ensures) in
    let full = expanded-full c.args.depth (definitions_of c.args.macros.now) c.args.token.now c.args.self.now.left _ (sym c.if-not-is_use.ensures) c.if-depth-eq0.false some c.in_err-count-in-Some.ensures.err.0 in
    let p = err_from_is_err_and c.from_residual.result c.from_residual.ensures.1 in
    rw (p.1, p.2, c.in_err-count-in-Some.ensures.err.1) (inr full)

pub returns-in_err-add-in-Some-clause-err : goal.returns-in_err-add-in-Some-clause-err
returns-in_err-add-in-Some-clause-err t c =
    let some : definitions_of c.args.macros.now (name_of c.args.token.now) ≡ Some c.in-Some.text.now = cc (c.in-Some.ensures, c.name_of.ensures) in
    let room : 0 < c.args.self.now.left = c.in_ok-count-in-Some.ensures.ok_some in
    let i = rw c.in_ok-count-in-Some.ensures.ok at c.loop-inner.invariant in
    let inside : c.loop-inner.inner-index < length c.in-Some.text.now = omega arith in
    let p = err_from_is_err_and c.from_residual-in_err-add-in-Some.result c.from_residual-in_err-add-in-Some.ensures.1 in
    rw (p.1, p.2) (text-refused c.args.depth (definitions_of c.args.macros.now) c.args.token.now c.args.self.now.left _ c.args.self.now.given.items c.loop-inner.self.given.items c.loop-inner.inner-index c.loop-inner.self.left _ _ (sym c.if-not-is_use.ensures) c.if-depth-eq0.false some room i inside c.in_err-add-in-Some.ensures.err)

pub returns-after-loop-inner-clause-ok : goal.returns-after-loop-inner-clause-ok
returns-after-loop-inner-clause-ok t c =
    let some : definitions_of c.args.macros.now (name_of c.args.token.now) ≡ Some c.in-Some.text.now = cc (c.in-Some.ensures, c.name_of.ensures) in
    let room : 0 < c.args.self.now.left = c.in_ok-count-in-Some.ensures.ok_some in
    let i = rw c.in_ok-count-in-Some.ensures.ok at c.loop-inner.invariant in
    text-given c.args.depth (definitions_of c.args.macros.now) c.args.token.now c.args.self.now.left _ c.args.self.now.given.items c.loop-inner.self.given.items c.loop-inner.inner-index c.loop-inner.self.left (sym c.if-not-is_use.ensures) c.if-depth-eq0.false some room i (omega arith)
