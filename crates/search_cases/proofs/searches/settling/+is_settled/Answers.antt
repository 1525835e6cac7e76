use Rattle.std.proofs.Common.{◌≡◌, ℕ, Bool, List, Option, None, Some, true, false, length, set, ap, sym, ◌∙◌, subst, arith}
use Rattle.std.proofs.lemmas.Bool.{OnTrue_at, OnTrue_from}
use Rattle.std.proofs.lemmas.List.{length-set, set-set, set-get_or}
use Rattle.lrat_checker.specs.Tables.{known_of}
use Rattle.search_cases.specs.Settling.{IsSettled}
use Rattle.search_cases.proofs.Settled.{settled-by_step, settled-by_cases}
use Rattle.search_cases.proofs.searches.settling.+is_settled.Goals as goal

-- a table in which an open variable had two values and is open again
back : (table first second : List (Option Bool)) (w : ℕ) (a b : Option Bool) → known_of table w ≡ None → first ≡ set table w a → second ≡ set first w b → set second w None ≡ table
back table first second w a b open_ e f =
    ap (λ (t : List (Option Bool)). set t w None) (f ∙ ap (λ (t : List (Option Bool)). set t w b) e ∙ set-set table w a b)
    ∙ set-set table w b None
    ∙ ap (set table w) (sym open_)
    ∙ set-get_or table w None

pub returns-then-has_step-clause-settled : goal.returns-then-has_step-clause-settled
returns-then-has_step-clause-settled t c = settled-by_step c.args.clauses.now (known_of c.args.values.now.items) c.args.v (rw c.deref.ensures.value at c.if-has_step.ensures)

pub is_settled-where_false-requires : goal.is_settled-where_false-requires
is_settled-where_false-requires t c =
    let len : length (set c.args.values.now.items c.in-Some.w (Some false)) ≡ length c.args.values.now.items = length-set c.args.values.now.items c.in-Some.w (Some false) in
    (omega (arith, c.decreases, c.if-inputs-eq0.false), (rw len c.requires.over, rw len c.requires.within))

pub is_settled-where_true-requires : goal.is_settled-where_true-requires
is_settled-where_true-requires t c =
    let was : c.is_settled-where_false.new.values.items ≡ set c.args.values.now.items c.in-Some.w (Some false) = c.is_settled-where_false.ensures.same in
    let len : length (set c.is_settled-where_false.new.values.items c.in-Some.w (Some true)) ≡ length c.args.values.now.items = length-set c.is_settled-where_false.new.values.items c.in-Some.w (Some true) ∙ ap (length {A = Option Bool}) was ∙ length-set c.args.values.now.items c.in-Some.w (Some false) in
    (omega (arith, c.decreases, c.if-inputs-eq0.false), (rw len c.requires.over, rw len c.requires.within))

pub returns-then-where_false-clause-settled : goal.returns-then-where_false-clause-settled
returns-then-where_false-clause-settled t c =
    let low : IsSettled c.args.clauses.now (known_of (set c.args.values.now.items c.in-Some.w (Some false))) c.args.v = c.if-where_false.ensures.settled in
    let again : set c.is_settled-where_false.new.values.items c.in-Some.w (Some true) ≡ set c.args.values.now.items c.in-Some.w (Some true) = ap (λ (t : List (Option Bool)). set t c.in-Some.w (Some true)) c.is_settled-where_false.ensures.same ∙ set-set c.args.values.now.items c.in-Some.w (Some false) (Some true) in
    OnTrue_from c.is_settled-where_true.result (IsSettled c.args.clauses.now (known_of c.args.values.now.items) c.args.v) (λ is.
    let P : List (Option Bool) → Type 0 = λ t. IsSettled c.args.clauses.now (known_of t) c.args.v in
    let high : IsSettled c.args.clauses.now (known_of (set c.args.values.now.items c.in-Some.w (Some true))) c.args.v = subst P again (OnTrue_at is c.is_settled-where_true.ensures.settled) in
    settled-by_cases c.args.clauses.now c.args.values.now.items c.args.v c.in-Some.w c.in-Some.ensures.0 c.in-Some.ensures.1 (omega (arith, c.in-Some.ensures.1, c.requires.within)) low high)

pub returns-then-where_false-clause-same : goal.returns-then-where_false-clause-same
returns-then-where_false-clause-same t c =
    back c.args.values.now.items c.is_settled-where_false.new.values.items c.is_settled-where_true.new.values.items c.in-Some.w (Some false) (Some true) (rw c.deref-2.ensures.value at c.in-Some.ensures.2) c.is_settled-where_false.ensures.same c.is_settled-where_true.ensures.same

pub returns-else-where_false-clause-same : goal.returns-else-where_false-clause-same
returns-else-where_false-clause-same t c =
    back c.args.values.now.items c.is_settled-where_false.new.values.items c.is_settled-where_true.new.values.items c.in-Some.w (Some false) (Some true) (rw c.deref-2.ensures.value at c.in-Some.ensures.2) c.is_settled-where_false.ensures.same c.is_settled-where_true.ensures.same
