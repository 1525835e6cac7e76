use Rattle.pair_gates.proofs.Common.{◌≡◌, ◌↔◌, List, length, ap, subst, ◌∙◌, arith, Values, IsModel, RawNetlist, Plan, free_bits, GateLit, Gates, count, Hold, MadeRow, grown-length, IsSome}
use Rattle.pair_gates.proofs.Common.{miter_clauses, Lits, lits_of, bits_lits, within-later, step_bits, pair_row}
use Rattle.pair_gates.proofs.Widths.{free-bits-same}
use Rattle.pair_gates.proofs.Pairing.{none_of, row_as, row-is, first-many, refused-err, rows-same, row-few, row-within, tell-row}
use Rattle.pair_gates.proofs.pair.pair_miter.Goals as goal

pub returns-in_err-first-clause-refused : goal.returns-in_err-first-clause-refused
returns-in_err-first-clause-refused c =
    let a : Plan = c.args.original.now in
    let b : Plan = c.args.mutant.now in
    let start : c.new-gates.result ≡ none_of (free_bits a.raw) = c.new-gates.ensures ∙ ap none_of c.requires.free in
    refused-err a b c.from_residual.result c.in_err-first.field-0.0 c.from_residual.ensures.1 c.requires.alike (omega (arith, c.requires.free, c.requires.few))
    (λ is. first-many a b c.raw-left.ensures.sound c.raw-right.ensures.sound c.requires.alike c.new-gates.result start (c.in_err-first.ensures.too_many is))

pub netlist_gates-requires-2-clause-free : goal.netlist_gates-requires-2-clause-free
netlist_gates-requires-2-clause-free c =
    let same = free-bits-same c.args.original.now.raw c.args.mutant.now.raw c.requires.alike in
    let start : c.new-gates.result.free ≡ c.args.free = ap (λ (g : Gates). g.free) c.new-gates.ensures in
    omega (arith, same, start, c.in_ok-first.ensures.grows.free, c.requires.free)

pub row-requires-clause-room : goal.row-requires-clause-room
row-requires-clause-room c =
    let a : Plan = c.args.original.now in
    let first : Lits = lits_of c.in_ok-first.first in
    let is_shown : c.deref.result.now ≡ bits_lits first (step_bits a.raw) = c.deref.ensures.value ∙ c.in_ok-shown.ensures ∙ ap (λ (r : RawNetlist). bits_lits first (step_bits r)) c.raw-left.ensures.value in
    let few = row-few a c.raw-left.ensures.sound first c.deref.result.now is_shown in
    omega (arith, few, c.in_ok-second.ensures.limit)

pub row-requires-clause-a : goal.row-requires-clause-a
row-requires-clause-a c =
    let a : Plan = c.args.original.now in
    let first : Lits = lits_of c.in_ok-first.first in
    let is_shown : c.deref.result.now ≡ bits_lits first (step_bits a.raw) = c.deref.ensures.value ∙ c.in_ok-shown.ensures ∙ ap (λ (r : RawNetlist). bits_lits first (step_bits r)) c.raw-left.ensures.value in
    row-within a c.netlist_gates-2.new.gates first (within-later c.in_ok-second.ensures.grows first c.in_ok-first.ensures.within) c.deref.result.now is_shown

pub row-requires-clause-b : goal.row-requires-clause-b
row-requires-clause-b c =
    let b : Plan = c.args.mutant.now in
    let second : Lits = lits_of c.in_ok-second.second in
    let is_others : c.deref-2.result.now ≡ bits_lits second (step_bits b.raw) = c.deref-2.ensures.value ∙ c.in_ok-others.ensures ∙ ap (λ (r : RawNetlist). bits_lits second (step_bits r)) c.raw-right.ensures.value in
    row-within b c.netlist_gates-2.new.gates second c.in_ok-second.ensures.within c.deref-2.result.now is_others

pub row-requires-clause-same : goal.row-requires-clause-same
row-requires-clause-same c =
    let a : Plan = c.args.original.now in
    let b : Plan = c.args.mutant.now in
    let first : Lits = lits_of c.in_ok-first.first in
    let second : Lits = lits_of c.in_ok-second.second in
    let is_shown : c.deref.result.now ≡ bits_lits first (step_bits a.raw) = c.deref.ensures.value ∙ c.in_ok-shown.ensures ∙ ap (λ (r : RawNetlist). bits_lits first (step_bits r)) c.raw-left.ensures.value in
    let is_others : c.deref-2.result.now ≡ bits_lits second (step_bits b.raw) = c.deref-2.ensures.value ∙ c.in_ok-others.ensures ∙ ap (λ (r : RawNetlist). bits_lits second (step_bits r)) c.raw-right.ensures.value in
    rows-same a b c.raw-left.ensures.sound c.raw-right.ensures.sound c.requires.alike first second c.deref.result.now c.deref-2.result.now is_shown is_others

pub miter-requires-clause-few_gates : goal.miter-requires-clause-few_gates
miter-requires-clause-few_gates c =
    let a : Plan = c.args.original.now in
    let first : Lits = lits_of c.in_ok-first.first in
    let is_shown : c.deref.result.now ≡ bits_lits first (step_bits a.raw) = c.deref.ensures.value ∙ c.in_ok-shown.ensures ∙ ap (λ (r : RawNetlist). bits_lits first (step_bits r)) c.raw-left.ensures.value in
    let few = row-few a c.raw-left.ensures.sound first c.deref.result.now is_shown in
    let grown = grown-length c.in_ok-apart.ensures.adds.grows in
    omega (arith, few, grown.1, c.in_ok-second.ensures.limit)

pub miter-requires-clause-few_literals : goal.miter-requires-clause-few_literals
miter-requires-clause-few_literals c =
    let a : Plan = c.args.original.now in
    let first : Lits = lits_of c.in_ok-first.first in
    let is_shown : c.deref.result.now ≡ bits_lits first (step_bits a.raw) = c.deref.ensures.value ∙ c.in_ok-shown.ensures ∙ ap (λ (r : RawNetlist). bits_lits first (step_bits r)) c.raw-left.ensures.value in
    let few = row-few a c.raw-left.ensures.sound first c.deref.result.now is_shown in
    let long = ap (λ (l : List GateLit). length l) c.deref-3.ensures.value in
    omega (arith, few, long, c.in_ok-apart.ensures.adds.wide)

pub returns-clause-clauses : goal.returns-clause-clauses
returns-clause-clauses c =
    let a : Plan = c.args.original.now in
    let b : Plan = c.args.mutant.now in
    let first : Lits = lits_of c.in_ok-first.first in
    let second : Lits = lits_of c.in_ok-second.second in
    let start : c.new-gates.result ≡ none_of (free_bits a.raw) = c.new-gates.ensures ∙ ap none_of c.requires.free in
    let is_shown : c.deref.result.now ≡ bits_lits first (step_bits a.raw) = c.deref.ensures.value ∙ c.in_ok-shown.ensures ∙ ap (λ (r : RawNetlist). bits_lits first (step_bits r)) c.raw-left.ensures.value in
    let is_others : c.deref-2.result.now ≡ bits_lits second (step_bits b.raw) = c.deref-2.ensures.value ∙ c.in_ok-others.ensures ∙ ap (λ (r : RawNetlist). bits_lits second (step_bits r)) c.raw-right.ensures.value in
    let made : row_as c.row.new.gates c.in_ok-apart.apart.items ≡ pair_row a b =
    row-is a b c.new-gates.result c.netlist_gates.new.gates c.netlist_gates-2.new.gates first second start c.in_ok-first.ensures.made c.in_ok-second.ensures.made c.deref.result.now c.deref-2.result.now c.in_ok-apart.apart.items c.row.new.gates is_shown is_others c.in_ok-apart.ensures.made in
    c.in_ok-miter.ensures.clauses ∙ ap (λ (l : List GateLit). miter_clauses c.row.new.gates l) c.deref-3.ensures.value ∙ ap (λ (r : MadeRow). miter_clauses r.gates r.bits) made

pub returns-clause-variables : goal.returns-clause-variables
returns-clause-variables c =
    let a : Plan = c.args.original.now in
    let b : Plan = c.args.mutant.now in
    let first : Lits = lits_of c.in_ok-first.first in
    let second : Lits = lits_of c.in_ok-second.second in
    let start : c.new-gates.result ≡ none_of (free_bits a.raw) = c.new-gates.ensures ∙ ap none_of c.requires.free in
    let is_shown : c.deref.result.now ≡ bits_lits first (step_bits a.raw) = c.deref.ensures.value ∙ c.in_ok-shown.ensures ∙ ap (λ (r : RawNetlist). bits_lits first (step_bits r)) c.raw-left.ensures.value in
    let is_others : c.deref-2.result.now ≡ bits_lits second (step_bits b.raw) = c.deref-2.ensures.value ∙ c.in_ok-others.ensures ∙ ap (λ (r : RawNetlist). bits_lits second (step_bits r)) c.raw-right.ensures.value in
    let made : row_as c.row.new.gates c.in_ok-apart.apart.items ≡ pair_row a b =
    row-is a b c.new-gates.result c.netlist_gates.new.gates c.netlist_gates-2.new.gates first second start c.in_ok-first.ensures.made c.in_ok-second.ensures.made c.deref.result.now c.deref-2.result.now c.in_ok-apart.apart.items c.row.new.gates is_shown is_others c.in_ok-apart.ensures.made in
    c.in_ok-miter.ensures.variables ∙ ap (λ (r : MadeRow). count r.gates) made

pub returns-clause-tell : goal.returns-clause-tell
returns-clause-tell c =
    let a : Plan = c.args.original.now in
    let b : Plan = c.args.mutant.now in
    let first : Lits = lits_of c.in_ok-first.first in
    let second : Lits = lits_of c.in_ok-second.second in
    let start : c.new-gates.result ≡ none_of (free_bits a.raw) = c.new-gates.ensures ∙ ap none_of c.requires.free in
    let is_shown : c.deref.result.now ≡ bits_lits first (step_bits a.raw) = c.deref.ensures.value ∙ c.in_ok-shown.ensures ∙ ap (λ (r : RawNetlist). bits_lits first (step_bits r)) c.raw-left.ensures.value in
    let is_others : c.deref-2.result.now ≡ bits_lits second (step_bits b.raw) = c.deref-2.ensures.value ∙ c.in_ok-others.ensures ∙ ap (λ (r : RawNetlist). bits_lits second (step_bits r)) c.raw-right.ensures.value in
    let made : row_as c.row.new.gates c.in_ok-apart.apart.items ≡ pair_row a b =
    row-is a b c.new-gates.result c.netlist_gates.new.gates c.netlist_gates-2.new.gates first second start c.in_ok-first.ensures.made c.in_ok-second.ensures.made c.deref.result.now c.deref-2.result.now c.in_ok-apart.apart.items c.row.new.gates is_shown is_others c.in_ok-apart.ensures.made in
    tell-row c.one_run.ensures.settles c.one_run.ensures.answer c.gates_have_values.ensures.some a b c.raw-left.ensures.sound c.raw-right.ensures.sound c.requires.alike c.in_ok-miter.field-0.store c.row.new.gates c.in_ok-apart.apart.items made c.len.ensures.ordered
    (subst (λ (l : List GateLit). (values : Values) → IsModel values c.in_ok-miter.field-0.store ↔ (Hold c.row.new.gates values × IsSome values l)) c.deref-3.ensures.value c.in_ok-miter.ensures.models)
