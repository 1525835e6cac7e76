use Rattle.cell_gates.proofs.Common.{◌≡◌, List, length, sym, subst, ap, ◌∙◌, arith, All, GateLit, count, IsLit, fitted_to, grown-length, lits-later, row-told, kept_in}
use Rattle.cell_gates.proofs.CellLemmas.{kept-adds, fitted-within, length-fitted}
use Rattle.cell_gates.proofs.choices.put.Goals as goal

pub shifted-requires-clause-room : goal.shifted-requires-clause-room
shifted-requires-clause-room c =
    let K = row-told (kept_in c.args.gates.now c.args.a.now c.args.b.now (length c.args.d.now)) c.in_ok-kept.ensures (kept-adds c.args.gates.now c.args.a.now c.args.b.now (length c.args.d.now) c.requires.a c.requires.b c.requires.narrow) in
    omega (arith, (grown-length K.grows).1, c.requires.room, c.requires.narrow, c.requires.short)

pub shifted-requires-clause-bits : goal.shifted-requires-clause-bits
shifted-requires-clause-bits c =
    let K = row-told (kept_in c.args.gates.now c.args.a.now c.args.b.now (length c.args.d.now)) c.in_ok-kept.ensures (kept-adds c.args.gates.now c.args.a.now c.args.b.now (length c.args.d.now) c.requires.a c.requires.b c.requires.narrow) in
    subst (λ (l : List GateLit). All (IsLit (count c.kept.new.gates)) l) (sym (c.deref.ensures.value ∙ c.in_ok-wide.ensures)) (lits-later K.grows (fitted_to (length c.args.a.now) c.args.d.now) (fitted-within (count c.args.gates.now) (length c.args.a.now) c.args.d.now c.requires.d))

pub shifted-requires-clause-places : goal.shifted-requires-clause-places
shifted-requires-clause-places c =
    let K = row-told (kept_in c.args.gates.now c.args.a.now c.args.b.now (length c.args.d.now)) c.in_ok-kept.ensures (kept-adds c.args.gates.now c.args.a.now c.args.b.now (length c.args.d.now) c.requires.a c.requires.b c.requires.narrow) in
    lits-later K.grows c.args.b.now c.requires.b

pub row-requires-clause-room : goal.row-requires-clause-room
row-requires-clause-room c =
    let K = row-told (kept_in c.args.gates.now c.args.a.now c.args.b.now (length c.args.d.now)) c.in_ok-kept.ensures (kept-adds c.args.gates.now c.args.a.now c.args.b.now (length c.args.d.now) c.requires.a c.requires.b c.requires.narrow) in
    let wide : length c.deref.result.now ≡ length c.args.a.now = ap (λ (l : List GateLit). length l) (c.deref.ensures.value ∙ c.in_ok-wide.ensures) ∙ length-fitted (length c.args.a.now) c.args.d.now in
    let long : length c.deref-2.result.now ≡ length c.args.a.now = ap (λ (l : List GateLit). length l) c.deref-2.ensures.value ∙ K.wide in
    omega (arith, (grown-length K.grows).1, (grown-length c.in_ok-laid.ensures.adds.grows).1, wide, long, c.requires.room, c.requires.narrow, c.requires.short)

pub row-requires-clause-a : goal.row-requires-clause-a
row-requires-clause-a c =
    let K = row-told (kept_in c.args.gates.now c.args.a.now c.args.b.now (length c.args.d.now)) c.in_ok-kept.ensures (kept-adds c.args.gates.now c.args.a.now c.args.b.now (length c.args.d.now) c.requires.a c.requires.b c.requires.narrow) in
    subst (λ (l : List GateLit). All (IsLit (count c.shifted.new.gates)) l) (sym c.deref-2.ensures.value) (lits-later c.in_ok-laid.ensures.adds.grows c.in_ok-kept.kept.items K.within)

pub row-requires-clause-same : goal.row-requires-clause-same
row-requires-clause-same c =
    let K = row-told (kept_in c.args.gates.now c.args.a.now c.args.b.now (length c.args.d.now)) c.in_ok-kept.ensures (kept-adds c.args.gates.now c.args.a.now c.args.b.now (length c.args.d.now) c.requires.a c.requires.b c.requires.narrow) in
    let wide : length c.deref.result.now ≡ length c.args.a.now = ap (λ (l : List GateLit). length l) (c.deref.ensures.value ∙ c.in_ok-wide.ensures) ∙ length-fitted (length c.args.a.now) c.args.d.now in
    let long : length c.deref-2.result.now ≡ length c.args.a.now = ap (λ (l : List GateLit). length l) c.deref-2.ensures.value ∙ K.wide in
    let last : length c.deref-3.result.now ≡ length c.args.a.now = ap (λ (l : List GateLit). length l) c.deref-3.ensures.value ∙ c.in_ok-laid.ensures.adds.wide ∙ wide in
    long ∙ sym last
