use Rattle.mcy_top.proofs.Common.{◌≡◌, ◌∙◌, true, false, length, ap, sym, subst, inl, length-map, err_from_is_err_and, Book, IsFirst, Keeps, bound_of}
use Rattle.mcy_top.proofs.Upgrading.{history_same, upgrade_kept, upgrade_left}
use Rattle.mcy_top.proofs.work.Task.upgrade.Goals as goal

-- what the keeper tells is the loaded book
pub upgrade-requires-clause-first : goal.upgrade-requires-clause-first
upgrade-requires-clause-first g c was held =
    let kept = c.requires.kept (g.met.K.Keeper.told c.args.keeper.now was held) in
    subst IsFirst (sym (g.met.K.Keeper.one c.args.keeper.now was c.args.loaded.now held kept.told)) (c.is_first.ensures.0 c.if-is_first.true)

pub upgrade-requires-clause-bounds : goal.upgrade-requires-clause-bounds
upgrade-requires-clause-bounds g c was held =
    let kept = c.requires.kept (g.met.K.Keeper.told c.args.keeper.now was held) in
    let same = g.met.K.Keeper.one c.args.keeper.now was c.args.loaded.now held kept.told in
    ap length c.in_ok-bounds.ensures ∙ length-map c.args.loaded.now.journal (bound_of c.args.self.now.prepared.now.campaign) ∙ sym (ap (λ (b : Book). length b.journal) same)

-- its history is the book with these bounds
pub returns-in_ok-bounds-clause-kept : goal.returns-in_ok-bounds-clause-kept
returns-in_ok-bounds-clause-kept g c tells =
    upgrade_kept (g.K.Keeper.holds c.args.keeper.now) (g.K.Keeper.holds c.upgrade.new.self) (g.K.Keeper.leaves c.args.keeper.now) (g.K.Keeper.leaves c.upgrade.new.self) c.upgrade.result c.args.self.now.prepared.now c.args.loaded.now c.in_ok-bounds.bounds (c.is_first.ensures.0 c.if-is_first.true) c.in_ok-bounds.ensures (c.requires.kept (c.upgrade.ensures.tells tells)) (c.upgrade.ensures.done tells)

pub returns-in_ok-bounds-clause-left : goal.returns-in_ok-bounds-clause-left
returns-in_ok-bounds-clause-left g c tells =
    upgrade_left (g.K.Keeper.holds c.args.keeper.now) (g.K.Keeper.leaves c.args.keeper.now) (g.K.Keeper.leaves c.upgrade.new.self) c.upgrade.result c.args.self.now.prepared.now c.args.loaded.now c.in_ok-bounds.bounds (c.is_first.ensures.0 c.if-is_first.true) c.in_ok-bounds.ensures (c.requires.kept (c.upgrade.ensures.tells tells)) (c.upgrade.ensures.either tells) (c.upgrade.ensures.refused tells)

-- without memory the book stays
pub returns-in_err-bounds-clause-left : goal.returns-in_err-bounds-clause-left
returns-in_err-bounds-clause-left g c tells =
    let p = err_from_is_err_and c.from_residual.result c.from_residual.ensures.1 in
    rw p.1 (λ left is. inl ((c.requires.kept tells).crash.nothing_else left is))

pub returns-else-is_first-clause-kept : goal.returns-else-is_first-clause-kept
returns-else-is_first-clause-kept g c tells =
    subst (λ (next : Book). Keeps (g.K.Keeper.holds c.args.keeper.now) (g.K.Keeper.leaves c.args.keeper.now) next) (sym (history_same c.args.self.now.prepared.now c.args.loaded.now (λ first. let never : true ≡ false = sym (c.is_first.ensures.1 first) ∙ c.if-is_first.false in cc))) (c.requires.kept tells)
