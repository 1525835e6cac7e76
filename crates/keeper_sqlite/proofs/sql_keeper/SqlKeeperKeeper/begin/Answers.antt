use Rattle.keeper_sqlite.proofs.Common.{rules, ◌≡◌, true, sym, subst, begun, Keeps, LeavesEither, table_of, Tells, Holds, Leaves}
use Rattle.keeper_sqlite.proofs.Answering.{done_write, refused_write, written_done}
use Rattle.keeper_sqlite.proofs.sql_keeper.SqlKeeperKeeper.begin.Goals as goal

pub returns-clause-either : goal.returns-clause-either
returns-clause-either g c tells fault was held =
    let written = c.begin_through-written in
    let same : c.answer_write.new.self.connection ≡ written.new.connection = search rules in
    let told : Tells g.S.Store written.new.connection = subst (Tells g.S.Store) same tells in
    let held_settled : Holds g.S.Store c.args.self.now.connection true c.args.self.now.table was = subst (λ b. Holds g.S.Store c.args.self.now.connection b c.args.self.now.table was) c.requires.settled held in
    subst (λ o. LeavesEither (Leaves g.S.Store o) was (begun c.args.meta.now c.args.mutations.now)) (sym same)
    (refused_write written.result c.answer_write.result _ c.answer_write.ensures.ok fault (written.ensures.either told) c.args.self.now.table was held_settled (c.requires.empty was held))

pub returns-clause-done : goal.returns-clause-done
returns-clause-done g c tells =
    let written = c.begin_through-written in
    let same : c.answer_write.new.self.connection ≡ written.new.connection = search rules in
    let told : Tells g.S.Store written.new.connection = subst (Tells g.S.Store) same tells in
    let table = c.args.self.now.table in
    let book = begun c.args.meta.now c.args.mutations.now in
    let of : c.of.result ≡ table_of book = c.of.ensures book (search rules) in
    done_write written.result c.answer_write.result _ _ c.answer_write.ensures.memory c.answer_write.ensures.fault (λ ended was held.
    let held_settled : Holds g.S.Store c.args.self.now.connection true table was = subst (λ b. Holds g.S.Store c.args.self.now.connection b table was) c.requires.settled held in
    let keeps = (written_done written.result (written.ensures.done told) ended) table was held_settled (c.requires.empty was held) in
    let is = written_done written.result c.answer_write.ensures.ok ended in
    let now : (c.answer_write.new.self.settled ≡ true) × (c.answer_write.new.self.table ≡ table_of book) = search rules in
    subst (λ o. Keeps (Holds g.S.Store o c.answer_write.new.self.settled c.answer_write.new.self.table) (Leaves g.S.Store o) (begun c.args.meta.now c.args.mutations.now)) (sym same)
    (subst (λ b. Keeps (Holds g.S.Store written.new.connection b c.answer_write.new.self.table) (Leaves g.S.Store written.new.connection) (begun c.args.meta.now c.args.mutations.now)) (sym now.0)
    (subst (λ t. Keeps (Holds g.S.Store written.new.connection true t) (Leaves g.S.Store written.new.connection) (begun c.args.meta.now c.args.mutations.now)) (sym now.1) keeps)))
