use Rattle.elab_finish.proofs.Common.{◌≡◌, sym, ◌∙◌, false≢true, Unknown, From, Looped, next_of}
use Rattle.elab_finish.proofs.Searching.{met_loops, settles}
use Rattle.elab_finish.proofs.search.Search.close.Goals as goal

pub go_round-requires-clause-looped : goal.go_round-requires-clause-looped
go_round-requires-clause-looped c = met_loops (next_of c.args.builder.now) c.args.self.now.marks.items c.args.start c.args.met c.requires.walked (c.is_from.ensures.0 c.if-is_from.true)

pub returns-then-is_from-clause-settled : goal.returns-then-is_from-clause-settled
returns-then-is_from-clause-settled c =
    settles (next_of c.args.builder.now) c.go_round.new.self.marks.items c.args.start c.args.met (c.go_round.ensures.walked c.args.start c.requires.walked)
    (λ e. (let bad : Looped ≡ Unknown = sym c.go_round.ensures.met ∙ e in absurd cc))
    (λ e. (let bad : Looped ≡ From c.args.start = sym c.go_round.ensures.met ∙ e in absurd cc))

pub returns-else-is_from-clause-settled : goal.returns-else-is_from-clause-settled
returns-else-is_from-clause-settled c =
    settles (next_of c.args.builder.now) c.args.self.now.marks.items c.args.start c.args.met c.requires.walked c.requires.known (λ e. false≢true (sym c.if-is_from.false ∙ c.is_from.ensures.1 e))
