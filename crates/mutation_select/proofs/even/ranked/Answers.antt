use Rattle.mutation_select.proofs.Common.{sym, subst, IsPermutation, IfOk-weaker, ranked}
use Rattle.mutation_select.proofs.Ranks.{ranked-walk}
use Rattle.mutation_select.proofs.even.ranked.Goals as goal

pub returns : goal.returns
returns c =
    IfOk-weaker c.by_line.result _ (λ list. IsPermutation (ranked c.args.sites.items) list.items) (λ list is. subst (λ l. IsPermutation (ranked c.args.sites.items) l) (sym is) (rw c.deref.ensures.value (ranked-walk c.args.sites.items c.sort_unstable.new.self.items c.requires.numbered c.sort_unstable.ensures.permutation c.sort_unstable.ensures.sorted))) c.by_line.ensures
