use Rattle.campaign_choice.proofs.Common.{◌≡◌, List, [], ◌++◌, slice_get, Option, None, Some, sym, cons_option, slice_get_past, Site}
use Rattle.std.proofs.lemmas.List.{append-nil}
use Rattle.campaign_choice.proofs.mutations.add_numbered.Goals as goal

-- where there is no such site the list stays
kept : (list : List Site) (o : Option Site) → o ≡ None → list ≡ list ++ cons_option o []
kept list None is = sym (append-nil list)
kept list (Some site) is = cc

pub returns-in-None : goal.returns-in-None
returns-in-None c = kept c.args.list.now.items (slice_get c.args.all.now c.args.number) (slice_get_past c.args.all.now c.args.number c.in-None.ensures.lookup.3)
