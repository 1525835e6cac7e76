use Rattle.elab_items.proofs.Common.{[], ◌∷◌, Some, refl}
use Rattle.elab_proc.proofs.Firsts.{first_alone}
use Rattle.elab_items.proofs.timed.first_found.Goals as goal

pub returns-in-Some : goal.returns-in-Some
returns-in-Some c = λ clock h. (Some c.in-Some.first, c.in-Some.ensures (c.args.own ∷ []) clock (first_alone c.args.own) h, refl)

pub returns-in-None : goal.returns-in-None
returns-in-None c = λ clock h. absurd (let none = c.in-None.ensures (c.args.own ∷ []) clock (first_alone c.args.own) h in cc)
