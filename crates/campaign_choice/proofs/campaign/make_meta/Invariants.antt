use Rattle.campaign_choice.proofs.Common.{◌≡◌, ◌∷◌, codes, map, take, file_item}
use Rattle.campaign_choice.proofs.campaign.make_meta.Given as goal

abbrev pub invariant-loop-file : goal.invariant-loop-file
invariant-loop-file l = l.meta.items ≡ codes "2" ∷ l.config ∷ map file_item (take l.file-index l.files)
