use Rattle.campaign_choice.proofs.Common.{◌≡◌, take}
use Rattle.campaign_choice.proofs.campaign.copy_files.Given as goal

abbrev pub invariant-loop-file : goal.invariant-loop-file
invariant-loop-file l = l.copies.items ≡ take l.file-index l.files
