use Rattle.campaign_choice.proofs.Common.{◌≡◌, take, names_of}
use Rattle.campaign_choice.proofs.mutations.file_names.Given as goal

abbrev pub invariant-loop-file : goal.invariant-loop-file
invariant-loop-file l = l.names.items ≡ names_of (take l.file-index l.files)
