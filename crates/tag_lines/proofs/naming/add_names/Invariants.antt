use Rattle.std.proofs.Common.{◌≡◌, fold, take}
use Rattle.tag_lines.specs.Lines.{with_token}
use Rattle.tag_lines.proofs.naming.add_names.Given as goal

abbrev pub invariant-loop-token : goal.invariant-loop-token
invariant-loop-token l = l.names ≡ fold with_token l.initial.names (take l.token-index l.tokens)
