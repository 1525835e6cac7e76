use Rattle.vlog_parse.proofs.PartsThere.{parts_there}
use Rattle.vlog_parse.proofs.parser.each_part_is_there.Goals as goal

pub returns : goal.returns
returns c = parts_there
