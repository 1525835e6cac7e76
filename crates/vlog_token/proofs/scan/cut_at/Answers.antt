use Rattle.vlog_token.proofs.Common.{◌≤◌, length, take, drop, subst, IsHere, piece_of}
use Rattle.vlog_token.proofs.CutLemmas.{part_cut}
use Rattle.vlog_token.proofs.scan.cut_at.Goals as goal

pub split_at-requires : goal.split_at-requires
split_at-requires c =
    let kind = c.in-Ok.part.kind in
    let n = c.in-Ok.part.len in
    let here = subst (λ b. (n ≤ length b) × IsHere (piece_of kind (take n b)) (drop n b)) c.as_bytes.ensures.value c.in-Ok.ensures in
    part_cut kind c.args.text.now n c.utf8.text here.0 here.1
