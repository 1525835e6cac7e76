use Rattle.std.proofs.Common.{Some, ap, map, string_bytes}
use Rattle.file_calls.proofs.OnFiles.{cause_on, lived_on, none_on, ready_on}
use Rattle.file_calls.proofs.call.call_on_file.Goals as goal

pub returns-clause-answer : goal.returns-clause-answer
returns-clause-answer g c = c.mcy_call-outcome.ensures.answer

pub returns-clause-cause : goal.returns-clause-cause
returns-clause-cause g c =
    cause_on (g.F.SourceFiles.faults c.args.files.now) (g.F.SourceFiles.faults c.mcy_call-outcome.new.files) _ _ _ (g.O.Sink.faults c.args.out.now) (g.O.Sink.faults c.mcy_call-outcome.new.out)
    c.mcy_call-outcome.result c.new-opening.ensures.uncounted c.mcy_call-outcome.ensures.cause

pub returns-clause-quiet : goal.returns-clause-quiet
returns-clause-quiet g c = c.mcy_call-outcome.ensures.quiet

pub returns-clause-life : goal.returns-clause-life
returns-clause-life g c tells =
    lived_on (map string_bytes c.args.words.now) (g.F.SourceFiles.held c.args.files.now) _ _ _ (λ left was. (c.new-opening.ensures.leaves left).0 was) _
    (g.O.Sink.written c.args.out.now) (g.O.Sink.written c.mcy_call-outcome.new.out) c.mcy_call-outcome.result (c.mcy_call-outcome.ensures.life tells)

pub returns-clause-pass : goal.returns-clause-pass
returns-clause-pass g c tells passes = c.mcy_call-outcome.ensures.pass tells (λ book left. passes book ((c.new-opening.ensures.leaves (Some book)).0 left))

pub returns-clause-complete : goal.returns-clause-complete
returns-clause-complete g c tells command ready none =
    c.mcy_call-outcome.ensures.complete tells command
    (ready_on (map string_bytes c.args.words.now) (g.F.SourceFiles.held c.args.files.now) _ _ _ (λ left was. (c.new-opening.ensures.leaves left).0 was) command ready)
    (none_on (g.F.SourceFiles.faults c.args.files.now) (g.F.SourceFiles.faults c.mcy_call-outcome.new.files) _ _ _ (g.O.Sink.faults c.args.out.now) (g.O.Sink.faults c.mcy_call-outcome.new.out)
    c.new-opening.ensures.uncounted none)

pub returns-clause-demo : goal.returns-clause-demo
returns-clause-demo g c seed cells asked =
    let shown = c.mcy_call-outcome.ensures.demo seed cells asked in
    (shown.0, shown.1, shown.2, ap (λ k. k.watcher) shown.3, rw shown.3 c.new-opening.ensures.leaves)

pub returns-clause-baseline : goal.returns-clause-baseline
returns-clause-baseline g c asked =
    let told = c.mcy_call-outcome.ensures.baseline asked in
    (told.0, ap (λ k. k.watcher) told.1, rw told.1 c.new-opening.ensures.leaves)
