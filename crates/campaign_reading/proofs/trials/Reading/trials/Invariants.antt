use Rattle.campaign_reading.proofs.Common.{take, AreTrials, reading_of}
use Rattle.campaign_reading.proofs.trials.Reading.trials.Given as goal

abbrev pub invariant-loop-number : goal.invariant-loop-number
invariant-loop-number l = AreTrials (reading_of l.self.files.now l.self.modules.now l.self.top.now l.self.netlist.now.raw) (take l.number l.tests) l.trials
