use Rattle.tb_process.proofs.Common.{tree_of}
use Rattle.tb_process.proofs.Following.{goes_on, finishes, is_too_long}
use Rattle.tb_process.proofs.phase.run_phase.Goals as goal

pub returns-in_ok-end_phase-in-Pauses-clause-phase : goal.returns-in_ok-end_phase-in-Pauses-clause-phase
returns-in_ok-end_phase-in-Pauses-clause-phase c = λ trees s code stands. goes_on c.args.parts.now (tree_of trees) c.args.sim.now.plan.raw s c.args.phase c.args.sim.now c.end_phase.new.sim c.args.scene.now c.begin_phase.new.scene c.run_processes.new.scene c.end_phase.new.scene c.args.initial.now c.run_processes.new.initial c.event_of-event.result c.in_ok-run_processes.field-0 c.requires.of stands c.event_of-event.ensures c.begin_phase.ensures c.in-Pauses.is (c.in_ok-run_processes.ensures.ran trees code) (c.in_ok-end_phase-in-Pauses.ensures.settles (tree_of trees)) c.in_ok-end_phase-in-Pauses.ensures.registers c.in_ok-end_phase-in-Pauses.ensures.rest

pub returns-in-Finished-clause-phase : goal.returns-in-Finished-clause-phase
returns-in-Finished-clause-phase c = λ trees s code stands. finishes c.args.parts.now (tree_of trees) c.args.sim.now.plan.raw s c.args.phase c.args.sim.now c.args.scene.now c.begin_phase.new.scene c.run_processes.new.scene c.args.initial.now c.run_processes.new.initial c.event_of-event.result c.in_ok-run_processes.field-0 c.requires.of stands c.event_of-event.ensures c.begin_phase.ensures c.in-Finished.is (c.in_ok-run_processes.ensures.ran trees code)

pub returns-in-TooLong-clause-phase : goal.returns-in-TooLong-clause-phase
returns-in-TooLong-clause-phase c = λ trees s code stands. is_too_long c.args.parts.now (tree_of trees) c.args.sim.now.plan.raw s c.args.phase c.args.sim.now c.args.scene.now c.begin_phase.new.scene c.run_processes.new.scene c.args.initial.now c.run_processes.new.initial c.event_of-event.result c.in_ok-run_processes.field-0 c.requires.of stands c.event_of-event.ensures c.begin_phase.ensures c.in-TooLong.is (c.in_ok-run_processes.ensures.ran trees code)
