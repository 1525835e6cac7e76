use Rattle.flat_items.proofs.Common.{sym, ap, ◌∙◌, IfOk-weaker, GenerateLoop, Names, opened_of, condition_in, place_of, flat_of}
use Rattle.flat_items.proofs.Rules.{Tested, turn_goes, turn_ends, turn_refused}
use Rattle.flat_items.proofs.flat.Flat.turn.Goals as goal

pub returns-in-Goes : goal.returns-in-Goes
returns-in-Goes c = IfOk-weaker c.turn_block.result _ _ (λ tasks once.
    let next = flat_of c.turn_block.new.self in
    let h : Tested (flat_of c.args.self.now) (flat_of c.take_signals-signals.new.self) next c.args.place c.args.turn (place_of c.in-Some.around.now) tasks.items (opened_of c.in_ok-child.child) c.take_signals-signals.result.items c.get-2.result.now c.is_full-full.result c.condition-value.result = record {
      full_is = c.is_full-full.ensures;
      signals_are = c.take_signals-signals.ensures.signals;
      taken = c.take_signals-signals.ensures.taken;
      got = c.in-Some.ensures;
      starts = c.in_ok-child.ensures;
      condition_is = c.get-2.ensures ∙ ap (λ (l : GenerateLoop). l.condition) c.get.ensures;
      value_is = c.condition-value.ensures ∙ ap (λ (m : Names). condition_in m c.get-2.result.now) c.scope.ensures;
    } in
    turn_goes (flat_of c.args.self.now) (flat_of c.take_signals-signals.new.self) next c.args.place c.args.turn (place_of c.in-Some.around.now) tasks.items (opened_of c.in_ok-child.child) c.take_signals-signals.result.items c.get-2.result.now c.is_full-full.result c.condition-value.result h (sym c.tested.ensures ∙ c.in-Goes.is) once) c.turn_block.ensures

pub returns-in-Ends : goal.returns-in-Ends
returns-in-Ends c = IfOk-weaker c.told.result _ _ (λ tasks e.
    let next = flat_of c.give_back.new.self in
    let h : Tested (flat_of c.args.self.now) (flat_of c.take_signals-signals.new.self) next c.args.place c.args.turn (place_of c.in-Some.around.now) tasks.items (opened_of c.in_ok-child.child) c.take_signals-signals.result.items c.get-2.result.now c.is_full-full.result c.condition-value.result = record {
      full_is = c.is_full-full.ensures;
      signals_are = c.take_signals-signals.ensures.signals;
      taken = c.take_signals-signals.ensures.taken;
      got = c.in-Some.ensures;
      starts = c.in_ok-child.ensures;
      condition_is = c.get-2.ensures ∙ ap (λ (l : GenerateLoop). l.condition) c.get.ensures;
      value_is = c.condition-value.ensures ∙ ap (λ (m : Names). condition_in m c.get-2.result.now) c.scope.ensures;
    } in
    turn_ends (flat_of c.args.self.now) (flat_of c.take_signals-signals.new.self) next c.args.place c.args.turn (place_of c.in-Some.around.now) tasks.items (opened_of c.in_ok-child.child) c.take_signals-signals.result.items c.get-2.result.now c.is_full-full.result c.condition-value.result h (sym c.tested.ensures ∙ c.in-Ends.is) c.give_back.ensures e) c.told.ensures

pub returns : goal.returns
returns c = IfOk-weaker c.one.result _ _ (λ tasks e.
    let next = flat_of c.give_back-in-Refused.new.self in
    let h : Tested (flat_of c.args.self.now) (flat_of c.take_signals-signals.new.self) next c.args.place c.args.turn (place_of c.in-Some.around.now) tasks.items (opened_of c.in_ok-child.child) c.take_signals-signals.result.items c.get-2.result.now c.is_full-full.result c.condition-value.result = record {
      full_is = c.is_full-full.ensures;
      signals_are = c.take_signals-signals.ensures.signals;
      taken = c.take_signals-signals.ensures.taken;
      got = c.in-Some.ensures;
      starts = c.in_ok-child.ensures;
      condition_is = c.get-2.ensures ∙ ap (λ (l : GenerateLoop). l.condition) c.get.ensures;
      value_is = c.condition-value.ensures ∙ ap (λ (m : Names). condition_in m c.get-2.result.now) c.scope.ensures;
    } in
    turn_refused (flat_of c.args.self.now) (flat_of c.take_signals-signals.new.self) next c.args.place c.args.turn (place_of c.in-Some.around.now) tasks.items (opened_of c.in_ok-child.child) c.take_signals-signals.result.items c.get-2.result.now c.is_full-full.result c.condition-value.result c.in-Refused.error h (sym c.tested.ensures ∙ c.in-Refused.is) c.give_back-in-Refused.ensures e) c.one.ensures
