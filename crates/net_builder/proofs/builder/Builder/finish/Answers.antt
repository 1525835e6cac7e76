use Rattle.net_builder.proofs.Common.{◌≡◌, ◌↔◌, ℕ, List, map, length, sym, ◌∙◌, ap, subst, Word, Bit, Cell, Port, Register, bits_at, Step, Building, numbers_of, LeadsTo, IsStuck, step_of, led_cell}
use Rattle.net_builder.proofs.Common.{led_register, led_port, next_in, known_of, end_in}
use Rattle.net_builder.proofs.Laying.{laid_are}
use Rattle.net_builder.proofs.Starting.{starts_counted}
use Rattle.net_builder.proofs.Handed.{same_err}
use Rattle.net_builder.proofs.builder.Builder.finish.Goals as goal

pub steps_of-requires : goal.steps_of-requires
steps_of-requires c =
    ap (λ (l : List (List Bit)). length l) c.deref.ensures.value
    ∙ starts_counted c.self.inside.starts.items c.self.inside.signals.items c.self.invariant.5
    ∙ ap (λ (l : List Word). length l) (sym c.deref-2.ensures.value)

pub returns-in_err-trace-clause-loops : goal.returns-in_err-trace-clause-loops
returns-in_err-trace-clause-loops c =
    let b = c.args.self in
    let steps : next_in c.in_ok-steps.steps ≡ step_of b (bits_at c.args.inputs.items) =
    laid_are b c.args.inputs.items c.deref-3.result.now c.in_ok-steps.steps c.deref.result.now c.deref-2.result.now c.deref-4.result.now c.deref-5.result.now
    (c.deref.ensures.value ∙ ap (λ (x : Building). x.signals) c.self.view_is)
    (ap numbers_of c.deref-2.ensures.value ∙ ap (λ (x : Building). x.starts) c.self.view_is)
    c.deref-3.ensures.value
    (c.deref-4.ensures.value ∙ ap (λ (x : Building). x.registers) c.self.view_is)
    (c.deref-5.ensures.value ∙ ap (λ (x : Building). x.joints) c.self.view_is)
    c.in_ok-steps.ensures in
    same_err c.from_residual-in_err-trace.result c.in_err-trace.field-0.0 (IsStuck (step_of b (bits_at c.args.inputs.items))) c.from_residual-in_err-trace.ensures.1
    (subst (λ (next : ℕ → Step). IsStuck next c.in_err-trace.field-0.0) steps c.in_err-trace.ensures.loops)

pub returns-clause-finished : goal.returns-clause-finished
returns-clause-finished c =
    let b = c.args.self in
    let to : ℕ → Bit = end_in (known_of c.in_ok-trace.trace) in
    let steps : next_in c.in_ok-steps.steps ≡ step_of b (bits_at c.args.inputs.items) =
    laid_are b c.args.inputs.items c.deref-3.result.now c.in_ok-steps.steps c.deref.result.now c.deref-2.result.now c.deref-4.result.now c.deref-5.result.now
    (c.deref.ensures.value ∙ ap (λ (x : Building). x.signals) c.self.view_is)
    (ap numbers_of c.deref-2.ensures.value ∙ ap (λ (x : Building). x.starts) c.self.view_is)
    c.deref-3.ensures.value
    (c.deref-4.ensures.value ∙ ap (λ (x : Building). x.registers) c.self.view_is)
    (c.deref-5.ensures.value ∙ ap (λ (x : Building). x.joints) c.self.view_is)
    c.in_ok-steps.ensures in
    record {
      to = to;
      leads = λ n end. subst (λ (next : ℕ → Step). LeadsTo next n end ↔ (to n ≡ end)) steps (c.in_ok-trace.ensures.ends n end);
      cells = c.in_ok-led_cells.ensures ∙ ap (λ (cells : List Cell). map (led_cell to) cells) (c.deref-8.ensures.value ∙ ap (λ (x : Building). x.cells) c.self.view_is);
      inputs = c.from_vec.ensures;
      outputs = c.in_ok-led_ports.ensures ∙ ap (λ (ports : List Port). map (led_port to) ports) c.deref-6.ensures.value;
      registers = c.in_ok-led_registers.ensures ∙ ap (λ (rs : List Register). map (led_register to) rs) (c.deref-7.ensures.value ∙ ap (λ (x : Building). x.registers) c.self.view_is);
    }
