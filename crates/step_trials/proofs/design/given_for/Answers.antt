use Rattle.step_trials.proofs.Common.{◌≡◌, ℕ, List, ◌++◌, ◌∙◌, ap, sym, subst, IfOk-weaker, Bit, Port, Register, RawNetlist, Nets, plain, bits_at, d_bits, port_numbers, laid, after_order, design}
use Rattle.step_trials.proofs.Common.{nets_of, free_list, given, GivesAt}
use Rattle.step_trials.proofs.Settles.{computed, computed-gives, taken-plain, d-wide}
use Rattle.step_trials.proofs.TableLemmas.{free_below}
use Rattle.step_trials.proofs.design.given_for.Goals as goal

pub lay-requires : goal.lay-requires
lay-requires c = rw (c.requires.bits, c.requires.room) (free_below c.args.netlist.now c.raw-raw.ensures.sound)

pub given_by-requires-clause-outputs : goal.given_by-requires-clause-outputs
given_by-requires-clause-outputs c = rw (c.as_slice.ensures, c.raw-raw.ensures.value) c.raw-raw.ensures.sound.formed.outputs

pub given_by-requires-clause-next : goal.given_by-requires-clause-next
given_by-requires-clause-next c = rw (c.as_slice-2.ensures, c.raw-raw.ensures.value) (d-wide _ c.raw-raw.ensures.sound.formed.registers)

pub returns : goal.returns
returns c =
    let plan = c.args.netlist.now in
    let raw : RawNetlist = plan.raw in
    let n = c.args.number in
    let start : Nets = nets_of c.args.table.now in
    let s : Nets = nets_of c.settle.new.table in
    let from : nets_of c.lay.new.table ≡ laid start (free_list raw) n = c.lay.ensures ∙ ap (λ (xs : List Bit). laid start xs n) c.requires.bits in
    let is : s ≡ computed plan start n = c.settle.ensures ∙ ap (after_order plain raw.cells plan.order) from in
    let outputs : c.as_slice.result.now ≡ raw.outputs = c.as_slice.ensures ∙ ap (λ (r : RawNetlist). r.outputs) c.raw-raw.ensures.value in
    let registers : c.as_slice-2.result.now ≡ raw.registers = c.as_slice-2.ensures ∙ ap (λ (r : RawNetlist). r.registers) c.raw-raw.ensures.value in
    let gives : GivesAt (design raw) n (given (design raw) (computed plan start n)) = computed-gives c.one_run.ensures.settles c.one_run.ensures.answer plan c.raw-raw.ensures.sound start n in
    let here : GivesAt (design raw) n (given (design raw) s) = subst (λ (x : Nets). GivesAt (design raw) n (given (design raw) x)) (sym is) gives in
    let told : port_numbers s (bits_at c.as_slice.result.now) ++ port_numbers s (d_bits c.as_slice-2.result.now) ≡ given (design raw) s =
    ap (λ (ports : List Port). port_numbers s (bits_at ports) ++ port_numbers s (d_bits c.as_slice-2.result.now)) outputs
    ∙ ap (λ (rs : List Register). port_numbers s (bits_at raw.outputs) ++ port_numbers s (d_bits rs)) registers
    ∙ ap (λ (next : List ℕ). port_numbers s (bits_at raw.outputs) ++ next) (taken-plain s 0 raw.registers) in
    IfOk-weaker c.given_by.result (λ list. list ≡ port_numbers s (bits_at c.as_slice.result.now) ++ port_numbers s (d_bits c.as_slice-2.result.now)) (GivesAt (design raw) n)
    (λ list listed. subst (GivesAt (design raw) n) (sym (listed ∙ told)) here) c.given_by.ensures
