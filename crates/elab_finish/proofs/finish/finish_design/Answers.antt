use Rattle.elab_finish.proofs.Common.{◌≡◌, Result, MatchResult, List, map, sym, ◌∙◌, ap, subst, Cell, RawNetlist, Finishes, DesignError, span_of, AreNamedApart, IsOver, IsWithin}
use Rattle.std.proofs.lemmas.Result.{IfOk-weaker, IfErr-weaker}
use Rattle.elab_finish.proofs.Finishing.{ending_finishes}
use Rattle.elab_finish.proofs.Lefts.{over_refused}
use Rattle.elab_finish.proofs.Sound.{formed, only_loops, as_many}
use Rattle.elab_finish.proofs.finish.finish_design.Goals as goal

-- the netlist can only be refused for loops
abbrev IsTested : RawNetlist → Type 0
IsTested netlist = IsWithin netlist × AreNamedApart netlist.registers

-- what the test of the netlist tells
told : (result : Result (Unit {0}) DesignError) (netlist : RawNetlist) (P : DesignError → Type 0) (x : Result (Unit {0}) DesignError) → result ≡ x → MatchResult result (λ u. IsTested netlist) P → MatchResult x (λ u. IsTested netlist) P
told result netlist P x is h = subst (λ (r : Result (Unit {0}) DesignError). MatchResult r (λ u. IsTested netlist) P) is h

pub returns-clause-refused : goal.returns-clause-refused
returns-clause-refused c =
    over_refused c.args.builder c.args.top c.args.clock c.args.inputs.now c.args.outputs.now c.args.declared.now c.args.lefts.now c.in_ok-netlist.netlist c.in-Err.error c.in_ok-netlist.ensures (told c.test_netlist.result c.in_ok-netlist.netlist (IsOver c.args.builder c.in_ok-netlist.netlist) _ c.in-Err.is (c.test_netlist.ensures c.args.builder))

pub checked-requires-clause-formed : goal.checked-requires-clause-formed
checked-requires-clause-formed c = formed c.args.builder c.args.top c.args.clock c.args.inputs.now c.args.outputs.now c.args.declared.now c.args.lefts.now c.requires c.in_ok-netlist.netlist c.in_ok-netlist.ensures

pub checked-requires-clause-only : goal.checked-requires-clause-only
checked-requires-clause-only c =
    only_loops c.args.builder c.args.top c.args.clock c.args.inputs.now c.args.outputs.now c.args.declared.now c.args.lefts.now c.requires c.in_ok-netlist.netlist c.in_ok-netlist.ensures c.cells.ensures.few (told c.test_netlist.result c.in_ok-netlist.netlist (IsOver c.args.builder c.in_ok-netlist.netlist) _ c.in-Ok.is (c.test_netlist.ensures c.args.builder)).0

pub checked-requires-clause-within : goal.checked-requires-clause-within
checked-requires-clause-within c = (told c.test_netlist.result c.in_ok-netlist.netlist (IsOver c.args.builder c.in_ok-netlist.netlist) _ c.in-Ok.is (c.test_netlist.ensures c.args.builder)).0

pub checked-requires-clause-apart : goal.checked-requires-clause-apart
checked-requires-clause-apart c = (told c.test_netlist.result c.in_ok-netlist.netlist (IsOver c.args.builder c.in_ok-netlist.netlist) _ c.in-Ok.is (c.test_netlist.ensures c.args.builder)).1

pub returns-in-Ok-clause-finishes : goal.returns-in-Ok-clause-finishes
returns-in-Ok-clause-finishes c =
    IfOk-weaker c.checked.result _ _ (λ n same design is. subst (λ (raw : RawNetlist). Finishes c.args.builder design raw) (sym same) (ending_finishes c.args.builder c.args.inputs.now c.args.outputs.now c.args.declared.now c.args.lefts.now c.requires design is c.args.top c.args.clock c.in_ok-netlist.netlist c.in_ok-netlist.ensures)) c.checked.ensures.parts

pub returns-in-Ok-clause-within : goal.returns-in-Ok-clause-within
returns-in-Ok-clause-within c =
    let tested : IsTested c.in_ok-netlist.netlist = told c.test_netlist.result c.in_ok-netlist.netlist (IsOver c.args.builder c.in_ok-netlist.netlist) _ c.in-Ok.is (c.test_netlist.ensures c.args.builder) in
    IfOk-weaker c.checked.result _ _ (λ n same. subst IsWithin (sym same) tested.0) c.checked.ensures.parts

pub returns-in-Ok-clause-apart : goal.returns-in-Ok-clause-apart
returns-in-Ok-clause-apart c =
    let tested : IsTested c.in_ok-netlist.netlist = told c.test_netlist.result c.in_ok-netlist.netlist (IsOver c.args.builder c.in_ok-netlist.netlist) _ c.in-Ok.is (c.test_netlist.ensures c.args.builder) in
    IfOk-weaker c.checked.result _ _ (λ n same. subst (λ (raw : RawNetlist). AreNamedApart raw.registers) (sym same) tested.1) c.checked.ensures.parts

pub returns-in-Ok-clause-refused : goal.returns-in-Ok-clause-refused
returns-in-Ok-clause-refused c =
    let spans = c.deref.ensures.value ∙ c.in_ok-spans.ensures ∙ ap (λ (cells : List Cell). map span_of cells) c.cells.ensures.cells in
    IfErr-weaker c.checked.result _ _ (λ e over. over_refused c.args.builder c.args.top c.args.clock c.args.inputs.now c.args.outputs.now c.args.declared.now c.args.lefts.now c.in_ok-netlist.netlist e c.in_ok-netlist.ensures over)
    (c.checked.ensures.over c.args.builder spans (as_many c.args.builder c.args.top c.args.clock c.args.inputs.now c.args.outputs.now c.args.declared.now c.args.lefts.now c.requires c.in_ok-netlist.netlist c.in_ok-netlist.ensures))
