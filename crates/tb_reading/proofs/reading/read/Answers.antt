use Rattle.tb_reading.proofs.Common.{◌≡◌, ℕ, List, ◌++◌, length, sym, ap, ◌∙◌, subst, RawNetlist, Decl, Names, names_of, Step, Signal, Opened, opened_of, BenchItem, clock_of, held_instance, items_of}
use Rattle.tb_reading.proofs.Common.{Stands, started, Reading, instance_names, input_numbers, output_numbers, instance_widths, instance_values, signal_widths, zeros}
use Rattle.flat_laws.specs.Sound.{NamesSignal}
use Rattle.tb_reading.proofs.Following.{Steps, is_read}
use Rattle.tb_reading.proofs.reading.read.Goals as goal

pub of-requires-clause-names : goal.of-requires-clause-names
of-requires-clause-names c =
    let o : Opened = opened_of c.in_ok-open_alone.field-0 in
    let stands : Stands o = c.opened_modules_stand.ensures c.args.module.now o c.in_ok-open_alone.ensures in
    let signals : c.as_slice.result.now ≡ o.signals = c.as_slice.ensures.value ∙ c.into_parts-parts.ensures.signals in
    let P : Names → Type 0 = λ ns. (name : List ℕ) → NamesSignal o.signals (ns name) in
    let Q : List Signal → Type 0 = λ xs. (name : List ℕ) → NamesSignal xs (names_of c.into_parts-parts.result.scope name) in
    subst Q (sym signals) (subst P (sym c.into_parts-parts.ensures.names) stands.names)

pub returns : goal.returns
returns c =
    let o : Opened = opened_of c.in_ok-open_alone.field-0 in
    let d = c.in_ok-design.design in
    let instance = c.held_instance-instance.result in
    let raw = c.args.netlist.now.raw in
    let fresh = c.in_ok-signals.signals in
    let hidden = c.hide.new.signals in
    let last = c.start_all.new.signals in
    let hid = c.in_ok-hidden.ensures in
    let r : Reading = record { signals = last; declared = c.into_parts-parts.result.signals; clock = c.in_ok-clock.clock; items = c.in_ok-items.items; inputs = c.in_ok-hidden.hidden.inputs; outputs = c.in_ok-hidden.hidden.outputs } in
    let signals : c.as_slice.result.now ≡ o.signals = c.as_slice.ensures.value ∙ c.into_parts-parts.ensures.signals in
    let same_raw : c.raw.result.now ≡ raw = c.raw.ensures.value in
    let steps : Steps raw o d instance fresh hidden r = record {
      declared = c.into_parts-parts.ensures.signals;
      held = c.held_instance-instance.ensures ∙ ap (λ (xs : List Step). held_instance d xs) (c.as_slice-2.ensures.value ∙ c.into_parts-parts.ensures.steps);
      fresh_names = ap names_of c.in_ok-signals.ensures.scope ∙ c.into_parts-parts.ensures.names;
      fresh_widths = c.in_ok-signals.ensures.widths ∙ ap (λ (xs : List Signal). signal_widths xs) signals;
      fresh_values = c.in_ok-signals.ensures.values ∙ ap (λ (xs : List Signal). zeros xs) signals;
      names = hid.names ∙ ap (λ (x : RawNetlist). instance_names d instance x (names_of fresh.scope) (length fresh.widths)) same_raw;
      inputs = hid.inputs ∙ ap (λ (x : RawNetlist). input_numbers instance x (length fresh.widths)) same_raw;
      outputs = hid.outputs ∙ ap (λ (x : RawNetlist). output_numbers instance x (length fresh.widths)) same_raw;
      widths = hid.widths ∙ ap (λ (x : RawNetlist). fresh.widths ++ instance_widths instance x) same_raw;
      values = hid.values ∙ ap (λ (x : RawNetlist). fresh.values ++ instance_values instance x) same_raw;
      scope = c.start_all.ensures.scope;
      same_widths = c.start_all.ensures.widths;
      started_with = c.start_all.ensures.values ∙ ap (λ (xs : List BenchItem). started (names_of hidden.scope) hidden.widths hidden.values xs) c.as_slice-5.ensures.value;
      clock = c.in_ok-clock.ensures ∙ ap (λ (x : List (List ℕ × Decl)). clock_of (names_of x) c.as_slice-3.result.now) c.scope.ensures.scope ∙ ap (λ (xs : List Step). clock_of (names_of hidden.scope) xs) (c.as_slice-3.ensures.value ∙ c.into_parts-parts.ensures.steps);
      items = c.in_ok-items.ensures ∙ ap (λ (x : List (List ℕ × Decl)). items_of (names_of x) d c.in_ok-clock.clock c.as_slice-4.result.now) c.scope-2.ensures.scope ∙ ap (λ (xs : List Step). items_of (names_of hidden.scope) d c.in_ok-clock.clock xs) (c.as_slice-4.ensures.value ∙ c.into_parts-parts.ensures.steps);
    } in
    is_read c.args.module.now c.args.top.now raw o d instance fresh hidden r c.in_ok-open_alone.ensures c.in_ok-design.ensures steps
