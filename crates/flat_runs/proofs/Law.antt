-- Cycles of the netlist are cycles of the source, and so are runs.
use Rattle.flat_runs.proofs.Common.{◌≡◌, ℕ, ◌^◌, ◌<◌, ◌≤◌, Bool, List, [], ◌∷◌, ◌++◌, map, length, slice_get, Some, refl, sym, ◌∙◌, ap, subst, inl, inr, Contains, bit_at, slice_get_within, Bit, Fixed}
use Rattle.flat_runs.proofs.Common.{Net, Cell, Register, digit, number, Nets, bit_value, values, plain, Computes, Holds, IsRun, shown, taken, outputs_by, port_numbers, q_bits, laid_all, all_zero}
use Rattle.flat_runs.proofs.Common.{laid_all-numbers, Store, Joint, Building, RunsIn, signal, store, AllSay, all_leave, SomeWrites, Design, IsFree, Cycle, outputs_of, next_of, IsSourceRun}
use Rattle.flat_runs.proofs.Common.{source_outputs, source_states, HasOwnNets, IsBit, IsWritten, AgreeBelow, Extended, Take, AddsItems, Begins, LeadsTo, no_signal, of_input, of_register, unwritten}
use Rattle.flat_runs.proofs.Common.{to_constant, to_net, led, led_cell, Finishes, RunsAlike, BuiltRuns, netlist_states, has_none}
use Rattle.netlist_core.specs.declared.raw.RawNetlist.{RawNetlist}
use Rattle.flat_runs.proofs.Lists.{contains_get, get_contains}
use Rattle.flat_runs.proofs.Values.{bit_digit, digit_injective, value_at, values_same}
use Rattle.flat_runs.proofs.Signals.{bits_in, store_in, net_of, are_below, own_stays, store_fits, store_same, kept_numbers, firsts, firsts_fit, firsts_stored}
use Rattle.flat_runs.proofs.Chain.{Whole, all_items, take_same}
use Rattle.flat_runs.proofs.Led.{full, led-value, computes_full, computes_led, shown_led, get_map, mapped_at}
use Rattle.flat_runs.proofs.Registers.{built_of, taken_all, stored_q, starts_of}

-- a cycle of the source and one of the netlist, from the same inputs and registers, that show and leave the same
pub record CyclesAlike (design : Design) (netlist : RawNetlist) (inputs state : List ℕ) (s : Store) (nets : Nets) : Type 0 where
  pub source_cycle : Cycle design s inputs state
  pub netlist_cycle : Holds (plain nets) nets netlist inputs state
  pub outputs : outputs_of design s ≡ shown (plain nets) netlist
  pub next : next_of design s ≡ taken (plain nets) 0 netlist.registers

-- each cycle of the netlist is one of the source, and the other way round
pub record SameCycles (design : Design) (netlist : RawNetlist) : Type 0 where
  pub of_netlist : (inputs state : List ℕ) (nets : Nets) → Holds (plain nets) nets netlist inputs state → (s : Store) × CyclesAlike design netlist inputs state s nets
  pub of_source : (inputs state : List ℕ) (s : Store) → Cycle design s inputs state → (nets : Nets) × CyclesAlike design netlist inputs state s nets

-- Where nets lead.

leads_to : (last : Building) (design : Design) (netlist : RawNetlist) (f : Finishes last design netlist) (n : ℕ) (end : Bit) → LeadsTo last design n end → f.to n ≡ end
leads_to last design netlist f n end = (f.leads n end).0

end_of : (last : Building) (design : Design) (netlist : RawNetlist) (f : Finishes last design netlist) (n : ℕ) → LeadsTo last design n (f.to n)
end_of last design netlist f n = (f.leads n (f.to n)).1 refl

joint_led : (last : Building) (design : Design) (netlist : RawNetlist) (f : Finishes last design netlist) (n : ℕ) (bit : Bit) → Contains last.joints (record { net = n; bit = bit }) → f.to n ≡ led f.to bit
joint_led last design netlist f n (Fixed v) has = leads_to last design netlist f n (Fixed v) (to_constant n v has)
joint_led last design netlist f n (Net m) has = leads_to last design netlist f n (f.to m) (to_net n m (f.to m) has (end_of last design netlist f m))

-- a run of the builder from one of the netlist
full_runs : (last : Building) (design : Design) (netlist : RawNetlist) (f : Finishes last design netlist) (nets : Nets) → ((c : ℕ) (cell : Cell) → slice_get netlist.cells c ≡ Some cell → Computes (plain nets) nets c cell) → RunsIn last (full f.to nets)
full_runs last design netlist f nets computed = record {
  computed = λ c cell at.
      let P : List Cell → Type 0 = λ (cells : List Cell). slice_get cells c ≡ Some (led_cell f.to cell) in
      computes_full f.to nets c cell (computed c (led_cell f.to cell) (subst P (sym f.cells) (get_map f.to last.cells c cell at)));
  joined = λ k joint at. ap (bit_value nets) (joint_led last design netlist f joint.net joint.bit (get_contains last.joints k joint at)) ∙ led-value f.to nets joint.bit;
}

-- what is shown and left, from a run of the builder
shows : (last : Building) (design : Design) (netlist : RawNetlist) (f : Finishes last design netlist) (nets : Nets) → map (store last (full f.to nets)) design.outputs ≡ shown (plain nets) netlist
shows last design netlist f nets = sym (shown_led f.to nets last.signals design.outputs) ∙ ap (λ (ports : List (List Bit)). map (λ bits. number (values nets bits)) ports) (sym f.outputs)

-- nothing is written at first
unwritten_first : (first : Building) (design : Design) → Begins first design → (k i : ℕ) → ¬ IsWritten first k i
unwritten_first first design b k i w = elim w.2 [
  | inl joined ↦ has_none (record { net = w.0; bit = joined.0 }) (subst (λ (js : List Joint). Contains js (record { net = w.0; bit = joined.0 })) b.joints joined.1)
  | inr stored ↦ has_none stored.0 (subst (λ (rs : List Register). Contains rs stored.0) b.registers stored.1)
]

-- What stands of the last builder.
record Last (first last : Building) (design : Design) : Type 0 where
  own : HasOwnNets last
  widths : (k : ℕ) → length (signal last k) ≡ design.width k
  some : (k : ℕ) → Contains design.registers k → 1 ≤ length (signal last k)
  say : (nets : Nets) → RunsIn last nets → AllSay design.items (store last nets)
  takes : (nets : Nets) → RunsIn last nets → Take last nets last.registers (all_leave design.items (store last nets))
  written : (k i : ℕ) → i < design.width k → IsWritten last k i → SomeWrites design.items k i
  writes : (k i : ℕ) → i < design.width k → SomeWrites design.items k i → IsWritten last k i

last_of : (first last : Building) (design : Design) → Begins first design → Whole design.items first last → Last first last design
last_of first last design b w =
    let widths : (k : ℕ) → length (signal last k) ≡ design.width k = let P : List (List Bit) → Type 0 = λ (s : List (List Bit)). (k : ℕ) → length (bits_in s k) ≡ design.width k in subst P (sym w.signals) b.widths in
    let inside : (k i : ℕ) → i < design.width k → i < length (signal first k) = λ k i less. subst (λ (n : ℕ). i < n) (sym (b.widths k)) less in
    record {
      own = own_stays first last b.own w.signals w.nets;
      widths = widths;
      some = λ k has. subst (λ (n : ℕ). 1 ≤ n) (sym (widths k)) (b.some k has);
      say = λ nets runs. let P : List (List Bit) → Type 0 = λ (s : List (List Bit)). AllSay design.items (store_in s nets) in subst P (sym w.signals) (w.say nets runs);
      takes = λ nets runs.
          let P : List (List Bit) → Type 0 = λ (s : List (List Bit)). Take first nets w.more (all_leave design.items (store_in s nets)) in
          let here : Take first nets w.more (all_leave design.items (store last nets)) = subst P (sym w.signals) (w.takes nets runs) in
          let all : last.registers ≡ w.more = w.registers ∙ ap (λ (rs : List Register). rs ++ w.more) b.registers in
          let Q : List Register → Type 0 = λ (rs : List Register). Take last nets rs (all_leave design.items (store last nets)) in
          subst Q (sym all) (take_same last first nets w.more (all_leave design.items (store last nets)) (sym w.signals) here);
      written = λ k i less written. elim (w.written k i (inside k i less) written) [ inl before ↦ absurd (unwritten_first first design b k i before) | inr some ↦ some ];
      writes = λ k i less some. w.writes k i (inside k i less) (inr some);
    }

leaves_same : (first last : Building) (design : Design) (netlist : RawNetlist) → Last first last design → (f : Finishes last design netlist) (nets : Nets) (s : Store) → Take last (full f.to nets) last.registers (all_leave design.items s) → next_of design s ≡ taken (plain nets) 0 netlist.registers
leaves_same first last design netlist l f nets s left = taken_all last l.own design f.to nets (all_leave design.items s) left design.registers netlist.registers 0 l.some f.registers

-- a cycle of the netlist is one of the source
netlist_cycle : (first last : Building) (design : Design) (netlist : RawNetlist) → Last first last design → Finishes last design netlist → (inputs state : List ℕ) (nets : Nets) → Holds (plain nets) nets netlist inputs state → (s : Store) × CyclesAlike design netlist inputs state s nets
netlist_cycle first last design netlist l f inputs state nets holds =
    let all : Nets = full f.to nets in
    let s : Store = store last all in
    let runs : RunsIn last all = full_runs last design netlist f nets holds.computed in
    let in_same : (k : ℕ) → Contains design.inputs k → values all (signal last k) ≡ values nets (signal last k) =
    λ k has. values_same all nets (signal last k) (λ i n at. ap (bit_value nets) (leads_to last design netlist f n (Net n) (of_input n k i at has))) in
    let state_same : (k : ℕ) → Contains design.registers k → values all (signal last k) ≡ values nets (signal last k) =
    λ k has.
    let r = built_of last design f.to design.registers netlist.registers f.registers k has in
    values_same all nets (signal last k) (λ i n at.
    let in_q : Contains r.0.q (Net n) = get_contains r.0.q i (Net n) (ap (λ (q : List Bit). slice_get q i) r.2 ∙ at) in
    ap (bit_value nets) (leads_to last design netlist f n (Net n) (of_register n (r.0, r.1, in_q)))) in
    let free_value : (k i : ℕ) → IsFree design k i → bit_at (s k) i ≡ bit_at (design.start k) i =
    λ k i free.
    let at = net_of last l.own k i (subst (λ (n : ℕ). i < n) (sym (l.widths k)) free.inside) in
    let d = bit_digit (design.start k) i in
    let end : LeadsTo last design at.0 (Fixed d.0) = unwritten at.0 k i d.0 at.1 free.no_input (λ written. free.none_writes (l.written k i free.inside written)) d.1 in
    value_at all (signal last k) i at.0 at.1 ∙ ap (λ (x : Bit). digit (bit_value nets x)) (leads_to last design netlist f at.0 (Fixed d.0) end) ∙ sym d.1 in (
      s,
      record {
        source_cycle = record {
          fits = λ k. store_fits last all k (design.width k) (l.widths k);
          entered = sym (kept_numbers last.signals all nets design.inputs in_same) ∙ ap (port_numbers nets) (sym f.inputs) ∙ holds.entered;
          stored = sym (kept_numbers last.signals all nets design.registers state_same) ∙ ap (port_numbers nets) (sym (stored_q last design f.to design.registers netlist.registers f.registers)) ∙ holds.stored;
          said = l.say all runs;
          unwritten = free_value;
        };
        netlist_cycle = holds;
        outputs = shows last design netlist f nets;
        next = leaves_same first last design netlist l f nets s (l.takes all runs);
      },
    )

-- in a run of the builder in which bits without a writer are those of the start values, each net has the value of its end
end_value : (last : Building) (design : Design) (nets : Nets) → RunsIn last nets
    → ((n k i : ℕ) (v : Bool) → IsBit last k i n → ¬ Contains design.inputs k → ¬ IsWritten last k i → bit_at (design.start k) i ≡ digit v → nets n ≡ v)
    → (n : ℕ) (end : Bit) → LeadsTo last design n end → bit_value nets end ≡ nets n
end_value last design nets runs starts n _ (no_signal _ none) = refl
end_value last design nets runs starts n _ (of_input _ k i at has) = refl
end_value last design nets runs starts n _ (of_register _ stored) = refl
end_value last design nets runs starts n _ (unwritten _ k i v at no_input free is) = sym (starts n k i v at no_input free is)
end_value last design nets runs starts n _ (to_constant _ v has) = let r = contains_get last.joints (record { net = n; bit = Fixed v }) has in sym (runs.joined r.0 (record { net = n; bit = Fixed v }) r.1)
end_value last design nets runs starts n _ (to_net _ m end has more) =
    let r = contains_get last.joints (record { net = n; bit = Net m }) has in
    end_value last design nets runs starts m end more ∙ sym (runs.joined r.0 (record { net = n; bit = Net m }) r.1)

-- values of the signals stay where values of nets go on, and in a builder with the same signals
kept_store : (b : Building) → HasOwnNets b → (nets wider : Nets) (s : Store) → AgreeBelow b.nets nets wider → store b nets ≡ s → store b wider ≡ s
kept_store b own nets wider s agree e = store_same b.signals wider nets (λ k i n at. agree n (are_below b own k i n at)) ∙ e

stores_same : (a b : Building) (nets : Nets) (s : Store) → b.signals ≡ a.signals → store a nets ≡ s → store b nets ≡ s
stores_same a b nets s same e = subst (λ (signals : List (List Bit)). store_in signals nets ≡ s) (sym same) e

-- values of all nets from those of the signals: a run of the last builder
laid_run : (first last : Building) (design : Design) → Begins first design → Whole design.items first last → (inputs state : List ℕ) (s : Store) → Cycle design s inputs state → (nets : Nets) × RunsIn last nets × (store last nets ≡ s)
laid_run first last design b w inputs state s cycle =
    let small : (k : ℕ) → s k < 2 ^ length (signal first k) = λ k. subst (λ (n : ℕ). s k < 2 ^ n) (sym (b.widths k)) (cycle.fits k) in
    let vs : List ℕ = firsts s (length first.signals) in
    let start : Nets = laid_all all_zero first.signals vs in
    let laid : port_numbers start first.signals ≡ vs = laid_all-numbers all_zero first.signals vs b.own.nets b.own.once (firsts_fit first.signals s small) in
    let each : (k : ℕ) → store first start k ≡ s k = firsts_stored first.signals start s small laid in
    let same_start : store first start ≡ s = λ p k. each k p in
    let runs_first : RunsIn first start = record {
      computed = λ c cell at. absurd (let e : slice_get first.cells c ≡ slice_get [] c = ap (λ (cs : List Cell). slice_get cs c) b.cells in cc);
      joined = λ k joint at. absurd (let e : slice_get first.joints k ≡ slice_get [] k = ap (λ (js : List Joint). slice_get js k) b.joints in cc);
    } in
    let P : Store → Type 0 = λ (t : Store). AllSay design.items t in
    let x : Extended first.nets start last = w.later start runs_first (subst P (sym same_start) cycle.said) in
    let wider : Nets = x.wider in
    let same_first : store first wider ≡ s = kept_store first b.own start wider s x.agree same_start in
    (wider, x.runs, stores_same first last wider s w.signals same_first)

-- in it, each net has the value of its end
run_is_full : (first last : Building) (design : Design) (netlist : RawNetlist) → Last first last design → (f : Finishes last design netlist) (inputs state : List ℕ) (s : Store) → Cycle design s inputs state → (nets : Nets) → RunsIn last nets → store last nets ≡ s → full f.to nets ≡ nets
run_is_full first last design netlist l f inputs state s cycle nets runs same =
    let starts : (n k i : ℕ) (v : Bool) → IsBit last k i n → ¬ Contains design.inputs k → ¬ IsWritten last k i → bit_at (design.start k) i ≡ digit v → nets n ≡ v =
    λ n k i v at no_input unwritten is.
    let inside : i < design.width k = subst (λ (m : ℕ). i < m) (l.widths k) (slice_get_within (signal last k) i (Net n) at) in
    let free : IsFree design k i = record { inside = inside; no_input = no_input; none_writes = λ some. unwritten (l.writes k i inside some) } in
    let value : bit_at (store last nets k) i ≡ digit (nets n) = value_at nets (signal last k) i n at in
    let held : bit_at (store last nets k) i ≡ bit_at (s k) i = ap (λ (t : Store). bit_at (t k) i) same in
    digit_injective (nets n) v (sym value ∙ held ∙ cycle.unwritten k i free ∙ is) in
    let ended : (n : ℕ) → full f.to nets n ≡ nets n = λ n. end_value last design nets runs starts n (f.to n) (end_of last design netlist f n) in
    λ p n. ended n p

-- a cycle of the source is one of the netlist
source_cycle : (first last : Building) (design : Design) (netlist : RawNetlist) → Begins first design → Whole design.items first last → Finishes last design netlist → (inputs state : List ℕ) (s : Store) → Cycle design s inputs state → (nets : Nets) × CyclesAlike design netlist inputs state s nets
source_cycle first last design netlist b w f inputs state s cycle =
    let l : Last first last design = last_of first last design b w in
    let run = laid_run first last design b w inputs state s cycle in
    let nets : Nets = run.0 in
    let runs : RunsIn last nets = run.1 in
    let same : store last nets ≡ s = run.2 in
    let is_full : full f.to nets ≡ nets = run_is_full first last design netlist l f inputs state s cycle nets runs same in
    let left : Take last (full f.to nets) last.registers (all_leave design.items s) =
    (let P : Nets → Type 0 = λ (m : Nets). Take last m last.registers (all_leave design.items s) in
    let Q : Store → Type 0 = λ (t : Store). Take last nets last.registers (all_leave design.items t) in
    subst P (sym is_full) (subst Q same (l.takes nets runs))) in (
      nets,
      record {
        source_cycle = cycle;
        netlist_cycle = record {
          entered = ap (port_numbers nets) f.inputs ∙ kept_numbers last.signals nets nets design.inputs (λ k has. refl) ∙ ap (λ (t : Store). map t design.inputs) same ∙ cycle.entered;
          stored = ap (port_numbers nets) (stored_q last design f.to design.registers netlist.registers f.registers) ∙ kept_numbers last.signals nets nets design.registers (λ k has. refl) ∙ ap (λ (t : Store). map t design.registers) same ∙ cycle.stored;
          computed = λ c cell at.
              let P : List Cell → Type 0 = λ (cells : List Cell). slice_get cells c ≡ Some cell in
              let before = mapped_at f.to last.cells c cell (subst P f.cells at) in
              let Q : Nets → Type 0 = λ (m : Nets). Computes (plain m) m c before.0 in
              let R : Cell → Type 0 = λ (x : Cell). Computes (plain nets) nets c x in
              subst R (sym before.2) (computes_led f.to nets c before.0 (subst Q (sym is_full) (runs.computed c before.0 before.1)));
        };
        outputs = ap (λ (t : Store). map t design.outputs) (sym same) ∙ ap (λ (m : Nets). map (store last m) design.outputs) (sym is_full) ∙ shows last design netlist f nets;
        next = leaves_same first last design netlist l f nets s left;
      },
    )

same_cycles : (first last : Building) (design : Design) (netlist : RawNetlist) → Begins first design → AddsItems design.items first last → Finishes last design netlist → SameCycles design netlist
same_cycles first last design netlist b steps f =
    let w : Whole design.items first last = all_items design.items first last (are_below first b.own) steps in
    record {
      of_netlist = netlist_cycle first last design netlist (last_of first last design b w) f;
      of_source = source_cycle first last design netlist b w f;
    }

-- Runs, cycle by cycle.

runs_of_netlist : (design : Design) (netlist : RawNetlist) → SameCycles design netlist → (state : List ℕ) (inputs : List (List ℕ)) (cycles : List Nets) → IsRun netlist state inputs cycles → (stores : List Store) × RunsAlike design netlist state inputs stores cycles
runs_of_netlist design netlist same state [] [] run = ([], record { source_run = tt; netlist_run = tt; outputs = refl; registers = refl })
runs_of_netlist design netlist same state [] (c ∷ cs) run = absurd run
runs_of_netlist design netlist same state (i ∷ is) [] run = absurd run
runs_of_netlist design netlist same state (i ∷ is) (nets ∷ cycles) run =
    let here = same.of_netlist i state nets run.0 in
    let a : CyclesAlike design netlist i state here.0 nets = here.1 in
    let later = runs_of_netlist design netlist same (taken (plain nets) 0 netlist.registers) is cycles run.1 in
    let r : RunsAlike design netlist (taken (plain nets) 0 netlist.registers) is later.0 cycles = later.1 in
    let P : List ℕ → Type 0 = λ (s : List ℕ). IsSourceRun design s is later.0 in
    let held : map here.0 design.registers ≡ port_numbers nets (q_bits netlist.registers) = a.source_cycle.stored ∙ sym a.netlist_cycle.stored in
    let outs : outputs_of design here.0 ≡ shown (plain nets) netlist = a.outputs in
    let more_outs : source_outputs design later.0 ≡ outputs_by plain netlist cycles = r.outputs in
    let more_held : source_states design later.0 ≡ netlist_states netlist cycles = r.registers in (
      here.0 ∷ later.0,
      record {
        source_run = (a.source_cycle, subst P (sym a.next) r.source_run);
        netlist_run = run;
        outputs = cc;
        registers = cc;
      },
    )

runs_of_source : (design : Design) (netlist : RawNetlist) → SameCycles design netlist → (state : List ℕ) (inputs : List (List ℕ)) (stores : List Store) → IsSourceRun design state inputs stores → (cycles : List Nets) × RunsAlike design netlist state inputs stores cycles
runs_of_source design netlist same state [] [] run = ([], record { source_run = tt; netlist_run = tt; outputs = refl; registers = refl })
runs_of_source design netlist same state [] (c ∷ cs) run = absurd run
runs_of_source design netlist same state (i ∷ is) [] run = absurd run
runs_of_source design netlist same state (i ∷ is) (s ∷ stores) run =
    let here = same.of_source i state s run.0 in
    let a : CyclesAlike design netlist i state s here.0 = here.1 in
    let later = runs_of_source design netlist same (next_of design s) is stores run.1 in
    let r : RunsAlike design netlist (next_of design s) is stores later.0 = later.1 in
    let P : List ℕ → Type 0 = λ (t : List ℕ). IsRun netlist t is later.0 in
    let held : map s design.registers ≡ port_numbers here.0 (q_bits netlist.registers) = a.source_cycle.stored ∙ sym a.netlist_cycle.stored in
    let outs : outputs_of design s ≡ shown (plain here.0) netlist = a.outputs in
    let more_outs : source_outputs design stores ≡ outputs_by plain netlist later.0 = r.outputs in
    let more_held : source_states design stores ≡ netlist_states netlist later.0 = r.registers in (
      here.0 ∷ later.0,
      record {
        source_run = run;
        netlist_run = (a.netlist_cycle, subst P a.next r.netlist_run);
        outputs = cc;
        registers = cc;
      },
    )

pub built_runs : BuiltRuns
built_runs first last design netlist b steps f =
    let same : SameCycles design netlist = same_cycles first last design netlist b steps f in
    record {
      of_netlist = runs_of_netlist design netlist same;
      of_source = runs_of_source design netlist same;
      starts = starts_of last design f.to design.registers netlist.registers f.registers;
    }
