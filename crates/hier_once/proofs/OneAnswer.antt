-- Modules are elaborated in one way.
use Rattle.hier_once.proofs.Common.{◌≡◌, ◌≢◌, ℕ, ◌<◌, List, length, Ok, Err, refl, sym, ap, ◌∙◌, subst, arith, RawNetlist, Building, empty, FlatItem, Flat, clocks_of, Stands, BuildsAll, FailsSome}
use Rattle.hier_once.proofs.Common.{DesignError, begin_alike, built_once, Source, clock_name, inputs, outputs, Ends, HasNetlist, laid, HasItems, HasSignals, IsAccepted}
use Rattle.std.proofs.lemmas.Grind.{same_number_lists}
use Rattle.vlog_meaning.specs.Scopes.{Store}
use Rattle.flat_runs.specs.Designs.{Design}
use Rattle.flat_laws.specs.Sound.{IsSound}
use Rattle.flat_laws.proofs.Flattened.{flattened_sound}
use Rattle.flat_once.proofs.Flattened.{no_top_flattens}
use Rattle.process_cells.specs.Starts.{SameButStarts, StartsWith}
use Rattle.elab_items.specs.declared.answer.ElabError.{ElabError}
use Rattle.elab_items.specs.declared.answer.ElabError.TheVariants.{Memory}
use Rattle.elab_items.specs.declared.error.BuildError.TheVariants as build
use Rattle.elab_items.specs.Designs.{widths_of}
use Rattle.elab_items.specs.Signals.{bits_of, declared, max_bits}
use Rattle.elab_items.specs.Starts.{start_values}
use Rattle.elab_items.specs.Turns.{max_turns}
use Rattle.elab_items.proofs.Sounding.{declared_stands}
use Rattle.elab_items.proofs.Starting.{starts_stand}
use Rattle.elab_items.proofs.Turning.{all_within}
use Rattle.elab_finish.specs.declared.error.DesignError.TheVariants as ending
use Rattle.elab_finish.specs.Refusals.{IsRefused}
use Rattle.elab_hier.specs.Lefts.{design_lefts}
use Rattle.elab_hier.specs.Numbers.{declared_numbers}
use Rattle.elab_hier.specs.Refusals.{RefusesEnd, RefusesItem, RefusesSource, RefusesTurns, build_answer, counted, end, end_answer, full, item, no_top, refused, short, turns}
pub use Rattle.elab_hier.proofs.Sources.{elaborates}
use Rattle.hier_once.specs.Laws.{FewCells, HasOneAnswer, HasOneNetlist, HasOneRefusal, NoneIsRefused}
use Rattle.hier_once.proofs.Sources.{source_once}
use Rattle.hier_once.proofs.Endings.{ending_once}
use Rattle.hier_once.proofs.Refused.{ended_not_refused, refused_once}
use Rattle.hier_once.proofs.Items.{AreLevel, all_fit, fail_once}
use Rattle.hier_once.proofs.Limits.{few_cells}

-- Builders with the signals of a design.

-- start values are those of a store
begun_once : (old b c : Building) (store : Store) → SameButStarts old b → SameButStarts old c → StartsWith b store → StartsWith c store → b ≡ c
begun_once old b c store h g x y =
    let signals : b.signals ≡ c.signals = ap (λ (o : Building). o.signals) h ∙ sym (ap (λ (o : Building). o.signals) g) in
    let starts : b.starts ≡ c.starts = same_number_lists b.starts c.starts (x.count ∙ ap length signals ∙ sym y.count) (λ k within. x.start k ∙ sym (y.start k)) in
    h ∙ ap (λ (s : List ℕ). record old { starts = s }) starts ∙ sym g

begun_level : (flat : Flat) (b c : Building) → HasSignals flat b → HasSignals flat c → AreLevel b c
begun_level flat b c h g = record {
  alike = begin_alike (declared flat.signals empty) b c h.declared g.declared;
  cells = ap (λ (o : Building). length o.cells) h.declared ∙ sym (ap (λ (o : Building). length o.cells) g.declared);
}

begun_stands : (flat : Flat) (b : Building) → IsSound flat → HasSignals flat b → Stands flat.places b
begun_stands flat b sound h = starts_stand flat.places (declared flat.signals empty) b h.declared (declared_stands flat sound).0

-- the builder in which an accepted source is laid
signals_of : (source : Source) (top : List ℕ) (n : RawNetlist) (h : IsAccepted source top n) → HasSignals source.flat h.is.first
signals_of source top n h = record { fits = h.fits; declared = h.is.begins }

-- the start values of the design that a source is
starts_are : (source : Source) (top : List ℕ) (n : RawNetlist) (h : HasNetlist source top n) → StartsWith h.first (start_values (widths_of source.flat.signals) source.flat.places source.flat.items)
starts_are source top n h = subst (StartsWith h.first) (ap (λ (d : Design). d.start) h.is_design.2) h.starts

-- Answers.

not_full : (flat : Flat) (b : Building) → HasSignals flat b → max_bits < bits_of flat.signals → ⊥
not_full flat b h many = let fits = h.fits in absurd (omega (arith, fits, many))

-- the builder is one, and so is what is refused in it
refused_here : (source : Source) (top : List ℕ) (b c : Building) (x : DesignError) → b ≡ c → IsRefused b top (clock_name source) (inputs source) (outputs source) (declared_numbers source.flat.items) (design_lefts source.flat) x
    → IsRefused c top (clock_name source) (inputs source) (outputs source) (declared_numbers source.flat.items) (design_lefts source.flat) x
refused_here source top b c x same h = subst (λ (o : Building). IsRefused o top (clock_name source) (inputs source) (outputs source) (declared_numbers source.flat.items) (design_lefts source.flat) x) same h

-- Items are built to one builder.
last_once : (source : Source) (b c last other : Building) (store : Store) → HasSignals source.flat b → HasSignals source.flat c → StartsWith b store → StartsWith c store
    → BuildsAll source.flags source.flat (clocks_of source.flags source.flat) source.flat.items b last → BuildsAll source.flags source.flat (clocks_of source.flags source.flat) source.flat.items c other → last ≡ other
last_once source b c last other store h g x y d e =
    let same : c ≡ b = begun_once (declared source.flat.signals empty) c b store g.declared h.declared y x in
    built_once source.flags source.flat (clocks_of source.flags source.flat) source.flat.items b last other d
    (subst (λ (o : Building). BuildsAll source.flags source.flat (clocks_of source.flags source.flat) source.flat.items o other) same e)

netlist_once : (source : Source) (top : List ℕ) (n m : RawNetlist) → HasNetlist source top n → HasNetlist source top m → n ≡ m
netlist_once source top n m h g =
    let same : g.first ≡ h.first = begun_once (declared source.flat.signals empty) g.first h.first _ g.begins h.begins (starts_are source top m g) (starts_are source top n h) in
    ending_once (laid source h.first) top (clock_name source) (inputs source) (outputs source) (declared_numbers source.flat.items) n m h.ends (subst (λ (b : Building). Ends source top (laid source b) m) same g.ends)

-- Where all items are built, none is refused.
built_not_refused : (source : Source) (e : ElabError) (b last : Building) → IsSound source.flat → HasSignals source.flat b → HasItems source.flat source.flags b last → RefusesItem source.flat source.flags e → e ≡ Memory
built_not_refused source e b last sound h d r =
    let fails : FailsSome source.flags source.flat (clocks_of source.flags source.flat) source.flat.items r.first r.reason = subst (λ (l : List FlatItem). FailsSome source.flags source.flat (clocks_of source.flags source.flat) l r.first r.reason) (all_within source.flat.places source.flat.items max_turns d.few) r.fails in
    let memory : r.reason ≡ build.Memory = all_fit source.flags source.flat (clocks_of source.flags source.flat) source.flat.items b r.first last r.reason (begun_level source.flat b r.first h r.begins) (begun_stands source.flat b sound h) d.all fails in
    r.answers ∙ ap (build_answer source.flat.signals) memory

-- Where loops take too many turns, not all items are built, and none is refused before.
not_within : (source : Source) (e : ElabError) (b last : Building) → HasItems source.flat source.flags b last → RefusesTurns source.flat source.flags e → ⊥
not_within source e b last d r = let few = d.few in let many = r.many in absurd (omega (arith, few, many))

turns_or_item : (source : Source) (e f : ElabError) → IsSound source.flat → RefusesTurns source.flat source.flags e → RefusesItem source.flat source.flags f → f ≡ Memory
turns_or_item source e f sound r q =
    let memory : q.reason ≡ build.Memory = all_fit source.flags source.flat (clocks_of source.flags source.flat) (counted source.flat) r.first q.first r.last q.reason (begun_level source.flat r.first q.first r.begins q.begins) (begun_stands source.flat r.first sound r.begins) r.builds q.fails in
    q.answers ∙ ap (build_answer source.flat.signals) memory

end_not_refused : (source : Source) (top : List ℕ) (n : RawNetlist) (e : ElabError) → IsAccepted source top n → RefusesEnd source top e → e ≡ Memory
end_not_refused source top n e h r =
    let last = laid source h.is.first in
    let same : r.last ≡ last = last_once source r.first h.is.first r.last last _ r.begins (signals_of source top n h) r.starts (starts_are source top n h.is) r.builds.all h.builds.all in
    let here = refused_here source top r.last last r.reason same r.refused in
    r.answers ∙ ap end_answer (ended_not_refused last top (clock_name source) (inputs source) (outputs source) (declared_numbers source.flat.items) (design_lefts source.flat) n r.reason h.is.ends h.within h.apart h.runnable.2.loops here)

-- A source that is accepted is not refused.
source_not_refused : (source : Source) (top : List ℕ) (n : RawNetlist) (e : ElabError) → IsSound source.flat → IsAccepted source top n → RefusesSource source top e → e ≡ Memory
source_not_refused source top n _ sound h (full many) = absurd (not_full source.flat h.is.first (signals_of source top n h) many)
source_not_refused source top n _ sound h (item e r) = built_not_refused source e h.is.first (laid source h.is.first) sound (signals_of source top n h) h.builds r
source_not_refused source top n _ sound h (turns e r) = absurd (not_within source e h.is.first (laid source h.is.first) h.builds r)
source_not_refused source top n _ sound h (end e r) = end_not_refused source top n e h r

-- A source that has none is refused for one reason.

items_refused_once : (source : Source) (e f : ElabError) → IsSound source.flat → e ≢ Memory → f ≢ Memory → RefusesItem source.flat source.flags e → RefusesItem source.flat source.flags f → e ≡ f
items_refused_once source e f sound found also r q =
    let answer = build_answer source.flat.signals in
    let some : r.reason ≢ build.Memory = λ is. found (r.answers ∙ ap answer is) in
    let more : q.reason ≢ build.Memory = λ is. also (q.answers ∙ ap answer is) in
    let same : r.reason ≡ q.reason = fail_once source.flags source.flat (clocks_of source.flags source.flat) (counted source.flat) r.first q.first r.reason q.reason some more
    (begun_level source.flat r.first q.first r.begins q.begins) (begun_stands source.flat r.first sound r.begins) r.fails q.fails in
    r.answers ∙ ap answer same ∙ sym q.answers

ends_refused_once : (source : Source) (top : List ℕ) (e f : ElabError) → e ≢ Memory → f ≢ Memory → RefusesEnd source top e → RefusesEnd source top f → e ≡ f
ends_refused_once source top e f found also r q =
    let some : r.reason ≢ ending.Memory = λ is. found (r.answers ∙ ap end_answer is) in
    let more : q.reason ≢ ending.Memory = λ is. also (q.answers ∙ ap end_answer is) in
    let last : q.last ≡ r.last = last_once source q.first r.first q.last r.last _ q.begins r.begins q.starts r.starts q.builds.all r.builds.all in
    let here = refused_here source top q.last r.last q.reason last q.refused in
    let same : r.reason ≡ q.reason = refused_once r.last top (clock_name source) (inputs source) (outputs source) (declared_numbers source.flat.items) (design_lefts source.flat) r.reason q.reason some more r.refused here in
    r.answers ∙ ap end_answer same ∙ sym q.answers

source_refused_once : (source : Source) (top : List ℕ) (e f : ElabError) → IsSound source.flat → e ≢ Memory → f ≢ Memory → RefusesSource source top e → RefusesSource source top f → e ≡ f
source_refused_once source top _ _ sound found also (full many) (full more) = refl
source_refused_once source top _ _ sound found also (full many) (item f q) = absurd (not_full source.flat q.first q.begins many)
source_refused_once source top _ _ sound found also (full many) (turns f q) = absurd (not_full source.flat q.first q.begins many)
source_refused_once source top _ _ sound found also (full many) (end f q) = absurd (not_full source.flat q.first q.begins many)
source_refused_once source top _ _ sound found also (item e r) (full many) = absurd (not_full source.flat r.first r.begins many)
source_refused_once source top _ _ sound found also (item e r) (item f q) = items_refused_once source e f sound found also r q
source_refused_once source top _ _ sound found also (item e r) (turns f q) = absurd (found (turns_or_item source f e sound q r))
source_refused_once source top _ _ sound found also (item e r) (end f q) = absurd (found (built_not_refused source e q.first q.last sound q.begins q.builds r))
source_refused_once source top _ _ sound found also (turns e r) (full many) = absurd (not_full source.flat r.first r.begins many)
source_refused_once source top _ _ sound found also (turns e r) (item f q) = absurd (also (turns_or_item source e f sound r q))
source_refused_once source top _ _ sound found also (turns e r) (turns f q) = r.answers ∙ sym q.answers
source_refused_once source top _ _ sound found also (turns e r) (end f q) = absurd (not_within source e q.first q.last q.builds r)
source_refused_once source top _ _ sound found also (end e r) (full many) = absurd (not_full source.flat r.first r.begins many)
source_refused_once source top _ _ sound found also (end e r) (item f q) = absurd (also (built_not_refused source f r.first r.last sound r.begins r.builds q))
source_refused_once source top _ _ sound found also (end e r) (turns f q) = absurd (not_within source f r.first r.last r.builds q)
source_refused_once source top _ _ sound found also (end e r) (end f q) = ends_refused_once source top e f found also r q

-- Modules.

pub one_netlist : HasOneNetlist
one_netlist modules top n m x y =
    let same : y.source ≡ x.source = source_once modules top y.source x.source y.is_source x.is_source in
    netlist_once x.source top n m x.has_netlist (subst (λ (s : Source). HasNetlist s top m) same y.has_netlist)

pub no_refusal : NoneIsRefused
no_refusal modules top n _ x (no_top none) = absurd (no_top_flattens modules top x.source.flat none x.is_source.flattens)
no_refusal modules top n _ x (refused source e is r) =
    let same : source ≡ x.source = source_once modules top source x.source is x.is_source in
    source_not_refused x.source top n e (flattened_sound modules top x.source.flat x.is_source.flattens) x.has_netlist (subst (λ (s : Source). RefusesSource s top e) same r)
no_refusal modules top n _ x short = refl

pub one_refusal : HasOneRefusal
one_refusal modules top _ _ found also (no_top none) (no_top other) = refl
one_refusal modules top _ _ found also (no_top none) (refused source f is q) = absurd (no_top_flattens modules top source.flat none is.flattens)
one_refusal modules top _ _ found also (no_top none) short = absurd (also refl)
one_refusal modules top _ _ found also (refused source e is r) (no_top none) = absurd (no_top_flattens modules top source.flat none is.flattens)
one_refusal modules top _ _ found also (refused source e is r) (refused other f are q) =
    let same : other ≡ source = source_once modules top other source are is in
    source_refused_once source top e f (flattened_sound modules top source.flat is.flattens) found also r (subst (λ (s : Source). RefusesSource s top f) same q)
one_refusal modules top _ _ found also (refused source e is r) short = absurd (also refl)
one_refusal modules top _ _ found also short y = absurd (found refl)

pub one_answer : HasOneAnswer
one_answer modules top (Ok n) (Ok m) found also x y = ap Ok (one_netlist modules top n m (elaborates modules top n x) (elaborates modules top m y))
one_answer modules top (Ok n) (Err e) found also x y = absurd (also (ap Err (no_refusal modules top n e x y)))
one_answer modules top (Err e) (Ok n) found also x y = absurd (found (ap Err (no_refusal modules top n e y x)))
one_answer modules top (Err e) (Err f) found also x y = ap Err (one_refusal modules top e f (λ is. found (ap Err is)) (λ is. also (ap Err is)) x y)

pub netlist_cells : FewCells
netlist_cells modules top n x = few_cells x.source top n x.has_netlist
