-- The end of elaboration: where all items are built, the netlist is that of the source, or is refused as a whole.
use Rattle.elab_hier.proofs.Common.{◌≡◌, inl, inr, ℕ, Bool, true, false, List, [], ◌∷◌, Option, length, sym, ap, subst, if◌then◌else◌, Contains, RawNetlist, Identifier, Building, NoneTwice, Flat}
use Rattle.elab_hier.proofs.Common.{clocks_of, IsSound, Widths, StartsWith, ElabError, IsDesign, is_clock, widths_of, without, AllStart, start_values, AreFlagged, declared_numbers, input_numbers}
use Rattle.elab_hier.proofs.Common.{output_numbers, AreFlags, Source, all_inputs, clock_name, inputs, outputs, Ends, HasNetlist, laid, CanRun, HasItems, IsAccepted, RefusesEnd, end, IsBuilt}
use Rattle.elab_hier.proofs.Common.{IsNetlistOf, IsRefusalOf, IsRefusedAs, source_of, has_cases, has_first, has_more}
use Rattle.flat_runs.specs.Adding.{AddsItems}
use Rattle.flat_runs.specs.Designs.{Design}
use Rattle.flat_runs.specs.Finishing.{Begins, Finishes}
use Rattle.flat_runs.specs.Laws.{BuiltRuns}
use Rattle.elab_items.specs.Laws.{DesignsBegin, ItemsAreAdded}
use Rattle.elab_finish.specs.declared.left.Left.{Left}
use Rattle.elab_finish.specs.Endings.{CanFinish, IsDesignOf, IsEnding}
use Rattle.elab_finish.specs.Loops.{AreCovered}
use Rattle.elab_finish.specs.Names.{AreNamedApart}
use Rattle.elab_finish.specs.Refusals.{IsRefused, IsWithin}
use Rattle.elab_lefts.specs.Lefts.{design_lefts}
use Rattle.elab_lefts.specs.Laws.{BuiltAreCovered}
use Rattle.elab_writers.specs.Laws.{BuildersAreOfDesigns, DesignsCanFinish}
use Rattle.elab_once.proofs.Built.{items_laid}
pub use Rattle.elab_once.proofs.Built.{built_once}
pub use Rattle.elab_once.proofs.Building.{begin_alike, built_one}
pub use Rattle.elab_once.proofs.Stopping.{refused_once}
use Rattle.elab_hier.proofs.Begun.{widths_begun}

-- what is left without the clock was there
kept_at : (b : Bool) (x : ℕ) (left more : List ℕ) (k : ℕ) → ((j : ℕ) → Contains left j → Contains more j) → Contains (if b then left else x ∷ left) k → Contains (x ∷ more) k
kept_at true x left more k later h = has_more more x k (later k h)
kept_at false x left more k later h = elim (has_cases left x k h) [
  | inl e ↦ subst (Contains (x ∷ more)) e (has_first more x)
  | inr rest ↦ has_more more x k (later k rest)
]

without_kept : (c : Option ℕ) (ks : List ℕ) (k : ℕ) → Contains (without c ks) k → Contains ks k
without_kept c [] k h = h
without_kept c (x ∷ more) k h = kept_at (is_clock c x) x (without c more) more k (λ j later. without_kept c more j later) h

module _ (flat : Flat) (ports : List Identifier) (flags : List Bool) (sound : IsSound flat) (are : AreFlags (length flat.signals) (all_inputs flat ports) flags) (last : Building) (built : IsBuilt flat flags last) where
  flagged : AreFlagged flags (input_numbers ports (clocks_of flags flat).clock flat)
  flagged k c = (are.set k).1 (without_kept (clocks_of flags flat).clock (all_inputs flat ports) k c)

  added : ItemsAreAdded → (design : Design) × IsDesign ports (clocks_of flags flat).clock flat design × AddsItems design.items built.first last × StartsWith built.first (start_values (widths_of flat.signals) flat.places flat.items)
  added items =
      let a = items ports (clocks_of flags flat).clock flat flags (clocks_of flags flat) built.first last built.begun.begins.declared built.builds.all in
      let all : AllStart (widths_of flat.signals) flat.places flat.items = subst (λ (w : Widths). AllStart w flat.places flat.items) (widths_begun flat built.first built.begun.begins.declared) a.3 in
      (a.0, a.1, a.2, built.begun.starts all)

  pub can_end : ItemsAreAdded → BuiltAreCovered → DesignsCanFinish → (ins outs ks : List ℕ) (lefts : List Left)
      → ins ≡ input_numbers ports (clocks_of flags flat).clock flat → outs ≡ output_numbers ports flat → ks ≡ declared_numbers flat.items → lefts ≡ design_lefts flat → NoneTwice ins → CanFinish last ins outs ks lefts
  can_end items covers can ins outs ks lefts in_is out_is k_is left_is once =
      let covered : AreCovered last (design_lefts flat) = covers flat flags (clocks_of flags flat) built.first last built.begun.begins.declared built.builds.all in
      let start = (added items).3 in
      let h : CanFinish last (input_numbers ports (clocks_of flags flat).clock flat) (output_numbers ports flat) (declared_numbers flat.items) (design_lefts flat) =
      can ports (clocks_of flags flat).clock flat flags (clocks_of flags flat) (start_values (widths_of flat.signals) flat.places flat.items) built.first last (design_lefts flat) sound built.begun.begins.declared start built.builds.all flagged (subst NoneTwice in_is once) covered in
      let a = subst (λ (l : List ℕ). CanFinish last l (output_numbers ports flat) (declared_numbers flat.items) (design_lefts flat)) (sym in_is) h in
      let b = subst (λ (l : List ℕ). CanFinish last ins l (declared_numbers flat.items) (design_lefts flat)) (sym out_is) a in
      let c = subst (λ (l : List ℕ). CanFinish last ins outs l (design_lefts flat)) (sym k_is) b in
      subst (λ (l : List Left). CanFinish last ins outs ks l) (sym left_is) c

  -- the netlist is that of the source
  pub ended : ItemsAreAdded → DesignsBegin → BuildersAreOfDesigns → BuiltRuns → (top : List ℕ) (name : Option (List ℕ)) (ins outs ks : List ℕ) (netlist : RawNetlist)
      → name ≡ clock_name (source_of flat ports flags) → ins ≡ input_numbers ports (clocks_of flags flat).clock flat → outs ≡ output_numbers ports flat → ks ≡ declared_numbers flat.items
      → IsEnding last top name ins outs ks netlist → ((design : Design) → IsDesignOf last ins outs ks design → Finishes last design netlist) → IsWithin netlist → AreNamedApart netlist.registers → CanRun netlist
      → IsNetlistOf flat ports top netlist
  ended items begins_law belongs runs top name ins outs ks netlist name_is in_is out_is k_is ending finishes within apart can_run =
      let a = added items in
      let design : Design = a.0 in
      let start_is : start_values (widths_of flat.signals) flat.places flat.items ≡ design.start = sym (ap (λ (d : Design). d.start) a.1.2) in
      let start : StartsWith built.first design.start = subst (StartsWith built.first) start_is a.3 in
      let is : IsDesignOf last (input_numbers ports (clocks_of flags flat).clock flat) (output_numbers ports flat) (declared_numbers flat.items) design =
      belongs ports (clocks_of flags flat).clock flat flags (clocks_of flags flat) built.first last design sound built.begun.begins.declared built.builds.all a.1 a.2 start in
      let is_a = subst (λ (l : List ℕ). IsDesignOf last l (output_numbers ports flat) (declared_numbers flat.items) design) (sym in_is) is in
      let is_b = subst (λ (l : List ℕ). IsDesignOf last ins l (declared_numbers flat.items) design) (sym out_is) is_a in
      let is_c = subst (λ (l : List ℕ). IsDesignOf last ins outs l design) (sym k_is) is_b in
      let begins : Begins built.first design = begins_law ports (clocks_of flags flat).clock flat built.first design sound built.begun.begins.declared a.1 in
      let ends_a = subst (λ (n : Option (List ℕ)). IsEnding last top n ins outs ks netlist) name_is ending in
      let ends_b = subst (λ (l : List ℕ). IsEnding last top (clock_name (source_of flat ports flags)) l outs ks netlist) in_is ends_a in
      let ends_c = subst (λ (l : List ℕ). IsEnding last top (clock_name (source_of flat ports flags)) (input_numbers ports (clocks_of flags flat).clock flat) l ks netlist) out_is ends_b in
      let source : Source = source_of flat ports flags in
      let lays : last ≡ laid source built.first = items_laid flags flat (clocks_of flags flat) flat.items built.first last built.builds.all in
      let ends : Ends source top last netlist = subst (λ (l : List ℕ). IsEnding last top (clock_name (source_of flat ports flags)) (input_numbers ports (clocks_of flags flat).clock flat) (output_numbers ports flat) l netlist) k_is ends_c in
      let has : HasNetlist source top netlist = record {
        first = built.first;
        begins = built.begun.begins.declared;
        ends = subst (λ (b : Building). Ends source top b netlist) lays ends;
        design = design;
        is_design = a.1;
        starts = start;
        runs = runs built.first last design netlist begins a.2 (finishes design is_c);
      } in
      let accepted : IsAccepted source top netlist = record {
        is = has;
        fits = built.begun.begins.fits;
        builds = subst (HasItems flat flags built.first) lays built.builds;
        within = within;
        apart = apart;
        runnable = can_run;
      } in
      record { flags = flags; are_flags = are; has_netlist = accepted }

  -- there is none
  pub not_ended : ItemsAreAdded → (top : List ℕ) (name : Option (List ℕ)) (ins outs ks : List ℕ) (lefts : List Left) (error : ElabError)
      → name ≡ clock_name (source_of flat ports flags) → ins ≡ input_numbers ports (clocks_of flags flat).clock flat → outs ≡ output_numbers ports flat → ks ≡ declared_numbers flat.items → lefts ≡ design_lefts flat
      → IsRefusedAs last top name ins outs ks lefts error → IsRefusalOf flat ports top error
  not_ended items top name ins outs ks lefts error name_is in_is out_is k_is left_is refused =
      let source : Source = source_of flat ports flags in
      let a = subst (λ (n : Option (List ℕ)). IsRefused last top n ins outs ks lefts refused.0) name_is refused.1 in
      let b = subst (λ (l : List ℕ). IsRefused last top (clock_name source) l outs ks lefts refused.0) in_is a in
      let c = subst (λ (l : List ℕ). IsRefused last top (clock_name source) (inputs source) l ks lefts refused.0) out_is b in
      let d = subst (λ (l : List ℕ). IsRefused last top (clock_name source) (inputs source) (outputs source) l lefts refused.0) k_is c in
      let e = subst (λ (l : List Left). IsRefused last top (clock_name source) (inputs source) (outputs source) (declared_numbers flat.items) l refused.0) left_is d in
      let refuses : RefusesEnd source top error = record { first = built.first; begins = built.begun.begins; starts = (added items).3; last = last; builds = built.builds; reason = refused.0; refused = e; answers = refused.2 } in
      inl (record { flags = flags; are_flags = are; refuses = end error refuses })
