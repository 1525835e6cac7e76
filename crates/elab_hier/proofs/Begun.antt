-- What is built up to the end.
use Rattle.elab_hier.proofs.Common.{◌≡◌, ◌≤◌, sym, ap, ◌∙◌, subst, Store, nothing, Building, empty, Flat, IsSound, Widths, widths_in, SameButStarts, StartsWith, widths_of, bits_of, declared, max_bits}
use Rattle.elab_hier.proofs.Common.{AllStart, starts_from, IsBegun}
use Rattle.elab_items.specs.Items.{Stands}
use Rattle.elab_items.proofs.Declaring.{widths_are}
use Rattle.elab_items.proofs.Sounding.{declared_stands}
use Rattle.elab_items.proofs.Starting.{same_widths}

-- the builder has the widths of the signals
pub widths_begun : (flat : Flat) (first : Building) → SameButStarts (declared flat.signals empty) first → widths_in first ≡ widths_of flat.signals
widths_begun flat first same = same_widths (declared flat.signals empty) first same ∙ (λ i k. widths_are flat.signals k i)

pub declared_ready : (flat : Flat) (b : Building) → IsSound flat → b ≡ declared flat.signals empty → Stands flat.places b
declared_ready flat b sound is = subst (Stands flat.places) (sym is) (declared_stands flat sound).0

pub begun : (flat : Flat) (old new : Building) → IsSound flat → old ≡ declared flat.signals empty → bits_of flat.signals ≤ max_bits → SameButStarts old new
    → ((store : Store) → AllStart (widths_in old) flat.places flat.items → StartsWith old store → StartsWith new (starts_from (widths_in old) flat.places flat.items store)) → IsBegun flat new
begun flat old new sound is fits same starts =
    let Given : Widths → Type 0 = λ width. AllStart width flat.places flat.items → StartsWith new (starts_from width flat.places flat.items nothing) in
    let widths : widths_in old ≡ widths_of flat.signals = ap widths_in is ∙ (λ i k. widths_are flat.signals k i) in
    record {
      begins = record { fits = fits; declared = subst (λ (b : Building). SameButStarts b new) is same };
      starts = subst Given widths (λ all. starts nothing all (subst (λ (b : Building). StartsWith b nothing) (sym is) (declared_stands flat sound).1));
    }
