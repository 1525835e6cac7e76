-- What sources are refused for, from what each step of preparing is refused for.
use Rattle.campaign_reading.proofs.Common.{◌≡◌, ℕ, Bool, true, inl, inr, List, sym, ap, subst, ◌∙◌, SourceFile, RawNetlist, Project, SourceError, no_sites, PrepareError, Unprepared, ShortOfMemory}
use Rattle.campaign_reading.proofs.Common.{IsWithinLimits, design_part, lacks_sites, omitted_sites, LeavesOut, HasDesign, HasSites, IsRefusedWithoutSites, LacksSites, IsUnbenched, IsUnprepared}
use Rattle.project_sources.specs.Skipped.{SkipsCells}

pub unbenched_unprepared : (p : Project) (files : List SourceFile) (netlist : RawNetlist) (e : PrepareError) → HasDesign p files netlist → IsWithinLimits p netlist → HasSites p files netlist → IsUnbenched p files netlist e → IsUnprepared p files e
unbenched_unprepared p files netlist (Unprepared e) has few sites (r, is, fault) = inr (inr (inr (inr (record { netlist = netlist; design = has; few = few; sites = sites; reading = r; is_reading = is; fault = fault }))))
unbenched_unprepared p files netlist ShortOfMemory has few sites none = tt

pub lacking_unprepared : (p : Project) (files : List SourceFile) (netlist : RawNetlist) (e : PrepareError) → HasDesign p files netlist → IsWithinLimits p netlist → IsRefusedWithoutSites p files netlist e → IsUnprepared p files e
lacking_unprepared p files netlist (Unprepared e) has few lacks = inr (inr (inr (inl (record { netlist = netlist; design = has; few = few; lacks = lacks }))))
lacking_unprepared p files netlist ShortOfMemory has few lacks = tt

-- the sites that are left out, by flags of the cells of the design's files
pub left_found : (p : Project) (files part : List SourceFile) (top : List ℕ) (instances : List (List ℕ)) (netlist : RawNetlist) (skipped flags omitted : List Bool)
    → part ≡ design_part p files → top ≡ p.top → instances ≡ p.skip → flags ≡ skipped → SkipsCells part top instances skipped → omitted ≡ omitted_sites p flags netlist → LeavesOut p files netlist omitted
left_found p files part top instances netlist skipped flags omitted parts tops skips same h are =
    let here : SkipsCells (design_part p files) top instances skipped = subst (λ (fs : List SourceFile). SkipsCells fs top instances skipped) parts h in
    let below : SkipsCells (design_part p files) p.top instances skipped = subst (λ (t : List ℕ). SkipsCells (design_part p files) t instances skipped) tops here in
    record { skipped = skipped; skips = subst (λ (is : List (List ℕ)). SkipsCells (design_part p files) p.top is skipped) skips below; are = are ∙ ap (λ (f : List Bool). omitted_sites p f netlist) same }

pub lacking_found : (p : Project) (files : List SourceFile) (netlist : RawNetlist) (omitted flags : List Bool) (e : SourceError) → flags ≡ omitted → LeavesOut p files netlist omitted → lacks_sites flags ≡ true → e ≡ no_sites → LacksSites p files netlist e
lacking_found p files netlist omitted flags e same left none is = record { omitted = omitted; left_out = left; none = sym (ap lacks_sites same) ∙ none; is = is }
