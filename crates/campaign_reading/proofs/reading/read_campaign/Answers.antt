use Rattle.campaign_reading.proofs.Common.{List, ℕ, Option, subst, sym, err_from_is_err_and, SourceFile, Held, Project, config_name, Got, refused_as, GotSources}
use Rattle.campaign_reading.proofs.Takes.{made_of, unprepared_untaken, untaken_unmade}
use Rattle.campaign_reading.proofs.reading.read_campaign.Goals as goal

pub returns-in_err-prepare_scripted-clause-refused : goal.returns-in_err-prepare_scripted-clause-refused
returns-in_err-prepare_scripted-clause-refused g c =
    let held : Option Held = g.F.SourceFiles.held c.args.files.now in
    let project : Project = c.in_ok-config.taken.project in
    let read : List SourceFile = c.as_slice.result.now in
    let files : GotSources (g.F.SourceFiles.held c.read_config.new.files) project read = subst (λ (fs : List SourceFile). GotSources (g.F.SourceFiles.held c.read_config.new.files) project fs) (sym c.as_slice.ensures) c.in_ok-sources.ensures.got in
    let first : GotSources held project read = subst (λ (h : Option Held). GotSources h project read) c.in_ok-config.ensures.same files in
    let p = err_from_is_err_and c.from_residual-in_err-prepare_scripted.result c.from_residual-in_err-prepare_scripted.ensures.1 in
    rw (p.1, p.2) (untaken_unmade held project read (refused_as c.in_err-prepare_scripted.field-0.0) first (unprepared_untaken project read c.in_err-prepare_scripted.field-0.0 c.in_err-prepare_scripted.ensures.refused))

pub returns-clause-made : goal.returns-clause-made
returns-clause-made g c =
    let held : Option Held = g.F.SourceFiles.held c.args.files.now in
    let project : Project = c.in_ok-config.taken.project in
    let read : List SourceFile = c.as_slice.result.now in
    let files : GotSources (g.F.SourceFiles.held c.read_config.new.files) project read = subst (λ (fs : List SourceFile). GotSources (g.F.SourceFiles.held c.read_config.new.files) project fs) (sym c.as_slice.ensures) c.in_ok-sources.ensures.got in
    let first : GotSources held project read = subst (λ (h : Option Held). GotSources h project read) c.in_ok-config.ensures.same files in
    let config : Got held config_name c.deref.result.now = subst (λ (bytes : List ℕ). Got held config_name bytes) (sym c.deref.ensures.value) c.in_ok-config.ensures.got in
    made_of held c.deref.result.now project read c.in_ok-prepare_scripted.field-0 config first c.in_ok-prepare_scripted.ensures.made
