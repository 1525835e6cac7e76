-- What files hold is refused for one cause, or makes a campaign.
use Rattle.campaign_reading.proofs.Common.{◌≡◌, ◌≢◌, ◌⊎◌, inl, inr, arith, ℕ, ◌≤◌, List, length, refl, sym, ap, subst, ◌∙◌, Option, None, Some, SourceFile, Held, Gives, IsLarge, Project, all_files}
use Rattle.campaign_reading.proofs.Common.{Prepared, Refusal, max_bytes, config_name, Exceeds, IsMade, Lacks, AtProject, AtSources, HasProject, IsNext, IsUnmade, IsUntaken, IsUntakenDesign}
use Rattle.campaign_reading.specs.declared.refusal.Refusal.TheVariants.{ProjectBad as RefusedProject, ScriptBad as RefusedScript, SourceBad as RefusedSource, Missing as RefusedMissing}
use Rattle.campaign_reading.specs.declared.refusal.Refusal.TheVariants.{TooLarge as RefusedTooLarge, ReadFault as RefusedRead, Memory as RefusedMemory}
use Rattle.campaign_reading.specs.Readable.{IsReadable}
use Rattle.campaign_reading.specs.Laws.{FilesHaveOneCause, IsByFiles, ReadableFilesAreTaken, RefusedFilesMakeNone}
use Rattle.campaign_reading.proofs.Takes.{given_same, IsThere, next_once, project_same, read_there, scripted_of, source_there, sources_same, untaken_design_not, untaken_design_once, untaken_not}
use Rattle.campaign_reading.proofs.Takes.{untaken_once}

-- What is held under a name: nothing, too much, or these bytes.
data Found : Type 0 where
  Nothing : Found
  TooMuch : Found
  Bytes : List ℕ → Found

abbrev IsFound : Option (List ℕ) → Found → Type 0
IsFound held Nothing = held ≡ None
IsFound held TooMuch = IsLarge held max_bytes
IsFound held (Bytes bytes) = Gives held max_bytes bytes

large_not_none : (held : Option (List ℕ)) → held ≡ None → ¬ IsLarge held max_bytes
large_not_none held none large = subst (λ (o : Option (List ℕ)). IsLarge o max_bytes) none large

given_not_none : (held : Option (List ℕ)) (bytes : List ℕ) → held ≡ None → ¬ Gives held max_bytes bytes
given_not_none held bytes none given = let is : Some bytes ≡ None = sym given.same ∙ none in cc

given_not_large : (held : Option (List ℕ)) (bytes : List ℕ) → IsLarge held max_bytes → ¬ Gives held max_bytes bytes
given_not_large held bytes large given =
    let more : IsLarge (Some bytes) max_bytes = subst (λ (o : Option (List ℕ)). IsLarge o max_bytes) given.same large in
    let few : length bytes ≤ max_bytes = given.few in omega arith

found_once : (held : Option (List ℕ)) (a b : Found) → IsFound held a → IsFound held b → a ≡ b
found_once held Nothing Nothing h k = refl
found_once held Nothing TooMuch h k = absurd (large_not_none held h k)
found_once held Nothing (Bytes b) h k = absurd (given_not_none held b h k)
found_once held TooMuch Nothing h k = absurd (large_not_none held k h)
found_once held TooMuch TooMuch h k = refl
found_once held TooMuch (Bytes b) h k = absurd (given_not_large held b h k)
found_once held (Bytes a) Nothing h k = absurd (given_not_none held a k h)
found_once held (Bytes a) TooMuch h k = absurd (given_not_large held a k h)
found_once held (Bytes a) (Bytes b) h k = let is : Some a ≡ Some b = sym h.same ∙ k.same in cc

-- What is refused at a file, by what is found there: behind bytes it is `beyond`.
abbrev RefusesFile : List ℕ → Found → (List ℕ → Type 0) → Refusal → Type 0
RefusesFile name Nothing beyond r = r ≡ RefusedMissing name
RefusesFile name TooMuch beyond r = r ≡ RefusedTooLarge name
RefusesFile name (Bytes bytes) beyond r = beyond bytes

record IsRefusal (r : Refusal) (why : Type 0) : Type 0 where
  some : r ≢ RefusedMemory
  cause : why

-- at the project file,
record AtConfig (map : Held) (r : Refusal) : Type 0 where
  found : Found
  is : IsFound (map config_name) found
  why : RefusesFile config_name found (λ config. IsRefusal r (IsUntaken config r)) r

-- at a file behind a project,
record AtFile (map : Held) (r : Refusal) : Type 0 where
  project : Project
  before : HasProject (Some map) project
  name : List ℕ
  next : IsNext (Some map) (all_files project) name
  found : Found
  is : IsFound (map name) found
  why : RefusesFile name found (λ bytes. ⊥) r

-- or behind all files
record AtDesign (map : Held) (r : Refusal) : Type 0 where
  some : r ≢ RefusedMemory
  at : AtSources (Some map) r

-- each refusal that the files decide comes at one of the three
place_of : (map : Held) (r : Refusal) → IsUnmade (Some map) r → IsByFiles r → AtConfig map r ⊎ AtFile map r ⊎ AtDesign map r
place_of map (RefusedMissing name) (inl at, none) whole = inl (record { found = Nothing; is = subst (λ (n : List ℕ). map n ≡ None) at none; why = ap (λ (n : List ℕ). RefusedMissing n) at })
place_of map (RefusedMissing name) (inr (project, has, next), none) whole = inr (inl (record { project = project; before = has; name = name; next = next; found = Nothing; is = none; why = refl }))
place_of map (RefusedTooLarge name) (inl at, large) whole = inl (record { found = TooMuch; is = subst (λ (n : List ℕ). IsLarge (map n) max_bytes) at large; why = ap (λ (n : List ℕ). RefusedTooLarge n) at })
place_of map (RefusedTooLarge name) (inr (project, has, next), large) whole = inr (inl (record { project = project; before = has; name = name; next = next; found = TooMuch; is = large; why = refl }))
place_of map (RefusedRead name) why whole = absurd whole
place_of map RefusedMemory why whole = absurd whole
place_of map (RefusedProject error) at whole = inl (record { found = Bytes at.config; is = at.got; why = record { some = λ is. cc; cause = at.why } })
place_of map (RefusedScript error) at whole = inl (record { found = Bytes at.config; is = at.got; why = record { some = λ is. cc; cause = at.why } })
place_of map (RefusedSource error) at whole = inr (inr (record { some = λ is. cc; at = at }))

config_once : (found : Found) (r q : Refusal) → RefusesFile config_name found (λ config. IsRefusal r (IsUntaken config r)) r → RefusesFile config_name found (λ config. IsRefusal q (IsUntaken config q)) q → r ≡ q
config_once Nothing r q h k = h ∙ sym k
config_once TooMuch r q h k = h ∙ sym k
config_once (Bytes config) r q h k = untaken_once config r q h.some k.some h.cause k.cause

-- behind a project nothing is refused at the project file
config_passed : (map : Held) (r : Refusal) (p : Project) → HasProject (Some map) p → ¬ AtConfig map r
config_passed map r p has at =
    let found : at.found ≡ Bytes has.config = found_once (map config_name) at.found (Bytes has.config) at.is has.got in
    let why : IsRefusal r (IsUntaken has.config r) = subst (λ (f : Found). RefusesFile config_name f (λ config. IsRefusal r (IsUntaken config r)) r) found at.why in
    untaken_not has.config p r has.says has.scripted why.some why.cause

file_bad : (map : Held) (r : Refusal) (at : AtFile map r) → ¬ IsThere map at.name
file_bad map r at there = subst (λ (f : Found). RefusesFile at.name f (λ bytes. ⊥) r) (found_once (map at.name) at.found (Bytes there.0) at.is there.1) at.why

file_refused_once : (name : List ℕ) (found : Found) (r q : Refusal) → RefusesFile name found (λ bytes. ⊥) r → RefusesFile name found (λ bytes. ⊥) q → r ≡ q
file_refused_once name Nothing r q h k = h ∙ sym k
file_refused_once name TooMuch r q h k = h ∙ sym k
file_refused_once name (Bytes bytes) r q h k = absurd h

file_once : (map : Held) (r q : Refusal) → AtFile map r → AtFile map q → r ≡ q
file_once map r q h k =
    let project : h.project ≡ k.project = project_same map h.project k.project h.before k.before in
    let next : IsNext (Some map) (all_files k.project) h.name = subst (λ (p : Project). IsNext (Some map) (all_files p) h.name) project h.next in
    let name : h.name ≡ k.name = next_once map (all_files k.project) h.name k.name (file_bad map r h) (file_bad map q k) next k.next in
    let is : IsFound (map k.name) h.found = subst (λ (n : List ℕ). IsFound (map n) h.found) name h.is in
    let found : h.found ≡ k.found = found_once (map k.name) h.found k.found is k.is in
    let why : RefusesFile k.name k.found (λ bytes. ⊥) r = subst (λ (f : Found). RefusesFile k.name f (λ bytes. ⊥) r) found (subst (λ (n : List ℕ). RefusesFile n h.found (λ bytes. ⊥) r) name h.why) in
    file_refused_once k.name k.found r q why k.why

-- behind all files nothing is refused at one of them
file_passed : (map : Held) (r q : Refusal) → AtDesign map q → ¬ AtFile map r
file_passed map r q k h = file_bad map r h (source_there map k.at.project h.project k.at.files h.name k.at.got h.before h.next)

design_refused_once : (map : Held) (r q : Refusal) → AtDesign map r → AtDesign map q → r ≡ q
design_refused_once map r q h k =
    let project : h.at.project ≡ k.at.project = project_same map h.at.project k.at.project h.at.got.before k.at.got.before in
    let files : h.at.files ≡ k.at.files = sources_same map h.at.project k.at.project h.at.files k.at.files h.at.got k.at.got in
    let why : IsUntakenDesign k.at.project k.at.files r = subst (λ (p : Project). IsUntakenDesign p k.at.files r) project (subst (λ (fs : List SourceFile). IsUntakenDesign h.at.project fs r) files h.at.why) in
    untaken_design_once k.at.project k.at.files r q h.some k.some why k.at.why

place_once : (map : Held) (r q : Refusal) → AtConfig map r ⊎ AtFile map r ⊎ AtDesign map r → AtConfig map q ⊎ AtFile map q ⊎ AtDesign map q → r ≡ q
place_once map r q (inl h) (inl k) = config_once k.found r q (subst (λ (f : Found). RefusesFile config_name f (λ config. IsRefusal r (IsUntaken config r)) r) (found_once (map config_name) h.found k.found h.is k.is) h.why) k.why
place_once map r q (inl h) (inr (inl k)) = absurd (config_passed map r k.project k.before h)
place_once map r q (inl h) (inr (inr k)) = absurd (config_passed map r k.at.project k.at.got.before h)
place_once map r q (inr (inl h)) (inl k) = absurd (config_passed map q h.project h.before k)
place_once map r q (inr (inr h)) (inl k) = absurd (config_passed map q h.at.project h.at.got.before k)
place_once map r q (inr (inl h)) (inr (inl k)) = file_once map r q h k
place_once map r q (inr (inl h)) (inr (inr k)) = absurd (file_passed map r q k h)
place_once map r q (inr (inr h)) (inr (inl k)) = absurd (file_passed map q r h k)
place_once map r q (inr (inr h)) (inr (inr k)) = design_refused_once map r q h k

-- files are refused for one cause
pub refused_once : FilesHaveOneCause
refused_once map r q whole also h k = place_once map r q (place_of map r h whole) (place_of map q k also)

-- what a readable map rules out
lacks_not : (map : Held) (name bytes : List ℕ) → Gives (map name) max_bytes bytes → ¬ Lacks (Some map) name
lacks_not map name bytes given none = let is : Some bytes ≡ None = sym given.same ∙ none in cc

exceeds_not : (map : Held) (name bytes : List ℕ) → Gives (map name) max_bytes bytes → ¬ Exceeds (Some map) name
exceeds_not map name bytes given large =
    let more : IsLarge (Some bytes) max_bytes = subst (λ (o : Option (List ℕ)). IsLarge o max_bytes) given.same large in
    let few : length bytes ≤ max_bytes = given.few in omega arith

project_not : (held : Option Held) (r : IsReadable held) (q : Refusal) → AtProject (Some r.map) q → q ≢ RefusedMemory → ⊥
project_not held r q at some =
    let config : at.config ≡ r.got.before.config = given_same (r.map config_name) max_bytes at.config r.got.before.config at.got r.got.before.got in
    untaken_not r.got.before.config r.project q r.got.before.says r.got.before.scripted some (subst (λ (c : List ℕ). IsUntaken c q) config at.why)

sources_not : (held : Option Held) (r : IsReadable held) (q : Refusal) → AtSources (Some r.map) q → q ≢ RefusedMemory → ⊥
sources_not held r q at some =
    let project : at.project ≡ r.project = project_same r.map at.project r.project at.got.before r.got.before in
    let files : at.files ≡ r.files = sources_same r.map at.project r.project at.files r.files at.got r.got in
    let bad : IsUntakenDesign r.project r.files q = subst (λ (p : Project). IsUntakenDesign p r.files q) project (subst (λ (fs : List SourceFile). IsUntakenDesign at.project fs q) files at.why) in
    untaken_design_not r.project r.files r.netlist r.reading r.trials q r.design r.few r.sites r.is_reading r.benches some bad

-- what is accepted is not refused
pub unmade_not : ReadableFilesAreTaken
unmade_not held r (RefusedMissing name) whole why = let at = read_there r.map r.project r.files name r.got why.0 in lacks_not r.map name at.0 at.1 why.1
unmade_not held r (RefusedTooLarge name) whole why = let at = read_there r.map r.project r.files name r.got why.0 in exceeds_not r.map name at.0 at.1 why.1
unmade_not held r (RefusedRead name) whole why = whole
unmade_not held r (RefusedProject error) whole why = project_not held r (RefusedProject error) why (λ is. cc)
unmade_not held r (RefusedScript error) whole why = project_not held r (RefusedScript error) why (λ is. cc)
unmade_not held r (RefusedSource error) whole why = sources_not held r (RefusedSource error) why (λ is. cc)
unmade_not held r RefusedMemory whole why = whole

-- and what makes a campaign is accepted
abbrev readable_of : (map : Held) (c : Prepared) → IsMade (Some map) c → IsReadable (Some map)
readable_of map c made = record {
  map = map;
  told = refl;
  project = made.made.project;
  files = made.files;
  got = record { before = record { config = made.config; got = made.got_config; says = made.made.says; scripted = scripted_of made.made.project made.made.script made.made.report made.made.scripts }; names = made.made.names; got = made.got_files };
  netlist = c.netlist;
  design = record { modules = made.made.reading.modules; read = made.made.is_reading.read; design = made.made.design };
  few = made.made.few;
  sites = record { omitted = made.made.omitted; left_out = made.made.left_out; some = made.made.some };
  reading = made.made.reading;
  is_reading = made.made.is_reading;
  trials = c.trials;
  benches = made.made.trials;
}

pub refused_not_made : RefusedFilesMakeNone
refused_not_made map r c whole why made = unmade_not (Some map) (readable_of map c made) r whole why
