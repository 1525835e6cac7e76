-- Projects and their sources: each has one answer, and those that are taken have no other.
use Rattle.campaign_reading.proofs.Common.{◌≡◌, ◌≢◌, inl, inr, arith, Bool, true≢false, ℕ, List, [], ◌∷◌, length, refl, sym, ap, subst, ◌∙◌, ◌⊎◌, Option, None, Some, Result, Ok, Err, IsUtf8, All-head}
use Rattle.campaign_reading.proofs.Common.{All-tail, SourceFile, Held, Gives, Project, IsCut, IsFault, IsProject, Refusal, PrepareError, Unprepared, ShortOfMemory, max_bytes, IsWithinLimits}
use Rattle.campaign_reading.proofs.Common.{all_files, design_part, HasScripts, IsScripted, logic_read, report_read, Prepared, names_of, config_name, Got, GotAll, IsMade, IsPrepared, LeavesOut}
use Rattle.campaign_reading.proofs.Common.{IsExcess, lacks_sites, GotSources, HasDesign, HasNoBenches, HasNoDesign, HasNoSites, HasProject, HasSites, LacksSites, IsNext, IsRead, IsRefusedAsLarge}
use Rattle.campaign_reading.proofs.Common.{IsSourceBad, IsTooLarge, IsUnmade, IsUnprepared, refused_as, IsUnscripted, IsUntaken, IsUntakenDesign, Trial, AreTrials, IsReading, IsTrialFault, Reading}
use Rattle.campaign_reading.proofs.Common.{Module, AreRead, RawNetlist, SourceError, too_many, HasNoModules}
use Rattle.std.proofs.Math.Seq.{take-length}
use Rattle.std.proofs.lemmas.Str.{utf8_valid_len-IsValidUpTo}
use Rattle.project_lines.specs.declared.error.ProjectError.{ProjectError}
use Rattle.project_lines.specs.declared.error.ProjectError.TheVariants.{NotUtf8}
use Rattle.campaign_reading.specs.declared.refusal.Refusal.TheVariants.{ProjectBad, ScriptBad, SourceBad, Memory}
use Rattle.tag_script.specs.declared.script.Script.{Script}
use Rattle.tag_script.specs.declared.script.ScriptError.{ScriptError}
use Rattle.report_script.specs.declared.report.Report.{Report}
use Rattle.campaign_plan.proofs.Kept.{project_once}
use Rattle.campaign_plan.proofs.OneCampaign.{leaves_once}
use Rattle.campaign_plan.proofs.TrialLaws.{readings_are_one, trial_faults_are_one, trials_without_fault}
use Rattle.source_trees.proofs.OneAnswer.{read_without_fault}
use Rattle.mcy_base.specs.declared.kind.Kind.{Kind}
use Rattle.mcy_base.specs.declared.kind.Kind.TheVariants.{FreeBits, Gates, Sites}
use Rattle.project_sources.proofs.OneAnswer.{faults_are_one, netlist_without_fault, netlists_are_one}

-- Project files.

cut_once : (config : List ℕ) (e f : ProjectError) → IsCut config e → IsCut config f → e ≡ f
cut_once config (NotUtf8 n) (NotUtf8 m) h k = ap NotUtf8 (sym (utf8_valid_len-IsValidUpTo config n h) ∙ utf8_valid_len-IsValidUpTo config m k)
cut_once config (NotUtf8 n) f h k = absurd k
cut_once config e f h k = absurd h

cut_not_utf8 : (config : List ℕ) (e : ProjectError) → IsCut config e → ¬ IsUtf8 config
cut_not_utf8 config (NotUtf8 n) h whole = h.longest (length config) h.short (subst IsUtf8 (sym (take-length config)) whole)
cut_not_utf8 config e h whole = absurd h

fault_once : (config : List ℕ) (e f : ProjectError) → IsFault config e → IsFault config f → e ≡ f
fault_once config e f (inl h) (inl k) = cut_once config e f h k
fault_once config e f (inl h) (inr k) = absurd (cut_not_utf8 config e h k.0)
fault_once config e f (inr h) (inl k) = absurd (cut_not_utf8 config f k h.0)
fault_once config e f (inr h) (inr k) = let is : Some e ≡ Some f = sym h.1 ∙ k.1 in cc

project_not_fault : (config : List ℕ) (p : Project) (e : ProjectError) → IsProject config p → ¬ IsFault config e
project_not_fault config p e h (inl k) = cut_not_utf8 config e k h.utf8
project_not_fault config p e h (inr k) = let is : None ≡ Some e = sym h.faultless ∙ k.1 in cc

-- Scripts.

err_once : {A : Type 0} (r : Result A ScriptError) (e f : ScriptError) → r ≡ Err e → r ≡ Err f → e ≡ f
err_once r e f h k = cc

ok_or_err : {A : Type 0} (r : Result A ScriptError) (a : A) (e : ScriptError) → r ≡ Ok a → r ≡ Err e → ⊥
ok_or_err r a e h k = cc

abbrev FaultOf : Project → ScriptError → Type 0
FaultOf p e = (logic_read p ≡ Err e) ⊎ ((script : Script) × (logic_read p ≡ Ok script) × (report_read p ≡ Err e))

fault_of_once : (p : Project) (e f : ScriptError) → FaultOf p e → FaultOf p f → e ≡ f
fault_of_once p e f (inl h) (inl k) = err_once (logic_read p) e f h k
fault_of_once p e f (inl h) (inr k) = absurd (ok_or_err (logic_read p) k.0 e k.1 h)
fault_of_once p e f (inr h) (inl k) = absurd (ok_or_err (logic_read p) h.0 f h.1 k)
fault_of_once p e f (inr h) (inr k) = err_once (report_read p) e f h.2 k.2

fault_of_none : (p : Project) (s : Script) (r : Report) (e : ScriptError) → HasScripts p s r → ¬ FaultOf p e
fault_of_none p s r e has (inl h) = ok_or_err (logic_read p) s e has.logic h
fault_of_none p s r e has (inr h) = ok_or_err (report_read p) r e has.report h.2

pub scripted_of : (p : Project) (s : Script) (r : Report) → HasScripts p s r → IsScripted p
scripted_of p s r has = record { script = s; report = r; scripts = has }

unscripted_once : (p : Project) (r q : Refusal) → r ≢ Memory → q ≢ Memory → IsUnscripted p r → IsUnscripted p q → r ≡ q
unscripted_once p Memory q m n h k = absurd (m refl)
unscripted_once p r Memory m n h k = absurd (n refl)
unscripted_once p (ScriptBad e) (ScriptBad f) m n h k = ap ScriptBad (fault_of_once p e f h.1 k.1)
unscripted_once p (ScriptBad e) q m n h k = absurd k
unscripted_once p r q m n h k = absurd h

scripted_not_unscripted : (p : Project) (r : Refusal) → IsScripted p → r ≢ Memory → ¬ IsUnscripted p r
scripted_not_unscripted p Memory scripted m h = m refl
scripted_not_unscripted p (ScriptBad e) scripted m h = fault_of_none p scripted.script scripted.report e scripted.scripts h.1
scripted_not_unscripted p r scripted m h = absurd h

abbrev Unscripted : List ℕ → Refusal → Type 0
Unscripted config r = (project : Project) × IsProject config project × IsUnscripted project r

told_once : (config : List ℕ) (r q : Refusal) → r ≢ Memory → q ≢ Memory → Unscripted config r → Unscripted config q → r ≡ q
told_once config r q m n (p, says, h) (p', says', k) = unscripted_once p' r q m n (subst (λ (p : Project). IsUnscripted p r) (project_once config p p' says says') h) k

told_not : (config : List ℕ) (p : Project) (r : Refusal) → IsProject config p → IsScripted p → r ≢ Memory → ¬ Unscripted config r
told_not config p r says scripted m (q, says', h) = scripted_not_unscripted p r scripted m (subst (λ (p : Project). IsUnscripted p r) (project_once config q p says' says) h)

-- a project file is refused for one thing,
pub untaken_once : (config : List ℕ) (r q : Refusal) → r ≢ Memory → q ≢ Memory → IsUntaken config r → IsUntaken config q → r ≡ q
untaken_once config Memory q m n h k = absurd (m refl)
untaken_once config r Memory m n h k = absurd (n refl)
untaken_once config (ProjectBad e) (ProjectBad f) m n h k = ap ProjectBad (fault_once config e f h k)
untaken_once config (ProjectBad e) (ScriptBad f) m n h (p, says, un) = absurd (project_not_fault config p e says h)
untaken_once config (ScriptBad e) (ProjectBad f) m n (p, says, un) k = absurd (project_not_fault config p f says k)
untaken_once config (ScriptBad e) (ScriptBad f) m n h k = told_once config (ScriptBad e) (ScriptBad f) m n h k
untaken_once config (ProjectBad e) q m n h k = absurd k
untaken_once config (ScriptBad e) q m n h k = absurd k
untaken_once config r q m n h k = absurd h

-- and one that is taken for none
pub untaken_not : (config : List ℕ) (p : Project) (r : Refusal) → IsProject config p → IsScripted p → r ≢ Memory → ¬ IsUntaken config r
untaken_not config p Memory says scripted m h = m refl
untaken_not config p (ProjectBad e) says scripted m h = project_not_fault config p e says h
untaken_not config p (ScriptBad e) says scripted m h = told_not config p (ScriptBad e) says scripted m h
untaken_not config p r says scripted m h = absurd h

-- Files.

pub given_same : (held : Option (List ℕ)) (max : ℕ) (a b : List ℕ) → Gives held max a → Gives held max b → a ≡ b
given_same held max a b one two = let is : Some a ≡ Some b = sym one.same ∙ two.same in cc

-- what is held under a name, if not too much
abbrev pub IsThere : Held → List ℕ → Type 0
IsThere told name = (bytes : List ℕ) × Gives (told name) max_bytes bytes

got_head : (told : Held) (file : SourceFile) (files : List SourceFile) → GotAll (Some told) (file ∷ files) → Gives (told file.name) max_bytes file.bytes
got_head told file files got = All-head (λ (f : SourceFile). Gives (told f.name) max_bytes f.bytes) file files got

got_tail : (told : Held) (file : SourceFile) (files : List SourceFile) → GotAll (Some told) (file ∷ files) → GotAll (Some told) files
got_tail told file files got = All-tail (λ (f : SourceFile). Gives (told f.name) max_bytes f.bytes) file files got

-- files of the same names are the same
files_same : (told : Held) (xs ys : List SourceFile) → GotAll (Some told) xs → GotAll (Some told) ys → names_of xs ≡ names_of ys → xs ≡ ys
files_same told [] [] h k is = refl
files_same told [] (y ∷ ys) h k is = cc
files_same told (x ∷ xs) [] h k is = cc
files_same told (x ∷ xs) (y ∷ ys) h k is =
    let name : x.name ≡ y.name = cc in
    let rest : names_of xs ≡ names_of ys = cc in
    let bytes : x.bytes ≡ y.bytes = given_same (told y.name) max_bytes x.bytes y.bytes (subst (λ (n : List ℕ). Gives (told n) max_bytes x.bytes) name (got_head told x xs h)) (got_head told y ys k) in
    let first : x ≡ y = λ i. record { name = name i; bytes = bytes i } in
    let more : xs ≡ ys = files_same told xs ys (got_tail told x xs h) (got_tail told y ys k) rest in
    cc

-- a file that is next among those that are there is there
next_there : (told : Held) (files : List SourceFile) (name : List ℕ) → GotAll (Some told) files → IsNext (Some told) (names_of files) name → IsThere told name
next_there told [] name got next = absurd next
next_there told (file ∷ files) name got (inl is) = (file.bytes, subst (λ (n : List ℕ). Gives (told n) max_bytes file.bytes) (sym is) (got_head told file files got))
next_there told (file ∷ files) name got (inr (there, next)) = next_there told files name (got_tail told file files got) next

-- and there is one next file that is not there
pub next_once : (told : Held) (names : List (List ℕ)) (a b : List ℕ) → (¬ IsThere told a) → (¬ IsThere told b) → IsNext (Some told) names a → IsNext (Some told) names b → a ≡ b
next_once told [] a b x y h k = absurd h
next_once told (name ∷ names) a b x y (inl h) (inl k) = h ∙ sym k
next_once told (name ∷ names) a b x y (inl h) (inr (there, k)) = absurd (x (subst (λ (n : List ℕ). IsThere told n) (sym h) there))
next_once told (name ∷ names) a b x y (inr (there, h)) (inl k) = absurd (y (subst (λ (n : List ℕ). IsThere told n) (sym k) there))
next_once told (name ∷ names) a b x y (inr (there, h)) (inr (there', k)) = next_once told names a b x y h k

-- What is read.

pub project_same : (told : Held) (p q : Project) → HasProject (Some told) p → HasProject (Some told) q → p ≡ q
project_same told p q h k =
    let config : h.config ≡ k.config = given_same (told config_name) max_bytes h.config k.config h.got k.got in
    project_once k.config p q (subst (λ (c : List ℕ). IsProject c p) config h.says) k.says

pub sources_same : (told : Held) (p q : Project) (xs ys : List SourceFile) → GotSources (Some told) p xs → GotSources (Some told) q ys → xs ≡ ys
sources_same told p q xs ys h k = files_same told xs ys h.got k.got (h.names ∙ ap all_files (project_same told p q h.before k.before) ∙ sym k.names)

pub source_there : (told : Held) (p q : Project) (files : List SourceFile) (name : List ℕ) → GotSources (Some told) p files → HasProject (Some told) q → IsNext (Some told) (all_files q) name → IsThere told name
source_there told p q files name got has next =
    let names : all_files q ≡ names_of files = ap all_files (project_same told q p has got.before) ∙ sym got.names in
    next_there told files name got.got (subst (λ (ns : List (List ℕ)). IsNext (Some told) ns name) names next)

-- each file that is read is there
pub read_there : (told : Held) (p : Project) (files : List SourceFile) (name : List ℕ) → GotSources (Some told) p files → IsRead (Some told) name → IsThere told name
read_there told p files name got (inl is) = (got.before.config, subst (λ (n : List ℕ). Gives (told n) max_bytes got.before.config) (sym is) got.before.got)
read_there told p files name got (inr (q, has, next)) = source_there told p q files name got has next

-- Designs.

-- there is too much of one thing
excess_once : (p : Project) (netlist : RawNetlist) (k j : Kind) → IsExcess p netlist k → IsExcess p netlist j → k ≡ j
excess_once p netlist Sites Sites h g = refl
excess_once p netlist Sites Gates h g = absurd (omega (arith, h, g.0.0))
excess_once p netlist Sites FreeBits h g = absurd (omega (arith, h, g.0.0))
excess_once p netlist Gates Sites h g = absurd (omega (arith, h.0.0, g))
excess_once p netlist Gates Gates h g = refl
excess_once p netlist Gates FreeBits h g = absurd (omega (arith, h.1, g.1))
excess_once p netlist FreeBits Sites h g = absurd (omega (arith, h.0.0, g))
excess_once p netlist FreeBits Gates h g = absurd (omega (arith, h.1, g.1))
excess_once p netlist FreeBits FreeBits h g = refl
excess_once p netlist Sites j h g = absurd g
excess_once p netlist Gates j h g = absurd g
excess_once p netlist FreeBits j h g = absurd g
excess_once p netlist k j h g = absurd h

no_excess : (p : Project) (netlist : RawNetlist) (k : Kind) → IsWithinLimits p netlist → ¬ IsExcess p netlist k
no_excess p netlist Sites few h = omega (arith, few.few_sites, h)
no_excess p netlist Gates few h = omega (arith, few.few_gates h.0.1, h.1)
no_excess p netlist FreeBits few h = omega (arith, few.few_bits h.0.1, h.2)
no_excess p netlist k few h = absurd h

large_not_few : (p : Project) (n m : RawNetlist) (e : SourceError) → n ≡ m → IsTooLarge p n e → ¬ IsWithinLimits p m
large_not_few p n m e same (kind, excess, is) few = no_excess p m kind few (subst (λ netlist. IsExcess p netlist kind) same excess)

large_once : (p : Project) (netlist : RawNetlist) (x y : SourceError) → IsTooLarge p netlist x → IsTooLarge p netlist y → x ≡ y
large_once p netlist x y (k, h, is) (j, g, are) = is ∙ ap too_many (excess_once p netlist k j h g) ∙ sym are

-- Files that are modules are not refused as none.
read_not_bad : (files : List SourceFile) (modules : List Module) (e : SourceError) → AreRead files modules → ¬ HasNoModules files e
read_not_bad files modules e read h = h.found (read_without_fault files modules h.fault read h.unread)

modules_bad_once : (files : List SourceFile) (x y : SourceError) → HasNoModules files x → HasNoModules files y → x ≡ y
modules_bad_once files x y h k = faults_are_one files [] x y (inl h) (inl k)

design_not_refused : (p : Project) (files : List SourceFile) (netlist : RawNetlist) (e : SourceError) → HasDesign p files netlist → ¬ HasNoDesign p files e
design_not_refused p files netlist e has h = netlist_without_fault (design_part p files) p.top netlist e has.design h.refused

pub designs_are_one : (p : Project) (files : List SourceFile) (n m : RawNetlist) → HasDesign p files n → HasDesign p files m → n ≡ m
designs_are_one p files n m h k = netlists_are_one (design_part p files) p.top n m h.design k.design

-- Sites that are left, or not.

left_same : (p : Project) (files : List SourceFile) (n m : RawNetlist) (omitted other : List Bool) → n ≡ m → LeavesOut p files n omitted → LeavesOut p files m other → omitted ≡ other
left_same p files n m omitted other same h k = leaves_once p files m omitted other (subst (λ (netlist : RawNetlist). LeavesOut p files netlist omitted) same h) k

lacking_not_left : (p : Project) (files : List SourceFile) (n m : RawNetlist) (e : SourceError) → n ≡ m → LacksSites p files n e → ¬ HasSites p files m
lacking_not_left p files n m e same h k =
    let flags : h.omitted ≡ k.omitted = left_same p files n m h.omitted k.omitted same h.left_out k.left_out in
    absurd (true≢false (sym h.none ∙ ap lacks_sites flags ∙ k.some))

lacking_once : (p : Project) (files : List SourceFile) (n m : RawNetlist) (x y : SourceError) → LacksSites p files n x → LacksSites p files m y → x ≡ y
lacking_once p files n m x y h k = h.is ∙ sym k.is

large_not_lacking : (p : Project) (files : List SourceFile) (n : RawNetlist) (x y : SourceError) → HasDesign p files n → IsTooLarge p n x → ¬ HasNoSites p files y
large_not_lacking p files n x y has large k = large_not_few p n k.netlist x (designs_are_one p files n k.netlist has k.design) large k.few

large_not_benchless : (p : Project) (files : List SourceFile) (n : RawNetlist) (x y : SourceError) → HasDesign p files n → IsTooLarge p n x → ¬ HasNoBenches p files y
large_not_benchless p files n x y has large k = large_not_few p n k.netlist x (designs_are_one p files n k.netlist has k.design) large k.few

lacking_not_benchless : (p : Project) (files : List SourceFile) (x y : SourceError) → HasNoSites p files x → ¬ HasNoBenches p files y
lacking_not_benchless p files x y h k = lacking_not_left p files h.netlist k.netlist x (designs_are_one p files h.netlist k.netlist h.design k.design) h.lacks k.sites

benches_bad_once : (p : Project) (files : List SourceFile) (x y : SourceError) → HasNoBenches p files x → HasNoBenches p files y → x ≡ y
benches_bad_once p files x y h k =
    let netlist : k.netlist ≡ h.netlist = designs_are_one p files k.netlist h.netlist k.design h.design in
    let other : IsReading files (names_of files) p.top h.netlist k.reading = subst (λ n. IsReading files (names_of files) p.top n k.reading) netlist k.is_reading in
    let same : k.reading ≡ h.reading = readings_are_one files (names_of files) p.top h.netlist k.reading h.reading other h.is_reading in
    trial_faults_are_one h.reading 0 p.tests x y h.fault (subst (λ r. IsTrialFault r 0 p.tests y) same k.fault)

-- the files are refused for one cause of the five
bad_once : (p : Project) (files : List SourceFile) (x y : SourceError) → IsSourceBad p files x → IsSourceBad p files y → x ≡ y
bad_once p files x y (inl h) (inl k) = modules_bad_once files x y h k
bad_once p files x y (inl h) (inr (inl k)) = absurd (read_not_bad files k.modules x k.read h)
bad_once p files x y (inl h) (inr (inr (inl (n, has, large)))) = absurd (read_not_bad files has.modules x has.read h)
bad_once p files x y (inl h) (inr (inr (inr (inl k)))) = absurd (read_not_bad files k.design.modules x k.design.read h)
bad_once p files x y (inl h) (inr (inr (inr (inr k)))) = absurd (read_not_bad files k.design.modules x k.design.read h)
bad_once p files x y (inr (inl h)) (inl k) = absurd (read_not_bad files h.modules y h.read k)
bad_once p files x y (inr (inl h)) (inr (inl k)) = faults_are_one (design_part p files) p.top x y h.refused k.refused
bad_once p files x y (inr (inl h)) (inr (inr (inl (n, has, large)))) = absurd (design_not_refused p files n x has h)
bad_once p files x y (inr (inl h)) (inr (inr (inr (inl k)))) = absurd (design_not_refused p files k.netlist x k.design h)
bad_once p files x y (inr (inl h)) (inr (inr (inr (inr k)))) = absurd (design_not_refused p files k.netlist x k.design h)
bad_once p files x y (inr (inr (inl (n, has, large)))) (inl k) = absurd (read_not_bad files has.modules y has.read k)
bad_once p files x y (inr (inr (inl (n, has, large)))) (inr (inl k)) = absurd (design_not_refused p files n y has k)
bad_once p files x y (inr (inr (inl (n, has, large)))) (inr (inr (inl (m, also, bulky)))) =
    large_once p n x y large (subst (λ netlist. IsTooLarge p netlist y) (designs_are_one p files m n also has) bulky)
bad_once p files x y (inr (inr (inl (n, has, large)))) (inr (inr (inr (inl k)))) = absurd (large_not_lacking p files n x y has large k)
bad_once p files x y (inr (inr (inl (n, has, large)))) (inr (inr (inr (inr k)))) = absurd (large_not_benchless p files n x y has large k)
bad_once p files x y (inr (inr (inr (inl h)))) (inl k) = absurd (read_not_bad files h.design.modules y h.design.read k)
bad_once p files x y (inr (inr (inr (inl h)))) (inr (inl k)) = absurd (design_not_refused p files h.netlist y h.design k)
bad_once p files x y (inr (inr (inr (inl h)))) (inr (inr (inl (m, also, bulky)))) = absurd (large_not_lacking p files m y x also bulky h)
bad_once p files x y (inr (inr (inr (inl h)))) (inr (inr (inr (inl k)))) = lacking_once p files h.netlist k.netlist x y h.lacks k.lacks
bad_once p files x y (inr (inr (inr (inl h)))) (inr (inr (inr (inr k)))) = absurd (lacking_not_benchless p files x y h k)
bad_once p files x y (inr (inr (inr (inr h)))) (inl k) = absurd (read_not_bad files h.design.modules y h.design.read k)
bad_once p files x y (inr (inr (inr (inr h)))) (inr (inl k)) = absurd (design_not_refused p files h.netlist y h.design k)
bad_once p files x y (inr (inr (inr (inr h)))) (inr (inr (inl (m, also, bulky)))) = absurd (large_not_benchless p files m y x also bulky h)
bad_once p files x y (inr (inr (inr (inr h)))) (inr (inr (inr (inl k)))) = absurd (lacking_not_benchless p files y x k h)
bad_once p files x y (inr (inr (inr (inr h)))) (inr (inr (inr (inr k)))) = benches_bad_once p files x y h k

-- the sources are refused for one thing,
pub untaken_design_once : (p : Project) (files : List SourceFile) (r q : Refusal) → r ≢ Memory → q ≢ Memory → IsUntakenDesign p files r → IsUntakenDesign p files q → r ≡ q
untaken_design_once p files Memory q m n h k = absurd (m refl)
untaken_design_once p files r Memory m n h k = absurd (n refl)
untaken_design_once p files (SourceBad e) (SourceBad f) m n h k = ap SourceBad (bad_once p files e f h k)
untaken_design_once p files (SourceBad e) q m n h k = absurd k
untaken_design_once p files r q m n h k = absurd h

-- and those that are taken for none
pub taken_not_bad : (p : Project) (files : List SourceFile) (netlist : RawNetlist) (r : Reading) (trials : List Trial) (e : SourceError) → HasDesign p files netlist → IsWithinLimits p netlist → HasSites p files netlist → IsReading files (names_of files) p.top netlist r → AreTrials r p.tests trials → ¬ IsSourceBad p files e
taken_not_bad p files netlist r trials e has few sites reading benches (inl h) = read_not_bad files has.modules e has.read h
taken_not_bad p files netlist r trials e has few sites reading benches (inr (inl h)) = design_not_refused p files netlist e has h
taken_not_bad p files netlist r trials e has few sites reading benches (inr (inr (inl (n, also, large)))) = large_not_few p n netlist e (designs_are_one p files n netlist also has) large few
taken_not_bad p files netlist r trials e has few sites reading benches (inr (inr (inr (inl h)))) = lacking_not_left p files h.netlist netlist e (designs_are_one p files h.netlist netlist h.design has) h.lacks sites
taken_not_bad p files netlist r trials e has few sites reading benches (inr (inr (inr (inr h)))) =
    let other : IsReading files (names_of files) p.top netlist h.reading = subst (λ n. IsReading files (names_of files) p.top n h.reading) (designs_are_one p files h.netlist netlist h.design has) h.is_reading in
    let same : h.reading ≡ r = readings_are_one files (names_of files) p.top netlist h.reading r other reading in
    trials_without_fault r 0 p.tests trials e benches (subst (λ reading. IsTrialFault reading 0 p.tests e) same h.fault)

pub untaken_design_not : (p : Project) (files : List SourceFile) (netlist : RawNetlist) (r : Reading) (trials : List Trial) (refusal : Refusal) → HasDesign p files netlist → IsWithinLimits p netlist → HasSites p files netlist → IsReading files (names_of files) p.top netlist r → AreTrials r p.tests trials → refusal ≢ Memory → ¬ IsUntakenDesign p files refusal
untaken_design_not p files netlist r trials Memory has few sites reading benches some h = some refl
untaken_design_not p files netlist r trials (SourceBad e) has few sites reading benches some h = taken_not_bad p files netlist r trials e has few sites reading benches h
untaken_design_not p files netlist r trials refusal has few sites reading benches some h = absurd h

-- A netlist that is too large is a fault of the sources,
pub large_unprepared : (p : Project) (files : List SourceFile) (netlist : RawNetlist) (e : PrepareError) → HasDesign p files netlist → IsRefusedAsLarge p netlist e → IsUnprepared p files e
large_unprepared p files netlist (Unprepared e) has large = inr (inr (inl (netlist, has, large)))
large_unprepared p files netlist ShortOfMemory has large = tt

-- and what they are refused for is told.
pub unprepared_untaken : (p : Project) (files : List SourceFile) (e : PrepareError) → IsUnprepared p files e → IsUntakenDesign p files (refused_as e)
unprepared_untaken p files (Unprepared e) why = why
unprepared_untaken p files ShortOfMemory why = tt

-- Where the sources are refused, the files make no campaign,
pub untaken_unmade : (held : Option Held) (p : Project) (files : List SourceFile) (r : Refusal) → GotSources held p files → IsUntakenDesign p files r → IsUnmade held r
untaken_unmade held p files Memory got why = tt
untaken_unmade held p files (SourceBad e) got why = record { project = p; files = files; got = got; why = why }
untaken_unmade held p files r got why = absurd why

-- and the campaign that is prepared of them is theirs.
pub made_of : (held : Option Held) (config : List ℕ) (p : Project) (files : List SourceFile) (c : Prepared) → Got held config_name config → GotSources held p files → IsPrepared config files c → IsMade held c
made_of held config p files c first got is = record { config = config; files = files; got_config = first; got_files = got.got; made = is }
