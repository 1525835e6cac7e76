-- What modules are flattened to is one design.
use Rattle.flat_once.proofs.Common.{◌≡◌, ℕ, List, [], ◌∷◌, ◌++◌, None, Some, refl, sym, ap, ◌∙◌, subst, slice_get, Module, Opened, unopened, Task}
use Rattle.std.proofs.lemmas.Option.{none-some}
use Rattle.flat_scopes.specs.Opens.{OpensModule}
use Rattle.flat_instances.specs.Instances.{no_names}
use Rattle.flat_items.specs.Flattened.{Flat, entered, module_at, tasks_of}
use Rattle.flat_items.specs.Replacing.{Replaces, Flattens, flattened, replaces, repeated, top_head, FlattensModule}
use Rattle.flat_once.specs.Laws.{FlattensOnce, HasOneTop, NoTopFlattens}
use Rattle.flat_once.proofs.Parts.{one_there}
use Rattle.flat_once.proofs.Replaced.{replaced_once}
use Rattle.flat_once.proofs.Scopes.{module_once}

-- the first part is replaced, and then the others
abbrev Goes : List Module → List Task → Flat → Flat → Type 0
Goes modules [] flat last = last ≡ flat
Goes modules (task ∷ more) flat last = (tasks : List Task) × (next : Flat) × Replaces modules task flat tasks next × Flattens modules (tasks ++ more) next last

goes : (modules : List Module) (tasks : List Task) (flat last : Flat) → Flattens modules tasks flat last → Goes modules tasks flat last
goes modules tasks flat last (flattened old) = refl
goes modules tasks flat last (replaces task parts more old next end r d) = (parts, next, r, d)

all_once : (modules : List Module) (tasks : List Task) (flat last other : Flat) → Flattens modules tasks flat last → Flattens modules tasks flat other → last ≡ other
all_once modules tasks flat last other (flattened old) e = sym (goes modules [] old other e)
all_once modules tasks flat last other (replaces task parts more old next end r d) e =
    let g = goes modules (task ∷ more) old other e in
    let same = replaced_once modules task old g.0 parts g.1 next g.2 r in
    let here : Flattens modules (g.0 ++ more) next other = subst (λ (x : Flat). Flattens modules (g.0 ++ more) x other) same.1 g.3 in
    all_once modules (parts ++ more) next end other d (subst (λ (ts : List Task). Flattens modules (ts ++ more) next other) same.0 here)

-- what there is where the items of the top are opened
abbrev begun : List Module → ℕ → Opened → Flat
begun modules number child = entered (record { signals = []; places = []; items = repeated modules 0 modules }) [] None (number ∷ []) child

design_once : (modules : List Module) (number : ℕ) (flat other : Flat) → FlattensModule modules number flat → FlattensModule modules number other → flat ≡ other
design_once modules number flat other d e =
    let m : e.m ≡ d.m = one_there modules number e.m d.m e.numbered d.numbered in
    let start : Opened = unopened no_names [] in
    let opens : OpensModule (top_head d.m) no_names d.m start e.child = subst (λ (x : Module). OpensModule (top_head x) no_names x start e.child) m e.opens in
    let child : e.child ≡ d.child = module_once (top_head d.m) no_names d.m start e.child d.child opens d.opens in
    let there : Flattens modules (tasks_of 0 d.child.steps) (begun modules number d.child) other =
    subst (λ (c : Opened). Flattens modules (tasks_of 0 c.steps) (begun modules number c) other) child e.flattens in
    all_once modules (tasks_of 0 d.child.steps) (begun modules number d.child) flat other d.flattens there

-- the number of the top is one
number_once : (modules : List Module) (top : List ℕ) (n k : ℕ) → module_at modules top ≡ Some n → module_at modules top ≡ Some k → n ≡ k
number_once modules top n k a b = cc

pub flattens_once : FlattensOnce
flattens_once modules top flat other x y =
    let same : y.number ≡ x.number = number_once modules top y.number x.number y.named x.named in
    design_once modules x.number flat other x.design (subst (λ (n : ℕ). FlattensModule modules n other) same y.design)

pub has_one_top : HasOneTop
has_one_top modules top flat other x y =
    let same : x.number ≡ y.number = number_once modules top x.number y.number x.named y.named in
    one_there modules x.number x.design.m y.design.m x.design.numbered (ap (slice_get modules) same ∙ y.design.numbered)

pub no_top_flattens : NoTopFlattens
no_top_flattens modules top flat none x = none-some x.number (sym none ∙ x.named)
