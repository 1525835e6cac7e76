-- Lookups of scopes and modules, from what the code has in hand.
use Rattle.flat_items.proofs.Common.{◌≡◌, ℕ, zero, suc, ◌+◌, ◌<◌, ◌≤◌, Bool, true, false, List, [], ◌∷◌, map, length, Option, None, Some, refl, sym, ap, subst, ◌∙◌, arith, true≢false, is_some}
use Rattle.flat_items.proofs.Common.{bytes_eq, Module, Names, Head, Signal, Opened, unopened, OpensModule, what_of, no_names, Kept, Task, Flat, add_all, entered, module_from, module_at, tasks_of}
use Rattle.flat_items.proofs.Common.{Flattens, FlattensModule, repeated, top_head, place_of}
use Rattle.std.specs.Prelude.{slice_get, if◌then◌else◌}
use Rattle.flat_items.specs.Tops.{IsTop, own_at}

pub own_found : (xs : List Kept) (k : ℕ) (p : Kept) (name : List ℕ) → slice_get xs k ≡ Some p → own_at (map place_of xs) k name ≡ what_of p.own name
own_found [] k p name h = absurd (true≢false (sym (ap is_some h)))
own_found (x ∷ xs) zero p name h = let same : x ≡ p = cc in ap (λ (y : Kept). what_of y.own name) same
own_found (x ∷ xs) (suc k) p name h = own_found xs k p name h

pub own_none : (xs : List Kept) (k : ℕ) (name : List ℕ) → slice_get xs k ≡ None → None ≡ own_at (map place_of xs) k name
own_none [] k name h = refl
own_none (x ∷ xs) zero name h = absurd (true≢false (ap is_some h))
own_none (x ∷ xs) (suc k) name h = own_none xs k name h

-- the number of a module is that of one
numbered : (k n : ℕ) (xs : List Module) (name : List ℕ) → module_from k xs name ≡ Some n → (i : ℕ) × (n ≡ k + i) × (i < length xs)
numbered k n [] name h = absurd (true≢false (sym (ap is_some h)))
numbered k n (x ∷ xs) name h = go (bytes_eq x.name name) (λ g. numbered (k + 1) n xs name g) h where
  go : (b : Bool) → (module_from (k + 1) xs name ≡ Some n → (i : ℕ) × (n ≡ k + 1 + i) × (i < length xs)) → (if b then Some k else module_from (k + 1) xs name) ≡ Some n → (i : ℕ) × (n ≡ k + i) × (i < length (x ∷ xs))
  go true later e = let same : k ≡ n = cc in (0, omega (arith, same), omega arith)
  go false later e = let r = later e in let a = r.1 in let b = r.2 in (r.0 + 1, omega (arith, a), omega (arith, b))

-- a number of a module is none that is past the end
pub top_none : (modules : List Module) (name : List ℕ) (n : ℕ) (o : Option ℕ) → o ≡ module_at modules name → o ≡ Some n → length modules ≤ n → module_at modules name ≡ None
top_none modules name n o h is past =
    let r = numbered 0 n modules name (sym h ∙ is) in
    let a = r.1 in
    let b = r.2 in
    absurd (omega (arith, a, b, past))

pub top_found : (modules : List Module) (name : List ℕ) (n : ℕ) (o : Option ℕ) (m : Module) → o ≡ module_at modules name → o ≡ Some n → slice_get modules n ≡ Some m → IsTop modules name m
top_found modules name n o m h is there = (n, sym h ∙ is, there)

-- a design begins with the modules of a name that stands already, and goes on with what its top lists
pub top_entered : (modules : List Module) (n : ℕ) (m : Module) (head : Head) (outside inside : Names) (signals : List Signal) (start child : Opened) (tasks : List Task) (blank first next last : Flat) (within : List ℕ)
    → slice_get modules n ≡ Some m → head ≡ top_head m → outside ≡ no_names → inside ≡ no_names → signals ≡ [] → start ≡ unopened inside signals → OpensModule head outside m start child
    → blank ≡ record { signals = []; places = []; items = [] } → first ≡ add_all blank (repeated modules 0 modules) → within ≡ n ∷ []
    → tasks ≡ tasks_of (length first.places) child.steps → next ≡ entered first head.prefix None within child → Flattens modules tasks next last → FlattensModule modules n last
top_entered modules n m head outside inside signals start child tasks blank first next last within got h o i none s opens b f w ts nx runs =
    let begins : Flat = record { signals = []; places = []; items = repeated modules 0 modules } in
    let listed : first ≡ begins = f ∙ ap (λ (x : Flat). add_all x (repeated modules 0 modules)) b in
    let starts : start ≡ unopened no_names [] = s ∙ ap (λ (x : Names). unopened x signals) i ∙ ap (λ (x : List Signal). unopened no_names x) none in
    let steps : tasks ≡ tasks_of 0 child.steps = ts ∙ ap (λ (x : Flat). tasks_of (length x.places) child.steps) listed in
    let enters : next ≡ entered begins [] None (n ∷ []) child =
    nx ∙ ap (λ (x : Flat). entered x head.prefix None within child) listed ∙ ap (λ (x : Head). entered begins x.prefix None within child) h ∙ ap (λ (x : List ℕ). entered begins [] None x child) w in
    record {
      m = m;
      numbered = got;
      child = child;
      opens = subst (λ (x : Head). OpensModule x no_names m (unopened no_names []) child) h (subst (λ (x : Names). OpensModule head x m (unopened no_names []) child) o (subst (λ (x : Opened). OpensModule head outside m x child) starts opens));
      flattens = subst (λ (x : List Task). Flattens modules x (entered begins [] None (n ∷ []) child) last) steps (subst (λ (x : Flat). Flattens modules tasks x last) enters runs);
    }
