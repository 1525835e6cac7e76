-- Processes that are added to code one after the other.
use Rattle.tb_reading.proofs.Common.{◌≡◌, ℕ, ◌+◌, ◌<◌, List, [], ◌∷◌, ◌++◌, map, length, take, get_or, flat_map, refl, sym, ap, ◌∙◌, append_assoc, append-nil, map-append, take_more, Process}
use Rattle.tb_reading.proofs.Common.{ProcessKind, BenchItem, Node, adds_none, adds_both, Waiting, Begun, item_processes, bodies, events, AddsWaiting}
use Rattle.std.proofs.lemmas.Grind.{flat_map-append}
use Rattle.tb_items.specs.declared.item.BenchItem.TheVariants as b

-- nothing is added
pub none_waits : (nodes : List Node) (list : List Waiting) → AddsWaiting nodes nodes list list []
none_waits nodes list = record { added = []; list = sym (append-nil list); adds = adds_none nodes; events = refl }

-- some, and then others
pub both_wait : (a b c : List Node) (x y z : List Waiting) (ps qs : List Begun) → AddsWaiting a b x y ps → AddsWaiting b c y z qs → AddsWaiting a c x z (ps ++ qs)
both_wait a b c x y z ps qs first second =
    let numbers : map (λ w. w.body) (first.added ++ second.added) ≡ map (λ w. w.body) first.added ++ map (λ w. w.body) second.added = map-append (λ w. w.body) first.added second.added in
    let parts : bodies (ps ++ qs) ≡ bodies ps ++ bodies qs = map-append (λ p. p.body) ps qs in
    record {
      added = first.added ++ second.added;
      list = second.list ∙ ap (λ l. l ++ second.added) first.list ∙ append_assoc x first.added second.added;
      adds = rw (numbers, parts) (adds_both a b c (map (λ w. w.body) first.added) (map (λ w. w.body) second.added) (bodies ps) (bodies qs) first.adds second.adds);
      events = map-append (λ w. w.event) first.added second.added ∙ ap (λ es. es ++ map (λ w. w.event) second.added) first.events ∙ ap (λ es. events ps ++ es) second.events ∙ sym (map-append (λ p. p.event) ps qs);
    }

-- those of one item more
pub next_wait : {A : Type 0} (f : A → List Begun) (a b c : List Node) (y z : List Waiting) (items : List A) (i : ℕ) (item : A) → i < length items → item ≡ get_or items i item → AddsWaiting a b [] y (flat_map f (take i items)) → AddsWaiting b c y z (f item) → AddsWaiting a c [] z (flat_map f (take (i + 1) items))
next_wait f a b c y z items i item h is so_far more =
    let one : flat_map f (item ∷ []) ≡ f item = append-nil (f item) in
    let same : flat_map f (take (i + 1) items) ≡ flat_map f (take i items) ++ f item = ap (flat_map f) (take_more items i item h ∙ ap (λ x. take i items ++ x ∷ []) (sym is)) ∙ flat_map-append f (take i items) (item ∷ []) ∙ ap (λ x. flat_map f (take i items) ++ x) one in
    rw same (both_wait a b c [] y z (flat_map f (take i items)) (f item) so_far more)

-- an item that is no process
pub no_processes : (kind : ProcessKind) (item : BenchItem) → ((p : Process) → item ≡ b.Runs p → ⊥) → item_processes kind item ≡ []
no_processes kind (b.Refused fault) h = refl
no_processes kind (b.Starts k x) h = refl
no_processes kind (b.Drives name x) h = refl
no_processes kind (b.Assigns a) h = refl
no_processes kind (b.Clocks at g) h = refl
no_processes kind (b.Runs p) h = absurd (h p refl)
no_processes kind (b.Holds at) h = refl
no_processes kind (b.Reads x) h = refl
no_processes kind (b.Enters port x) h = refl
no_processes kind (b.Leaves port left) h = refl
