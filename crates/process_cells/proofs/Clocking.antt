-- What stands before the statements of a clocked process, after them, and after its registers.
use Rattle.process_cells.proofs.Common.{◌≡◌, ℕ, Bool, true, false, List, [], ◌∷◌, map, length, refl, sym, ap, ◌∙◌, subst, if◌then◌else◌, Contains, Bit, Register, Stmt, Names, steps_of, Target}
use Rattle.process_cells.proofs.Common.{targets, Building, Grows, AllBelow, PortsBelow, signal, declared_at, start_bits, Stands, AreRegistersBelow, AreStored, with_registers, cells_extend}
use Rattle.process_cells.proofs.Common.{registers_stand, Change, Choice, Work, held, stands, distinct_after, distinct, choices, restored, IsReady, Conforms, Known, Keeps, StandsBelow, last_held}
use Rattle.process_cells.proofs.Common.{pending_of, work, all_have, given_back, AllFit, Built, known-distinct, stands-distinct, nets-added, keeps-widths, stands-held, keeps, AllKnown, variables}
use Rattle.process_cells.proofs.Common.{given_own, has_blocking, HasOneKind, last_bits, AreNamed, Clocks, all_waiting, CanStoreAll, Stores, AllWait, HasPlaces}
use Rattle.net_builder.specs.declared.builder.Signal.{Signal as Declared}
use Rattle.net_builder.proofs.Parts.{below_later}
use Rattle.proc_muxes.proofs.Fitting.{changes-fit}
use Rattle.proc_muxes.proofs.Merging.{given-restores, have-is}
use Rattle.proc_muxes.proofs.Walking.{held-wide}
use Rattle.process_cells.proofs.Accepted.{accepted_ready}
use Rattle.process_cells.proofs.Adding.{grown}
use Rattle.process_cells.proofs.Begun.{Given, own_below, held_known}
use Rattle.process_cells.proofs.Blanking.{known_numbers}
use Rattle.process_cells.proofs.Finished.{stands_contains}
use Rattle.process_cells.proofs.Holding.{length_waiting, waiting_below, all_wait}

-- Before.

waits_own : (old : Building) (ts : List Target) → AllWait (record { building = old; pending = signal old }) ts
waits_own old [] = tt
waits_own old (x ∷ more) = ((λ e. refl), waits_own old more)

pub known_clocked : (names : Names) (s : Stmt) (old : Building) (waiting : List (List Bit)) → Given false names s old waiting → AllKnown (length old.signals) (variables (steps_of s names))
known_clocked names s old waiting g =
    let ts : List Target = targets (steps_of s names) in
    let a : Work = record { building = old; pending = signal old } in
    let r : IsReady names (steps_of s names) a = accepted_ready false g.accepted.0 s names a g.accepted.1 g.sized g.signals (record { seen = own_below old g.own; later = own_below old g.own }) (waits_own old ts) in
    known_numbers (length old.signals) (distinct ts) (known-distinct (length old.signals) [] ts (held_known a ts r.held))

among : (ts : List Target) (kind : Bool) (n : ℕ) → stands kind ts n ≡ true → Contains (map (λ x. x.number) (distinct ts)) n
among ts kind n e = stands_contains kind (distinct ts) n (stands-distinct kind ts n ∙ e)

-- Lists of targets.

-- what variables have are their own bits
abbrev AllOwn : Work → Building → List Target → Type 0
AllOwn a old [] = Unit {0}
AllOwn a old (x ∷ more) = (held a x.is_blocking x.number ≡ signal old x.number) × AllOwn a old more

wait_own : (a : Work) (ts : List Target) → AllWait a ts → AllOwn a a.building ts
wait_own a [] h = tt
wait_own a (x ∷ more) h = (go x.is_blocking h.0, wait_own a more h.1)
  where
    go : (kind : Bool) → (kind ≡ false → a.pending x.number ≡ signal a.building x.number) → held a kind x.number ≡ signal a.building x.number
    go true k = refl
    go false k = k refl

own_distinct : (a : Work) (old : Building) (seen ts : List Target) → AllOwn a old ts → AllOwn a old (distinct_after seen ts)
own_distinct a old seen [] h = tt
own_distinct a old seen (x ∷ more) h = go (stands x.is_blocking seen x.number) (own_distinct a old seen more h.1) (own_distinct a old (x ∷ seen) more h.1)
  where
    go : (b : Bool) → AllOwn a old (distinct_after seen more) → AllOwn a old (distinct_after (x ∷ seen) more) → AllOwn a old (if b then distinct_after seen more else x ∷ distinct_after (x ∷ seen) more)
    go true p q = p
    go false p q = (h.0, q)

pub conforms_distinct : (kinds : ℕ → Bool) (seen ts : List Target) → Conforms kinds ts → Conforms kinds (distinct_after seen ts)
conforms_distinct kinds seen [] h = tt
conforms_distinct kinds seen (x ∷ more) h = go (stands x.is_blocking seen x.number) (conforms_distinct kinds seen more h.1) (conforms_distinct kinds (x ∷ seen) more h.1)
  where
    go : (b : Bool) → Conforms kinds (distinct_after seen more) → Conforms kinds (distinct_after (x ∷ seen) more) → Conforms kinds (if b then distinct_after seen more else x ∷ distinct_after (x ∷ seen) more)
    go true p q = p
    go false p q = (h.0, q)

numbers_are : (y : Work) (ds : List Target) → map (λ x. x.number) (choices y ds) ≡ map (λ x. x.number) ds
numbers_are y [] = refl
numbers_are y (x ∷ more) = ap (λ (l : List ℕ). x.number ∷ l) (numbers_are y more)

bits_are : (y : Work) (kinds : ℕ → Bool) (ds : List Target) → Conforms kinds ds → map (λ x. x.bits) (choices y ds) ≡ map (last_held kinds y) (map (λ x. x.number) ds)
bits_are y kinds [] h = refl
bits_are y kinds (x ∷ more) h =
    ap (λ (l : List (List Bit)). held y x.is_blocking x.number ∷ l) (bits_are y kinds more h.1)
    ∙ ap (λ (kind : Bool). held y kind x.number ∷ map (last_held kinds y) (map (λ z. z.number) more)) h.0

can_store : (t y : Work) (mid : Building) (ds : List Target) → Known (length mid.signals) ds → AllOwn t mid ds → ((kind : Bool) (n : ℕ) → length (held y kind n) ≡ length (held t kind n)) → CanStoreAll mid (choices y ds)
can_store t y mid [] known own wide = tt
can_store t y mid (x ∷ more) known own wide = (record { known = known.0; wide = wide x.is_blocking x.number ∙ ap length own.0 }, can_store t y mid more known.1 own.1 wide)

-- what registers take stands below
choices_below : (y : Work) (ds : List Target) → StandsBelow y → PortsBelow y.building.nets (map (λ x. x.bits) (choices y ds))
choices_below y [] h = tt
choices_below y (x ∷ more) h = (stands-held y x.is_blocking x.number h, choices_below y more h)

registers_below : (limit : ℕ) (b : Building) (xs : List Choice) (rs : List Register) → CanStoreAll b xs → PortsBelow limit (map (λ x. x.bits) xs) → AreStored b (map (λ x. x.number) xs) (map (λ x. x.bits) xs) rs → AreRegistersBelow limit rs
registers_below limit b [] [] can below stored = tt
registers_below limit b [] (r ∷ rs) can below stored = absurd stored
registers_below limit b (x ∷ xs) [] can below stored = absurd stored
registers_below limit b (x ∷ xs) (r ∷ rs) can below stored = (
  subst (AllBelow limit) (sym stored.1) below.0,
  ap length stored.1 ∙ can.0.wide ∙ sym (ap length stored.0),
  registers_below limit b xs rs can.1 below.1 stored.2,
)

-- the own bits are those of the builder with the same signals
own_of : (t : Work) (old : Building) (done : Work) (ds : List Target) → AllOwn t old ds → AllOwn t (given_own old done) ds
own_of t old done [] h = tt
own_of t old done (x ∷ more) h = (h.0, own_of t old done more h.1)

stored_of : (old : Building) (done : Work) (ks : List ℕ) (bits : List (List Bit)) (rs : List Register) → AreStored (given_own old done) ks bits rs → AreStored old ks bits rs
stored_of old done [] bits [] h = tt
stored_of old done [] bits (r ∷ rs) h = absurd h
stored_of old done (k ∷ ks) [] rs h = absurd h
stored_of old done (k ∷ ks) (x ∷ bits) [] h = absurd h
stored_of old done (k ∷ ks) (x ∷ bits) (r ∷ rs) h = (h.0, h.1, stored_of old done ks bits rs h.2)

named_of : (mid old : Building) (ks : List ℕ) (rs : List Register) → mid.declared ≡ old.declared → mid.starts ≡ old.starts → mid.signals ≡ old.signals → AreNamed mid ks rs → AreNamed old ks rs
named_of mid old [] [] e f g h = tt
named_of mid old [] (r ∷ rs) e f g h = absurd h
named_of mid old (k ∷ ks) [] e f g h = absurd h
named_of mid old (k ∷ ks) (r ∷ rs) e f g h = (
  h.0 ∙ ap (λ (l : List Declared). (declared_at (record mid { declared = l }) k).name) e,
  h.1 ∙ ap (λ (l : List Declared). (declared_at (record mid { declared = l }) k).span) e,
  h.2 ∙ ap (λ (l : List ℕ). start_bits (record mid { starts = l }) k) f,
  h.3 ∙ ap (λ (l : List (List Bit)). length (signal (record mid { signals = l }) k)) g,
  named_of mid old ks rs e f g h.4,
)

module _ (names : Names) (s : Stmt) (old : Building) (before waiting : List (List Bit)) (g : Given false names s old before) (is : waiting ≡ all_waiting old (variables (steps_of s names)) before) where
  known_before : AllKnown (length before) (variables (steps_of s names))
  known_before = subst (λ (n : ℕ). AllKnown n (variables (steps_of s names))) (sym g.places.count) (known_clocked names s old before g)

  waits : AllWait (work old waiting) (targets (steps_of s names))
  waits = subst (λ (w : List (List Bit)). AllWait (work old w) (targets (steps_of s names))) (sym is) (all_wait old (variables (steps_of s names)) before (targets (steps_of s names)) known_before (among (targets (steps_of s names))))

  stood : StandsBelow (work old waiting)
  stood = subst (λ (w : List (List Bit)). StandsBelow (work old w)) (sym is) (record { seen = own_below old g.own; later = waiting_below old (variables (steps_of s names)) before old.nets known_before (own_below old g.own) g.places.below })

  pub ready_clocked : IsReady names (steps_of s names) (work old waiting)
  ready_clocked = accepted_ready false g.accepted.0 s names (work old waiting) g.accepted.1 g.sized g.signals stood waits

  pub places_before : length waiting ≡ length old.signals
  places_before = ap length is ∙ length_waiting old (variables (steps_of s names)) before ∙ g.places.count

  module _ (done : Building) (after : List (List Bit)) (changes : List Change) (built : Built (steps_of s names) (work old waiting) (work done after) changes) where
    kept : Keeps (targets (steps_of s names)) (work old waiting) (work done after)
    kept = keeps (steps_of s names) (work old waiting) (work done after) built.builds

    pub fit_after : AllFit (work done after) changes
    fit_after = changes-fit (steps_of s names) (work old waiting) (work done after) changes built stood (held-wide (work old waiting) (targets (steps_of s names)) ready_clocked.held)

    module _ (mid : Building) (last : List (List Bit)) (xs : List Choice) (have : xs ≡ all_have (work done after) changes) (back : work mid last ≡ given_back changes (work done after)) where
      restored_is : work mid last ≡ restored (work old waiting) (work done after)
      restored_is = back ∙ ap (λ (l : List Change). given_back l (work done after)) built.changes_are ∙ given-restores (targets (steps_of s names)) (work old waiting) (work done after) kept

      mid_is : mid ≡ given_own old (work done after)
      mid_is = ap (λ (w : Work). w.building) restored_is

      chosen : xs ≡ choices (work done after) (distinct (targets (steps_of s names)))
      chosen = have ∙ ap (all_have (work done after)) built.changes_are ∙ have-is (work old waiting) (work done after) (distinct (targets (steps_of s names)))

      pub can_after : CanStoreAll mid xs
      can_after =
          let ds : List Target = distinct (targets (steps_of s names)) in
          let known : Known (length old.signals) ds = known-distinct (length old.signals) [] (targets (steps_of s names)) kept.known in
          let own : AllOwn (work old waiting) (given_own old (work done after)) ds = own_of (work old waiting) old (work done after) ds (own_distinct (work old waiting) old [] (targets (steps_of s names)) (wait_own (work old waiting) (targets (steps_of s names)) waits)) in
          subst (λ (b : Building). CanStoreAll b xs) (sym mid_is) (subst (CanStoreAll (given_own old (work done after))) (sym chosen)
          (can_store (work old waiting) (work done after) (given_own old (work done after)) ds known own (keeps-widths (targets (steps_of s names)) (work old waiting) (work done after) kept)))

      grows : Grows old (given_own old (work done after))
      grows = grown old (work done after) old refl kept.adds

      module _ (new : Building) (stores : Stores mid xs new) where
        new_is : new ≡ with_registers (given_own old (work done after)) stores.registers
        new_is = stores.is ∙ ap (λ (b : Building). with_registers b stores.registers) mid_is

        pub clocks : HasOneKind (steps_of s names) → Clocks (steps_of s names) old new
        clocks one =
            let ds : List Target = distinct (targets (steps_of s names)) in
            let y : Work = work done after in
            let rs : List Register = stores.registers in
            let numbers : map (λ x. x.number) xs ≡ variables (steps_of s names) = ap (map (λ x. x.number)) chosen ∙ numbers_are y ds in
            let bits : map (λ x. x.bits) xs ≡ last_bits (steps_of s names) y (variables (steps_of s names)) = ap (map (λ x. x.bits)) chosen ∙ bits_are y (has_blocking (steps_of s names)) ds (conforms_distinct (has_blocking (steps_of s names)) [] (targets (steps_of s names)) one) in
            let stored : AreStored (given_own old y) (variables (steps_of s names)) (last_bits (steps_of s names) y (variables (steps_of s names))) rs =
            subst (λ (l : List ℕ). AreStored (given_own old y) l (last_bits (steps_of s names) y (variables (steps_of s names))) rs) numbers
            (subst (λ (l : List (List Bit)). AreStored (given_own old y) (map (λ x. x.number) xs) l rs) bits
            (subst (λ (b : Building). AreStored b (map (λ x. x.number) xs) (map (λ x. x.bits) xs) rs) mid_is stores.stored)) in
            let named : AreNamed (given_own old y) (variables (steps_of s names)) rs =
            subst (λ (l : List ℕ). AreNamed (given_own old y) l rs) numbers (subst (λ (b : Building). AreNamed b (map (λ x. x.number) xs) rs) mid_is stores.named) in
            record {
              begun = work old waiting;
              done = y;
              registers = rs;
              begun_is = refl;
              waits = waits;
              built = built.builds;
              stored = stored_of old y (variables (steps_of s names)) (last_bits (steps_of s names) y (variables (steps_of s names))) rs stored;
              named = named_of (given_own old y) old (variables (steps_of s names)) rs kept.adds.declared kept.adds.starts refl named;
              is = new_is;
            }

        pub clocked_stands : Stands old → Stands new
        clocked_stands stands =
            let y : Work = work done after in
            let e = (cells_extend old (given_own old y) stands grows).1 in
            let bits : PortsBelow done.nets (map (λ x. x.bits) xs) = subst (λ (l : List Choice). PortsBelow done.nets (map (λ x. x.bits) l)) (sym chosen) (choices_below y (distinct (targets (steps_of s names))) (kept.below stood)) in
            let below : AreRegistersBelow done.nets stores.registers = registers_below done.nets mid xs stores.registers can_after bits stores.stored in
            subst Stands (sym new_is) (registers_stand (given_own old y) stores.registers e below)

        pub clocked_places : length last ≡ length mid.signals → HasPlaces new last
        clocked_places same = record {
          count = same ∙ sym (ap (λ (b : Building). length b.signals) stores.is);
          below = λ n.
              let there : AllBelow old.nets ((work old waiting).pending n) = stood.later n in
              let later : AllBelow done.nets ((work old waiting).pending n) = below_later old.nets done.nets ((work old waiting).pending n) (nets-added old done kept.adds) there in
              subst (λ (m : ℕ). AllBelow m (pending_of last n)) (sym (ap (λ (b : Building). b.nets) new_is)) (subst (AllBelow done.nets) (sym (ap (λ (w : Work). w.pending n) restored_is)) later);
        }
