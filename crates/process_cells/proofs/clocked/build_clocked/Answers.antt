use Rattle.process_cells.proofs.Common.{false, ◌≡◌, ℕ, List, length, sym, subst, ap, ◌∙◌, names_of, steps_of, Change, Choice, work, all_have, given_back, AllFit, AllKnown, variables, all_waiting}
use Rattle.process_cells.proofs.Common.{CanStoreAll, Stores}
use Rattle.process_cells.proofs.Adding.{clocked_added}
use Rattle.process_cells.proofs.Begun.{Given}
use Rattle.process_cells.proofs.Clocking.{known_clocked, ready_clocked, places_before, fit_after, can_after, clocks, clocked_stands, clocked_places}
use Rattle.process_cells.proofs.clocked.build_clocked.Goals as goal

pub all_waiting-requires-clause-known : goal.all_waiting-requires-clause-known
all_waiting-requires-clause-known c =
    let g : Given false (names_of c.args.scope.now) c.args.body.now c.args.builder.now c.args.waiting.now = record { accepted = c.requires.accepted; sized = c.requires.sized; signals = c.requires.signals; own = c.requires.own; places = c.requires.places } in
    subst (λ (l : List ℕ). AllKnown (length c.args.builder.now.signals) l) (sym c.requires.variables) (known_clocked (names_of c.args.scope.now) c.args.body.now c.args.builder.now c.args.waiting.now g)

pub build_statement-requires-clause-ready : goal.build_statement-requires-clause-ready
build_statement-requires-clause-ready c =
    let g : Given false (names_of c.args.scope.now) c.args.body.now c.args.builder.now c.args.waiting.now = record { accepted = c.requires.accepted; sized = c.requires.sized; signals = c.requires.signals; own = c.requires.own; places = c.requires.places } in
    let is : c.all_waiting.new.waiting ≡ all_waiting c.args.builder.now (variables (steps_of c.args.body.now (names_of c.args.scope.now))) c.args.waiting.now = c.in_ok-all_waiting.ensures ∙ ap (λ (l : List ℕ). all_waiting c.args.builder.now l c.args.waiting.now) c.requires.variables in
    ready_clocked (names_of c.args.scope.now) c.args.body.now c.args.builder.now c.args.waiting.now c.all_waiting.new.waiting g is

pub build_statement-requires-clause-places : goal.build_statement-requires-clause-places
build_statement-requires-clause-places c =
    let g : Given false (names_of c.args.scope.now) c.args.body.now c.args.builder.now c.args.waiting.now = record { accepted = c.requires.accepted; sized = c.requires.sized; signals = c.requires.signals; own = c.requires.own; places = c.requires.places } in
    let is : c.all_waiting.new.waiting ≡ all_waiting c.args.builder.now (variables (steps_of c.args.body.now (names_of c.args.scope.now))) c.args.waiting.now = c.in_ok-all_waiting.ensures ∙ ap (λ (l : List ℕ). all_waiting c.args.builder.now l c.args.waiting.now) c.requires.variables in
    places_before (names_of c.args.scope.now) c.args.body.now c.args.builder.now c.args.waiting.now c.all_waiting.new.waiting g is

pub set_aside-requires-clause-fit : goal.set_aside-requires-clause-fit
set_aside-requires-clause-fit c =
    let g : Given false (names_of c.args.scope.now) c.args.body.now c.args.builder.now c.args.waiting.now = record { accepted = c.requires.accepted; sized = c.requires.sized; signals = c.requires.signals; own = c.requires.own; places = c.requires.places } in
    let is : c.all_waiting.new.waiting ≡ all_waiting c.args.builder.now (variables (steps_of c.args.body.now (names_of c.args.scope.now))) c.args.waiting.now = c.in_ok-all_waiting.ensures ∙ ap (λ (l : List ℕ). all_waiting c.args.builder.now l c.args.waiting.now) c.requires.variables in
    subst (AllFit (work c.build_statement.new.builder c.build_statement.new.variables)) (sym c.as_slice.ensures) (fit_after (names_of c.args.scope.now) c.args.body.now c.args.builder.now c.args.waiting.now c.all_waiting.new.waiting g is c.build_statement.new.builder c.build_statement.new.variables c.in_ok-changes.changes c.in_ok-changes.ensures.built)

pub store_all-requires : goal.store_all-requires
store_all-requires c =
    let g : Given false (names_of c.args.scope.now) c.args.body.now c.args.builder.now c.args.waiting.now = record { accepted = c.requires.accepted; sized = c.requires.sized; signals = c.requires.signals; own = c.requires.own; places = c.requires.places } in
    let is : c.all_waiting.new.waiting ≡ all_waiting c.args.builder.now (variables (steps_of c.args.body.now (names_of c.args.scope.now))) c.args.waiting.now = c.in_ok-all_waiting.ensures ∙ ap (λ (l : List ℕ). all_waiting c.args.builder.now l c.args.waiting.now) c.requires.variables in
    let have : c.in_ok-variables.variables.items ≡ all_have (work c.build_statement.new.builder c.build_statement.new.variables) c.in_ok-changes.changes = c.in_ok-variables.ensures.have ∙ ap (all_have (work c.build_statement.new.builder c.build_statement.new.variables)) c.as_slice.ensures in
    let back : work c.set_aside.new.builder c.set_aside.new.variables ≡ given_back c.in_ok-changes.changes (work c.build_statement.new.builder c.build_statement.new.variables) = c.in_ok-variables.ensures.back ∙ ap (λ (l : List Change). given_back l (work c.build_statement.new.builder c.build_statement.new.variables)) c.as_slice.ensures in
    subst (CanStoreAll c.set_aside.new.builder) (sym c.as_slice-2.ensures.value) (can_after (names_of c.args.scope.now) c.args.body.now c.args.builder.now c.args.waiting.now c.all_waiting.new.waiting g is c.build_statement.new.builder c.build_statement.new.variables c.in_ok-changes.changes c.in_ok-changes.ensures.built c.set_aside.new.builder c.set_aside.new.variables c.in_ok-variables.variables.items have back)

pub returns-clause-clocks : goal.returns-clause-clocks
returns-clause-clocks c =
    let g : Given false (names_of c.args.scope.now) c.args.body.now c.args.builder.now c.args.waiting.now = record { accepted = c.requires.accepted; sized = c.requires.sized; signals = c.requires.signals; own = c.requires.own; places = c.requires.places } in
    let is : c.all_waiting.new.waiting ≡ all_waiting c.args.builder.now (variables (steps_of c.args.body.now (names_of c.args.scope.now))) c.args.waiting.now = c.in_ok-all_waiting.ensures ∙ ap (λ (l : List ℕ). all_waiting c.args.builder.now l c.args.waiting.now) c.requires.variables in
    let have : c.in_ok-variables.variables.items ≡ all_have (work c.build_statement.new.builder c.build_statement.new.variables) c.in_ok-changes.changes = c.in_ok-variables.ensures.have ∙ ap (all_have (work c.build_statement.new.builder c.build_statement.new.variables)) c.as_slice.ensures in
    let back : work c.set_aside.new.builder c.set_aside.new.variables ≡ given_back c.in_ok-changes.changes (work c.build_statement.new.builder c.build_statement.new.variables) = c.in_ok-variables.ensures.back ∙ ap (λ (l : List Change). given_back l (work c.build_statement.new.builder c.build_statement.new.variables)) c.as_slice.ensures in
    let stores : Stores c.set_aside.new.builder c.in_ok-variables.variables.items c.store_all.new.builder = subst (λ (l : List Choice). Stores c.set_aside.new.builder l c.store_all.new.builder) c.as_slice-2.ensures.value c.in_ok-store_all.ensures in
    clocks (names_of c.args.scope.now) c.args.body.now c.args.builder.now c.args.waiting.now c.all_waiting.new.waiting g is c.build_statement.new.builder c.build_statement.new.variables c.in_ok-changes.changes c.in_ok-changes.ensures.built c.set_aside.new.builder c.set_aside.new.variables c.in_ok-variables.variables.items have back c.store_all.new.builder stores c.requires.kinds

pub returns-clause-added : goal.returns-clause-added
returns-clause-added c =
    clocked_added (steps_of c.args.body.now (names_of c.args.scope.now)) c.args.builder.now c.store_all.new.builder c.requires.own c.requires.stands c.requires.kinds (returns-clause-clocks c)

pub returns-clause-stands : goal.returns-clause-stands
returns-clause-stands c =
    let g : Given false (names_of c.args.scope.now) c.args.body.now c.args.builder.now c.args.waiting.now = record { accepted = c.requires.accepted; sized = c.requires.sized; signals = c.requires.signals; own = c.requires.own; places = c.requires.places } in
    let is : c.all_waiting.new.waiting ≡ all_waiting c.args.builder.now (variables (steps_of c.args.body.now (names_of c.args.scope.now))) c.args.waiting.now = c.in_ok-all_waiting.ensures ∙ ap (λ (l : List ℕ). all_waiting c.args.builder.now l c.args.waiting.now) c.requires.variables in
    let have : c.in_ok-variables.variables.items ≡ all_have (work c.build_statement.new.builder c.build_statement.new.variables) c.in_ok-changes.changes = c.in_ok-variables.ensures.have ∙ ap (all_have (work c.build_statement.new.builder c.build_statement.new.variables)) c.as_slice.ensures in
    let back : work c.set_aside.new.builder c.set_aside.new.variables ≡ given_back c.in_ok-changes.changes (work c.build_statement.new.builder c.build_statement.new.variables) = c.in_ok-variables.ensures.back ∙ ap (λ (l : List Change). given_back l (work c.build_statement.new.builder c.build_statement.new.variables)) c.as_slice.ensures in
    let stores : Stores c.set_aside.new.builder c.in_ok-variables.variables.items c.store_all.new.builder = subst (λ (l : List Choice). Stores c.set_aside.new.builder l c.store_all.new.builder) c.as_slice-2.ensures.value c.in_ok-store_all.ensures in
    clocked_stands (names_of c.args.scope.now) c.args.body.now c.args.builder.now c.args.waiting.now c.all_waiting.new.waiting g is c.build_statement.new.builder c.build_statement.new.variables c.in_ok-changes.changes c.in_ok-changes.ensures.built c.set_aside.new.builder c.set_aside.new.variables c.in_ok-variables.variables.items have back c.store_all.new.builder stores c.requires.stands

pub returns-clause-places : goal.returns-clause-places
returns-clause-places c =
    let g : Given false (names_of c.args.scope.now) c.args.body.now c.args.builder.now c.args.waiting.now = record { accepted = c.requires.accepted; sized = c.requires.sized; signals = c.requires.signals; own = c.requires.own; places = c.requires.places } in
    let is : c.all_waiting.new.waiting ≡ all_waiting c.args.builder.now (variables (steps_of c.args.body.now (names_of c.args.scope.now))) c.args.waiting.now = c.in_ok-all_waiting.ensures ∙ ap (λ (l : List ℕ). all_waiting c.args.builder.now l c.args.waiting.now) c.requires.variables in
    let have : c.in_ok-variables.variables.items ≡ all_have (work c.build_statement.new.builder c.build_statement.new.variables) c.in_ok-changes.changes = c.in_ok-variables.ensures.have ∙ ap (all_have (work c.build_statement.new.builder c.build_statement.new.variables)) c.as_slice.ensures in
    let back : work c.set_aside.new.builder c.set_aside.new.variables ≡ given_back c.in_ok-changes.changes (work c.build_statement.new.builder c.build_statement.new.variables) = c.in_ok-variables.ensures.back ∙ ap (λ (l : List Change). given_back l (work c.build_statement.new.builder c.build_statement.new.variables)) c.as_slice.ensures in
    let stores : Stores c.set_aside.new.builder c.in_ok-variables.variables.items c.store_all.new.builder = subst (λ (l : List Choice). Stores c.set_aside.new.builder l c.store_all.new.builder) c.as_slice-2.ensures.value c.in_ok-store_all.ensures in
    clocked_places (names_of c.args.scope.now) c.args.body.now c.args.builder.now c.args.waiting.now c.all_waiting.new.waiting g is c.build_statement.new.builder c.build_statement.new.variables c.in_ok-changes.changes c.in_ok-changes.ensures.built c.set_aside.new.builder c.set_aside.new.variables c.in_ok-variables.variables.items have back c.store_all.new.builder stores c.in_ok-variables.ensures.places
