use Rattle.process_cells.proofs.Common.{true, ◌≡◌, ◌+◌, ℕ, List, length, sym, subst, ap, ◌∙◌, names_of, steps_of, IsShort, cells_of, Kept, AllKnown, AllReturn, variables, blank, all_kept}
use Rattle.net_builder.proofs.Handed.{same_err}
use Rattle.process_cells.proofs.Accepted.{accepted_blocking}
use Rattle.process_cells.proofs.Adding.{combinational_added}
use Rattle.process_cells.proofs.Begun.{Given, known_variables, ready_blank, blank_places, blank_cells}
use Rattle.process_cells.proofs.Finished.{known_after, return_after, combines, stands_after, places_after, last_is}
use Rattle.process_cells.proofs.combinational.build_combinational.Goals as goal

pub all_kept-requires : goal.all_kept-requires
all_kept-requires c =
    let g : Given true (names_of c.args.scope.now) c.args.body.now c.args.builder.now c.args.waiting.now = record { accepted = c.requires.accepted; sized = c.requires.sized; signals = c.requires.signals; own = c.requires.own; places = c.requires.places } in
    subst (λ (l : List ℕ). AllKnown (length c.args.builder.now.signals) l) (sym c.requires.variables) (known_variables (names_of c.args.scope.now) c.args.body.now c.args.builder.now c.args.waiting.now g)

pub blank-requires : goal.blank-requires
blank-requires c =
    let g : Given true (names_of c.args.scope.now) c.args.body.now c.args.builder.now c.args.waiting.now = record { accepted = c.requires.accepted; sized = c.requires.sized; signals = c.requires.signals; own = c.requires.own; places = c.requires.places } in
    subst (λ (l : List ℕ). AllKnown (length c.args.builder.now.signals) l) (sym c.requires.variables) (known_variables (names_of c.args.scope.now) c.args.body.now c.args.builder.now c.args.waiting.now g)

pub build_statement-requires-clause-ready : goal.build_statement-requires-clause-ready
build_statement-requires-clause-ready c =
    let g : Given true (names_of c.args.scope.now) c.args.body.now c.args.builder.now c.args.waiting.now = record { accepted = c.requires.accepted; sized = c.requires.sized; signals = c.requires.signals; own = c.requires.own; places = c.requires.places } in
    let is : c.blank.new.builder ≡ blank (variables (steps_of c.args.body.now (names_of c.args.scope.now))) c.args.builder.now = c.in_ok-blank.ensures ∙ ap (λ (l : List ℕ). blank l c.args.builder.now) c.requires.variables in
    ready_blank (names_of c.args.scope.now) c.args.body.now c.args.builder.now c.blank.new.builder c.args.waiting.now g is

pub build_statement-requires-clause-places : goal.build_statement-requires-clause-places
build_statement-requires-clause-places c =
    let is : c.blank.new.builder ≡ blank (variables (steps_of c.args.body.now (names_of c.args.scope.now))) c.args.builder.now = c.in_ok-blank.ensures ∙ ap (λ (l : List ℕ). blank l c.args.builder.now) c.requires.variables in
    blank_places (variables (steps_of c.args.body.now (names_of c.args.scope.now))) c.args.builder.now c.blank.new.builder c.args.waiting.now c.requires.places is

pub returns-in_err-build_statement-clause-short : goal.returns-in_err-build_statement-clause-short
returns-in_err-build_statement-clause-short c =
    let is : c.blank.new.builder ≡ blank (variables (steps_of c.args.body.now (names_of c.args.scope.now))) c.args.builder.now = c.in_ok-blank.ensures ∙ ap (λ (l : List ℕ). blank l c.args.builder.now) c.requires.variables in
    same_err c.from_residual-in_err-build_statement.result c.in_err-build_statement.field-0.0 _ c.from_residual-in_err-build_statement.ensures.1
    (subst (λ (n : ℕ). IsShort (n + cells_of (steps_of c.args.body.now (names_of c.args.scope.now))) c.in_err-build_statement.field-0.0) (blank_cells (variables (steps_of c.args.body.now (names_of c.args.scope.now))) c.args.builder.now c.blank.new.builder is) c.in_err-build_statement.ensures.short)

pub all_kept-requires-2 : goal.all_kept-requires-2
all_kept-requires-2 c =
    let g : Given true (names_of c.args.scope.now) c.args.body.now c.args.builder.now c.args.waiting.now = record { accepted = c.requires.accepted; sized = c.requires.sized; signals = c.requires.signals; own = c.requires.own; places = c.requires.places } in
    let is : c.blank.new.builder ≡ blank (variables (steps_of c.args.body.now (names_of c.args.scope.now))) c.args.builder.now = c.in_ok-blank.ensures ∙ ap (λ (l : List ℕ). blank l c.args.builder.now) c.requires.variables in
    subst (λ (l : List ℕ). AllKnown (length c.build_statement.new.builder.signals) l) (sym c.requires.variables)
    (known_after (names_of c.args.scope.now) c.args.body.now c.args.builder.now c.blank.new.builder c.build_statement.new.builder c.args.waiting.now c.build_statement.new.variables c.in_ok-build_statement.field-0 g is c.in_ok-build_statement.ensures.built)

pub rejoin_all-requires : goal.rejoin_all-requires
rejoin_all-requires c =
    let g : Given true (names_of c.args.scope.now) c.args.body.now c.args.builder.now c.args.waiting.now = record { accepted = c.requires.accepted; sized = c.requires.sized; signals = c.requires.signals; own = c.requires.own; places = c.requires.places } in
    let is : c.blank.new.builder ≡ blank (variables (steps_of c.args.body.now (names_of c.args.scope.now))) c.args.builder.now = c.in_ok-blank.ensures ∙ ap (λ (l : List ℕ). blank l c.args.builder.now) c.requires.variables in
    subst (λ (l : List Kept). AllReturn c.build_statement.new.builder l) (sym (c.as_slice.ensures.value ∙ c.in_ok-owns.ensures ∙ ap (all_kept c.args.builder.now) c.requires.variables))
    (return_after (names_of c.args.scope.now) c.args.body.now c.args.builder.now c.blank.new.builder c.build_statement.new.builder c.args.waiting.now c.build_statement.new.variables c.in_ok-build_statement.field-0 g is c.in_ok-build_statement.ensures.built)

pub returns-clause-combines : goal.returns-clause-combines
returns-clause-combines c =
    let g : Given true (names_of c.args.scope.now) c.args.body.now c.args.builder.now c.args.waiting.now = record { accepted = c.requires.accepted; sized = c.requires.sized; signals = c.requires.signals; own = c.requires.own; places = c.requires.places } in
    let is : c.blank.new.builder ≡ blank (variables (steps_of c.args.body.now (names_of c.args.scope.now))) c.args.builder.now = c.in_ok-blank.ensures ∙ ap (λ (l : List ℕ). blank l c.args.builder.now) c.requires.variables in
    combines (names_of c.args.scope.now) c.args.body.now c.args.builder.now c.blank.new.builder c.build_statement.new.builder c.args.waiting.now c.build_statement.new.variables c.in_ok-build_statement.field-0 g is c.in_ok-build_statement.ensures.built c.rejoin_all.new.builder
    (last_is c.args.builder.now c.build_statement.new.builder c.rejoin_all.new.builder (variables (steps_of c.args.body.now (names_of c.args.scope.now))) c.args.numbers.now c.as_slice.result.now c.in_ok-owns.owns.items c.as_slice-2.result.now c.in_ok-lasts.lasts.items c.requires.variables c.in_ok-owns.ensures c.as_slice.ensures.value c.in_ok-lasts.ensures c.as_slice-2.ensures.value c.in_ok-rejoin_all.ensures)

pub returns-clause-added : goal.returns-clause-added
returns-clause-added c =
    combinational_added c.args.body.now (names_of c.args.scope.now) c.args.builder.now c.rejoin_all.new.builder c.requires.signals c.requires.own c.requires.stands (accepted_blocking c.requires.accepted.0 (steps_of c.args.body.now (names_of c.args.scope.now)) c.requires.accepted.1) c.requires.unlatched (returns-clause-combines c)

pub returns-clause-stands : goal.returns-clause-stands
returns-clause-stands c =
    let g : Given true (names_of c.args.scope.now) c.args.body.now c.args.builder.now c.args.waiting.now = record { accepted = c.requires.accepted; sized = c.requires.sized; signals = c.requires.signals; own = c.requires.own; places = c.requires.places } in
    let is : c.blank.new.builder ≡ blank (variables (steps_of c.args.body.now (names_of c.args.scope.now))) c.args.builder.now = c.in_ok-blank.ensures ∙ ap (λ (l : List ℕ). blank l c.args.builder.now) c.requires.variables in
    stands_after (names_of c.args.scope.now) c.args.body.now c.args.builder.now c.blank.new.builder c.build_statement.new.builder c.args.waiting.now c.build_statement.new.variables c.in_ok-build_statement.field-0 g is c.in_ok-build_statement.ensures.built c.rejoin_all.new.builder
    (last_is c.args.builder.now c.build_statement.new.builder c.rejoin_all.new.builder (variables (steps_of c.args.body.now (names_of c.args.scope.now))) c.args.numbers.now c.as_slice.result.now c.in_ok-owns.owns.items c.as_slice-2.result.now c.in_ok-lasts.lasts.items c.requires.variables c.in_ok-owns.ensures c.as_slice.ensures.value c.in_ok-lasts.ensures c.as_slice-2.ensures.value c.in_ok-rejoin_all.ensures)
    c.requires.stands

pub returns-clause-places : goal.returns-clause-places
returns-clause-places c =
    let g : Given true (names_of c.args.scope.now) c.args.body.now c.args.builder.now c.args.waiting.now = record { accepted = c.requires.accepted; sized = c.requires.sized; signals = c.requires.signals; own = c.requires.own; places = c.requires.places } in
    let is : c.blank.new.builder ≡ blank (variables (steps_of c.args.body.now (names_of c.args.scope.now))) c.args.builder.now = c.in_ok-blank.ensures ∙ ap (λ (l : List ℕ). blank l c.args.builder.now) c.requires.variables in
    places_after (names_of c.args.scope.now) c.args.body.now c.args.builder.now c.blank.new.builder c.build_statement.new.builder c.args.waiting.now c.build_statement.new.variables c.in_ok-build_statement.field-0 g is c.in_ok-build_statement.ensures.built c.rejoin_all.new.builder
    (last_is c.args.builder.now c.build_statement.new.builder c.rejoin_all.new.builder (variables (steps_of c.args.body.now (names_of c.args.scope.now))) c.args.numbers.now c.as_slice.result.now c.in_ok-owns.owns.items c.as_slice-2.result.now c.in_ok-lasts.lasts.items c.requires.variables c.in_ok-owns.ensures c.as_slice.ensures.value c.in_ok-lasts.ensures c.as_slice-2.ensures.value c.in_ok-rejoin_all.ensures)
    c.in_ok-build_statement.ensures.places
