use Rattle.proc_muxes.proofs.Common.{◌∙◌, ap, sym, subst, List, [], ◌+◌, length, Bit, names_of, sense, parts_of, parts_width, Assign, Done, assigning, AllBelow, IsShort, signals_kept, same_err, Piece}
use Rattle.proc_muxes.proofs.Common.{pieces_cells, AreHeldPieces, MakesPieces, piece_targets, work, changes_of, joined}
use Rattle.proc_muxes.proofs.Assigning.{right-is, right-laid, grown-work, made-held, taken-long, taken-as, right-below, short-puts, puts-as, assignment-built}
use Rattle.proc_muxes.proofs.Laying.{steps-laid}
use Rattle.proc_muxes.proofs.assignment.build_assignment.Goals as goal

pub push_pieces-requires-clause-signals : goal.push_pieces-requires-clause-signals
push_pieces-requires-clause-signals c =
    signals_kept (names_of c.args.scope.now) c.args.builder.now c.build_right.new.builder c.in_ok-right.ensures.built.grows c.requires.signals

pub changes_by-requires-clause-held : goal.changes_by-requires-clause-held
changes_by-requires-clause-held c =
    let s = assigning c.args.is_blocking c.args.assignment.now (names_of c.args.scope.now) in
    let right = right-is s c.args.builder.now c.build_right.new.builder c.in_ok-right.right c.get.result.now c.left_width-width.result c.get.ensures c.left_width-width.ensures c.in_ok-right.ensures.built in
    let makes = subst (λ (l : List Piece). MakesPieces s.names (parts_of s.left) c.build_right.new.builder c.push_pieces.new.builder l c.push_pieces.new.pieces.items) c.new-pieces.ensures.items c.in_ok-push_pieces.ensures.makes in
    subst (λ (l : List Piece). AreHeldPieces (work c.push_pieces.new.builder c.args.variables.now) c.args.is_blocking l) (sym c.as_slice.ensures.value) (made-held s (work c.args.builder.now c.args.variables.now) c.build_right.new.builder c.push_pieces.new.builder c.in_ok-right.right c.push_pieces.new.pieces.items right makes c.requires.held)

pub changes_by-requires-clause-places : goal.changes_by-requires-clause-places
changes_by-requires-clause-places c =
    let s = assigning c.args.is_blocking c.args.assignment.now (names_of c.args.scope.now) in
    let right = right-is s c.args.builder.now c.build_right.new.builder c.in_ok-right.right c.get.result.now c.left_width-width.result c.get.ensures c.left_width-width.ensures c.in_ok-right.ensures.built in
    let makes = subst (λ (l : List Piece). MakesPieces s.names (parts_of s.left) c.build_right.new.builder c.push_pieces.new.builder l c.push_pieces.new.pieces.items) c.new-pieces.ensures.items c.in_ok-push_pieces.ensures.makes in
    c.requires.places ∙ sym (grown-work s (work c.args.builder.now c.args.variables.now) c.build_right.new.builder c.push_pieces.new.builder c.in_ok-right.right c.push_pieces.new.pieces.items right makes).adds.count

pub put_pieces-requires-clause-held : goal.put_pieces-requires-clause-held
put_pieces-requires-clause-held c =
    let s = assigning c.args.is_blocking c.args.assignment.now (names_of c.args.scope.now) in
    let right = right-is s c.args.builder.now c.build_right.new.builder c.in_ok-right.right c.get.result.now c.left_width-width.result c.get.ensures c.left_width-width.ensures c.in_ok-right.ensures.built in
    let makes = subst (λ (l : List Piece). MakesPieces s.names (parts_of s.left) c.build_right.new.builder c.push_pieces.new.builder l c.push_pieces.new.pieces.items) c.new-pieces.ensures.items c.in_ok-push_pieces.ensures.makes in
    subst (λ (l : List Piece). AreHeldPieces (work c.push_pieces.new.builder c.args.variables.now) c.args.is_blocking l) (sym c.as_slice-3.ensures.value) (made-held s (work c.args.builder.now c.args.variables.now) c.build_right.new.builder c.push_pieces.new.builder c.in_ok-right.right c.push_pieces.new.pieces.items right makes c.requires.held)

pub put_pieces-requires-clause-long : goal.put_pieces-requires-clause-long
put_pieces-requires-clause-long c =
    let s = assigning c.args.is_blocking c.args.assignment.now (names_of c.args.scope.now) in
    let right = right-is s c.args.builder.now c.build_right.new.builder c.in_ok-right.right c.get.result.now c.left_width-width.result c.get.ensures c.left_width-width.ensures c.in_ok-right.ensures.built in
    let makes = subst (λ (l : List Piece). MakesPieces s.names (parts_of s.left) c.build_right.new.builder c.push_pieces.new.builder l c.push_pieces.new.pieces.items) c.new-pieces.ensures.items c.in_ok-push_pieces.ensures.makes in
    taken-as c.from.result (parts_width s.names (parts_of s.left)) c.as_slice-2.result.now c.in_ok-right.right c.as_slice-3.result.now c.push_pieces.new.pieces.items (c.from.ensures ∙ c.left_width-width.ensures) c.as_slice-2.ensures c.as_slice-3.ensures.value (taken-long s c.build_right.new.builder c.push_pieces.new.builder c.in_ok-right.right c.push_pieces.new.pieces.items (sense s.names s.right).shape.width right.long makes)

pub put_pieces-requires-clause-below : goal.put_pieces-requires-clause-below
put_pieces-requires-clause-below c =
    let s = assigning c.args.is_blocking c.args.assignment.now (names_of c.args.scope.now) in
    let right = right-is s c.args.builder.now c.build_right.new.builder c.in_ok-right.right c.get.result.now c.left_width-width.result c.get.ensures c.left_width-width.ensures c.in_ok-right.ensures.built in
    let makes = subst (λ (l : List Piece). MakesPieces s.names (parts_of s.left) c.build_right.new.builder c.push_pieces.new.builder l c.push_pieces.new.pieces.items) c.new-pieces.ensures.items c.in_ok-push_pieces.ensures.makes in
    right-below s.names (parts_of s.left) c.args.builder.now c.build_right.new.builder c.push_pieces.new.builder 0 c.from.result c.as_slice-2.result.now [] c.push_pieces.new.pieces.items (subst (λ (l : List Bit). AllBelow c.build_right.new.builder.nets l) (sym c.as_slice-2.ensures) right.below) makes

pub put_pieces-requires-clause-stands : goal.put_pieces-requires-clause-stands
put_pieces-requires-clause-stands c =
    let s = assigning c.args.is_blocking c.args.assignment.now (names_of c.args.scope.now) in
    let right = right-is s c.args.builder.now c.build_right.new.builder c.in_ok-right.right c.get.result.now c.left_width-width.result c.get.ensures c.left_width-width.ensures c.in_ok-right.ensures.built in
    let makes = subst (λ (l : List Piece). MakesPieces s.names (parts_of s.left) c.build_right.new.builder c.push_pieces.new.builder l c.push_pieces.new.pieces.items) c.new-pieces.ensures.items c.in_ok-push_pieces.ensures.makes in
    (grown-work s (work c.args.builder.now c.args.variables.now) c.build_right.new.builder c.push_pieces.new.builder c.in_ok-right.right c.push_pieces.new.pieces.items right makes).below c.requires.stands

pub put_pieces-requires-clause-places : goal.put_pieces-requires-clause-places
put_pieces-requires-clause-places c =
    let s = assigning c.args.is_blocking c.args.assignment.now (names_of c.args.scope.now) in
    let right = right-is s c.args.builder.now c.build_right.new.builder c.in_ok-right.right c.get.result.now c.left_width-width.result c.get.ensures c.left_width-width.ensures c.in_ok-right.ensures.built in
    let makes = subst (λ (l : List Piece). MakesPieces s.names (parts_of s.left) c.build_right.new.builder c.push_pieces.new.builder l c.push_pieces.new.pieces.items) c.new-pieces.ensures.items c.in_ok-push_pieces.ensures.makes in
    c.requires.places ∙ sym (grown-work s (work c.args.builder.now c.args.variables.now) c.build_right.new.builder c.push_pieces.new.builder c.in_ok-right.right c.push_pieces.new.pieces.items right makes).adds.count

pub returns-in_err-put_pieces-clause-short : goal.returns-in_err-put_pieces-clause-short
returns-in_err-put_pieces-clause-short c =
    let s = assigning c.args.is_blocking c.args.assignment.now (names_of c.args.scope.now) in
    let right = right-is s c.args.builder.now c.build_right.new.builder c.in_ok-right.right c.get.result.now c.left_width-width.result c.get.ensures c.left_width-width.ensures c.in_ok-right.ensures.built in
    let makes = subst (λ (l : List Piece). MakesPieces s.names (parts_of s.left) c.build_right.new.builder c.push_pieces.new.builder l c.push_pieces.new.pieces.items) c.new-pieces.ensures.items c.in_ok-push_pieces.ensures.makes in
    same_err c.from_residual-in_err-put_pieces.result c.in_err-put_pieces.field-0.0 _ c.from_residual-in_err-put_pieces.ensures.1 (short-puts s c.args.builder.now c.build_right.new.builder c.push_pieces.new.builder c.in_ok-right.right c.push_pieces.new.pieces.items c.in_err-put_pieces.field-0.0 right makes (subst (λ (l : List Piece). IsShort (length c.push_pieces.new.builder.cells + pieces_cells l) c.in_err-put_pieces.field-0.0) c.as_slice-3.ensures.value c.in_err-put_pieces.ensures.short))

pub returns-clause-built : goal.returns-clause-built
returns-clause-built c =
    let s = assigning c.args.is_blocking c.args.assignment.now (names_of c.args.scope.now) in
    let right = right-is s c.args.builder.now c.build_right.new.builder c.in_ok-right.right c.get.result.now c.left_width-width.result c.get.ensures c.left_width-width.ensures c.in_ok-right.ensures.built in
    let makes = subst (λ (l : List Piece). MakesPieces s.names (parts_of s.left) c.build_right.new.builder c.push_pieces.new.builder l c.push_pieces.new.pieces.items) c.new-pieces.ensures.items c.in_ok-push_pieces.ensures.makes in
    assignment-built s (work c.args.builder.now c.args.variables.now) (work c.put_pieces.new.builder c.put_pieces.new.variables) c.build_right.new.builder c.push_pieces.new.builder c.in_ok-right.right c.push_pieces.new.pieces.items c.in_ok-changes.changes right
    (right-laid s c.args.builder.now c.build_right.new.builder c.in_ok-right.right c.get.result.now c.left_width-width.result c.get.ensures c.left_width-width.ensures c.in_ok-right.ensures.laid)
    makes
    (puts-as c.args.is_blocking c.from.result (parts_width s.names (parts_of s.left)) c.as_slice-2.result.now c.in_ok-right.right c.as_slice-3.result.now c.push_pieces.new.pieces.items (work c.push_pieces.new.builder c.args.variables.now) (work c.put_pieces.new.builder c.put_pieces.new.variables) (c.from.ensures ∙ c.left_width-width.ensures) c.as_slice-2.ensures c.as_slice-3.ensures.value c.in_ok-put_pieces.ensures.puts)
    (c.in_ok-changes.ensures ∙ ap (λ (l : List Piece). joined [] (changes_of (work c.push_pieces.new.builder c.args.variables.now) (piece_targets c.args.is_blocking l))) c.as_slice.ensures.value)

pub returns-clause-laid : goal.returns-clause-laid
returns-clause-laid c = steps-laid (Assign (assigning c.args.is_blocking c.args.assignment.now (names_of c.args.scope.now)) Done) (work c.args.builder.now c.args.variables.now) (work c.put_pieces.new.builder c.put_pieces.new.variables) (returns-clause-built c).builds
