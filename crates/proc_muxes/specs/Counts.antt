-- How many cells statements make.
use Rattle.std.specs.Prelude.{ℕ, zero, suc, ◌+◌, List, [], ◌∷◌, ◌++◌, length, Option, Some, None}
use Rattle.vlog_syntax.specs.declared.expr.Expr.{Expr}
use Rattle.vlog_meaning.specs.Scopes.{Names}
use Rattle.vlog_meaning.specs.Senses.{sense, assigned}
use Rattle.vlog_effects.specs.Expressions.{bits_of}
use Rattle.vlog_effects.specs.LeftSides.{Part, parts_of, parts_width}
use Rattle.vlog_effects.specs.Steps.{Assigning, Selection, Steps, Done, Assign, Choose, Case, Refuse, Arms, Otherwise, Arm, Item, dont_care}
use Rattle.vlog_effects.specs.Latches.{targets, arms_targets}
use Rattle.expr_plans.specs.Made.{made}
use Rattle.proc_muxes.specs.declared.piece.Piece.{Piece}
use Rattle.proc_muxes.specs.declared.piece.Place.{Place}
use Rattle.proc_muxes.specs.declared.piece.Place.TheVariants.{From, At}
use Rattle.proc_muxes.specs.Builds.{Index, variable_index, distinct, case_shape, mattering}
use Rattle.proc_muxes.specs.Working.{test_cells}

-- the cells of an index
abbrev pub index_cells : Names → Option Index → ℕ
index_cells names None = 0
index_cells names (Some i) = length (made names i.expr (sense names i.expr).shape)

abbrev pub indices_cells : Names → List Part → ℕ
indices_cells names [] = 0
indices_cells names (p ∷ ps) = index_cells names (variable_index names p.select) + indices_cells names ps

-- a part with a variable index makes one `put`
abbrev pub put_cells : Option Index → ℕ
put_cells None = 0
put_cells (Some i) = 1

abbrev pub puts_cells : Names → List Part → ℕ
puts_cells names [] = 0
puts_cells names (p ∷ ps) = put_cells (variable_index names p.select) + puts_cells names ps

-- the right side's, those of the indices, and the puts
abbrev pub assign_cells : Assigning → ℕ
assign_cells s =
    let ps = parts_of s.left in
    length (made s.names s.right (assigned (sense s.names s.right) (parts_width s.names ps))) + (indices_cells s.names ps + puts_cells s.names ps)

-- bits are compared by one `eq`, if there are any
abbrev pub equal_cells : ℕ → ℕ
equal_cells zero = 0
equal_cells (suc n) = 1

-- a label's own cells, and its `eq`
abbrev pub label_cells : Selection → Expr → ℕ
label_cells c x = length (made c.names x (case_shape c)) + equal_cells (mattering (bits_of c.width (dont_care c.kind x)))

-- from the second label on there is a `lor`
abbrev pub labels_cells : Selection → List Expr → ℕ
labels_cells c [] = 0
labels_cells c (x ∷ more) = label_cells c x + (1 + labels_cells c more)

abbrev pub match_cells : Selection → List Expr → ℕ
match_cells c [] = 0
match_cells c (x ∷ more) = label_cells c x + labels_cells c more

-- A choice has one mux for each variable that a part of it assigns.
abbrev mutual
  pub cells_of : Steps → ℕ
  cells_of Done = 0
  cells_of (Assign s more) = assign_cells s + cells_of more
  cells_of (Choose at c then_part else_part more) = test_cells c.names c.condition + (cells_of then_part + (cells_of else_part + (length (distinct (targets then_part ++ targets else_part)) + cells_of more)))
  cells_of (Case c arms bodies more) = length (made c.names c.selector (case_shape c)) + (arms_cells c arms + cells_of more)
  cells_of (Refuse x more) = cells_of more

  pub arms_cells : Selection → Arms → ℕ
  arms_cells c (Otherwise body) = cells_of body
  arms_cells c (Arm at labels body others) = match_cells c labels + (cells_of body + (arms_cells c others + length (distinct (targets body ++ arms_targets others))))

-- For proofs alone.

-- the same of pieces
abbrev pub place_cells : Place → ℕ
place_cells (From bound) = 0
place_cells (At index span) = 1

abbrev pub pieces_cells : List Piece → ℕ
pieces_cells [] = 0
pieces_cells (x ∷ xs) = place_cells x.place + pieces_cells xs

-- the labels and bodies of items
abbrev pub items_cells : Selection → List Item → ℕ
items_cells c [] = 0
items_cells c (i ∷ more) = match_cells c i.labels + (cells_of (i.body c.names) + items_cells c more)
