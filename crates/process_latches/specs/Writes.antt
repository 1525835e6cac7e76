-- The variables that steps assign, as often as they do, with the first tokens of the assignments.
use Rattle.std.specs.Prelude.{List, [], ◌++◌, ◌∷◌, Option, None, Some, Bool}
use Rattle.mcy_base.specs.declared.span.Span.{Span}
use Rattle.vlog_syntax.specs.Places.{left_first_token}
use Rattle.vlog_meaning.specs.Scopes.{Names}
use Rattle.vlog_effects.specs.LeftSides.{Part, Vector, parts_of, part_vector}
use Rattle.vlog_effects.specs.Latches.{Target}
use Rattle.vlog_effects.specs.Steps.{Steps, Done, Assign, Choose, Case, Refuse, Arms, Otherwise, Arm}
use Rattle.process_latches.specs.declared.marks.Write.{Write}

abbrev pub part_writes : Bool → Span → Part → Option Vector → List Write
part_writes is_blocking first p None = []
part_writes is_blocking first p (Some v) = record { number = v.number; width = v.width; place = p.name.span; first = first; is_blocking = is_blocking } ∷ []

abbrev pub parts_writes : Bool → Span → Names → List Part → List Write
parts_writes is_blocking first names [] = []
parts_writes is_blocking first names (p ∷ ps) = part_writes is_blocking first p (part_vector names p) ++ parts_writes is_blocking first names ps

abbrev mutual
  pub writes : Steps → List Write
  writes Done = []
  writes (Assign a more) = parts_writes a.is_blocking (left_first_token a.left) a.names (parts_of a.left) ++ writes more
  writes (Choose at c then_part else_part more) = (writes then_part ++ writes else_part) ++ writes more
  writes (Case c arms bodies more) = arms_writes arms ++ writes more
  writes (Refuse x more) = writes more

  pub arms_writes : Arms → List Write
  arms_writes (Otherwise body) = writes body
  arms_writes (Arm at labels body others) = writes body ++ arms_writes others

-- the variable that is assigned
abbrev pub target_of : Write → Target
target_of w = record { number = w.number; width = w.width; place = w.place; is_blocking = w.is_blocking }
