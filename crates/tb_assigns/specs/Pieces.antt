-- What the program keeps of a part of a left side.
use Rattle.std.specs.Prelude.{◌≡◌, ℕ, ◌/◌, ◌^◌, List, [], ◌∷◌, ◌++◌, map, Option, Some, None}
use Rattle.rand_pcg.specs.Lcg.{Lcg}
use Rattle.vlog_meaning.specs.Integers.{bound_integer}
use Rattle.vlog_meaning.specs.Scopes.{Names, Store}
use Rattle.vlog_effects.specs.LeftSides.{Part, Vector, part_vector}
use Rattle.tb_machine.specs.declared.update.Update.{Update}
use Rattle.tb_assigns.specs.declared.clip.Clip.{Clip}
use Rattle.tb_assigns.specs.declared.piece.Piece.{Piece}
use Rattle.tb_assigns.specs.declared.piece.Vector as code
use Rattle.tb_assigns.specs.Updates.{Window, some_bits, window_drawn, windows_drawn}

abbrev pub vector_is : code.Vector → Vector
vector_is v = record { number = v.number; width = v.width; low = v.low }

abbrev pub window_of : Piece → Window
window_of p = record { vector = vector_is p.vector; base = bound_integer p.base; size = p.size }

-- the piece is what the part writes
abbrev pub IsDrawn : Names → ℕ → Store → Part → Lcg → Lcg → Piece → Type 0
IsDrawn names phase store p g h piece = (window_of piece ∷ [], h) ≡ window_drawn names phase store p.select (part_vector names p) g

-- an update or none
abbrev pub listed : Option Update → List Update
listed None = []
listed (Some u) = u ∷ []

-- the update of the bits of a piece that lie in its signal
abbrev pub clip_update : Clip → ℕ → List Update
clip_update c v = some_bits c.signal c.low c.width (v / 2 ^ c.skipped)

-- For proofs alone.

abbrev pub windows_of : List Piece → List Window
windows_of = map window_of

-- pieces, and after them what is drawn
abbrev pub onto : List Window → List Window × Lcg → List Window × Lcg
onto before d = (before ++ d.0, d.1)

-- to pieces came those of the parts
abbrev pub AreDrawn : Names → ℕ → Store → List Part → Lcg → Lcg → List Piece → List Piece → Type 0
AreDrawn names phase store parts g h before after = (windows_of after, h) ≡ onto (windows_of before) (windows_drawn names phase store parts g)
