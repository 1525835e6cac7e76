-- Which bits of signals a left side can write (IEEE 1364-2005, 6.1 and 5.2): those that it writes for sure, and each bit of a
-- name where the place of the select is no constant.
use Rattle.std.specs.Prelude.{◌&&◌, not, List, [], ◌∷◌}
use Rattle.vlog_meaning.specs.Scopes.{Names}
use Rattle.vlog_meaning.specs.Senses.{Bits, no_bits, either, name_bits}
use Rattle.vlog_effects.specs.Latches.{is_fixed, parts_cover}
use Rattle.vlog_effects.specs.LeftSides.{Part}

-- each bit of the name, where the place of the select is no constant
abbrev pub part_opens : Names → Part → Bits
part_opens names p n i = not (is_fixed names p.select) && name_bits (names p.name.name) n i

abbrev pub parts_open : Names → List Part → Bits
parts_open names [] = no_bits
parts_open names (p ∷ ps) = either (part_opens names p) (parts_open names ps)

abbrev pub left_writes : Names → List Part → Bits
left_writes names ps = either (parts_cover names ps) (parts_open names ps)
