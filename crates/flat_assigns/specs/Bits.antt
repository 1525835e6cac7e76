-- The bits that a left side writes, as they are listed.
use Rattle.std.specs.Prelude.{List, map}
use Rattle.flat_assigns.specs.declared.written.WrittenBit.{WrittenBit}
use Rattle.flat_assigns.specs.Writers.{Target}

abbrev pub target_of : WrittenBit → Target
target_of w = record { span = w.span; place = record { signal = w.signal; bit = w.bit } }

abbrev pub targets_of : List WrittenBit → List Target
targets_of bits = map target_of bits
