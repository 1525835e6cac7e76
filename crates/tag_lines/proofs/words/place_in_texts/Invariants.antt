use Rattle.std.proofs.Common.{◌≡◌, ◌+◌, drop}
use Rattle.tag_lines.specs.Grammar.{place_of}
use Rattle.tag_lines.proofs.words.place_in_texts.Given as goal

abbrev pub invariant-loop-i : goal.invariant-loop-i
invariant-loop-i l = l.i + place_of l.word (drop l.i l.texts) ≡ place_of l.word l.texts
