-- Whether words have the widths of signals, as a test.
use Rattle.std.specs.Prelude.{◌==◌, ℕ, Bool, true, List, Option, None, Some, slice_get}
use Rattle.mcy_base.specs.declared.word.Word.{Word}
use Rattle.vlog_meaning.specs.declared.scope.Decl.{Decl}
use Rattle.vlog_meaning.specs.declared.scope.Decl.TheVariants.{Signal, Constant}

abbrev pub fits_width : ℕ → Option Word → Bool
fits_width width (Some word) = word.width == width
fits_width width None = true

-- a signal's word, where there is one at its number, has its width
abbrev pub fits_word : List Word → Decl → Bool
fits_word words (Signal width low is_signed number) = fits_width width (slice_get words number)
fits_word words (Constant value low is_signed) = true
