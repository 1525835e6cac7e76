-- Assignments that give a signal the word of another one.
use Rattle.std.specs.Prelude.{◌≡◌, ◌<◌, ℕ, List, [], ◌∷◌, map, length, slice_index}
use Rattle.mcy_base.specs.declared.word.Word.{Word}
use Rattle.vlog_meaning.specs.Scopes.{store_of}
use Rattle.tb_machine.specs.declared.update.Update.{Update}
use Rattle.tb_plans.specs.declared.copy.Copied.{Copied}

-- the updates are one, which gives a signal all its bits
pub record IsCopied (widths : List ℕ) (updates : List Update) (c : Copied) : Type 0 where
  pub known : c.signal < length widths
  pub width : c.word.width ≡ slice_index widths c.signal
  pub updates_are : updates ≡ record { signal = c.signal; low = 0; width = c.word.width; value = c.word.bits } ∷ []

-- For proofs alone.

-- the word of one signal for another one of this width
pub record IsWordFor (store : List Word) (from signal width : ℕ) (c : Copied) : Type 0 where
  pub signal_is : c.signal ≡ signal
  pub known : signal < length (map (λ w. w.width) store)
  pub as_wide : slice_index (map (λ w. w.width) store) signal ≡ width
  pub width_is : c.word.width ≡ width
  pub held : c.word.width ≡ slice_index (map (λ w. w.width) store) from
  pub bits_are : c.word.bits ≡ store_of store from
