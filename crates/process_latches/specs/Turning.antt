-- The marks of the parts of choices, cases and loops.
use Rattle.std.specs.Prelude.{◌≡◌, ℕ, ◌%◌, ◌^◌, Bool, true, false, ◌&&◌, ◌||◌, List, [], ◌∷◌, ◌++◌, Option, None, Some}
use Rattle.mcy_base.specs.declared.span.Span.{Span}
use Rattle.mcy_base.specs.declared.word.Word.{Word}
use Rattle.vlog_syntax.specs.declared.expr.Expr.{Expr}
use Rattle.vlog_meaning.specs.Scopes.{Names}
use Rattle.vlog_meaning.specs.Senses.{no_bits}
use Rattle.vlog_effects.specs.Expressions.{constant_of, constant_faults}
use Rattle.vlog_effects.specs.Latches.{covered, early}
use Rattle.vlog_effects.specs.Steps.{Steps, Done, Refuse, Turns, Loop, InNames, Item, followed, flaws_of, tested}
use Rattle.elab_proc.specs.Turns.{turn_steps, next_value}
use Rattle.signal_masks.specs.Masks.{bits_in}
use Rattle.process_latches.specs.declared.marks.Marks.{Marks}
use Rattle.process_latches.specs.declared.marks.Write.{Write}
use Rattle.process_latches.specs.Marking.{Added, Marked, all_sound_reads}
use Rattle.process_latches.specs.Sound.{sound, has_stop}
use Rattle.process_latches.specs.Writes.{writes}

-- For proofs alone.

-- the marks of steps alone
pub record IsOwn (steps : Steps) (m : Marks) : Type 0 where
  pub covered_is : (n i : ℕ) → bits_in m.covered n i ≡ covered steps no_bits n i
  pub early_is : (n i : ℕ) → bits_in m.early n i ≡ early steps no_bits n i
  pub writes_are : m.writes.items ≡ writes steps
  pub stopped_is : m.is_stopped ≡ has_stop steps

-- two parts of a choice follow
abbrev pub Chosen : (first second old new : Marks) → Type 0
Chosen first second old new = Added (λ n i. bits_in first.covered n i && bits_in second.covered n i) (λ n i. bits_in first.early n i || bits_in second.early n i) (first.writes.items ++ second.writes.items) (first.is_stopped || second.is_stopped) old new

-- What items do as arms: what all of them assign, and what their labels and they read.

abbrev pub all_cover : Names → List Item → ℕ → ℕ → Bool
all_cover names [] n i = true
all_cover names (x ∷ more) n i = covered (sound (x.body names)) no_bits n i && all_cover names more n i

abbrev pub some_read : Names → List Item → ℕ → ℕ → Bool
some_read names [] n i = false
some_read names (x ∷ more) n i = (all_sound_reads names x.labels n i || early (sound (x.body names)) no_bits n i) || some_read names more n i

abbrev pub items_write : Names → List Item → List Write
items_write names [] = []
items_write names (x ∷ more) = writes (sound (x.body names)) ++ items_write names more

abbrev pub some_stop : Names → List Item → Bool
some_stop names [] = false
some_stop names (x ∷ more) = has_stop (sound (x.body names)) || some_stop names more

-- more variables are assigned
pub record AlsoWrites (ws : List Write) (old new : Marks) : Type 0 where
  pub covered_is : new.covered ≡ old.covered
  pub early_is : new.early ≡ old.early
  pub writes_are : new.writes.items ≡ old.writes.items ++ ws
  pub stopped_is : new.is_stopped ≡ old.is_stopped

-- items are arms, and where none of them matches what has these marks is done
pub record AreArms (names : Names) (items : List Item) (last m : Marks) : Type 0 where
  pub covered_is : (n i : ℕ) → bits_in m.covered n i ≡ (bits_in last.covered n i && all_cover names items n i)
  pub early_is : (n i : ℕ) → bits_in m.early n i ≡ (bits_in last.early n i || some_read names items n i)
  pub writes_are : m.writes.items ≡ items_write names items ++ last.writes.items
  pub stopped_is : m.is_stopped ≡ (last.is_stopped || some_stop names items)

-- A turn of a loop: it was the last one, or another comes in which the loop's variable has this value.
abbrev pub IsMarkedTurn : Loop → InNames → Names → Option Word → Marks → Marks → Type 0
IsMarkedTurn loop body here None old new = (later : ℕ → Steps) → Marked (sound (turn_steps loop body here later)) old new
IsMarkedTurn loop body here (Some word) old new = (word.width ≡ loop.width) × (word.bits ≡ next_value loop here % 2 ^ loop.width) × Marked (sound (body here)) old new × ((later : ℕ → Steps) → turn_steps loop body here later ≡ followed (body here) (later (next_value loop here)))

-- the test after the most turns of a loop at this place
abbrev pub last_steps : Span → Names → Expr → Steps
last_steps at here condition = tested (constant_of here 1 condition) (flaws_of (constant_faults here 1 condition)) (Refuse (Turns at) Done)
