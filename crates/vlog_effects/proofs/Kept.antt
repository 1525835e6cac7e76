-- A process changes only signals that it assigns.
use Rattle.vlog_effects.proofs.Common.{◌≡◌, ℕ, Bool, true, false, List, [], ◌∷◌, ◌++◌, take, drop, Option, Some, None, nat_eq, refl, ◌∙◌, ap, if◌then◌else◌, Names, Part, Vector, parts_of, part_vector}
use Rattle.vlog_effects.proofs.Common.{parts_width, written, Assigning, Selection, Steps, Done, Assign, Choose, Case, Refuse, Arms, Otherwise, Arm, Values, Update, updated, updated_all, State, put}
use Rattle.vlog_effects.proofs.Common.{put_all, part_updates, updates_of, right_bits, assigned, holds, matches, effect, arm_effect, started, Target, part_targets, parts_targets, targets, arms_targets}
use Rattle.vlog_effects.proofs.Common.{is_assigned, ChangesOnlyTargets}
use Rattle.vlog_effects.proofs.Bools.{or-left, or-right, or-same}

-- neither of two lists of targets has the signal
first-free : (xs ys : List Target) (n : ℕ) → is_assigned (xs ++ ys) n ≡ false → is_assigned xs n ≡ false
first-free [] ys n e = refl
first-free (x ∷ xs) ys n e = or-same (nat_eq n x.number) false (is_assigned xs n) false (or-left (nat_eq n x.number) (is_assigned (xs ++ ys) n) e) (first-free xs ys n (or-right (nat_eq n x.number) (is_assigned (xs ++ ys) n) e))

last-free : (xs ys : List Target) (n : ℕ) → is_assigned (xs ++ ys) n ≡ false → is_assigned ys n ≡ false
last-free [] ys n e = e
last-free (x ∷ xs) ys n e = last-free xs ys n (or-right (nat_eq n x.number) (is_assigned (xs ++ ys) n) e)

-- no update is of the signal
abbrev Spare : ℕ → List Update → Type 0
Spare n [] = Unit {0}
Spare n (u ∷ us) = (nat_eq n u.number ≡ false) × Spare n us

spare-both : (n : ℕ) (us vs : List Update) → Spare n us → Spare n vs → Spare n (us ++ vs)
spare-both n [] vs k l = l
spare-both n (u ∷ us) vs k l = (k.0, spare-both n us vs k.1 l)

-- the signal has these bits, and keeps them at the end
record Keeps (n : ℕ) (bits : List Bool) (s : State) : Type 0 where
  now : s.now n ≡ bits
  later : Spare n s.scheduled

updated-other : (u : Update) (store : Values) (n : ℕ) → nat_eq n u.number ≡ false → updated u store n ≡ store n
updated-other u store n e = ap (λ (b : Bool). if b then written (store n) u.places u.bits else store n) e

updated_all-other : (us : List Update) (store : Values) (n : ℕ) → Spare n us → updated_all us store n ≡ store n
updated_all-other [] store n k = refl
updated_all-other (u ∷ us) store n k = updated_all-other us (updated u store) n k.1 ∙ updated-other u store n k.0

put-keeps : (is_blocking : Bool) (u : Update) (n : ℕ) (bits : List Bool) (s : State) → nat_eq n u.number ≡ false → Keeps n bits s → Keeps n bits (put is_blocking u s)
put-keeps true u n bits s e k = record { now = updated-other u s.now n e ∙ k.now; later = k.later }
put-keeps false u n bits s e k = record { now = k.now; later = spare-both n s.scheduled (u ∷ []) k.later (e, tt) }

put_all-keeps : (is_blocking : Bool) (us : List Update) (n : ℕ) (bits : List Bool) (s : State) → Spare n us → Keeps n bits s → Keeps n bits (put_all is_blocking us s)
put_all-keeps is_blocking [] n bits s e k = k
put_all-keeps is_blocking (u ∷ us) n bits s e k = put_all-keeps is_blocking us n bits (put is_blocking u s) e.1 (put-keeps is_blocking u n bits s e.0 k)

part-spare : (is_blocking : Bool) (names : Names) (store : Values) (p : Part) (v : Option Vector) (bits : List Bool) (n : ℕ) → is_assigned (part_targets is_blocking p v) n ≡ false → Spare n (part_updates names store p v bits)
part-spare is_blocking names store p None bits n e = tt
part-spare is_blocking names store p (Some v) bits n e = (or-left (nat_eq n v.number) false e, tt)

updates-spare : (is_blocking : Bool) (names : Names) (store : Values) (ps : List Part) (bits : List Bool) (n : ℕ) → is_assigned (parts_targets is_blocking names ps) n ≡ false → Spare n (updates_of names store ps bits)
updates-spare is_blocking names store [] bits n e = tt
updates-spare is_blocking names store (p ∷ ps) bits n e =
    spare-both n _ _
    (updates-spare is_blocking names store ps (take (parts_width names ps) bits) n (last-free (part_targets is_blocking p (part_vector names p)) (parts_targets is_blocking names ps) n e))
    (part-spare is_blocking names store p (part_vector names p) (drop (parts_width names ps) bits) n (first-free (part_targets is_blocking p (part_vector names p)) (parts_targets is_blocking names ps) n e))

assigned-keeps : (a : Assigning) (n : ℕ) (bits : List Bool) (s : State) → is_assigned (parts_targets a.is_blocking a.names (parts_of a.left)) n ≡ false → Keeps n bits s → Keeps n bits (assigned a s)
assigned-keeps a n bits s e k =
    let ps : List Part = parts_of a.left in
    let right : List Bool = right_bits a.names (parts_width a.names ps) a.right s.now in
    put_all-keeps a.is_blocking (updates_of a.names s.now ps right) n bits s (updates-spare a.is_blocking a.names s.now ps right n e) k

chosen-keeps : (b : Bool) (n : ℕ) (bits : List Bool) (s t : State) → Keeps n bits s → Keeps n bits t → Keeps n bits (if b then s else t)
chosen-keeps true n bits s t k l = k
chosen-keeps false n bits s t k l = l

mutual
  effect-keeps : (steps : Steps) (n : ℕ) (bits : List Bool) (s : State) → is_assigned (targets steps) n ≡ false → Keeps n bits s → Keeps n bits (effect steps s)
  effect-keeps Done n bits s e k = k
  effect-keeps (Assign a more) n bits s e k =
      let here : List Target = parts_targets a.is_blocking a.names (parts_of a.left) in
      effect-keeps more n bits (assigned a s) (last-free here (targets more) n e) (assigned-keeps a n bits s (first-free here (targets more) n e) k)
  effect-keeps (Choose at c then_part else_part more) n bits s e k =
      let rest : is_assigned (targets else_part ++ targets more) n ≡ false = last-free (targets then_part) (targets else_part ++ targets more) n e in
      let first = effect-keeps then_part n bits s (first-free (targets then_part) (targets else_part ++ targets more) n e) k in
      let second = effect-keeps else_part n bits s (first-free (targets else_part) (targets more) n rest) k in
      effect-keeps more n bits _ (last-free (targets else_part) (targets more) n rest) (chosen-keeps (holds c s.now) n bits (effect then_part s) (effect else_part s) first second)
  effect-keeps (Case c arms bodies more) n bits s e k = effect-keeps more n bits (arm_effect c arms s) (last-free (arms_targets arms) (targets more) n e) (arms-keep c arms n bits s (first-free (arms_targets arms) (targets more) n e) k)
  effect-keeps (Refuse x more) n bits s e k = effect-keeps more n bits s e k

  arms-keep : (c : Selection) (arms : Arms) (n : ℕ) (bits : List Bool) (s : State) → is_assigned (arms_targets arms) n ≡ false → Keeps n bits s → Keeps n bits (arm_effect c arms s)
  arms-keep c (Otherwise body) n bits s e k = effect-keeps body n bits s e k
  arms-keep c (Arm at labels body others) n bits s e k =
      let first = effect-keeps body n bits s (first-free (targets body) (arms_targets others) n e) k in
      let second = arms-keep c others n bits s (last-free (targets body) (arms_targets others) n e) k in
      chosen-keeps (matches c s.now labels) n bits (effect body s) (arm_effect c others s) first second

pub changes-only-targets : ChangesOnlyTargets
changes-only-targets steps store n e =
    let k : Keeps n (store n) (effect steps (started store)) = effect-keeps steps n (store n) (started store) e (record { now = refl; later = tt }) in
    updated_all-other (effect steps (started store)).scheduled (effect steps (started store)).now n k.later ∙ k.now
