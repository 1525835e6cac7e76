-- Signals keep their widths where statements are run.
use Rattle.process_cells.proofs.Common.{◌≡◌, ℕ, Bool, true, false, List, [], ◌∷◌, length, nat_eq, refl, ◌∙◌, if◌then◌else◌, parts_of, parts_width, written, Selection, Steps, Done, Assign, Choose}
use Rattle.process_cells.proofs.Common.{Case, Refuse, Arms, Otherwise, Arm, Values, Update, updated, updated_all, State, put, put_all, updates_of, right_bits, assigned, holds, matches, effect}
use Rattle.process_cells.proofs.Common.{arm_effect, started, left_by, length-written}

updated_wide : (u : Update) (store : Values) (n : ℕ) → length (updated u store n) ≡ length (store n)
updated_wide u store n = go (nat_eq n u.number)
  where
    go : (b : Bool) → length (if b then written (store n) u.places u.bits else store n) ≡ length (store n)
    go true = length-written (store n) u.places u.bits
    go false = refl

updated_all_wide : (us : List Update) (store : Values) (n : ℕ) → length (updated_all us store n) ≡ length (store n)
updated_all_wide [] store n = refl
updated_all_wide (u ∷ us) store n = updated_all_wide us (updated u store) n ∙ updated_wide u store n

put_wide : (is_blocking : Bool) (u : Update) (s : State) (n : ℕ) → length ((put is_blocking u s).now n) ≡ length (s.now n)
put_wide true u s n = updated_wide u s.now n
put_wide false u s n = refl

put_all_wide : (is_blocking : Bool) (us : List Update) (s : State) (n : ℕ) → length ((put_all is_blocking us s).now n) ≡ length (s.now n)
put_all_wide is_blocking [] s n = refl
put_all_wide is_blocking (u ∷ us) s n = put_all_wide is_blocking us (put is_blocking u s) n ∙ put_wide is_blocking u s n

chosen_wide : (b : Bool) (s t : State) (n w : ℕ) → length (s.now n) ≡ w → length (t.now n) ≡ w → length ((if b then s else t).now n) ≡ w
chosen_wide true s t n w e f = e
chosen_wide false s t n w e f = f

mutual
  effect_wide : (steps : Steps) (s : State) (n : ℕ) → length ((effect steps s).now n) ≡ length (s.now n)
  effect_wide Done s n = refl
  effect_wide (Assign a more) s n =
      effect_wide more (assigned a s) n
      ∙ put_all_wide a.is_blocking (updates_of a.names s.now (parts_of a.left) (right_bits a.names (parts_width a.names (parts_of a.left)) a.right s.now)) s n
  effect_wide (Choose at c p q more) s n =
      effect_wide more (if holds c s.now then effect p s else effect q s) n
      ∙ chosen_wide (holds c s.now) (effect p s) (effect q s) n (length (s.now n)) (effect_wide p s n) (effect_wide q s n)
  effect_wide (Case c arms bodies more) s n = effect_wide more (arm_effect c arms s) n ∙ arms_wide c arms s n
  effect_wide (Refuse x more) s n = effect_wide more s n

  arms_wide : (c : Selection) (arms : Arms) (s : State) (n : ℕ) → length ((arm_effect c arms s).now n) ≡ length (s.now n)
  arms_wide c (Otherwise body) s n = effect_wide body s n
  arms_wide c (Arm at labels body others) s n =
      chosen_wide (matches c s.now labels) (effect body s) (arm_effect c others s) n (length (s.now n)) (effect_wide body s n) (arms_wide c others s n)

pub left_wide : (steps : Steps) (store : Values) (n : ℕ) → length (left_by steps store n) ≡ length (store n)
left_wide steps store n = updated_all_wide (effect steps (started store)).scheduled (effect steps (started store)).now n ∙ effect_wide steps (started store) n
