-- The variables that are assigned, from the last one back, and the latch among them that stands first.
use Rattle.process_latches.proofs.Common.{◌≡◌, zero, suc, ℕ, ◌<◌, ◌≤◌, ◌-◌, Bool, true, false, not, ◌||◌, List, [], ◌∷◌, ◌++◌, map, refl, sym, ap, ◌∙◌, arith, length, get_or, drop, append_assoc}
use Rattle.process_latches.proofs.Common.{Option, None, Some, if◌then◌else◌, Span, left_first_token, Names, no_bits, Part, Vector, part_vector, parts_of, Target, part_targets, parts_targets, targets}
use Rattle.process_latches.proofs.Common.{arms_targets, some_bit, is_latch, latches, earlier, first_of, latch_of, covered, early, Steps, Done, Assign, Choose, Case, Refuse, Arms, Otherwise, Arm}
use Rattle.process_latches.proofs.Common.{has_bit, bits_in, Marks, Write, first_latch, latch_in, IsOwn, part_writes, parts_writes, writes, arms_writes, target_of}

-- What is assigned, as targets.

map_both : (xs ys : List Write) → map target_of (xs ++ ys) ≡ map target_of xs ++ map target_of ys
map_both [] ys = refl
map_both (x ∷ xs) ys = ap (λ (l : List Target). target_of x ∷ l) (map_both xs ys)

part_targets_are : (blocking : Bool) (first : Span) (p : Part) (o : Option Vector) → map target_of (part_writes blocking first p o) ≡ part_targets blocking p o
part_targets_are blocking first p None = refl
part_targets_are blocking first p (Some v) = refl

parts_targets_are : (blocking : Bool) (first : Span) (names : Names) (ps : List Part) → map target_of (parts_writes blocking first names ps) ≡ parts_targets blocking names ps
parts_targets_are blocking first names [] = refl
parts_targets_are blocking first names (p ∷ ps) =
    map_both (part_writes blocking first p (part_vector names p)) (parts_writes blocking first names ps) ∙ ap (λ (l : List Target). l ++ map target_of (parts_writes blocking first names ps)) (part_targets_are blocking first p (part_vector names p)) ∙ ap (λ (l : List Target). part_targets blocking p (part_vector names p) ++ l) (parts_targets_are blocking first names ps)

mutual
  pub targets_are : (s : Steps) → map target_of (writes s) ≡ targets s
  targets_are Done = refl
  targets_are (Assign a more) = map_both (parts_writes a.is_blocking (left_first_token a.left) a.names (parts_of a.left)) (writes more) ∙ ap (λ (l : List Target). l ++ map target_of (writes more)) (parts_targets_are a.is_blocking (left_first_token a.left) a.names (parts_of a.left)) ∙ ap (λ (l : List Target). parts_targets a.is_blocking a.names (parts_of a.left) ++ l) (targets_are more)
  targets_are (Choose at c s t more) =
      map_both (writes s ++ writes t) (writes more) ∙ ap (λ (l : List Target). l ++ map target_of (writes more)) (map_both (writes s) (writes t)) ∙ append_assoc (map target_of (writes s)) (map target_of (writes t)) (map target_of (writes more)) ∙
      ap (λ (l : List Target). l ++ (map target_of (writes t) ++ map target_of (writes more))) (targets_are s) ∙ ap (λ (l : List Target). targets s ++ (l ++ map target_of (writes more))) (targets_are t) ∙ ap (λ (l : List Target). targets s ++ (targets t ++ l)) (targets_are more)
  targets_are (Case c arms bodies more) = map_both (arms_writes arms) (writes more) ∙ ap (λ (l : List Target). l ++ map target_of (writes more)) (arms_targets_are arms) ∙ ap (λ (l : List Target). arms_targets arms ++ l) (targets_are more)
  targets_are (Refuse x more) = targets_are more

  arms_targets_are : (arms : Arms) → map target_of (arms_writes arms) ≡ arms_targets arms
  arms_targets_are (Otherwise body) = targets_are body
  arms_targets_are (Arm at labels body others) = map_both (writes body) (arms_writes others) ∙ ap (λ (l : List Target). l ++ map target_of (arms_writes others)) (targets_are body) ∙ ap (λ (l : List Target). targets body ++ l) (arms_targets_are others)

-- A bit that is left or read unassigned.

some_same : (w : ℕ) (p q : ℕ → Bool) → ((i : ℕ) → p i ≡ q i) → some_bit w p ≡ some_bit w q
some_same zero p q e = refl
some_same (suc w) p q e = ap (λ (b : Bool). b || some_bit w p) (e w) ∙ ap (λ (b : Bool). q w || b) (some_same w p q e)

pub loose_is : (s : Steps) (m : Marks) (w : Write) (co ea : ℕ) (b : Bool) → ((i : ℕ) → has_bit co i ≡ bits_in m.covered w.number i) → ((i : ℕ) → has_bit ea i ≡ bits_in m.early w.number i) → b ≡ some_bit w.width (λ i. not (has_bit co i) || has_bit ea i) → IsOwn s m → b ≡ is_latch s (target_of w)
loose_is s m w co ea b cs es is own = is ∙ some_same w.width (λ i. not (has_bit co i) || has_bit ea i) (λ i. not (covered s no_bits w.number i) || early s no_bits w.number i) (λ i. ap (λ (t : Bool). not t || has_bit ea i) (cs i ∙ own.covered_is w.number i) ∙ ap (λ (t : Bool). not (covered s no_bits w.number i) || t) (es i ∙ own.early_is w.number i))

-- The assignments that were passed, from the last one back.

drop_one : (ws : List Write) (k : ℕ) (w : Write) → w ≡ get_or ws k w → k < length ws → drop k ws ≡ w ∷ drop (suc k) ws
drop_one [] k w at h = absurd (omega arith)
drop_one (y ∷ ys) zero w at h = ap (λ (z : Write). z ∷ ys) (sym at)
drop_one (y ∷ ys) (suc k) w at h = drop_one ys k w at (omega arith)

drop_all : (ws : List Write) → drop (length ws) ws ≡ []
drop_all [] = refl
drop_all (w ∷ ws) = drop_all ws

drop_none : (ws : List Write) → drop zero ws ≡ ws
drop_none [] = refl
drop_none (w ∷ ws) = refl

abbrev pub passed : List Write → ℕ → List Write
passed ws k = drop (length ws - k) ws

pub passed_none : (ws : List Write) → passed ws 0 ≡ []
passed_none ws = let e : length ws - 0 ≡ length ws = omega arith in ap (λ (n : ℕ). drop n ws) e ∙ drop_all ws

pub passed_more : (ws : List Write) (k : ℕ) (w : Write) → w ≡ get_or ws (length ws - 1 - k) w → k < length ws → passed ws (suc k) ≡ w ∷ passed ws k
passed_more ws k w at h =
    let e : length ws - suc k ≡ length ws - 1 - k = omega arith in
    let f : suc (length ws - 1 - k) ≡ length ws - k = omega arith in
    ap (λ (n : ℕ). drop n ws) e ∙ drop_one ws (length ws - 1 - k) w at (omega arith) ∙ ap (λ (n : ℕ). w ∷ drop n ws) f

pub passed_all : (ws : List Write) (k : ℕ) → length ws ≤ k → passed ws k ≡ ws
passed_all ws k h = let e : length ws - k ≡ 0 = omega arith in ap (λ (n : ℕ). drop n ws) e ∙ drop_none ws

-- The latch among them.

pub latch_skip : (s : Steps) (ws : List Write) (w : Write) (o : Option Target) → is_latch s (target_of w) ≡ false → o ≡ first_latch s ws → o ≡ first_latch s (w ∷ ws)
latch_skip s ws w o e is = is ∙ sym (ap (λ (b : Bool). first_of (if b then target_of w ∷ latches s (map target_of ws) else latches s (map target_of ws))) e)

pub latch_more : (s : Steps) (ws : List Write) (w : Write) (o p : Option Target) → is_latch s (target_of w) ≡ true → o ≡ first_latch s ws → p ≡ earlier (target_of w) o → p ≡ first_latch s (w ∷ ws)
latch_more s ws w o p e is to = to ∙ ap (earlier (target_of w)) is ∙ sym (ap (λ (b : Bool). first_of (if b then target_of w ∷ latches s (map target_of ws) else latches s (map target_of ws))) e)

-- the latch among all assignments
pub latch_is : (s : Steps) (m : Marks) (ws : List Write) (k : ℕ) (found : Option Target) → ws ≡ m.writes.items → length ws ≤ k → found ≡ first_latch s (passed ws k) → IsOwn s m → found ≡ latch_of s
latch_is s m ws k found same h is own = is ∙ ap (first_latch s) (passed_all ws k h ∙ same ∙ own.writes_are) ∙ ap (λ (l : List Target). first_of (latches s l)) (targets_are s)

-- where something is refused there is none, and else it is the first
pub latch_stopped : (s : Steps) (m : Marks) → m.is_stopped ≡ true → IsOwn s m → None ≡ latch_in s
latch_stopped s m e own = sym (ap (λ (b : Bool). if b then None else latch_of s) (sym own.stopped_is ∙ e))

pub latch_free : (s : Steps) (m : Marks) (found : Option Target) → m.is_stopped ≡ false → found ≡ latch_of s → IsOwn s m → found ≡ latch_in s
latch_free s m found e is own = is ∙ sym (ap (λ (b : Bool). if b then None else latch_of s) (sym own.stopped_is ∙ e))
