-- What steps that follow others, choices and arms assign and read, from nothing.
use Rattle.process_latches.proofs.Common.{◌≡◌, ℕ, Bool, true, false, not, ◌&&◌, ◌||◌, List, ◌∷◌, ◌++◌, refl, sym, ap, ◌∙◌, subst, append_assoc, if◌then◌else◌, first_token, left_first_token, Bits}
use Rattle.process_latches.proofs.Common.{no_bits, either, is_empty, Steps, Done, Assign, Choose, Case, Refuse, Turns, followed, parts_of, all_of, parts_cover, missed, parts_missed, covered, early}
use Rattle.process_latches.proofs.Common.{arms_covered, arms_early, followed-again, case_faults, Marks, Write, Marked, sound_expr, sound_test, sound_right, sound_left, sound, sound_arms, has_stop}
use Rattle.process_latches.proofs.Common.{is_stop, arms_stop, writes, arms_writes, parts_writes, or-again}
use Rattle.vlog_effects.proofs.Pointwise.{covered-at, covered-all, early-at, early-all}
use Rattle.process_latches.proofs.Adding.{and_end, added_as, added_then}

covered_followed : (a b : Steps) (c : Bits) → covered (followed a b) c ≡ covered b (covered a c)
covered_followed Done b c = refl
covered_followed (Assign x more) b c = covered_followed more b (either c (parts_cover x.names (parts_of x.left)))
covered_followed (Choose at x then_part else_part more) b c = covered_followed more b (all_of (covered then_part c) (covered else_part c))
covered_followed (Case x arms bodies more) b c = covered_followed more b (arms_covered arms c)
covered_followed (Refuse x more) b c = covered_followed more b c

early_followed : (a b : Steps) (c : Bits) (n i : ℕ) → early (followed a b) c n i ≡ (early a c n i || early b (covered a c) n i)
early_followed Done b c n i = refl
early_followed (Assign x more) b c n i =
    let first : Bool = missed x.names x.right c n i || parts_missed x.names (parts_of x.left) c n i in
    let next : Bits = either c (parts_cover x.names (parts_of x.left)) in
    ap (λ (y : Bool). first || y) (early_followed more b next n i) ∙ sym (or-again first (early more next n i) (early b (covered more next) n i))
early_followed (Choose at x then_part else_part more) b c n i =
    let first : Bool = missed x.names x.condition c n i || (early then_part c n i || early else_part c n i) in
    let next : Bits = all_of (covered then_part c) (covered else_part c) in
    ap (λ (y : Bool). first || y) (early_followed more b next n i) ∙ sym (or-again first (early more next n i) (early b (covered more next) n i))
early_followed (Case x arms bodies more) b c n i =
    let first : Bool = missed x.names x.selector c n i || arms_early x arms c n i in
    let next : Bits = arms_covered arms c in
    ap (λ (y : Bool). first || y) (early_followed more b next n i) ∙ sym (or-again first (early more next n i) (early b (covered more next) n i))
early_followed (Refuse x more) b c n i = early_followed more b c n i

-- What is assigned and read after some bits are assigned, from what is assigned and read after none are.

covered_from : (s : Steps) (b : Bits) (n i : ℕ) → covered s b n i ≡ (b n i || covered s no_bits n i)
covered_from s b n i = go (b n i) refl where
  go : (x : Bool) → b n i ≡ x → covered s b n i ≡ (x || covered s no_bits n i)
  go true e = covered-all s b n i e
  go false e = covered-at s b no_bits n i e

early_from : (s : Steps) (b : Bits) (n i : ℕ) → early s b n i ≡ (early s no_bits n i && not (b n i))
early_from s b n i = go (b n i) refl where
  none : (a : Bool) → (a && false) ≡ false
  none true = refl
  none false = refl

  go : (x : Bool) → b n i ≡ x → early s b n i ≡ (early s no_bits n i && not x)
  go true e = early-all s b n i e ∙ sym (none (early s no_bits n i))
  go false e = early-at s b no_bits n i e ∙ sym (and_end (early s no_bits n i))

writes_followed : (a b : Steps) → writes (followed a b) ≡ writes a ++ writes b
writes_followed Done b = refl
writes_followed (Assign x more) b = ap (λ (l : List Write). parts_writes x.is_blocking (left_first_token x.left) x.names (parts_of x.left) ++ l) (writes_followed more b) ∙ sym (append_assoc (parts_writes x.is_blocking (left_first_token x.left) x.names (parts_of x.left)) (writes more) (writes b))
writes_followed (Choose at x then_part else_part more) b = ap (λ (l : List Write). (writes then_part ++ writes else_part) ++ l) (writes_followed more b) ∙ sym (append_assoc (writes then_part ++ writes else_part) (writes more) (writes b))
writes_followed (Case x arms bodies more) b = ap (λ (l : List Write). arms_writes arms ++ l) (writes_followed more b) ∙ sym (append_assoc (arms_writes arms) (writes more) (writes b))
writes_followed (Refuse x more) b = writes_followed more b

stop_followed : (a b : Steps) → has_stop (followed a b) ≡ (has_stop a || has_stop b)
stop_followed Done b = refl
stop_followed (Assign x more) b = stop_followed more b
stop_followed (Choose at x then_part else_part more) b = ap (λ (t : Bool). (has_stop then_part || has_stop else_part) || t) (stop_followed more b) ∙ sym (or-again (has_stop then_part || has_stop else_part) (has_stop more) (has_stop b))
stop_followed (Case x arms bodies more) b = ap (λ (t : Bool). arms_stop arms || t) (stop_followed more b) ∙ sym (or-again (arms_stop arms) (has_stop more) (has_stop b))
stop_followed (Refuse x more) b = ap (λ (t : Bool). is_stop x || t) (stop_followed more b) ∙ sym (or-again (is_stop x) (has_stop more) (has_stop b))

sound_followed : (a b : Steps) → sound (followed a b) ≡ followed (sound a) (sound b)
sound_followed Done b = refl
sound_followed (Assign x more) b = ap (λ (s : Steps). Assign (record x { left = sound_left x.names x.left; right = sound_right x.names x.left x.right }) s) (sound_followed more b)
sound_followed (Choose at x then_part else_part more) b = ap (λ (s : Steps). Choose at (record x { condition = sound_test x.names x.condition }) (sound then_part) (sound else_part) s) (sound_followed more b)
sound_followed (Case x arms bodies more) b = go (is_empty (case_faults x.names (x.selector ∷ x.labels))) (sound_followed more b) where
  go : (t : Bool) → sound (followed more b) ≡ followed (sound more) (sound b) → (if t then Case (record x { selector = sound_expr x.names x.selector }) (sound_arms x.names arms) (sound bodies) (sound (followed more b)) else Refuse (Turns (first_token x.selector)) (followed (sound bodies) (sound (followed more b)))) ≡ followed (if t then Case (record x { selector = sound_expr x.names x.selector }) (sound_arms x.names arms) (sound bodies) (sound more) else Refuse (Turns (first_token x.selector)) (followed (sound bodies) (sound more))) (sound b)
  go true e = ap (λ (s : Steps). Case (record x { selector = sound_expr x.names x.selector }) (sound_arms x.names arms) (sound bodies) s) e
  go false e = ap (λ (s : Steps). Refuse (Turns (first_token x.selector)) s) (ap (followed (sound bodies)) e ∙ sym (followed-again (sound bodies) (sound more) (sound b)))
sound_followed (Refuse x more) b = ap (λ (s : Steps). Refuse x s) (sound_followed more b)

pub marked_followed : (s t : Steps) (a b d : Marks) → Marked s a b → Marked t b d → Marked (followed s t) a d
marked_followed s t a b d x y =
    added_as _ _ _ _ _ _ _ _ a d
    (λ n i. sym (ap (λ (f : Bits). f n i) (covered_followed s t no_bits) ∙ covered_from t (covered s no_bits) n i))
    (λ n i. sym (early_followed s t no_bits n i ∙ ap (λ (z : Bool). early s no_bits n i || z) (early_from t (covered s no_bits) n i)))
    (sym (writes_followed s t)) (sym (stop_followed s t))
    (added_then (covered s no_bits) (early s no_bits) (covered t no_bits) (early t no_bits) (writes s) (writes t) (has_stop s) (has_stop t) a b d x y)

-- steps, and then others
pub marked_then : (s t : Steps) (a b d : Marks) → Marked (sound s) a b → Marked (sound t) b d → Marked (sound (followed s t)) a d
marked_then s t a b d x y = subst (λ (z : Steps). Marked z a d) (sym (sound_followed s t)) (marked_followed (sound s) (sound t) a b d x y)
