-- Lists of masks, one more at a time.
use Rattle.signal_masks.proofs.Common.{◌≡◌, zero, suc, ℕ, ◌<◌, Bool, true, false, not, ◌&&◌, ◌||◌, nat_eq, List, [], ◌∷◌, ◌++◌, refl, sym, ap, ◌∙◌, arith, length, get_or, take, slice_set, nat_tests}
use Rattle.signal_masks.proofs.Common.{Mask, has_bit, bits_in, or-again}
use Rattle.signal_masks.proofs.Placing.{or_end}

passed : (a b c : Bool) → (a || (b || c)) ≡ ((a || b) || c)
passed true b c = refl
passed false b c = refl

-- one mask more
pub bits_push : (ms : List Mask) (m : Mask) (n i : ℕ) → bits_in (ms ++ m ∷ []) n i ≡ (bits_in ms n i || (nat_eq n m.number && has_bit m.bits i))
bits_push [] m n i = or_end (nat_eq n m.number && has_bit m.bits i)
bits_push (x ∷ more) m n i = ap (λ (b : Bool). (nat_eq n x.number && has_bit x.bits i) || b) (bits_push more m n i) ∙ passed (nat_eq n x.number && has_bit x.bits i) (bits_in more n i) (nat_eq n m.number && has_bit m.bits i)

-- an item of a list, whatever stands for one past its end
pub any_default : (ms : List Mask) (k : ℕ) (d e : Mask) → k < length ms → get_or ms k d ≡ get_or ms k e
any_default [] k d e h = absurd (omega arith)
any_default (x ∷ more) zero d e h = refl
any_default (x ∷ more) (suc k) d e h = any_default more k d e (omega arith)

pub bits_take : (ms : List Mask) (k : ℕ) (m : Mask) (n i : ℕ) → m ≡ get_or ms k m → k < length ms → bits_in (take (suc k) ms) n i ≡ (bits_in (take k ms) n i || (nat_eq n m.number && has_bit m.bits i))
bits_take [] k m n i is h = absurd (omega arith)
bits_take (x ∷ more) zero m n i is h = ap (λ (z : Mask). (nat_eq n z.number && has_bit z.bits i) || false) (sym is) ∙ or_end (nat_eq n m.number && has_bit m.bits i)
bits_take (x ∷ more) (suc k) m n i is h = ap (λ (b : Bool). (nat_eq n x.number && has_bit x.bits i) || b) (bits_take more k m n i is (omega arith)) ∙ passed (nat_eq n x.number && has_bit x.bits i) (bits_in (take k more) n i) (nat_eq n m.number && has_bit m.bits i)

joined_here : (a b c e : Bool) → ((a && (b || c)) || e) ≡ (((a && b) || e) || (a && c))
joined_here true true c true = refl
joined_here true true c false = refl
joined_here true false true true = refl
joined_here true false true false = refl
joined_here true false false true = refl
joined_here true false false false = refl
joined_here false b c true = refl
joined_here false b c false = refl

-- a mask in the place of one of the same signal, with more bits
pub bits_set : (ms : List Mask) (k : ℕ) (old new : Mask) (bits n i : ℕ) → old ≡ get_or ms k old → k < length ms → new.number ≡ old.number → has_bit new.bits i ≡ (has_bit old.bits i || has_bit bits i) → bits_in (slice_set ms k new) n i ≡ (bits_in ms n i || (nat_eq n new.number && has_bit bits i))
bits_set [] k old new bits n i is h same more_bits = absurd (omega arith)
bits_set (x ∷ more) zero old new bits n i is h same more_bits = ap (λ (b : Bool). (nat_eq n new.number && b) || bits_in more n i) more_bits ∙ joined_here (nat_eq n new.number) (has_bit old.bits i) (has_bit bits i) (bits_in more n i) ∙ ap (λ (b : Bool). ((b && has_bit old.bits i) || bits_in more n i) || (nat_eq n new.number && has_bit bits i)) (ap (nat_eq n) same) ∙ ap (λ (z : Mask). ((nat_eq n z.number && has_bit z.bits i) || bits_in more n i) || (nat_eq n new.number && has_bit bits i)) is
bits_set (x ∷ more) (suc k) old new bits n i is h same more_bits = ap (λ (b : Bool). (nat_eq n x.number && has_bit x.bits i) || b) (bits_set more k old new bits n i is (omega arith) same more_bits) ∙ passed (nat_eq n x.number && has_bit x.bits i) (bits_in more n i) (nat_eq n new.number && has_bit bits i)

-- What is added for each mask of a list.

-- the bits of a mask that are kept by a test
kept_more : (ms : List Mask) (k : ℕ) (m : Mask) (n i : ℕ) (test : Bool) → m ≡ get_or ms k m → k < length ms → ((bits_in (take k ms) n i && test) || ((nat_eq n m.number && has_bit m.bits i) && test)) ≡ (bits_in (take (suc k) ms) n i && test)
kept_more ms k m n i test is h = both (bits_in (take k ms) n i) (nat_eq n m.number && has_bit m.bits i) test ∙ ap (λ (b : Bool). b && test) (sym (bits_take ms k m n i is h)) where
  both : (a b t : Bool) → ((a && t) || (b && t)) ≡ ((a || b) && t)
  both true b true = refl
  both true true false = refl
  both true false false = refl
  both false b t = refl

pub all_more : (ms : List Mask) (k : ℕ) (m : Mask) (n i : ℕ) (old before after : Bool) → m ≡ get_or ms k m → k < length ms → before ≡ (old || bits_in (take k ms) n i) → after ≡ (before || (nat_eq n m.number && has_bit m.bits i)) → after ≡ (old || bits_in (take (suc k) ms) n i)
all_more ms k m n i old before after is h e f = f ∙ ap (λ (b : Bool). b || (nat_eq n m.number && has_bit m.bits i)) e ∙ or-again old (bits_in (take k ms) n i) (nat_eq n m.number && has_bit m.bits i) ∙ ap (λ (b : Bool). old || b) (sym (bits_take ms k m n i is h))

-- a test of the signal of a mask is one of any signal, where it is the same
at_signal : (n k : ℕ) (f : ℕ → Bool) (a x : Bool) → x ≡ (a && f k) → (nat_eq n k && x) ≡ ((nat_eq n k && a) && f n)
at_signal n k f a x e = go (nat_eq n k) refl where
  go : (b : Bool) → nat_eq n k ≡ b → (b && x) ≡ ((b && a) && f n)
  go true same = let equal : n ≡ k = grind (arith, nat_tests) in e ∙ ap (λ (j : ℕ). a && f j) (sym equal)
  go false same = refl

tested_more : (ms : List Mask) (f : ℕ → Bool) (k : ℕ) (m : Mask) (n i : ℕ) (x old before after : Bool) → m ≡ get_or ms k m → k < length ms → x ≡ (has_bit m.bits i && f m.number) → before ≡ (old || (bits_in (take k ms) n i && f n)) → after ≡ (before || (nat_eq n m.number && x)) → after ≡ (old || (bits_in (take (suc k) ms) n i && f n))
tested_more ms f k m n i x old before after is h e here g =
    g ∙ ap (λ (b : Bool). before || b) (at_signal n m.number f (has_bit m.bits i) x e) ∙ ap (λ (b : Bool). b || ((nat_eq n m.number && has_bit m.bits i) && f n)) here ∙ or-again old (bits_in (take k ms) n i && f n) ((nat_eq n m.number && has_bit m.bits i) && f n) ∙ ap (λ (b : Bool). old || b) (kept_more ms k m n i (f n) is h)

pub common_more : (ms others : List Mask) (k : ℕ) (m : Mask) (n i there bits : ℕ) (old before after : Bool) → m ≡ get_or ms k m → k < length ms → has_bit there i ≡ bits_in others m.number i → has_bit bits i ≡ (has_bit m.bits i && has_bit there i) → before ≡ (old || (bits_in (take k ms) n i && bits_in others n i)) → after ≡ (before || (nat_eq n m.number && has_bit bits i)) → after ≡ (old || (bits_in (take (suc k) ms) n i && bits_in others n i))
common_more ms others k m n i there bits old before after is h e f here g = tested_more ms (λ (j : ℕ). bits_in others j i) k m n i (has_bit bits i) old before after is h (f ∙ ap (λ (b : Bool). has_bit m.bits i && b) e) here g

pub missing_more : (ms others : List Mask) (k : ℕ) (m : Mask) (n i there bits : ℕ) (old before after : Bool) → m ≡ get_or ms k m → k < length ms → has_bit there i ≡ bits_in others m.number i → has_bit bits i ≡ (has_bit m.bits i && not (has_bit there i)) → before ≡ (old || (bits_in (take k ms) n i && not (bits_in others n i))) → after ≡ (before || (nat_eq n m.number && has_bit bits i)) → after ≡ (old || (bits_in (take (suc k) ms) n i && not (bits_in others n i)))
missing_more ms others k m n i there bits old before after is h e f here g = tested_more ms (λ (j : ℕ). not (bits_in others j i)) k m n i (has_bit bits i) old before after is h (f ∙ ap (λ (b : Bool). has_bit m.bits i && not b) e) here g
