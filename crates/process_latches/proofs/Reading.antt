-- What is read of expressions, where they are refused.
use Rattle.process_latches.proofs.Common.{◌≡◌, suc, zero, ℕ, ◌<◌, Bool, true, false, ◌||◌, List, [], ◌∷◌, refl, sym, ap, ◌∙◌, subst, arith, length, get_or, take, Option, None, Some, if◌then◌else◌}
use Rattle.process_latches.proofs.Common.{first_token, Expr, Fault, least, Names, Sense, sense, assigned, no_bits, is_empty, or_else, IsWhole, left_nil, these_nil, least_none, reads, width_of, wrong}
use Rattle.process_latches.proofs.Common.{divisions, Marks, Added, reads_by, sound_reads, all_sound_reads, right_faults, or_end, or-again}
use Rattle.vlog_syntax.specs.declared.expr.Expr.TheVariants as v
use Rattle.vlog_meaning.proofs.Steps.{sense_concatenation}
use Rattle.process_latches.proofs.Adding.{and_end, added_as, added_then, added_none}
use Rattle.process_latches.proofs.Bodies.{some_faults}
use Rattle.process_latches.proofs.Fitting.{no_faults}

-- divisions by 0 in a right side, at the width of both sides
abbrev assigned_zeros : Names → Expr → Expr → List Fault
assigned_zeros names left right = divisions ((sense names right).zeros (assigned (sense names right) (width_of names left)))

pub whole_reads : (names : Names) (x : Expr) (faults : List Fault) (a b : Marks) → faults ≡ [] → Added no_bits (reads names x) [] false a b → Added no_bits (reads_by names faults x) [] false a b
whole_reads names x faults a b w = subst (λ (e : Expr). Added no_bits (reads names e) [] false a b) (sym (ap (λ (t : Bool). if t then x else v.Concatenation (first_token x) []) (no_faults _ w)))

pub no_reads : (names : Names) (x : Expr) (faults : List Fault) (f : Fault) (a : Marks) → Some f ≡ least faults → Added no_bits (reads_by names faults x) [] false a a
no_reads names x faults f a some =
    let is = ap (λ (t : Bool). if t then x else v.Concatenation (first_token x) []) (some_faults _ f some) in
    added_as no_bits no_bits no_bits (reads_by names faults x) [] [] false false a a (λ n i. refl) (λ n i. sym (ap (λ (e : Expr). reads names e n i) is ∙ ap (λ (t : Sense). t.reads n i) (sense_concatenation names (first_token x) []))) refl refl (added_none a)

-- what is wrong in a right side, where something is wrong in the left one, and where nothing is

pub right_by : (names : Names) (left right : Expr) (f : Fault) (o : Option Fault) → Some f ≡ least (wrong names left) → o ≡ least (wrong names right) → o ≡ least (right_faults names left right)
right_by names left right f o some is = is ∙ sym (ap (λ (t : Bool). least (if t then or_else (wrong names right) (assigned_zeros names left right) else wrong names right)) (some_faults _ f some))

pub right_whole : (names : Names) (left right : Expr) (o : Option Fault) → wrong names left ≡ [] → o ≡ least (or_else (wrong names right) (assigned_zeros names left right)) → o ≡ least (right_faults names left right)
right_whole names left right o none is = is ∙ sym (ap (λ (t : Bool). least (if t then or_else (wrong names right) (assigned_zeros names left right) else wrong names right)) (no_faults _ none))

-- a right side that is not refused has a shape
pub right_shaped : (names : Names) (left right : Expr) (o : Option Fault) → o ≡ least (right_faults names left right) → o ≡ None → IsWhole names right
right_shaped names left right o is none = left_nil _ _ (go (is_empty (wrong names left)) (least_none (right_faults names left right) (sym is ∙ none)))
  where
    go : (b : Bool) → (if b then or_else (wrong names right) (assigned_zeros names left right) else wrong names right) ≡ [] → wrong names right ≡ []
    go true e = these_nil _ _ e
    go false e = e

read_take : (names : Names) (xs : List Expr) (k : ℕ) (x : Expr) (n i : ℕ) → x ≡ get_or xs k x → k < length xs → all_sound_reads names (take (suc k) xs) n i ≡ (all_sound_reads names (take k xs) n i || sound_reads names x n i)
read_take names [] k x n i at h = absurd (omega arith)
read_take names (y ∷ ys) zero x n i at h = or_end (sound_reads names y n i) ∙ ap (λ (e : Expr). sound_reads names e n i) (sym at)
read_take names (y ∷ ys) (suc k) x n i at h = ap (λ (b : Bool). sound_reads names y n i || b) (read_take names ys k x n i at (omega arith)) ∙ sym (or-again (sound_reads names y n i) (all_sound_reads names (take k ys) n i) (sound_reads names x n i))

-- one expression more
pub more_reads : (names : Names) (xs : List Expr) (k : ℕ) (x : Expr) (a b d : Marks) → x ≡ get_or xs k x → k < length xs → Added no_bits (all_sound_reads names (take k xs)) [] false a b → Added no_bits (sound_reads names x) [] false b d → Added no_bits (all_sound_reads names (take (suc k) xs)) [] false a d
more_reads names xs k x a b d at h before here =
    added_as _ _ _ _ _ _ _ _ a d (λ n i. refl) (λ n i. ap (λ (t : Bool). all_sound_reads names (take k xs) n i || t) (and_end (sound_reads names x n i)) ∙ sym (read_take names xs k x n i at h)) refl refl (added_then no_bits (all_sound_reads names (take k xs)) no_bits (sound_reads names x) [] [] false false a b d before here)
