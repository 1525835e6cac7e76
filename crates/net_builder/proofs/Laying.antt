-- The table of steps is what the definition says.
use Rattle.net_builder.proofs.Common.{◌≡◌, ℕ, zero, suc, ◌/◌, ◌%◌, ◌<◌, Bool, true, false, ◌||◌, List, [], ◌∷◌, ◌++◌, length, nat_eq, set, Option, Some, None, inl, inr, refl, ◌∙◌, ap, if◌then◌else◌}
use Rattle.net_builder.proofs.Common.{eqb_tells, get_or-set_same, get_or-set_other, Bit, Fixed, Net, Word, Port, Register, bits_at, q_bits, Joint, Step, Stays, Constant, Building, numbers_of}
use Rattle.net_builder.proofs.Common.{joint_of, has_net, is_stored, some_has, later, start_among, start_of, stepped, step_of, no_steps, next_in, with_step, after_start, after_starts, after_kept}
use Rattle.net_builder.proofs.Common.{after_all_kept, joined_step, after_joints}

-- The table.

push_reads : (table : List Step) (n : ℕ) → next_in (table ++ Stays ∷ []) n ≡ next_in table n
push_reads [] zero = refl
push_reads [] (suc n) = refl
push_reads (s ∷ more) zero = refl
push_reads (s ∷ more) (suc n) = push_reads more n

-- a default at the end is not seen
pub push_step : (table : List Step) → next_in (table ++ Stays ∷ []) ≡ next_in table
push_step table = λ i n. push_reads table n i

set_reads : (table : List Step) (n m : ℕ) (s : Step) → n < length table → next_in (set table n s) m ≡ with_step n s (next_in table) m
set_reads table n m s h = elim (eqb_tells m n) [ inl t ↦ rw (t.0, t.1) (get_or-set_same table n s Stays h) | inr t ↦ rw t.0 (get_or-set_other table n m s Stays t.1) ]

pub set_step : (table : List Step) (n : ℕ) (s : Step) → n < length table → next_in (set table n s) ≡ with_step n s (next_in table)
set_step table n s h = λ i m. set_reads table n m s h i

-- Start values.

abbrev started : Option Bool → Step → Step
started (Some v) s = Constant v
started None s = s

start_one : (o : Option Bool) (b v : Bool) (s : Step) → started o (if b then Constant v else s) ≡ started (later o (if b then Some v else None)) s
start_one (Some x) b v s = refl
start_one None true v s = refl
start_one None false v s = refl

start_is : (bits : List Bit) (v : ℕ) (f : ℕ → Step) (n : ℕ) → after_start bits v f n ≡ started (start_among bits v n) (f n)
start_is [] v f n = refl
start_is (Fixed b ∷ more) v f n = start_is more (v / 2) f n
start_is (Net m ∷ more) v f n = start_is more (v / 2) (with_step m (Constant (nat_eq (v % 2) 1)) f) n ∙ start_one (start_among more (v / 2) n) (nat_eq n m) (nat_eq (v % 2) 1) (f n)

start_both : (o p : Option Bool) (s : Step) → started o (started p s) ≡ started (later o p) s
start_both (Some x) p s = refl
start_both None p s = refl

starts_are : (signals : List (List Bit)) (starts : List ℕ) (f : ℕ → Step) (n : ℕ) → after_starts signals starts f n ≡ started (start_of signals starts n) (f n)
starts_are [] starts f n = refl
starts_are (bits ∷ more) [] f n = refl
starts_are (bits ∷ more) (v ∷ vs) f n = starts_are more vs (after_start bits v f) n ∙ ap (started (start_of more vs n)) (start_is bits v f n) ∙ start_both (start_of more vs n) (start_among bits v n) (f n)

-- Kept nets.

abbrev kept : Bool → Step → Step
kept b s = if b then Stays else s

kept_one : (a b : Bool) (s : Step) → kept a (if b then Stays else s) ≡ kept (b || a) s
kept_one true true s = refl
kept_one true false s = refl
kept_one false true s = refl
kept_one false false s = refl

kept_is : (bits : List Bit) (f : ℕ → Step) (n : ℕ) → after_kept bits f n ≡ kept (has_net bits n) (f n)
kept_is [] f n = refl
kept_is (Fixed b ∷ more) f n = kept_is more f n
kept_is (Net m ∷ more) f n = kept_is more (with_step m Stays f) n ∙ kept_one (has_net more n) (nat_eq n m) (f n)

all_kept : (ports : List (List Bit)) (f : ℕ → Step) (n : ℕ) → after_all_kept ports f n ≡ kept (some_has ports n) (f n)
all_kept [] f n = refl
all_kept (bits ∷ more) f n = all_kept more (after_kept bits f) n ∙ ap (kept (some_has more n)) (kept_is bits f n) ∙ kept_one (some_has more n) (has_net bits n) (f n)

stored_is : (rs : List Register) (n : ℕ) → some_has (q_bits rs) n ≡ is_stored rs n
stored_is [] n = refl
stored_is (r ∷ more) n = ap (λ (b : Bool). has_net r.q n || b) (stored_is more n)

-- Joints.

abbrev joined : Option Bit → Step → Step
joined None s = s
joined (Some bit) s = joined_step bit

joined_one : (b : Bool) (x : Bit) (o : Option Bit) (s : Step) → (if b then joined_step x else joined o s) ≡ joined (if b then Some x else o) s
joined_one true x o s = refl
joined_one false x o s = refl

joints_are : (js : List Joint) (f : ℕ → Step) (n : ℕ) → after_joints js f n ≡ joined (joint_of js n) (f n)
joints_are [] f n = refl
joints_are (j ∷ more) f n = ap (λ (s : Step). if nat_eq n j.net then joined_step j.bit else s) (joints_are more f n) ∙ joined_one (nat_eq n j.net) j.bit (joint_of more n) (f n)

-- All together.

stepped_is : (o : Option Bit) (stored input : Bool) (start : Option Bool) → joined o (kept stored (kept input (started start Stays))) ≡ stepped o (stored || input) start
stepped_is (Some (Fixed v)) stored input start = refl
stepped_is (Some (Net m)) stored input start = refl
stepped_is None true input start = refl
stepped_is None false true start = refl
stepped_is None false false (Some v) = refl
stepped_is None false false None = refl

pub steps_are : (b : Building) (inputs : List (List Bit)) → after_joints b.joints (after_all_kept (q_bits b.registers) (after_all_kept inputs (after_starts b.signals b.starts no_steps))) ≡ step_of b inputs
steps_are b inputs = λ i n. at n i
  where
    at : (n : ℕ) → after_joints b.joints (after_all_kept (q_bits b.registers) (after_all_kept inputs (after_starts b.signals b.starts no_steps))) n ≡ step_of b inputs n
    at n =
        joints_are b.joints (after_all_kept (q_bits b.registers) (after_all_kept inputs (after_starts b.signals b.starts no_steps))) n
        ∙ ap (joined (joint_of b.joints n)) (
        all_kept (q_bits b.registers) (after_all_kept inputs (after_starts b.signals b.starts no_steps)) n
        ∙ ap (λ (k : Bool). kept k (after_all_kept inputs (after_starts b.signals b.starts no_steps) n)) (stored_is b.registers n)
        ∙ ap (kept (is_stored b.registers n)) (all_kept inputs (after_starts b.signals b.starts no_steps) n ∙ ap (kept (some_has inputs n)) (starts_are b.signals b.starts no_steps n))
        )
        ∙ stepped_is (joint_of b.joints n) (is_stored b.registers n) (some_has inputs n) (start_of b.signals b.starts n)

-- the same where these are the builder's parts
pub laid_are : (b : Building) (inputs ins : List Port) (table : List Step) (signals : List (List Bit)) (starts : List Word) (registers : List Register) (joints : List Joint)
    → signals ≡ b.signals → numbers_of starts ≡ b.starts → ins ≡ inputs → registers ≡ b.registers → joints ≡ b.joints
    → next_in table ≡ after_joints joints (after_all_kept (q_bits registers) (after_all_kept (bits_at ins) (after_starts signals (numbers_of starts) no_steps)))
    → next_in table ≡ step_of b (bits_at inputs)
laid_are b inputs ins table signals starts registers joints s t i r j laid =
    laid
    ∙ ap (λ (v : List ℕ). after_joints joints (after_all_kept (q_bits registers) (after_all_kept (bits_at ins) (after_starts signals v no_steps)))) t
    ∙ ap (λ (x : List (List Bit)). after_joints joints (after_all_kept (q_bits registers) (after_all_kept (bits_at ins) (after_starts x b.starts no_steps)))) s
    ∙ ap (λ (x : List Port). after_joints joints (after_all_kept (q_bits registers) (after_all_kept (bits_at x) (after_starts b.signals b.starts no_steps)))) i
    ∙ ap (λ (x : List Register). after_joints joints (after_all_kept (q_bits x) (after_all_kept (bits_at inputs) (after_starts b.signals b.starts no_steps)))) r
    ∙ ap (λ (x : List Joint). after_joints x (after_all_kept (q_bits b.registers) (after_all_kept (bits_at inputs) (after_starts b.signals b.starts no_steps)))) j
    ∙ steps_are b (bits_at inputs)
