-- Start values go on as the statements of an `initial` do.
use Rattle.process_cells.proofs.Common.{◌≡◌, ℕ, zero, suc, ◌+◌, ◌-◌, ◌*◌, ◌/◌, ◌%◌, ◌^◌, ◌<◌, max, ℤ, pos, ◌+ℤ◌, Bool, true, false, ◌&&◌, List, [], ◌∷◌, ◌++◌, map, length, take, get_or, nat_eq, refl}
use Rattle.process_cells.proofs.Common.{sym, ap, ◌∙◌, subst, inl, inr, arith, length-append, append_assoc, nat_lt, nat_le, slice_set, if◌then◌else◌, flat_map, le-leb, lt-ltb, eqb_tells, nat_tests}
use Rattle.process_cells.proofs.Common.{length-set, get_or-set_same, get_or-set_other, Span, Word, InitialForm, Identifier, Expr, LeftSide, out-LeftSide, Process, Assignment, CaseItem, Stmt, out-Stmt}
use Rattle.process_cells.proofs.Common.{fold-CaseItem, fold_out-Stmt, map-Stmt, Stmt-F, Fault, Decl, Signal, Constant, Names, Store, nothing, sense, value_size, constant_faults_at, left_nil}
use Rattle.process_cells.proofs.Common.{right_nil, Values, State, Update, numbers, updated, updated_all, put_all, part_updates, updates_of, right_bits, assigned, effect, started, left_by, number}
use Rattle.process_cells.proofs.Common.{bits_of, value, width_of, is_signed_of, is_constant, Whole, Part, Vector, vector_of, parts_of, bit_at, bits_from, written, parts_width, width_by, Steps, Assign}
use Rattle.process_cells.proofs.Common.{Done, InNames, assigning, in_turn, name_alone, steps_of, number-small, length-bits_of, length-written, Building, HasSignals, IsSignal, signal, start_bits}
use Rattle.process_cells.proofs.Common.{with_start, Refusal, Wrong, Unsupported, Sensitivity, Once, sensitivity, value_refusals, start_refusals, assignment_refusals, initial_step, initial_item}
use Rattle.process_cells.proofs.Common.{initial_refusals, initial_block, initial_assignment, refusals_by, process_refusals, widths_in, statement, process_steps, effect_of}
use Rattle.std.proofs.Common.{◌==◌}
use Rattle.std.specs.Prelude.{Option, None, Some}
use Rattle.std.specs.Option.{option_map}
use Rattle.std.proofs.Math.Arith.{mod-mul}
use Rattle.std.proofs.Math.Nat.{pow-succ', mod-eq_of_lt}
use Rattle.std.proofs.lemmas.Int.{ints}
use Rattle.std.proofs.lemmas.Nat.{pow_pos}
use Rattle.vlog_syntax.specs.declared.left_side.LeftSide.TheVariants as lv
use Rattle.vlog_syntax.specs.declared.stmt.Stmt.TheVariants as sv
use Rattle.vlog_syntax.specs.declared.stmt.Stmt.TheOpen as t
use Rattle.vlog_meaning.specs.declared.fault.ConstError.{ConstError}
use Rattle.vlog_meaning.specs.Answers.{least, const_error}
use Rattle.vlog_meaning.proofs.Refusals.{least_empty}
use Rattle.vlog_effects.proofs.Alike.{value-constant}
use Rattle.vlog_effects.proofs.Folds.{parts-name, out-name}
use Rattle.vlog_effects.proofs.Running.{effects-follow, steps-blocking}
use Rattle.vlog_effects.proofs.Variants.{steps-block}
use Rattle.elab_proc.proofs.Lists.{flat_take, map_take}
use Rattle.process_cells.specs.Starts.{assigned_value, once, process_starts, StartsWith, SameButStarts, HasState, GoesOn}

-- Only start values change.
pub same_others : (old mid new : Building) → SameButStarts old mid → SameButStarts mid new → SameButStarts old new
same_others old mid new e f = f ∙ ap (λ (b : Building). record b { starts = new.starts }) e

pub signals_stay : (names : Names) (old new : Building) → SameButStarts old new → HasSignals names old → HasSignals names new
signals_stay names old new e has = subst (HasSignals names) (sym e) has

-- Statements, one after the other.

pub goes_done : (b : Building) → GoesOn Done b b
goes_done b s h = h

last_turn : (xs : List InNames) (x : InNames) (names : Names) (s : State) → effect (in_turn (xs ++ x ∷ []) names) s ≡ effect (x names) (effect (in_turn xs names) s)
last_turn [] x names s = effects-follow (x names) Done s
last_turn (y ∷ xs) x names s =
    effects-follow (y names) (in_turn (xs ++ x ∷ []) names) s ∙ last_turn xs x names (effect (y names) s) ∙
    ap (effect (x names)) (sym (effects-follow (y names) (in_turn xs names) s))

pub turn_more : (names : Names) (body : List Stmt) (k : ℕ) (x : Stmt) (old mid new : Building) → x ≡ get_or body k x → k < length body
    → (flat_map (initial_refusals names) (take k body) ≡ [] → GoesOn (in_turn (map steps_of (take k body)) names) old mid) → (initial_refusals names x ≡ [] → GoesOn (steps_of x names) mid new)
    → flat_map (initial_refusals names) (take (suc k) body) ≡ [] → GoesOn (in_turn (map steps_of (take (suc k) body)) names) old new
turn_more names body k x old mid new is less before here none s has =
    let split : flat_map (initial_refusals names) (take k body) ++ initial_refusals names x ≡ [] = sym (flat_take (initial_refusals names) body k x is less) ∙ none in
    let left = before (left_nil (flat_map (initial_refusals names) (take k body)) (initial_refusals names x) split) s has in
    let right = here (right_nil (flat_map (initial_refusals names) (take k body)) (initial_refusals names x) split) (effect (in_turn (map steps_of (take k body)) names) s) left in
    subst (λ (xs : List InNames). HasState new (effect (in_turn xs names) s)) (sym (map_take steps_of body k x is less)) (subst (HasState new) (sym (last_turn (map steps_of (take k body)) (steps_of x) names s)) right)

-- A whole vector is written.

bit_here : (v : Vector) (i : ℕ) → i < v.width → bit_at v (pos (v.low + i)) ≡ Some i
bit_here v i less =
    let back : v.low + i - v.low ≡ i = omega arith in
    let above : nat_le v.low (v.low + i) ≡ true = le-leb v.low (v.low + i) (omega arith) in
    let below : nat_lt i v.width ≡ true = lt-ltb i v.width less in
    ap (λ (b : Bool). if b && nat_lt (v.low + i - v.low) v.width then Some (v.low + i - v.low) else None) above ∙
    ap (λ (j : ℕ). if nat_lt j v.width then Some j else None) back ∙ ap (λ (b : Bool). if b then Some i else None) below

set_there : (pre post : List Bool) (y b : Bool) → slice_set (pre ++ y ∷ post) (length pre) b ≡ (pre ++ b ∷ []) ++ post
set_there [] post y b = refl
set_there (x ∷ pre) post y b = ap (λ (l : List Bool). x ∷ l) (set_there pre post y b)

whole_from : (v : Vector) (pre post vs : List Bool) → length post ≡ length vs → length pre + length vs ≡ v.width → written (pre ++ post) (bits_from v (pos (v.low + length pre)) (length vs)) vs ≡ pre ++ vs
whole_from v pre [] [] e f = refl
whole_from v pre (y ∷ post) [] e f = absurd (omega arith)
whole_from v pre [] (b ∷ vs) e f = absurd (omega arith)
whole_from v pre (y ∷ post) (b ∷ vs) e f =
    let here : length pre < v.width = omega arith in
    let long : length (pre ++ b ∷ []) ≡ length pre + 1 = length-append pre (b ∷ []) in
    let next : pos (v.low + length pre) +ℤ pos 1 ≡ pos (v.low + length (pre ++ b ∷ [])) = omega (arith, ints) in
    ap (λ (o : Option ℕ). written (pre ++ y ∷ post) (o ∷ bits_from v (pos (v.low + length pre) +ℤ pos 1) (length vs)) (b ∷ vs)) (bit_here v (length pre) here)
    ∙ ap (λ (l : List Bool). written l (bits_from v (pos (v.low + length pre) +ℤ pos 1) (length vs)) vs) (set_there pre post y b)
    ∙ ap (λ (z : ℤ). written ((pre ++ b ∷ []) ++ post) (bits_from v z (length vs)) vs) next
    ∙ whole_from v (pre ++ b ∷ []) post vs (omega arith) (omega arith)
    ∙ append_assoc pre (b ∷ []) vs

whole_written : (v : Vector) (old vs : List Bool) → length old ≡ v.width → length vs ≡ v.width → written old (bits_from v (pos v.low) v.width) vs ≡ vs
whole_written v old vs e f =
    let start : v.low + 0 ≡ v.low = omega arith in
    ap (λ (w : ℕ). written old (bits_from v (pos v.low) w) vs) (sym f) ∙ ap (λ (l : ℕ). written old (bits_from v (pos l) (length vs)) vs) (sym start) ∙ whole_from v [] old vs (e ∙ sym f) (omega arith)

-- The lowest bits of a number.

one_more : (q r : ℕ) → r ≡ 1 → 1 + 2 * q ≡ q * 2 + r
one_more q r e = omega arith

none_more : (q r : ℕ) → r ≡ 0 → 2 * q ≡ q * 2 + r
none_more q r e = omega arith

lowest : (width v : ℕ) → number (bits_of width v) ≡ v % 2 ^ width
lowest zero v = omega arith
lowest (suc width) v = go (v % 2 == 1) refl (lowest width (v / 2))
  where
    split : v % 2 ^ suc width ≡ (v / 2 % 2 ^ width) * 2 + v % 2
    split = let twice : 2 ^ suc width ≡ 2 ^ width * 2 = omega (arith, pow-succ' 2 width) in ap (λ (m : ℕ). v % m) twice ∙ mod-mul v {m = 2 ^ width} {c = 2} (pow_pos width) (omega arith)

    go : (b : Bool) → (v % 2 == 1) ≡ b → number (bits_of width (v / 2)) ≡ v / 2 % 2 ^ width → number (b ∷ bits_of width (v / 2)) ≡ v % 2 ^ suc width
    go true e more = let one : v % 2 ≡ 1 = grind (arith, nat_tests) in ap (λ (x : ℕ). 1 + 2 * x) more ∙ one_more (v / 2 % 2 ^ width) (v % 2) one ∙ sym split
    go false e more = let none : v % 2 ≡ 0 = grind (arith, nat_tests) in ap (λ (x : ℕ). 2 * x) more ∙ none_more (v / 2 % 2 ^ width) (v % 2) none ∙ sym split

-- An assignment of a constant to a whole variable.

module _ (names : Names) (a : Assignment) (n : Identifier) (width low : ℕ) (sign : Bool) (k : ℕ) (named : a.left ≡ lv.Name n) (declared : names n.name ≡ Some (Signal width low sign k)) (constant : is_constant names a.value ≡ true) where
  abbrev vector : Vector
  vector = record { number = k; width = width; low = low }

  abbrev update : ℕ → State → Update
  update w s = record { number = k; places = bits_from vector (pos low) width; bits = right_bits names w a.value s.now }

  abbrev after : ℕ → State → State
  after w s = record s { now = updated (update w s) s.now }

  abbrev by_vector : State → Option Vector → State
  by_vector s o = put_all true ([] ++ part_updates names s.now (record { name = n; select = Whole }) o (right_bits names (width_by names Whole o + 0) a.value s.now)) s

  assigned_is : (s : State) → assigned (assigning true a names) s ≡ after width s
  assigned_is s =
      let last : width + 0 ≡ width = omega arith in
      ap (λ (ps : List Part). put_all true (updates_of names s.now ps (right_bits names (parts_width names ps) a.value s.now)) s) (ap parts_of named ∙ parts-name n)
      ∙ ap (by_vector s) (ap vector_of declared)
      ∙ ap (λ (w : ℕ). after w s) last

  number_is : (s : State) → number (right_bits names width a.value s.now) ≡ assigned_value names a.value width
  number_is s =
      let same : max width (width_of names a.value) ≡ max (width_of names a.value) width = omega arith in
      let sign_of : Bool = is_signed_of names a.value in
      lowest width (value names (numbers s.now) (max width (width_of names a.value)) sign_of a.value)
      ∙ ap (λ (x : ℕ). x % 2 ^ width) (value-constant names a.value (numbers s.now) nothing (max width (width_of names a.value)) sign_of constant ∙ ap (λ (m : ℕ). value names nothing m sign_of a.value) same)

  -- the start value of each signal
  start_at : (old : Building) (s : State) → k < length old.signals → length (signal old k) ≡ width → HasState old s → (j : ℕ) → start_bits (with_start k (assigned_value names a.value width) old) j ≡ number ((after width s).now j)
  start_at old s known wide h j =
      let v : ℕ = assigned_value names a.value width in
      let bits : List Bool = right_bits names width a.value s.now in
      let there : k < length old.starts = subst (λ (m : ℕ). k < m) (sym h.count) known in
      let whole : written (s.now k) (bits_from vector (pos low) width) bits ≡ bits = whole_written vector (s.now k) bits (h.wide k ∙ wide) (length-bits_of width _) in
      elim (eqb_tells j k) [
        | inl e ↦ rw e.0 (ap (start_bits (with_start k v old)) e.1 ∙ get_or-set_same old.starts k v 0 there ∙ sym (ap (λ (m : ℕ). number (written (s.now m) (bits_from vector (pos low) width) bits)) e.1 ∙ ap number whole ∙ number_is s))
        | inr e ↦ rw e.0 (get_or-set_other old.starts k j v 0 e.1 ∙ h.start j)
      ]

  wide_at : (old : Building) (s : State) → HasState old s → (j : ℕ) → length ((after width s).now j) ≡ length (signal old j)
  wide_at old s h j = go (nat_eq j k)
    where
      go : (b : Bool) → length (if b then written (s.now j) (bits_from vector (pos low) width) (right_bits names width a.value s.now) else s.now j) ≡ length (signal old j)
      go true = length-written (s.now j) (bits_from vector (pos low) width) (right_bits names width a.value s.now) ∙ h.wide j
      go false = h.wide j

  pub assignment_goes : (old : Building) → k < length old.signals → length (signal old k) ≡ width → GoesOn (Assign (assigning true a names) Done) old (with_start k (assigned_value names a.value width) old)
  assignment_goes old known wide s h =
      let v : ℕ = assigned_value names a.value width in
      subst (HasState (with_start k v old)) (sym (assigned_is s)) (record {
        count = length-set old.starts k v ∙ h.count;
        start = start_at old s known wide h;
        wide = wide_at old s h;
        settled = h.settled;
      })

-- An assignment in which nothing is refused is one of a constant to a whole variable.

no_fault : (fs : List Fault) → map Wrong fs ≡ [] → fs ≡ []
no_fault [] e = refl
no_fault (f ∷ more) e = absurd cc

constant_value : (names : Names) (n : Identifier) (width : ℕ) (value : Expr) → value_refusals names n width value ≡ [] → (is_constant names value ≡ true) × (constant_faults_at (sense names value) (value_size (sense names value) width) ≡ [])
constant_value names n width value none = go (is_constant names value) refl none
  where
    fs : List Fault
    fs = constant_faults_at (sense names value) (value_size (sense names value) width)

    go : (b : Bool) → is_constant names value ≡ b → (if b then map Wrong fs else Unsupported n.span InitialForm ∷ []) ≡ [] → (is_constant names value ≡ true) × (fs ≡ [])
    go true is e = (is, no_fault fs e)
    go false is e = absurd cc

by_name : (names : Names) (a : Assignment) (n : Identifier) (d : Option Decl) → a.left ≡ lv.Name n → d ≡ names n.name → assignment_refusals names a (name_alone (out-LeftSide a.left)) ≡ start_refusals names n a.value d
by_name names a n d named is =
    ap (λ (l : LeftSide). assignment_refusals names a (name_alone (out-LeftSide l))) named ∙ ap (λ (o : Option Identifier). assignment_refusals names a o) (ap name_alone (out-name n)) ∙ ap (start_refusals names n a.value) (sym is)

pub signal_there : (names : Names) (b : Building) (n : Identifier) (d e : Option Decl) → d ≡ names n.name → d ≡ e → HasSignals names b → IsSignal b e
signal_there names b n d e is same has = subst (IsSignal b) (sym is ∙ same) (has n.name)

pub signal_starts : (names : Names) (a : Assignment) (n : Identifier) (d : Option Decl) (width low : ℕ) (sign : Bool) (k : ℕ) (value : Expr) (old new : Building) → a.left ≡ lv.Name n → d ≡ names n.name → d ≡ Some (Signal width low sign k) → value ≡ a.value → HasSignals names old
    → (constant_faults_at (sense names value) (value_size (sense names value) width) ≡ [] → new ≡ with_start k (assigned_value names value width) old)
    → assignment_refusals names a (name_alone (out-LeftSide a.left)) ≡ [] → GoesOn (Assign (assigning true a names) Done) old new
signal_starts names a n d width low sign k value old new named is signal same has starts none =
    let quiet : value_refusals names n width a.value ≡ [] = ap (start_refusals names n a.value) (sym signal) ∙ sym (by_name names a n d named is) ∙ none in
    let found = constant_value names n width a.value quiet in
    let there : IsSignal old (Some (Signal width low sign k)) = signal_there names old n d (Some (Signal width low sign k)) is signal has in
    let last : new ≡ with_start k (assigned_value names a.value width) old = subst (λ (x : Expr). constant_faults_at (sense names x) (value_size (sense names x) width) ≡ [] → new ≡ with_start k (assigned_value names x width) old) same starts found.1 in
    subst (GoesOn (Assign (assigning true a names) Done) old) (sym last) (assignment_goes names a n width low sign k named (sym is ∙ signal) found.0 old there.0 there.1)

-- another name is refused, and so is another left side
pub constant_starts : (names : Names) (a : Assignment) (n : Identifier) (d : Option Decl) (word : Word) (low : ℕ) (sign : Bool) (old : Building) → a.left ≡ lv.Name n → d ≡ names n.name → d ≡ Some (Constant word low sign) → assignment_refusals names a (name_alone (out-LeftSide a.left)) ≡ [] → GoesOn (Assign (assigning true a names) Done) old old
constant_starts names a n d word low sign old named is constant none =
    let e : start_refusals names n a.value (Some (Constant word low sign)) ≡ [] = ap (start_refusals names n a.value) (sym constant) ∙ sym (by_name names a n d named is) ∙ none in absurd cc

pub unknown_starts : (names : Names) (a : Assignment) (n : Identifier) (d : Option Decl) (old : Building) → a.left ≡ lv.Name n → d ≡ names n.name → d ≡ None → assignment_refusals names a (name_alone (out-LeftSide a.left)) ≡ [] → GoesOn (Assign (assigning true a names) Done) old old
unknown_starts names a n d old named is unknown none =
    let e : start_refusals names n a.value None ≡ [] = ap (start_refusals names n a.value) (sym unknown) ∙ sym (by_name names a n d named is) ∙ none in absurd cc

pub unnamed_starts : (names : Names) (a : Assignment) (old : Building) → name_alone (out-LeftSide a.left) ≡ None → assignment_refusals names a (name_alone (out-LeftSide a.left)) ≡ [] → GoesOn (Assign (assigning true a names) Done) old old
unnamed_starts names a old is none =
    let e : assignment_refusals names a None ≡ [] = ap (assignment_refusals names a) (sym is) ∙ none in absurd cc

-- a value that has faults gives none
pub no_error : {T : Type 0} (fs : List Fault) (e : ConstError) → Some e ≡ option_map const_error (least fs) → fs ≡ [] → T
no_error fs e is none =
    let f : Some e ≡ option_map const_error None = is ∙ ap (λ (l : List Fault). option_map const_error (least l)) none ∙ ap (option_map const_error) (sym least_empty) in absurd cc

-- Statements by their forms.

pub block_starts : (names : Names) (s : Stmt) (at : Span) (label : Option Identifier) (body items : List Stmt) (old new : Building) → s ≡ sv.SeqBlock at label body → items ≡ body → (flat_map (initial_refusals names) items ≡ [] → GoesOn (in_turn (map steps_of items) names) old new) → initial_refusals names s ≡ [] → GoesOn (steps_of s names) old new
block_starts names s at label body items old new is same goes none =
    let quiet : flat_map (initial_refusals names) body ≡ [] = sym (ap (initial_refusals names) is ∙ initial_block names at label body) ∙ none in
    let here : flat_map (initial_refusals names) body ≡ [] → GoesOn (in_turn (map steps_of body) names) old new = subst (λ (xs : List Stmt). flat_map (initial_refusals names) xs ≡ [] → GoesOn (in_turn (map steps_of xs) names) old new) same goes in
    subst (λ (x : Steps). GoesOn x old new) (sym (ap (λ (y : Stmt). steps_of y names) is ∙ steps-block at label body names)) (here quiet)

pub assignment_starts : (names : Names) (s : Stmt) (a : Assignment) (old new : Building) → s ≡ sv.BlockingAssignment a → (assignment_refusals names a (name_alone (out-LeftSide a.left)) ≡ [] → GoesOn (Assign (assigning true a names) Done) old new) → initial_refusals names s ≡ [] → GoesOn (steps_of s names) old new
assignment_starts names s a old new is goes none =
    let quiet : assignment_refusals names a (name_alone (out-LeftSide a.left)) ≡ [] = sym (ap (initial_refusals names) is ∙ initial_assignment names a) ∙ none in
    subst (λ (x : Steps). GoesOn x old new) (sym (ap (λ (y : Stmt). steps_of y names) is ∙ steps-blocking a names)) (goes quiet)

-- Processes.

-- the values that a builder starts with are those of a state
begins : (b : Building) (store : Store) → StartsWith b store → HasState b (started (λ k. bits_of (length (signal b k)) (store k)))
begins b store h = record {
  count = h.count;
  start = λ k. h.start k ∙ sym (lowest (length (signal b k)) (store k) ∙ mod-eq_of_lt (h.fits k));
  wide = λ k. length-bits_of (length (signal b k)) (store k);
  settled = refl;
}

pub starts_with : (steps : Steps) (old new : Building) (store : Store) → GoesOn steps old new → StartsWith old store → StartsWith new (effect_of (widths_in old) steps store)
starts_with steps old new store goes h =
    let x : Values = λ k. bits_of (length (signal old k)) (store k) in
    let t : State = effect steps (started x) in
    let ends : HasState new t = goes (started x) (begins old store h) in
    let left : (k : ℕ) → t.now k ≡ left_by steps x k = λ k. ap (λ (us : List Update). updated_all us t.now k) (sym ends.settled) in
    record {
      count = ends.count;
      start = λ k. ends.start k ∙ ap number (left k);
      fits = λ k. subst (λ (w : ℕ). number (left_by steps x k) < 2 ^ w) (ap length (sym (left k)) ∙ ends.wide k) (number-small (left_by steps x k));
    }

-- a statement in which nothing is refused waits for no events
pub waits_not : (names : Names) (body : Stmt) → initial_refusals names body ≡ [] → statement body (out-Stmt body) ≡ body
waits_not names body none = go (out-Stmt body) (sym (fold_out-Stmt (List Refusal) (List Refusal) (initial_step names) initial_item body) ∙ none)
  where
    go : (f : Stmt-F Stmt CaseItem) → initial_step names (map-Stmt Stmt CaseItem (List Refusal) (List Refusal) (initial_refusals names) (fold-CaseItem (List Refusal) (List Refusal) (initial_step names) initial_item) f) ≡ [] → statement body f ≡ body
    go (t.EventControl at control inner) e = absurd cc
    go other e = refl

pub process_starts_with : (names : Names) (written : List Bool) (p : Process) (body : Stmt) (old new : Building) (store : Store) → sensitivity p ≡ Once → body ≡ p.body → (initial_refusals names body ≡ [] → GoesOn (steps_of body names) old new) → process_refusals names written p ≡ [] → StartsWith old store → StartsWith new (process_starts (widths_in old) names p store)
process_starts_with names written p body old new store is same goes none h =
    let quiet : initial_refusals names p.body ≡ [] = subst (λ (when : Sensitivity). refusals_by names written p.span when p.body ≡ []) is none in
    let here : initial_refusals names p.body ≡ [] → GoesOn (steps_of p.body names) old new = subst (λ (b : Stmt). initial_refusals names b ≡ [] → GoesOn (steps_of b names) old new) same goes in
    let steps : GoesOn (process_steps names p) old new = subst (λ (b : Stmt). GoesOn (steps_of b names) old new) (sym (waits_not names p.body quiet)) (here quiet) in
    subst (λ (when : Sensitivity). StartsWith new (once (widths_in old) when (process_steps names p) store)) (sym is) (starts_with (process_steps names p) old new store steps h)

-- one that does not run once
pub process_starts_not : (names : Names) (p : Process) (b : Building) (store : Store) (when : Sensitivity) → sensitivity p ≡ when → once (widths_in b) when (process_steps names p) store ≡ store → StartsWith b store → StartsWith b (process_starts (widths_in b) names p store)
process_starts_not names p b store when is same h =
    subst (StartsWith b) (sym (ap (λ (x : Sensitivity). once (widths_in b) x (process_steps names p) store) is ∙ same)) h
