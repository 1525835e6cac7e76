-- Loops turn by turn, and what ends them.
use Rattle.process_latches.proofs.Common.{◌≡◌, ℕ, ◌<◌, ◌≤◌, ◌+◌, ◌-◌, ◌%◌, ◌^◌, Bool, true, false, not, ◌||◌, nat_eq, List, [], ◌∷◌, refl, sym, ap, ◌∙◌, subst, arith, Option, None, Some}
use Rattle.process_latches.proofs.Common.{if◌then◌else◌, option_map, Span, Word, Identifier, Expr, out-LeftSide, ConstError, Fault, Decl, Signal, Constant, least, const_error, Names, nothing}
use Rattle.process_latches.proofs.Common.{with_name, no_bits, sense, assigned, told, where_faultless, constant_of, constant_faults, covered, early, Steps, Done, Refuse, Turns, Const, Flaw, InNames}
use Rattle.process_latches.proofs.Common.{Loop, followed, refused, flaws_of, name_flaw, step_flaws, name_alone, tested, stepped, turns, max_turns, Refusal, IsFirst, step_refusals, next_steps}
use Rattle.process_latches.proofs.Common.{turn_steps, next_value, Stops, Marks, Added, Marked, sound, has_stop, is_stop, last_steps, writes}
use Rattle.std.specs.Str.{bytes_eq}
use Rattle.elab_proc.proofs.TurnLemmas.{faults_at, flaw_told, constant_fails, constant_stands, test_ends, test_goes, turn_by_turn, turns_next, turns_none}
use Rattle.process_latches.proofs.Adding.{added_as, added_none}
use Rattle.process_latches.proofs.Following.{marked_then}

-- steps that do nothing, and among which something is refused for which no latch is looked for
pub record Halts (s : Steps) : Type 0 where
  pub covers : (n i : ℕ) → covered (sound s) no_bits n i ≡ false
  pub reads_none : (n i : ℕ) → early (sound s) no_bits n i ≡ false
  pub writes_none : writes (sound s) ≡ []
  pub stops : has_stop (sound s) ≡ true

pub halts_marked : (s : Steps) (a b : Marks) → Halts s → Added no_bits no_bits [] true a b → Marked (sound s) a b
halts_marked s a b h x = added_as no_bits no_bits (covered (sound s) no_bits) (early (sound s) no_bits) [] (writes (sound s)) true (has_stop (sound s)) a b (λ n i. sym (h.covers n i)) (λ n i. sym (h.reads_none n i)) (sym h.writes_none) (sym h.stops) x

refused_covers : (xs : List Flaw) (n i : ℕ) → covered (sound (refused xs)) no_bits n i ≡ false
refused_covers [] n i = refl
refused_covers (x ∷ more) n i = refused_covers more n i

refused_reads : (xs : List Flaw) (n i : ℕ) → early (sound (refused xs)) no_bits n i ≡ false
refused_reads [] n i = refl
refused_reads (x ∷ more) n i = refused_reads more n i

refused_writes : (xs : List Flaw) → writes (sound (refused xs)) ≡ []
refused_writes [] = refl
refused_writes (x ∷ more) = refused_writes more

pub refused_halts : (x : Flaw) (more : List Flaw) → is_stop x ≡ true → Halts (refused (x ∷ more))
refused_halts x more e = record { covers = refused_covers more; reads_none = refused_reads more; writes_none = refused_writes more; stops = ap (λ (b : Bool). b || has_stop (sound (refused more))) e }

faults_halt : (o : Option Fault) (e : ConstError) → Some e ≡ option_map const_error o → Halts (refused (flaws_of (told o)))
faults_halt o e is = subst Halts (sym (flaw_told o e is)) (refused_halts (Const e) [] refl)

-- steps that a constant begins, where it has no value
pub const_halts : (names : Names) (width : ℕ) (x : Expr) (e : ConstError) (k : Option ℕ → Steps) → k None ≡ refused (flaws_of (constant_faults names width x)) → Some e ≡ option_map const_error (least (faults_at names width x)) → Halts (k (constant_of names width x))
const_halts names width x e k is fails = subst Halts (sym (ap k (constant_fails names width x e fails) ∙ is)) (faults_halt (least (faults_at names width x)) e fails)

name_stops : (d : Option Decl) (place : Span) → is_stop (name_flaw d place) ≡ true
name_stops (Some (Signal width low is_signed number)) place = refl
name_stops (Some (Constant value low is_signed)) place = refl
name_stops None place = refl

-- what comes after the body of a turn, where it is refused
pub next_halts : (loop : Loop) (here : Names) (refusal : Refusal) (later : ℕ → Steps) → Stops loop here refusal → Halts (next_steps loop here later)
next_halts loop here refusal later stops = by_name (name_alone (out-LeftSide loop.step.left)) (stops false [] (λ n. Done)) where
  v : ℕ
  v = (sense here loop.step.value).value nothing (assigned (sense here loop.step.value) loop.width)

  by_value : (fs : List ConstError) → IsFirst (step_refusals false [] (stepped [] (where_faultless fs v) (flaws_of fs) (λ n. Done))) (Some refusal) → Halts (stepped [] (where_faultless fs v) (flaws_of fs) later)
  by_value [] i = absurd i.0
  by_value (x ∷ more) i = refused_halts (Const x) (flaws_of more) refl

  by_test : (n : Identifier) (b : Bool) → IsFirst (step_refusals false [] (stepped (if b then [] else name_flaw (here n.name) n.span ∷ []) (constant_of here loop.width loop.step.value) (flaws_of (constant_faults here loop.width loop.step.value)) (λ n. Done))) (Some refusal) → Halts (stepped (if b then [] else name_flaw (here n.name) n.span ∷ []) (constant_of here loop.width loop.step.value) (flaws_of (constant_faults here loop.width loop.step.value)) later)
  by_test n true i = by_value (constant_faults here loop.width loop.step.value) i
  by_test n false i = refused_halts (name_flaw (here n.name) n.span) [] (name_stops (here n.name) n.span)

  by_name : (o : Option Identifier) → IsFirst (step_refusals false [] (stepped (step_flaws loop here o) (constant_of here loop.width loop.step.value) (flaws_of (constant_faults here loop.width loop.step.value)) (λ n. Done))) (Some refusal) → Halts (stepped (step_flaws loop here o) (constant_of here loop.width loop.step.value) (flaws_of (constant_faults here loop.width loop.step.value)) later)
  by_name None i = refused_halts _ [] refl
  by_name (Some n) i = by_test n (bytes_eq n.name loop.name.name) i

-- One turn.

module _ (loop : Loop) (body : InNames) (here : Names) where
  pub fails_marked : (e : ConstError) (a b : Marks) → Some e ≡ option_map const_error (least (faults_at here 1 loop.condition)) → Added no_bits no_bits [] true a b → (later : ℕ → Steps) → Marked (sound (turn_steps loop body here later)) a b
  fails_marked e a b is x later = halts_marked (turn_steps loop body here later) a b (const_halts here 1 loop.condition e (λ (o : Option ℕ). tested o (flaws_of (constant_faults here 1 loop.condition)) (followed (body here) (next_steps loop here later))) refl is) x

  pub ends_marked : (t : Bool) (a : Marks) → None ≡ option_map const_error (least (faults_at here 1 loop.condition)) → t ≡ not (nat_eq ((sense here loop.condition).value nothing (assigned (sense here loop.condition) 1)) 0) → t ≡ false → (later : ℕ → Steps) → Marked (sound (turn_steps loop body here later)) a a
  ends_marked t a stands is off later = subst (λ (s : Steps). Marked (sound s) a a) (sym (test_ends here loop.condition (followed (body here) (next_steps loop here later)) ((sense here loop.condition).value nothing (assigned (sense here loop.condition) 1)) (constant_stands here 1 loop.condition stands) (sym off ∙ is))) (added_none a)

  pub stops_marked : (refusal : Refusal) (a b d : Marks) → ((later : ℕ → Steps) → turn_steps loop body here later ≡ followed (body here) (next_steps loop here later)) → Marked (sound (body here)) a b → Stops loop here refusal → Added no_bits no_bits [] true b d → (later : ℕ → Steps) → Marked (sound (turn_steps loop body here later)) a d
  stops_marked refusal a b d goes x stops y later = subst (λ (s : Steps). Marked (sound s) a d) (sym (goes later)) (marked_then (body here) (next_steps loop here later) a b d x (halts_marked (next_steps loop here later) b d (next_halts loop here refusal later stops) y))

-- The turns that are left.

module _ (loop : Loop) (body : InNames) where
  -- where these marks stand before the turns that are left, all turns lead from the marks at first to the same end
  abbrev pub Leads : Names → ℕ → Word → Word → Marks → Marks → Type 0
  Leads names k first word old now = (end : Marks) → Marked (sound (turns (max_turns - k) loop body names word.bits)) now end → Marked (sound (turns max_turns loop body names first.bits)) old end

  pub leads_on : (names here : Names) (first word next : Word) (k : ℕ) (old now new : Marks) → k < max_turns → word.width ≡ loop.width → here ≡ with_name names loop.name.name (Some (Constant word 0 loop.is_signed)) → next.bits ≡ next_value loop here % 2 ^ loop.width → ((later : ℕ → Steps) → turn_steps loop body here later ≡ followed (body here) (later (next_value loop here))) → Leads names k first word old now → Marked (sound (body here)) now new → Leads names (k + 1) first next old new
  leads_on names here first word next k old now new h e is bits goes leads x end y =
      let rest : Steps = turns (max_turns - (k + 1)) loop body names next.bits in
      leads end (subst (λ (s : Steps). Marked (sound s) now end) (sym (turn_by_turn false [] loop body names here word k h e is ∙ goes (λ v. turns (max_turns - (k + 1)) loop body names v) ∙ ap (followed (body here)) (turns_next (max_turns - (k + 1)) loop body names next (next_value loop here) bits))) (marked_then (body here) rest now new end x y))

  pub leads_end : (names here : Names) (first word : Word) (k : ℕ) (old now new : Marks) → k < max_turns → word.width ≡ loop.width → here ≡ with_name names loop.name.name (Some (Constant word 0 loop.is_signed)) → Leads names k first word old now → ((later : ℕ → Steps) → Marked (sound (turn_steps loop body here later)) now new) → Marked (sound (turns max_turns loop body names first.bits)) old new
  leads_end names here first word k old now new h e is leads x = leads new (subst (λ (s : Steps). Marked (sound s) now new) (sym (turn_by_turn false [] loop body names here word k h e is)) (x (λ v. turns (max_turns - (k + 1)) loop body names v)))

  pub leads_none : (names here : Names) (first word : Word) (k : ℕ) (old now new : Marks) → max_turns ≤ k → word.width ≡ loop.width → here ≡ with_name names loop.name.name (Some (Constant word 0 loop.is_signed)) → Leads names k first word old now → Marked (sound (last_steps loop.place here loop.condition)) now new → Marked (sound (turns max_turns loop body names first.bits)) old new
  leads_none names here first word k old now new h e is leads x =
      let m : max_turns - k ≡ 0 = omega arith in
      leads new (subst (λ (s : Steps). Marked (sound s) now new) (sym (ap (λ (n : ℕ). turns n loop body names word.bits) m ∙ turns_none loop body names word e ∙ ap (λ (n : Names). last_steps loop.place n loop.condition) (sym is))) x)

-- the test after the most turns
pub last_fails : (at : Span) (here : Names) (condition : Expr) (e : ConstError) (a b : Marks) → Some e ≡ option_map const_error (least (faults_at here 1 condition)) → Added no_bits no_bits [] true a b → Marked (sound (last_steps at here condition)) a b
last_fails at here condition e a b is x = halts_marked (last_steps at here condition) a b (const_halts here 1 condition e (λ (o : Option ℕ). tested o (flaws_of (constant_faults here 1 condition)) (Refuse (Turns at) Done)) refl is) x

pub last_ends : (at : Span) (here : Names) (condition : Expr) (t : Bool) (a : Marks) → None ≡ option_map const_error (least (faults_at here 1 condition)) → t ≡ not (nat_eq ((sense here condition).value nothing (assigned (sense here condition) 1)) 0) → t ≡ false → Marked (sound (last_steps at here condition)) a a
last_ends at here condition t a stands is off = subst (λ (s : Steps). Marked (sound s) a a) (sym (test_ends here condition (Refuse (Turns at) Done) ((sense here condition).value nothing (assigned (sense here condition) 1)) (constant_stands here 1 condition stands) (sym off ∙ is))) (added_none a)

pub last_more : (at : Span) (here : Names) (condition : Expr) (t : Bool) (a b : Marks) → None ≡ option_map const_error (least (faults_at here 1 condition)) → t ≡ not (nat_eq ((sense here condition).value nothing (assigned (sense here condition) 1)) 0) → t ≡ true → Added no_bits no_bits [] true a b → Marked (sound (last_steps at here condition)) a b
last_more at here condition t a b stands is on x = subst (λ (s : Steps). Marked (sound s) a b) (sym (test_goes here condition (Refuse (Turns at) Done) ((sense here condition).value nothing (assigned (sense here condition) 1)) (constant_stands here 1 condition stands) (sym on ∙ is))) (halts_marked (refused (Turns at ∷ [])) a b (refused_halts (Turns at) [] refl) x)
