-- One turn of a loop, what comes after it, and the turns that are left.
use Rattle.loop_turns.proofs.Common.{◌≡◌, zero, suc, ℕ, ◌<◌, ◌≤◌, ◌+◌, ◌-◌, ◌%◌, ◌^◌, Bool, true, false, not, nat_eq, nat_le, nat_lt, List, [], ◌∷◌, refl, sym, ap, ◌∙◌, subst, arith, Option, None}
use Rattle.loop_turns.proofs.Common.{Some, if◌then◌else◌, option_map, Word, Identifier, out-LeftSide, ConstError, Constant, least, const_error, Names, nothing, with_name, sense, assigned}
use Rattle.loop_turns.proofs.Common.{step_refusals, next_steps, next_value, Stops, faults_at, constant_fails, constant_stands, names_by_word, Passes, Ends, GoesOn, Answers, Counted, next_count}
use Rattle.loop_turns.proofs.Common.{taken_count, tested, turn_count, turns}
use Rattle.std.specs.Str.{bytes_eq}
use Rattle.std.proofs.Math.Nat.{mod-mod}
use Rattle.std.proofs.lemmas.Bool.Decides.{nat_tests}
use Rattle.vlog_effects.specs.Expressions.{where_faultless, constant_of, constant_faults}
use Rattle.vlog_effects.specs.Steps.{Steps, Done, Loop, flaws_of, max_turns, name_alone, name_flaw, step_flaws, stepped, tested_word, turn_names, with_word}
use Rattle.elab_proc.specs.declared.refusal.Refusal.{Refusal}
use Rattle.elab_proc.specs.Order.{IsFirst}
use Rattle.elab_proc.specs.Turns as following
use Rattle.loop_turns.specs.declared.walk.Turn.{Turn}
use Rattle.loop_turns.specs.Counts as c

-- What comes after the body of a turn.

pub next_stops : (loop : Loop) (here : Names) (refusal : Refusal) (later : ℕ → ℕ) → Stops loop here refusal → next_count loop here later ≡ 0
next_stops loop here refusal later stops = by_name (name_alone (out-LeftSide loop.step.left)) (stops false [] (λ n. Done)) where
  by_value : (fs : List ConstError) → IsFirst (step_refusals false [] (stepped [] (where_faultless fs (next_value loop here)) (flaws_of fs) (λ n. Done))) (Some refusal) → c.stepped [] (where_faultless fs (next_value loop here)) later ≡ 0
  by_value [] i = absurd i.0
  by_value (x ∷ more) i = refl

  by_test : (n : Identifier) (b : Bool) → IsFirst (step_refusals false [] (stepped (if b then [] else name_flaw (here n.name) n.span ∷ []) (constant_of here loop.width loop.step.value) (flaws_of (constant_faults here loop.width loop.step.value)) (λ n. Done))) (Some refusal) → c.stepped (if b then [] else name_flaw (here n.name) n.span ∷ []) (constant_of here loop.width loop.step.value) later ≡ 0
  by_test n true i = by_value (constant_faults here loop.width loop.step.value) i
  by_test n false i = refl

  by_name : (o : Option Identifier) → IsFirst (step_refusals false [] (stepped (step_flaws loop here o) (constant_of here loop.width loop.step.value) (flaws_of (constant_faults here loop.width loop.step.value)) (λ n. Done))) (Some refusal) → c.stepped (step_flaws loop here o) (constant_of here loop.width loop.step.value) later ≡ 0
  by_name None i = refl
  by_name (Some n) i = by_test n (bytes_eq n.name loop.name.name) i

pub next_goes : (loop : Loop) (here : Names) (later : ℕ → ℕ) → ((rest : ℕ → Steps) → next_steps loop here rest ≡ rest (next_value loop here)) → next_count loop here later ≡ later (next_value loop here)
next_goes loop here later goes = by_name (name_alone (out-LeftSide loop.step.left)) (goes (λ n. Done)) where
  by_value : (fs : List ConstError) → stepped [] (where_faultless fs (next_value loop here)) (flaws_of fs) (λ n. Done) ≡ Done → c.stepped [] (where_faultless fs (next_value loop here)) later ≡ later (next_value loop here)
  by_value [] e = refl
  by_value (x ∷ more) e = absurd cc

  by_test : (n : Identifier) (b : Bool) → stepped (if b then [] else name_flaw (here n.name) n.span ∷ []) (constant_of here loop.width loop.step.value) (flaws_of (constant_faults here loop.width loop.step.value)) (λ n. Done) ≡ Done → c.stepped (if b then [] else name_flaw (here n.name) n.span ∷ []) (constant_of here loop.width loop.step.value) later ≡ later (next_value loop here)
  by_test n true e = by_value (constant_faults here loop.width loop.step.value) e
  by_test n false e = absurd cc

  by_name : (o : Option Identifier) → stepped (step_flaws loop here o) (constant_of here loop.width loop.step.value) (flaws_of (constant_faults here loop.width loop.step.value)) (λ n. Done) ≡ Done → c.stepped (step_flaws loop here o) (constant_of here loop.width loop.step.value) later ≡ later (next_value loop here)
  by_name None e = absurd cc
  by_name (Some n) e = by_test n (bytes_eq n.name loop.name.name) e

-- One turn.

module _ (loop : Loop) (body : Counted) (here : Names) where
  -- the condition is no constant
  pub turn_fails : (fault : ConstError) (left : ℕ) → Some fault ≡ option_map const_error (least (faults_at here 1 loop.condition)) → Answers (turn_count loop body here) loop here left (Ends left)
  turn_fails fault left is later = let none : turn_count loop body here later ≡ 0 = ap (λ (o : Option ℕ). tested o (taken_count loop body here later)) (constant_fails here 1 loop.condition fault is) in omega (arith, none)

  suc_is_not_0 : (n : ℕ) → nat_eq (suc n) 0 ≡ false
  suc_is_not_0 n = grind (arith, nat_tests)

  test_ends : (n turn : ℕ) → false ≡ not (nat_eq n 0) → tested (Some n) turn ≡ 0
  test_ends zero turn e = refl
  test_ends (suc n) turn e = let z : nat_eq (suc n) 0 ≡ false = suc_is_not_0 n in let no : false ≡ true = e ∙ ap not z in cc

  test_goes : (n turn : ℕ) → true ≡ not (nat_eq n 0) → tested (Some n) turn ≡ turn
  test_goes zero turn e = absurd cc
  test_goes (suc n) turn e = refl

  pub turn_ends : (b : Bool) (left : ℕ) → None ≡ option_map const_error (least (faults_at here 1 loop.condition)) → b ≡ not (nat_eq ((sense here loop.condition).value nothing (assigned (sense here loop.condition) 1)) 0) → b ≡ false → Answers (turn_count loop body here) loop here left (Ends left)
  turn_ends b left stands is off later =
      let none : turn_count loop body here later ≡ 0 = ap (λ (o : Option ℕ). tested o (taken_count loop body here later)) (constant_stands here 1 loop.condition stands) ∙ test_ends ((sense here loop.condition).value nothing (assigned (sense here loop.condition) 1)) (taken_count loop body here later) (sym off ∙ is) in
      omega (arith, none)

  same_answer : (t : Turn) (left : ℕ) → ((later : ℕ → ℕ) → turn_count loop body here later ≡ taken_count loop body here later) → Answers (taken_count loop body here) loop here left t → Answers (turn_count loop body here) loop here left t
  same_answer Passes left same h = λ later. subst (λ (n : ℕ). left < n) (sym (same later)) (h later)
  same_answer (Ends rest) left same h = λ later. ap (λ (n : ℕ). rest + n) (same later) ∙ h later
  same_answer (GoesOn rest word) left same h = (h.0, h.1, λ later. ap (λ (n : ℕ). rest + n) (same later) ∙ h.2 later)

  pub turn_comes : (t : Turn) (b : Bool) (left : ℕ) → None ≡ option_map const_error (least (faults_at here 1 loop.condition)) → b ≡ not (nat_eq ((sense here loop.condition).value nothing (assigned (sense here loop.condition) 1)) 0) → b ≡ true → Answers (taken_count loop body here) loop here left t → Answers (turn_count loop body here) loop here left t
  turn_comes t b left stands is on h = same_answer t left (λ later. ap (λ (o : Option ℕ). tested o (taken_count loop body here later)) (constant_stands here 1 loop.condition stands) ∙ test_goes ((sense here loop.condition).value nothing (assigned (sense here loop.condition) 1)) (taken_count loop body here later) (sym on ∙ is)) h

  -- A turn that comes.

  pub taken_none : (left : ℕ) → left ≡ 0 → Answers (taken_count loop body here) loop here left Passes
  taken_none left none later = omega (arith, none)

  pub taken_passes : (left : ℕ) → left - 1 < body here → Answers (taken_count loop body here) loop here left Passes
  taken_passes left many later = omega (arith, many)

  pub taken_ends : (left rest : ℕ) (refusal : Refusal) → 1 ≤ left → rest + body here ≡ left - 1 → Stops loop here refusal → Answers (taken_count loop body here) loop here left (Ends rest)
  taken_ends left rest refusal some is stops later = let none = next_stops loop here refusal later stops in omega (arith, some, is, none)

  pub taken_goes : (left rest : ℕ) (word : Word) → 1 ≤ left → rest + body here ≡ left - 1 → following.GoesOn loop here word → Answers (taken_count loop body here) loop here left (GoesOn rest word)
  taken_goes left rest word some is next = (next.0, next.1, λ later. let same = next_goes loop here later next.2 in omega (arith, some, is, same))

-- The turns that are left.

module _ (loop : Loop) (body : Counted) where
  names_by_bits : (names : Names) (v : ℕ) → turn_names loop names (v % 2 ^ loop.width) ≡ turn_names loop names v
  names_by_bits names v =
      let by_bits : ℕ → Option Word = λ n. tested_word loop.width n (nat_le 1 loop.width) (nat_le loop.width 128) (nat_lt n (2 ^ loop.width)) refl refl refl in
      ap (λ (n : ℕ). with_word loop names (by_bits n)) (mod-mod v (2 ^ loop.width))

  turns_one : (most : ℕ) (names : Names) (v : ℕ) → turns (suc most) loop body names v ≡ turn_count loop body (turn_names loop names v) (λ next. turns most loop body names next)
  unfolding turns
  turns_one most names v = refl

  turns_none : (names : Names) (v : ℕ) → turns zero loop body names v ≡ 0
  unfolding turns
  turns_none names v = refl

  pub turns_by_bits : (most : ℕ) (names : Names) (v : ℕ) → turns most loop body names (v % 2 ^ loop.width) ≡ turns most loop body names v
  turns_by_bits zero names v = turns_none names (v % 2 ^ loop.width) ∙ sym (turns_none names v)
  turns_by_bits (suc most) names v = turns_one most names (v % 2 ^ loop.width) ∙ ap (λ (here : Names). turn_count loop body here (λ next. turns most loop body names next)) (names_by_bits names v) ∙ sym (turns_one most names v)

  turns_first : (n : ℕ) (names here : Names) (word : Word) → 1 ≤ n → word.width ≡ loop.width → here ≡ with_name names loop.name.name (Some (Constant word 0 loop.is_signed)) → turns n loop body names word.bits ≡ turn_count loop body here (λ next. turns (n - 1) loop body names next)
  turns_first zero names here word some e is = absurd (omega arith)
  turns_first (suc most) names here word some e is = let m : suc most - 1 ≡ most = omega arith in rw m (turns_one most names word.bits ∙ ap (λ (h : Names). turn_count loop body h (λ next. turns most loop body names next)) (names_by_word loop names word e ∙ sym is))

  turn_by_turn : (names here : Names) (word : Word) (k : ℕ) → k < max_turns → word.width ≡ loop.width → here ≡ with_name names loop.name.name (Some (Constant word 0 loop.is_signed)) → turns (max_turns - k) loop body names word.bits ≡ turn_count loop body here (λ next. turns (max_turns - (k + 1)) loop body names next)
  turn_by_turn names here word k h e is =
      let m : max_turns - k - 1 ≡ max_turns - (k + 1) = omega arith in
      turns_first (max_turns - k) names here word (omega arith) e is ∙ ap (λ (n : ℕ). turn_count loop body here (λ next. turns n loop body names next)) m

  -- so many turns were taken of all, and these are left
  abbrev pub Leads : Names → (k : ℕ) → (first word : Word) → (left rest : ℕ) → Type 0
  Leads names k first word left rest = rest + turns max_turns loop body names first.bits ≡ left + turns (max_turns - k) loop body names word.bits

  pub leads_pass : (names here : Names) (first word : Word) (k left rest : ℕ) → k < max_turns → word.width ≡ loop.width → here ≡ with_name names loop.name.name (Some (Constant word 0 loop.is_signed)) → Leads names k first word left rest → Answers (turn_count loop body here) loop here rest Passes → left < turns max_turns loop body names first.bits
  leads_pass names here first word k left rest h e is leads passes =
      let more = passes (λ next. turns (max_turns - (k + 1)) loop body names next) in
      let same = turn_by_turn names here word k h e is in
      omega (arith, more, same, leads)

  pub leads_end : (names here : Names) (first word : Word) (k left rest last : ℕ) → k < max_turns → word.width ≡ loop.width → here ≡ with_name names loop.name.name (Some (Constant word 0 loop.is_signed)) → Leads names k first word left rest → Answers (turn_count loop body here) loop here rest (Ends last) → last + turns max_turns loop body names first.bits ≡ left
  leads_end names here first word k left rest last h e is leads ends =
      let all = ends (λ next. turns (max_turns - (k + 1)) loop body names next) in
      let same = turn_by_turn names here word k h e is in
      omega (arith, all, same, leads)

  pub leads_on : (names here : Names) (first word next : Word) (k left rest after : ℕ) → k < max_turns → word.width ≡ loop.width → here ≡ with_name names loop.name.name (Some (Constant word 0 loop.is_signed)) → Leads names k first word left rest → Answers (turn_count loop body here) loop here rest (GoesOn after next) → Leads names (k + 1) first next left after
  leads_on names here first word next k left rest after h e is leads goes =
      let all = goes.2 (λ n. turns (max_turns - (k + 1)) loop body names n) in
      let same = turn_by_turn names here word k h e is in
      let later : turns (max_turns - (k + 1)) loop body names next.bits ≡ turns (max_turns - (k + 1)) loop body names (next_value loop here) = ap (turns (max_turns - (k + 1)) loop body names) goes.1 ∙ turns_by_bits (max_turns - (k + 1)) names (next_value loop here) in
      omega (arith, all, same, later, leads)

  pub leads_none : (names : Names) (first word : Word) (k left rest : ℕ) → max_turns ≤ k → Leads names k first word left rest → rest + turns max_turns loop body names first.bits ≡ left
  leads_none names first word k left rest h leads =
      let m : max_turns - k ≡ 0 = omega arith in
      let none : turns (max_turns - k) loop body names word.bits ≡ 0 = ap (λ (n : ℕ). turns n loop body names word.bits) m ∙ turns_none names word.bits in
      omega (arith, none, leads)
