-- The turns of a loop, one at a time.
use Rattle.elab_proc.proofs.Common.{◌≡◌, zero, suc, ℕ, ◌<◌, ◌≤◌, ◌+◌, ◌-◌, ◌%◌, ◌^◌, Bool, true, false, nat_eq, nat_le, nat_lt, List, [], ◌∷◌, ◌++◌, refl, sym, ap, ◌∙◌, subst, arith, Option, None}
use Rattle.elab_proc.proofs.Common.{Some, IsSome, not, if◌then◌else◌, option_map, Span, Word, Identifier, Expr, LeftSide, out-LeftSide, Assignment, ConstError, Fault, Decl, Constant, least}
use Rattle.elab_proc.proofs.Common.{const_error, Names, nothing, with_name, decl_shape, sense, assigned, constant_faults_at, told, where_faultless, constant_of, constant_faults, Steps, Done, Refuse}
use Rattle.elab_proc.proofs.Common.{Turns, Const, Flaw, InNames, Loop, followed, refused, tested_word, word_of, with_word, turn_names, flaws_of, tested, stepped, turns, max_turns, looped, loop_steps}
use Rattle.elab_proc.proofs.Common.{name_alone, step_flaws, Refusal, LoopTurns, IsFirst, const_refusal, step_refusals, AreSized, next_steps, turn_steps, next_value, Stops, AlikeBut, flaw_among}
use Rattle.std.specs.Str.{bytes_eq}
use Rattle.std.specs.Cmp.Lexicographic.{bytes_decides}
use Rattle.std.proofs.Math.Nat.{mod-mod, mod-eq_of_lt}
use Rattle.std.specs.Coded.{le_prop}
use Rattle.std.proofs.lemmas.Bool.{lt-ltb, le-leb}
use Rattle.std.proofs.lemmas.Bool.Decides.{nat_tests}
use Rattle.vlog_syntax.specs.declared.left_side.LeftSide.TheVariants as lv
use Rattle.vlog_meaning.specs.Operators.{IsSized}
use Rattle.vlog_meaning.proofs.Redeclared.{last_counts, restores}
use Rattle.vlog_effects.proofs.Folds.{out-name}
use Rattle.elab_proc.proofs.Firsts.{first_alone}
use Rattle.elab_proc.proofs.StepLemmas.{followed_refusals}

-- Constants.

abbrev pub faults_at : Names → ℕ → Expr → List Fault
faults_at names width x = constant_faults_at (sense names x) (assigned (sense names x) width)

pub constant_stands : (names : Names) (width : ℕ) (x : Expr) → None ≡ option_map const_error (least (faults_at names width x)) → constant_of names width x ≡ Some ((sense names x).value nothing (assigned (sense names x) width))
constant_stands names width x e = go (least (faults_at names width x)) e where
  v : ℕ
  v = (sense names x).value nothing (assigned (sense names x) width)

  go : (o : Option Fault) → None ≡ option_map const_error o → where_faultless (told o) v ≡ Some v
  go None e = refl
  go (Some f) e = cc

const_none : (o : Option Fault) (v : ℕ) (e : ConstError) → Some e ≡ option_map const_error o → where_faultless (told o) v ≡ None
const_none None v e is = cc
const_none (Some f) v e is = refl

pub constant_fails : (names : Names) (width : ℕ) (x : Expr) (e : ConstError) → Some e ≡ option_map const_error (least (faults_at names width x)) → constant_of names width x ≡ None
constant_fails names width x e is = const_none (least (faults_at names width x)) ((sense names x).value nothing (assigned (sense names x) width)) e is

-- the flaw of a constant that has no value
pub flaw_told : (o : Option Fault) (e : ConstError) → Some e ≡ option_map const_error o → refused (flaws_of (told o)) ≡ Refuse (Const e) Done
flaw_told None e is = cc
flaw_told (Some f) e is = let same : e ≡ const_error f = cc in ap (λ (x : ConstError). Refuse (Const x) Done) (sym same)

module _ (comb : Bool) (w : List Bool) where
  flaws_first : (o : Option Fault) (e : ConstError) → Some e ≡ option_map const_error o → IsFirst (step_refusals comb w (refused (flaws_of (told o)))) (Some (const_refusal e))
  flaws_first o e is = subst (λ (s : Steps). IsFirst (step_refusals comb w s) (Some (const_refusal e))) (sym (flaw_told o e is)) (first_alone (const_refusal e))

  -- steps that a constant begins, where it has no value
  pub failing : (names : Names) (width : ℕ) (x : Expr) (e : ConstError) (k : Option ℕ → Steps) → k None ≡ refused (flaws_of (constant_faults names width x)) → Some e ≡ option_map const_error (least (faults_at names width x)) → IsFirst (step_refusals comb w (k (constant_of names width x))) (Some (const_refusal e))
  failing names width x e k is fails =
      subst (λ (s : Steps). IsFirst (step_refusals comb w s) (Some (const_refusal e))) (sym (ap k (constant_fails names width x e fails) ∙ is)) (flaws_first (least (faults_at names width x)) e fails)

-- Tests.

suc_is_not_0 : (n : ℕ) → nat_eq (suc n) 0 ≡ false
suc_is_not_0 n = grind (arith, nat_tests)

pub test_goes : (here : Names) (x : Expr) (turn : Steps) (v : ℕ) → constant_of here 1 x ≡ Some v → true ≡ not (nat_eq v 0) → tested (constant_of here 1 x) (flaws_of (constant_faults here 1 x)) turn ≡ turn
test_goes here x turn zero is e = cc
test_goes here x turn (suc n) is e = ap (λ (o : Option ℕ). tested o (flaws_of (constant_faults here 1 x)) turn) is

pub test_ends : (here : Names) (x : Expr) (turn : Steps) (v : ℕ) → constant_of here 1 x ≡ Some v → false ≡ not (nat_eq v 0) → tested (constant_of here 1 x) (flaws_of (constant_faults here 1 x)) turn ≡ Done
test_ends here x turn zero is e = ap (λ (o : Option ℕ). tested o (flaws_of (constant_faults here 1 x)) turn) is
test_ends here x turn (suc n) is e = let z : nat_eq (suc n) 0 ≡ false = suc_is_not_0 n in let no : false ≡ true = e ∙ ap not z in cc

-- Steps.

flaw_none : (xs : List Flaw) → flaw_among xs ≡ None → xs ≡ []
flaw_none [] e = refl
flaw_none (x ∷ more) e = cc

pub next_fails : (comb : Bool) (w : List Bool) (loop : Loop) (here : Names) (later : ℕ → Steps) (e : ConstError) (o : Option Refusal) → o ≡ flaw_among (step_flaws loop here (name_alone (out-LeftSide loop.step.left))) → o ≡ None → Some e ≡ option_map const_error (least (faults_at here loop.width loop.step.value)) → IsFirst (step_refusals comb w (next_steps loop here later)) (Some (const_refusal e))
next_fails comb w loop here later e o is none fails =
    let flaws : List Flaw = flaws_of (constant_faults here loop.width loop.step.value) in
    subst (λ (xs : List Flaw). IsFirst (step_refusals comb w (stepped xs (constant_of here loop.width loop.step.value) flaws later)) (Some (const_refusal e))) (sym (flaw_none _ (sym is ∙ none))) (failing comb w here loop.width loop.step.value e (λ (v : Option ℕ). stepped [] v flaws later) refl fails)

pub next_goes : (loop : Loop) (here : Names) (later : ℕ → Steps) (o : Option Refusal) → o ≡ flaw_among (step_flaws loop here (name_alone (out-LeftSide loop.step.left))) → o ≡ None → None ≡ option_map const_error (least (faults_at here loop.width loop.step.value)) → next_steps loop here later ≡ later (next_value loop here)
next_goes loop here later o is none stands =
    let flaws : List Flaw = flaws_of (constant_faults here loop.width loop.step.value) in
    ap (λ (xs : List Flaw). stepped xs (constant_of here loop.width loop.step.value) flaws later) (flaw_none _ (sym is ∙ none)) ∙ ap (λ (v : Option ℕ). stepped [] v flaws later) (constant_stands here loop.width loop.step.value stands)

-- what comes after the last turn
pub limit_first : (comb : Bool) (w : List Bool) (at : Span) → IsFirst (step_refusals comb w (Refuse (Turns at) Done)) (Some (LoopTurns at))
limit_first comb w at = first_alone (LoopTurns at)

-- Words.

same_word : (w : Word) (some : 1 ≤ w.width) (narrow : w.width ≤ 128) (fits : w.bits < 2 ^ w.width) → Some (record { width = w.width; bits = w.bits; some = some; narrow = narrow; fits = fits }) ≡ Some w
same_word w some narrow fits =
    let by_some : (1 ≤ w.width) → Option Word = λ p. Some (record { width = w.width; bits = w.bits; some = p; narrow = narrow; fits = fits }) in
    let by_narrow : (w.width ≤ 128) → Option Word = λ p. Some (record { width = w.width; bits = w.bits; some = w.some; narrow = p; fits = fits }) in
    let by_fits : (w.bits < 2 ^ w.width) → Option Word = λ p. Some (record { width = w.width; bits = w.bits; some = w.some; narrow = w.narrow; fits = p }) in
    ap by_some (le_prop some w.some) ∙ ap by_narrow (le_prop narrow w.narrow) ∙ ap by_fits (le_prop fits w.fits)

tested_is : (w : Word) (a b c : Bool) (e : nat_le 1 w.width ≡ a) (f : nat_le w.width 128 ≡ b) (g : nat_lt w.bits (2 ^ w.width) ≡ c) → a ≡ true → b ≡ true → c ≡ true → tested_word w.width w.bits a b c e f g ≡ Some w
tested_is w true true true e f g h j k = same_word w _ _ _
tested_is w true true false e f g h j k = cc
tested_is w true false c e f g h j k = cc
tested_is w false b c e f g h j k = cc

-- a word of its own width and bits
pub word_again : (w : Word) → word_of w.width w.bits ≡ Some w
word_again w =
    let by_bits : ℕ → Option Word = λ n. tested_word w.width n (nat_le 1 w.width) (nat_le w.width 128) (nat_lt n (2 ^ w.width)) refl refl refl in
    ap by_bits (mod-eq_of_lt w.fits) ∙ tested_is w _ _ _ refl refl refl (le-leb 1 w.width w.some) (le-leb w.width 128 w.narrow) (lt-ltb w.bits (2 ^ w.width) w.fits)

pub names_by_word : (loop : Loop) (names : Names) (word : Word) → word.width ≡ loop.width → turn_names loop names word.bits ≡ with_name names loop.name.name (Some (Constant word 0 loop.is_signed))
names_by_word loop names word e = ap (with_word loop names) (ap (λ (n : ℕ). word_of n word.bits) (sym e) ∙ word_again word)

-- the names of a turn rest on the lowest bits of the variable's value
names_by_bits : (loop : Loop) (names : Names) (v : ℕ) → turn_names loop names (v % 2 ^ loop.width) ≡ turn_names loop names v
names_by_bits loop names v =
    let by_bits : ℕ → Option Word = λ n. tested_word loop.width n (nat_le 1 loop.width) (nat_le loop.width 128) (nat_lt n (2 ^ loop.width)) refl refl refl in
    ap (λ (n : ℕ). with_word loop names (by_bits n)) (mod-mod v (2 ^ loop.width))

turns_one : (most : ℕ) (loop : Loop) (body : InNames) (names : Names) (v : ℕ) → turns (suc most) loop body names v ≡ turn_steps loop body (turn_names loop names v) (λ next. turns most loop body names next)
unfolding turns
turns_one most loop body names v = refl

turns_last : (loop : Loop) (body : InNames) (names : Names) (v : ℕ) → turns zero loop body names v ≡ tested (constant_of (turn_names loop names v) 1 loop.condition) (flaws_of (constant_faults (turn_names loop names v) 1 loop.condition)) (Refuse (Turns loop.place) Done)
unfolding turns
turns_last loop body names v = refl

turns_by_bits : (most : ℕ) (loop : Loop) (body : InNames) (names : Names) (v : ℕ) → turns most loop body names (v % 2 ^ loop.width) ≡ turns most loop body names v
turns_by_bits zero loop body names v = turns_last loop body names (v % 2 ^ loop.width) ∙ ap (λ (here : Names). tested (constant_of here 1 loop.condition) (flaws_of (constant_faults here 1 loop.condition)) (Refuse (Turns loop.place) Done)) (names_by_bits loop names v) ∙ sym (turns_last loop body names v)
turns_by_bits (suc most) loop body names v = turns_one most loop body names (v % 2 ^ loop.width) ∙ ap (λ (here : Names). turn_steps loop body here (λ next. turns most loop body names next)) (names_by_bits loop names v) ∙ sym (turns_one most loop body names v)

-- the turns from a word on, of which there are some
pub turns_first : (n : ℕ) (loop : Loop) (body : InNames) (names : Names) (word : Word) → 1 ≤ n → word.width ≡ loop.width → turns n loop body names word.bits ≡ turn_steps loop body (with_name names loop.name.name (Some (Constant word 0 loop.is_signed))) (λ next. turns (n - 1) loop body names next)
turns_first zero loop body names word some e = absurd (omega arith)
turns_first (suc most) loop body names word some e = let m : suc most - 1 ≡ most = omega arith in rw m (turns_one most loop body names word.bits ∙ ap (λ (here : Names). turn_steps loop body here (λ next. turns most loop body names next)) (names_by_word loop names word e))

pub turns_none : (loop : Loop) (body : InNames) (names : Names) (word : Word) → word.width ≡ loop.width → turns zero loop body names word.bits ≡ tested (constant_of (with_name names loop.name.name (Some (Constant word 0 loop.is_signed))) 1 loop.condition) (flaws_of (constant_faults (with_name names loop.name.name (Some (Constant word 0 loop.is_signed))) 1 loop.condition)) (Refuse (Turns loop.place) Done)
turns_none loop body names word e = turns_last loop body names word.bits ∙ ap (λ (here : Names). tested (constant_of here 1 loop.condition) (flaws_of (constant_faults here 1 loop.condition)) (Refuse (Turns loop.place) Done)) (names_by_word loop names word e)

pub turns_next : (n : ℕ) (loop : Loop) (body : InNames) (names : Names) (word : Word) (v : ℕ) → word.bits ≡ v % 2 ^ loop.width → turns n loop body names v ≡ turns n loop body names word.bits
turns_next n loop body names word v is = sym (ap (turns n loop body names) is ∙ turns_by_bits n loop body names v)

-- Scopes.

sized_if : (b : Bool) (word : Word) (s : Bool) (d : Option Decl) → IsSized (decl_shape d) → IsSized (decl_shape (if b then Some (Constant word 0 s) else d))
sized_if true word s d k = record { some = word.some; narrow = word.narrow }
sized_if false word s d k = k

pub sized_with : (names : Names) (name : List ℕ) (word : Word) (s : Bool) → AreSized names → AreSized (with_name names name (Some (Constant word 0 s)))
sized_with names name word s k = λ other. sized_if (bytes_eq name other) word s (names other) (k other)

pub sized_after : (current after : Names) (name : List ℕ) (word : Word) (s : Bool) → after ≡ with_name current name (Some (Constant word 0 s)) → AreSized current → AreSized after
sized_after current after name word s is k = subst AreSized (sym is) (sized_with current name word s k)

some_if : (b : Bool) (d : Decl) (o : Option Decl) → b ≡ true → IsSome (if b then Some d else o)
some_if true d o e = refl
some_if false d o e = cc

pub some_after : (current after : Names) (name : List ℕ) (d : Decl) → after ≡ with_name current name (Some d) → IsSome (after name)
some_after current after name d is = subst (λ (n : Names). IsSome (n name)) (sym is) (some_if (bytes_eq name name) d (current name) ((bytes_decides name name).1 refl))

pub alike_after : (current old after : Names) (name : List ℕ) (d : Option Decl) → after ≡ with_name current name d → AlikeBut name current old → AlikeBut name after old
alike_after current old after name d is a = λ e. ap (λ (n : Names). with_name n name e) is ∙ last_counts current name d e ∙ a e

-- the outer declaration put back
pub put_back : (old mid after final : Names) (name : List ℕ) (d : Option Decl) (declared : Decl) → mid ≡ with_name old name d → AlikeBut name after mid → final ≡ with_name after name (Some declared) → Some declared ≡ old name → final ≡ old
put_back old mid after final name d declared m a f is =
    f ∙ a (Some declared) ∙ ap (λ (n : Names). with_name n name (Some declared)) m ∙ ap (λ (o : Option Decl). with_name (with_name old name d) name o) is ∙ restores old name d

-- What is left of the turns.

module _ (comb : Bool) (w : List Bool) (loop : Loop) (body : InNames) where
  abbrev pub turns_left : Names → ℕ → Word → List Refusal
  turns_left names n word = step_refusals comb w (turns n loop body names word.bits)

  pub turn_by_turn : (names here : Names) (word : Word) (k : ℕ) → k < max_turns → word.width ≡ loop.width → here ≡ with_name names loop.name.name (Some (Constant word 0 loop.is_signed)) → turns (max_turns - k) loop body names word.bits ≡ turn_steps loop body here (λ v. turns (max_turns - (k + 1)) loop body names v)
  turn_by_turn names here word k h e is =
      let m : max_turns - k - 1 ≡ max_turns - (k + 1) = omega arith in
      turns_first (max_turns - k) loop body names word (omega arith) e ∙
      ap (λ (n : Names). turn_steps loop body n (λ v. turns (max_turns - k - 1) loop body names v)) (sym is) ∙
      ap (λ (n : ℕ). turn_steps loop body here (λ v. turns n loop body names v)) m

  -- a turn, and the turns after it
  pub left_more : (names here : Names) (word next : Word) (k : ℕ) → k < max_turns → word.width ≡ loop.width → here ≡ with_name names loop.name.name (Some (Constant word 0 loop.is_signed)) → next.bits ≡ next_value loop here % 2 ^ loop.width → ((later : ℕ → Steps) → turn_steps loop body here later ≡ followed (body here) (later (next_value loop here))) → turns_left names (max_turns - k) word ≡ step_refusals comb w (body here) ++ turns_left names (max_turns - (k + 1)) next
  left_more names here word next k h e is bits goes =
      ap (step_refusals comb w) (turn_by_turn names here word k h e is ∙ goes (λ v. turns (max_turns - (k + 1)) loop body names v) ∙ ap (followed (body here)) (turns_next (max_turns - (k + 1)) loop body names next (next_value loop here) bits)) ∙
      followed_refusals comb w (body here) (turns (max_turns - (k + 1)) loop body names next.bits)

  -- a last turn
  pub left_ends : (names here : Names) (word : Word) (k : ℕ) (o : Option Refusal) → k < max_turns → word.width ≡ loop.width → here ≡ with_name names loop.name.name (Some (Constant word 0 loop.is_signed)) → ((later : ℕ → Steps) → IsFirst (step_refusals comb w (turn_steps loop body here later)) o) → IsFirst (turns_left names (max_turns - k) word) o
  left_ends names here word k o h e is ends = subst (λ (s : Steps). IsFirst (step_refusals comb w s) o) (sym (turn_by_turn names here word k h e is)) (ends (λ v. turns (max_turns - (k + 1)) loop body names v))

  -- no turn more
  pub left_none : (names here : Names) (word : Word) (k : ℕ) (o : Option Refusal) → max_turns ≤ k → word.width ≡ loop.width → here ≡ with_name names loop.name.name (Some (Constant word 0 loop.is_signed)) → IsFirst (step_refusals comb w (tested (constant_of here 1 loop.condition) (flaws_of (constant_faults here 1 loop.condition)) (Refuse (Turns loop.place) Done))) o → IsFirst (turns_left names (max_turns - k) word) o
  left_none names here word k o h e is i =
      let m : max_turns - k ≡ 0 = omega arith in
      subst (λ (s : Steps). IsFirst (step_refusals comb w s) o) (sym (ap (λ (n : ℕ). turns n loop body names word.bits) m ∙ turns_none loop body names word e ∙ ap (λ (n : Names). tested (constant_of n 1 loop.condition) (flaws_of (constant_faults n 1 loop.condition)) (Refuse (Turns loop.place) Done)) (sym is))) i

-- One turn.

module _ (comb : Bool) (w : List Bool) (loop : Loop) (body : InNames) (here : Names) where
  pub turn_fails : (e : ConstError) → Some e ≡ option_map const_error (least (faults_at here 1 loop.condition)) → (later : ℕ → Steps) → IsFirst (step_refusals comb w (turn_steps loop body here later)) (Some (const_refusal e))
  turn_fails e is later = failing comb w here 1 loop.condition e (λ (o : Option ℕ). tested o (flaws_of (constant_faults here 1 loop.condition)) (followed (body here) (next_steps loop here later))) refl is

  pub turn_ends : (b : Bool) → None ≡ option_map const_error (least (faults_at here 1 loop.condition)) → b ≡ not (nat_eq ((sense here loop.condition).value nothing (assigned (sense here loop.condition) 1)) 0) → b ≡ false → (later : ℕ → Steps) → IsFirst (step_refusals comb w (turn_steps loop body here later)) None
  turn_ends b stands is off later = ap (step_refusals comb w) (test_ends here loop.condition (followed (body here) (next_steps loop here later)) ((sense here loop.condition).value nothing (assigned (sense here loop.condition) 1)) (constant_stands here 1 loop.condition stands) (sym off ∙ is))

  pub turn_goes : (b : Bool) → None ≡ option_map const_error (least (faults_at here 1 loop.condition)) → b ≡ not (nat_eq ((sense here loop.condition).value nothing (assigned (sense here loop.condition) 1)) 0) → b ≡ true → (later : ℕ → Steps) → turn_steps loop body here later ≡ followed (body here) (next_steps loop here later)
  turn_goes b stands is on later = test_goes here loop.condition (followed (body here) (next_steps loop here later)) ((sense here loop.condition).value nothing (assigned (sense here loop.condition) 1)) (constant_stands here 1 loop.condition stands) (sym on ∙ is)

  pub turn_stops : (found r : Option Refusal) (refusal : Refusal) → ((later : ℕ → Steps) → turn_steps loop body here later ≡ followed (body here) (next_steps loop here later)) → IsFirst (step_refusals comb w (body here)) found → Stops loop here refusal → ((xs ys : List Refusal) → IsFirst xs found → IsFirst ys (Some refusal) → IsFirst (xs ++ ys) r) → (later : ℕ → Steps) → IsFirst (step_refusals comb w (turn_steps loop body here later)) r
  turn_stops found r refusal goes first stops joined later =
      subst (λ (l : List Refusal). IsFirst l r) (sym (ap (step_refusals comb w) (goes later) ∙ followed_refusals comb w (body here) (next_steps loop here later))) (joined (step_refusals comb w (body here)) (step_refusals comb w (next_steps loop here later)) first (stops comb w later))

-- Starts.

pub loop_by_name : (at : Span) (start : Assignment) (condition : Expr) (step : Assignment) (body : InNames) (names : Names) (n : Identifier) → start.left ≡ lv.Name n → loop_steps at start condition step body names (name_alone (out-LeftSide start.left)) ≡ looped at start condition step body names n (names n.name)
loop_by_name at start condition step body names n is = ap (λ (l : LeftSide). loop_steps at start condition step body names (name_alone (out-LeftSide l))) is ∙ ap (λ (o : Option Identifier). loop_steps at start condition step body names o) (ap name_alone (out-name n))
