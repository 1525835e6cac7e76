-- The turns of a loop, one after the other.
use Rattle.proc_muxes.proofs.Common.{◌≡◌, ℕ, zero, suc, ◌<◌, ◌≤◌, ◌+◌, ◌-◌, ◌%◌, ◌^◌, Bool, true, false, not, nat_eq, List, [], ◌∷◌, length, refl, sym, ap, ◌∙◌, subst, arith, if◌then◌else◌}
use Rattle.proc_muxes.proofs.Common.{option_map, Span, Identifier, Expr, out-LeftSide, Assignment, Stmt, For, Fault, Decl, Signal, Constant, Names, nothing, with_name, sense, assigned, power_le, told}
use Rattle.proc_muxes.proofs.Common.{constant_of, constant_faults, Steps, Done, Refuse, Turns, Flaw, InNames, Loop, followed, refused, flaws_of, tested, stepped, step_flaws, turns, max_turns}
use Rattle.proc_muxes.proofs.Common.{all_turns, looped, loop_steps, name_alone, steps_of, steps-loop, IsSignal, Building, IsShort, ElabError, more_short, step_refusals, turn_steps, next_steps}
use Rattle.proc_muxes.proofs.Common.{next_value, AlikeBut, Stops, Change, Turn, Work, IsClear, IsReady, cells_of, joined, Built}
use Rattle.std.specs.Prelude.{Option, None, Some}
use Rattle.std.specs.Str.{bytes_eq}
use Rattle.mcy_base.specs.declared.word.Word.{Word}
use Rattle.vlog_syntax.specs.declared.left_side.LeftSide.TheVariants as lv
use Rattle.vlog_meaning.specs.declared.fault.ConstError.{ConstError}
use Rattle.vlog_meaning.specs.Answers.{least, const_error}
use Rattle.std.proofs.Math.Nat.{mod-lt}
use Rattle.vlog_effects.proofs.Following.{followed-done, followed-again}
use Rattle.elab_proc.specs.declared.refusal.Refusal.{Refusal}
use Rattle.elab_proc.specs.Order.{IsFirst}
use Rattle.elab_proc.proofs.TurnLemmas.{faults_at, flaw_told, constant_stands, constant_fails, loop_by_name, turns_first, turns_none, turns_next, turn_by_turn, test_ends, turn_goes, sized_with}
use Rattle.elab_proc.proofs.TurnLemmas.{alike_after}
use Rattle.proc_muxes.specs.Turns.{AsksTurn, IsBuiltTurn}
use Rattle.proc_muxes.proofs.Counting.{builds-counted}
use Rattle.proc_muxes.proofs.Joining.{built-push}
use Rattle.proc_muxes.proofs.Keeping.{keeps}
use Rattle.proc_muxes.proofs.Walking.{clear-next, cells-followed, ready-first, ready-next, ready-later}

-- Where nothing is refused, constants have values.

unclear : (o : Option Fault) (e : ConstError) → Some e ≡ option_map const_error o → IsClear (refused (flaws_of (told o))) → ⊥
unclear o e is clear = subst IsClear (flaw_told o e is) clear

-- steps that a constant begins, where it has no value
pub fails-not : (names : Names) (width : ℕ) (x : Expr) (e : ConstError) (k : Option ℕ → Steps) → k None ≡ refused (flaws_of (constant_faults names width x)) → Some e ≡ option_map const_error (least (faults_at names width x)) → IsClear (k (constant_of names width x)) → ⊥
fails-not names width x e k none is clear =
    unclear (least (faults_at names width x)) e is (subst IsClear (ap k (constant_fails names width x e is) ∙ none) clear)

stops-at : (r : Refusal) (xs : List Flaw) (o : Option ℕ) (flaws : List Flaw) (later : ℕ → Steps) → IsFirst (step_refusals false [] (stepped xs o flaws (λ v. Done))) (Some r) → IsClear (stepped xs o flaws later) → ⊥
stops-at r (x ∷ more) o flaws later s clear = clear
stops-at r [] None [] later s clear = s.0
stops-at r [] None (x ∷ more) later s clear = clear
stops-at r [] (Some v) flaws later s clear = s.0

stops-not : (loop : Loop) (here : Names) (r : Refusal) → Stops loop here r → (later : ℕ → Steps) → IsClear (next_steps loop here later) → ⊥
stops-not loop here r s later clear =
    stops-at r (step_flaws loop here (name_alone (out-LeftSide loop.step.left))) (constant_of here loop.width loop.step.value) (flaws_of (constant_faults here loop.width loop.step.value)) later (s false [] (λ v. Done)) clear

-- The names of a turn.

signal-if : (b : Building) (k : Bool) (word : Word) (s : Bool) (d : Option Decl) → IsSignal b d → IsSignal b (if k then Some (Constant word 0 s) else d)
signal-if b true word s d h = tt
signal-if b false word s d h = h

pub ready-in : (names : Names) (name : List ℕ) (word : Word) (s : Bool) (p : Steps) (a : Work) → IsReady names p a → IsReady (with_name names name (Some (Constant word 0 s))) p a
ready-in names name word s p a h = record {
  clear = h.clear;
  held = h.held;
  signals = λ other. signal-if a.building (bytes_eq name other) word s (names other) (h.signals other);
  stands = h.stands;
  sized = sized_with names name word s h.sized;
}

-- a value as a word
abbrev value-word : Word → ℕ → Word
value-word w v = record { width = w.width; bits = v % 2 ^ w.width; some = w.some; narrow = w.narrow; fits = mod-lt v (let e : 2 ^ 0 ≤ 2 ^ w.width = power_le 0 w.width (omega arith) in omega arith) }

-- turns are the same in names that are alike but for the variable
pub turns-alike : (n : ℕ) (loop : Loop) (body : InNames) (a b : Names) (word : Word) → word.width ≡ loop.width → AlikeBut loop.name.name a b → turns n loop body a word.bits ≡ turns n loop body b word.bits
turns-alike zero loop body a b word e alike =
    turns_none loop body a word e ∙ ap (λ (here : Names). tested (constant_of here 1 loop.condition) (flaws_of (constant_faults here 1 loop.condition)) (Refuse (Turns loop.place) Done)) (alike (Some (Constant word 0 loop.is_signed))) ∙ sym (turns_none loop body b word e)
turns-alike (suc n) loop body a b word e alike =
    let again : (v : ℕ) → turns n loop body a v ≡ turns n loop body b v = λ v.
    (let w : Word = value-word word v in
    let same : w.bits ≡ v % 2 ^ loop.width = ap (λ (k : ℕ). v % 2 ^ k) e in
    turns_next n loop body a w v same ∙ turns-alike n loop body a b w e alike ∙ sym (turns_next n loop body b w v same)) in
    let less : suc n - 1 ≡ n = omega arith in
    rw less at (turns_first (suc n) loop body a word (omega arith) e)
    ∙ ap (λ (here : Names). turn_steps loop body here (λ v. turns n loop body a v)) (alike (Some (Constant word 0 loop.is_signed)))
    ∙ (λ j. turn_steps loop body (with_name b loop.name.name (Some (Constant word 0 loop.is_signed))) (λ v. again v j))
    ∙ sym (rw less at (turns_first (suc n) loop body b word (omega arith) e))

pub turns-are : (loop : Loop) (body : InNames) (names after : Names) (first : Word) → after ≡ with_name names loop.name.name (Some (Constant first 0 loop.is_signed)) → first.width ≡ loop.width → turns max_turns loop body after first.bits ≡ turns max_turns loop body names first.bits
turns-are loop body names after first is e =
    turns-alike max_turns loop body after names first e (alike_after names names after loop.name.name (Some (Constant first 0 loop.is_signed)) is (λ d. refl))

pub turns-ready : (loop : Loop) (body : InNames) (names after : Names) (first : Word) (a : Work) → after ≡ with_name names loop.name.name (Some (Constant first 0 loop.is_signed)) → first.width ≡ loop.width → IsReady names (turns max_turns loop body names first.bits) a → IsReady after (turns max_turns loop body after first.bits) a
turns-ready loop body names after first a is e r =
    subst (λ (p : Steps). IsReady after p a) (sym (turns-are loop body names after first is e))
    (subst (λ (n : Names). IsReady n (turns max_turns loop body names first.bits) a) (sym is) (ready-in names loop.name.name first loop.is_signed (turns max_turns loop body names first.bits) a r))

-- Turn by turn.

-- so many turns were built, and others are left
pub record Turned (loop : Loop) (body : InNames) (names : Names) (k : ℕ) (first word : Word) (a now : Work) (changes : List Change) : Type 0 where
  pub prefix : Steps
  pub built : Built prefix a now changes
  pub same : turns max_turns loop body names first.bits ≡ followed prefix (turns (max_turns - k) loop body names word.bits)

pub turned-start : (loop : Loop) (body : InNames) (names : Names) (first : Word) (a : Work) (cs : List Change) → cs ≡ [] → Turned loop body names 0 first first a a cs
turned-start loop body names first a cs e = record { prefix = Done; built = record { builds = refl; changes_are = e }; same = refl }

module _ (loop : Loop) (body : InNames) (names here : Names) (first word : Word) (k : ℕ) (a now : Work) (cs : List Change) (less : k < max_turns) (e : word.width ≡ loop.width) (is : here ≡ with_name names loop.name.name (Some (Constant word 0 loop.is_signed))) (h : Turned loop body names k first word a now cs) where
  abbrev later : ℕ → Steps
  later v = turns (max_turns - (k + 1)) loop body names v

  left : turns (max_turns - k) loop body names word.bits ≡ turn_steps loop body here later
  left = turn_by_turn false [] loop body names here word k less e is

  -- what the next turn asks
  pub turn-ready : IsReady names (turns max_turns loop body names first.bits) a → AsksTurn loop body here now
  turn-ready r =
      let all : IsReady names (followed h.prefix (turn_steps loop body here later)) a = subst (λ (p : Steps). IsReady names p a) (h.same ∙ ap (followed h.prefix) left) r in
      let next : IsReady names (turn_steps loop body here later) now = ready-later names (turn_steps loop body here later) _ a now (keeps h.prefix a now h.built.builds) (ready-next names h.prefix (turn_steps loop body here later) a all) in
      (later, subst (λ (n : Names). IsReady n (turn_steps loop body here later) now) (sym is) (ready-in names loop.name.name word loop.is_signed (turn_steps loop body here later) now next))

  -- one turn more
  pub turned-more : (t : Turn) (new : Work) (es : List Change) → IsBuiltTurn loop body here (Some t) now new → es ≡ joined cs t.changes → Turned loop body names (k + 1) first t.next a new es
  turned-more t new es f is_es =
      let goes : turn_steps loop body here later ≡ followed (body here) (turns (max_turns - (k + 1)) loop body names t.next.bits) = f.3 later ∙ ap (followed (body here)) (turns_next (max_turns - (k + 1)) loop body names t.next (next_value loop here) f.1) in
      record {
        prefix = followed h.prefix (body here);
        built = subst (λ (l : List Change). Built (followed h.prefix (body here)) a new l) (sym is_es) (built-push h.prefix (body here) a now new cs t.changes h.built f.2);
        same = h.same ∙ ap (followed h.prefix) (left ∙ goes) ∙ sym (followed-again h.prefix (body here) (turns (max_turns - (k + 1)) loop body names t.next.bits));
      }

  -- no turn more
  pub turned-end : (new : Work) → IsBuiltTurn loop body here None now new → Built (turns max_turns loop body names first.bits) a new cs
  turned-end new f =
      let all : turns max_turns loop body names first.bits ≡ h.prefix = h.same ∙ ap (followed h.prefix) (left ∙ f.1 later) ∙ followed-done h.prefix in
      subst (λ (p : Steps). Built p a new cs) (sym all) (subst (λ (w : Work). Built h.prefix a w cs) (sym f.0) h.built)

  -- the cells of the turn are among those of all
  pub turn-room : IsReady names (turns max_turns loop body names first.bits) a → (x : ElabError) → ((v : ℕ → Steps) → IsShort (length now.building.cells + cells_of (turn_steps loop body here v)) x) → IsShort (length a.building.cells + cells_of (turns max_turns loop body names first.bits)) x
  turn-room r x short =
      let counted = builds-counted h.prefix a now h.built.builds in
      let all : cells_of (turns max_turns loop body names first.bits) ≡ cells_of h.prefix + cells_of (turn_steps loop body here later) = ap cells_of (h.same ∙ ap (followed h.prefix) left) ∙ cells-followed h.prefix (turn_steps loop body here later) in
      more_short (length now.building.cells + cells_of (turn_steps loop body here later)) (length a.building.cells + cells_of (turns max_turns loop body names first.bits)) x (omega (arith, counted, all)) (short later)

-- where all turns came, another one would be refused
last-none : (at : Span) (o : Option ℕ) (flaws : List Flaw) → IsClear (tested o flaws (Refuse (Turns at) Done)) → tested o flaws (Refuse (Turns at) Done) ≡ Done
last-none at None [] clear = refl
last-none at None (x ∷ flaws) clear = absurd clear
last-none at (Some zero) flaws clear = refl
last-none at (Some (suc n)) flaws clear = absurd clear

pub turned-all : (loop : Loop) (body : InNames) (names : Names) (first word : Word) (k : ℕ) (a now : Work) (cs : List Change) → max_turns ≤ k → word.width ≡ loop.width → Turned loop body names k first word a now cs → IsReady names (turns max_turns loop body names first.bits) a → Built (turns max_turns loop body names first.bits) a now cs
turned-all loop body names first word k a now cs le e h r =
    let here : Names = with_name names loop.name.name (Some (Constant word 0 loop.is_signed)) in
    let none : max_turns - k ≡ 0 = omega arith in
    let last : Steps = tested (constant_of here 1 loop.condition) (flaws_of (constant_faults here 1 loop.condition)) (Refuse (Turns loop.place) Done) in
    let left : turns (max_turns - k) loop body names word.bits ≡ last = ap (λ (n : ℕ). turns n loop body names word.bits) none ∙ turns_none loop body names word e in
    let clear : IsClear last = clear-next h.prefix last (subst IsClear (h.same ∙ ap (followed h.prefix) left) r.clear) in
    let all : turns max_turns loop body names first.bits ≡ h.prefix = h.same ∙ ap (followed h.prefix) (left ∙ last-none loop.place _ _ clear) ∙ followed-done h.prefix in
    subst (λ (p : Steps). Built p a now cs) (sym all) h.built

-- One turn.

module _ (loop : Loop) (body : InNames) (here : Names) (a : Work) where
  pub turn-fails : (e : ConstError) → Some e ≡ option_map const_error (least (faults_at here 1 loop.condition)) → AsksTurn loop body here a → ⊥
  turn-fails e is r = fails-not here 1 loop.condition e (λ o. tested o (flaws_of (constant_faults here 1 loop.condition)) (followed (body here) (next_steps loop here r.0))) refl is r.1.clear

  module _ (b : Bool) (stands : None ≡ option_map const_error (least (faults_at here 1 loop.condition))) (is : b ≡ not (nat_eq ((sense here loop.condition).value nothing (assigned (sense here loop.condition) 1)) 0)) where
    pub turn-over : b ≡ false → (later : ℕ → Steps) → turn_steps loop body here later ≡ Done
    turn-over off later =
        test_ends here loop.condition (followed (body here) (next_steps loop here later)) ((sense here loop.condition).value nothing (assigned (sense here loop.condition) 1)) (constant_stands here 1 loop.condition stands) (sym off ∙ is)

    goes-on : b ≡ true → (later : ℕ → Steps) → turn_steps loop body here later ≡ followed (body here) (next_steps loop here later)
    goes-on on later = turn_goes false [] loop body here b stands is on later

    both-ready : b ≡ true → (r : AsksTurn loop body here a) → IsReady here (followed (body here) (next_steps loop here r.0)) a
    both-ready on r = subst (λ (p : Steps). IsReady here p a) (goes-on on r.0) r.1

    pub body-asked : b ≡ true → AsksTurn loop body here a → IsReady here (body here) a
    body-asked on r = ready-first here (body here) (next_steps loop here r.0) a (both-ready on r)

    pub turn-stops : b ≡ true → (x : Refusal) → Stops loop here x → AsksTurn loop body here a → ⊥
    turn-stops on x s r = stops-not loop here x s r.0 (ready-next here (body here) (next_steps loop here r.0) a (both-ready on r)).clear

    pub turn-built : b ≡ true → (t : Turn) (new : Work) → (t.next.width ≡ loop.width) → (t.next.bits ≡ next_value loop here % 2 ^ loop.width) → ((later : ℕ → Steps) → next_steps loop here later ≡ later (next_value loop here)) → Built (body here) a new t.changes → IsBuiltTurn loop body here (Some t) a new
    turn-built on t new wide bits next f = (wide, bits, f, λ later. goes-on on later ∙ ap (followed (body here)) (next later))

    pub turn-short : b ≡ true → (e : ElabError) → IsShort (length a.building.cells + cells_of (body here)) e → (v : ℕ → Steps) → IsShort (length a.building.cells + cells_of (turn_steps loop body here v)) e
    turn-short on e short v =
        let all : cells_of (turn_steps loop body here v) ≡ cells_of (body here) + cells_of (next_steps loop here v) = ap cells_of (goes-on on v) ∙ cells-followed (body here) (next_steps loop here v) in
        more_short (length a.building.cells + cells_of (body here)) (length a.building.cells + cells_of (turn_steps loop body here v)) e (omega (arith, all)) short

-- The start of a loop.

module _ (at : Span) (start : Assignment) (condition : Expr) (step : Assignment) (body : InNames) (names : Names) where
  abbrev pub loop-at : Steps
  loop-at = loop_steps at start condition step body names (name_alone (out-LeftSide start.left))

  pub start-named : name_alone (out-LeftSide start.left) ≡ None → IsClear loop-at → ⊥
  start-named none clear = subst IsClear (ap (loop_steps at start condition step body names) none) clear

  module _ (n : Identifier) (by_name : start.left ≡ lv.Name n) (d : Option Decl) (declared : d ≡ names n.name) where
    looped-is : loop-at ≡ looped at start condition step body names n d
    looped-is = loop_by_name at start condition step body names n by_name ∙ ap (looped at start condition step body names n) (sym declared)

    pub start-none : d ≡ None → IsClear loop-at → ⊥
    start-none none clear = subst IsClear (looped-is ∙ ap (looped at start condition step body names n) none) clear

    pub start-constant : (value : Word) (low : ℕ) (sign : Bool) → d ≡ Some (Constant value low sign) → IsClear loop-at → ⊥
    start-constant value low sign some clear = subst IsClear (looped-is ∙ ap (looped at start condition step body names n) some) clear

    module _ (width low : ℕ) (sign : Bool) (number : ℕ) (signal : d ≡ Some (Signal width low sign number)) where
      abbrev pub loop-of : Loop
      loop-of = record { place = at; name = n; width = width; is_signed = sign; condition = condition; step = step }

      signal-is : loop-at ≡ all_turns loop-of body names (constant_of names width start.value) (flaws_of (constant_faults names width start.value))
      signal-is = looped-is ∙ ap (looped at start condition step body names n) signal

      pub start-fails : (e : ConstError) (x : Expr) → x ≡ start.value → Some e ≡ option_map const_error (least (faults_at names width x)) → IsClear loop-at → ⊥
      start-fails e x is fails clear =
          let at_start : Some e ≡ option_map const_error (least (faults_at names width start.value)) = subst (λ (z : Expr). Some e ≡ option_map const_error (least (faults_at names width z))) is fails in
          fails-not names width start.value e (λ o. all_turns loop-of body names o (flaws_of (constant_faults names width start.value))) refl at_start (subst IsClear signal-is clear)

      pub start-goes : (x : Expr) (word : Word) → x ≡ start.value → None ≡ option_map const_error (least (faults_at names width x)) → word.bits ≡ (sense names x).value nothing (assigned (sense names x) width) % 2 ^ width → loop-at ≡ turns max_turns loop-of body names word.bits
      start-goes x word is stands bits =
          let v : Expr → ℕ = λ y. (sense names y).value nothing (assigned (sense names y) width) in
          let at_start : None ≡ option_map const_error (least (faults_at names width start.value)) = subst (λ (y : Expr). None ≡ option_map const_error (least (faults_at names width y))) is stands in
          let by_bits : word.bits ≡ v start.value % 2 ^ width = bits ∙ ap (λ (y : Expr). v y % 2 ^ width) is in
          signal-is ∙ ap (λ (o : Option ℕ). all_turns loop-of body names o (flaws_of (constant_faults names width start.value))) (constant_stands names width start.value at_start) ∙ turns_next max_turns loop-of body names word (v start.value) by_bits

pub loop-is : (names : Names) (stmt : Stmt) (at : Span) (start : Assignment) (condition x : Expr) (step : Assignment) (body y : Stmt) → stmt ≡ For at start condition step body → x ≡ condition → y ≡ body → steps_of stmt names ≡ loop_steps at start x step (steps_of y) names (name_alone (out-LeftSide start.left))
loop-is names stmt at start condition x step body y is same_condition same_body =
    ap (λ (s : Stmt). steps_of s names) is ∙ steps-loop at start condition step body names
    ∙ sym (ap (λ (z : Expr). loop_steps at start z step (steps_of body) names (name_alone (out-LeftSide start.left))) same_condition)
    ∙ sym (ap (λ (z : Stmt). loop_steps at start x step (steps_of z) names (name_alone (out-LeftSide start.left))) same_body)
