-- The names that the statements of a process see have the signals of the process.
use Rattle.vlog_effects.proofs.Common.{◌≡◌, ℕ, zero, suc, Bool, true, false, List, [], ◌∷◌, map, Option, Some, None, sym, subst, if◌then◌else◌, bytes_eq, Span, Word, Identifier, Expr, out-LeftSide}
use Rattle.vlog_effects.proofs.Common.{Assignment, CaseItem, Stmt, Stmt-F, CaseItem-F, fold-roll-Stmt, fold-roll-CaseItem, ind-Stmt, map-Stmt, Decl, Signal, Constant, is_empty, Names, constant_of}
use Rattle.vlog_effects.proofs.Common.{constant_faults, item_steps, Flaw, Turns, Selection, Steps, Done, Assign, Choose, Case, Refuse, Arms, Otherwise, Arm, InNames, Item, Loop, followed, in_turn}
use Rattle.vlog_effects.proofs.Common.{refused, word_of, with_word, turn_names, flaws_of, step_flaws, tested, stepped, turns, max_turns, all_turns, looped, loop_steps, name_alone, done_by, default_of}
use Rattle.vlog_effects.proofs.Common.{labelled, front, last_body, always, arms_of, names_all, chosen_arms, bodies_of, selection_of, step_of, item_of, steps_of}
use Rattle.vlog_syntax.specs.declared.stmt.Stmt.TheOpen as t

-- a declared signal has this many bits
abbrev pub IsSized : (ℕ → ℕ) → Option Decl → Type 0
IsSized size (Some (Signal width low is_signed number)) = size number ≡ width
IsSized size (Some (Constant value low is_signed)) = Unit {0}
IsSized size None = Unit {0}

abbrev pub AreSized : (ℕ → ℕ) → Names → Type 0
AreSized size names = (name : List ℕ) → IsSized size (names name)

-- all names that the steps see are so
abbrev mutual
  pub Sized : (ℕ → ℕ) → Steps → Type 0
  Sized size Done = Unit {0}
  Sized size (Assign a more) = AreSized size a.names × Sized size more
  Sized size (Choose at c then_part else_part more) = AreSized size c.names × Sized size then_part × Sized size else_part × Sized size more
  Sized size (Case c arms bodies more) = AreSized size c.names × SizedArms size arms × Sized size more × Sized size bodies
  Sized size (Refuse x more) = Sized size more

  pub SizedArms : (ℕ → ℕ) → Arms → Type 0
  SizedArms size (Otherwise body) = Sized size body
  SizedArms size (Arm at labels body others) = Sized size body × SizedArms size others

-- a statement, in any such names
abbrev pub SizedIn : (ℕ → ℕ) → InNames → Type 0
SizedIn size s = (names : Names) → AreSized size names → Sized size (s names)

sized-followed : (size : ℕ → ℕ) (a b : Steps) → Sized size a → Sized size b → Sized size (followed a b)
sized-followed size Done b k l = l
sized-followed size (Assign a more) b k l = (k.0, sized-followed size more b k.1 l)
sized-followed size (Choose at c then_part else_part more) b k l = (k.0, k.1, k.2, sized-followed size more b k.3 l)
sized-followed size (Case c arms bodies more) b k l = (k.0, k.1, sized-followed size more b k.2 l, k.3)
sized-followed size (Refuse x more) b k l = sized-followed size more b k l

sized-refused : (size : ℕ → ℕ) (xs : List Flaw) → Sized size (refused xs)
sized-refused size [] = tt
sized-refused size (x ∷ more) = sized-refused size more

-- Loops.

sized-with : (size : ℕ → ℕ) (b : Bool) (value : Word) (low : ℕ) (is_signed : Bool) (d : Option Decl) → IsSized size d → IsSized size (if b then Some (Constant value low is_signed) else d)
sized-with size true value low is_signed d k = tt
sized-with size false value low is_signed d k = k

sized-word : (size : ℕ → ℕ) (loop : Loop) (names : Names) (o : Option Word) → AreSized size names → AreSized size (with_word loop names o)
sized-word size loop names None k = k
sized-word size loop names (Some w) k = λ other. sized-with size (bytes_eq loop.name.name other) w 0 loop.is_signed (names other) (k other)

sized-tested : (size : ℕ → ℕ) (o : Option ℕ) (flaws : List Flaw) (turn : Steps) → Sized size turn → Sized size (tested o flaws turn)
sized-tested size None flaws turn k = sized-refused size flaws
sized-tested size (Some zero) flaws turn k = tt
sized-tested size (Some (suc n)) flaws turn k = k

sized-stepped : (size : ℕ → ℕ) (xs : List Flaw) (o : Option ℕ) (flaws : List Flaw) (later : ℕ → Steps) → ((n : ℕ) → Sized size (later n)) → Sized size (stepped xs o flaws later)
sized-stepped size (x ∷ more) o flaws later k = sized-refused size (x ∷ more)
sized-stepped size [] None flaws later k = sized-refused size flaws
sized-stepped size [] (Some v) flaws later k = k v

sized-turns : (size : ℕ → ℕ) (most : ℕ) (loop : Loop) (body : InNames) (names : Names) (v : ℕ) → SizedIn size body → AreSized size names → Sized size (turns most loop body names v)
unfolding turns
sized-turns size zero loop body names v b k =
    let here : Names = turn_names loop names v in
    sized-tested size (constant_of here 1 loop.condition) (flaws_of (constant_faults here 1 loop.condition)) (Refuse (Turns loop.place) Done) tt
sized-turns size (suc most) loop body names v b k =
    let here : Names = turn_names loop names v in
    let flaws : List Flaw = step_flaws loop here (name_alone (out-LeftSide loop.step.left)) in
    let next : Option ℕ = constant_of here loop.width loop.step.value in
    let next_flaws : List Flaw = flaws_of (constant_faults here loop.width loop.step.value) in
    let later : ℕ → Steps = λ w. turns most loop body names w in
    sized-tested size (constant_of here 1 loop.condition) (flaws_of (constant_faults here 1 loop.condition)) (followed (body here) (stepped flaws next next_flaws later))
    (sized-followed size (body here) (stepped flaws next next_flaws later) (b here (sized-word size loop names (word_of loop.width v) k))
    (sized-stepped size flaws next next_flaws later (λ w. sized-turns size most loop body names w b k)))

sized-all_turns : (size : ℕ → ℕ) (loop : Loop) (body : InNames) (names : Names) (o : Option ℕ) (flaws : List Flaw) → SizedIn size body → AreSized size names → Sized size (all_turns loop body names o flaws)
sized-all_turns size loop body names None flaws b k = sized-refused size flaws
sized-all_turns size loop body names (Some v) flaws b k = sized-turns size max_turns loop body names v b k

sized-looped : (size : ℕ → ℕ) (at : Span) (start : Assignment) (condition : Expr) (step : Assignment) (body : InNames) (names : Names) (n : Identifier) (d : Option Decl) → SizedIn size body → AreSized size names → Sized size (looped at start condition step body names n d)
sized-looped size at start condition step body names n (Some (Signal width low is_signed number)) b k = sized-all_turns size (record { place = at; name = n; width = width; is_signed = is_signed; condition = condition; step = step }) body names (constant_of names width start.value) (flaws_of (constant_faults names width start.value)) b k
sized-looped size at start condition step body names n (Some (Constant value low is_signed)) b k = tt
sized-looped size at start condition step body names n None b k = tt

sized-loop : (size : ℕ → ℕ) (at : Span) (start : Assignment) (condition : Expr) (step : Assignment) (body : InNames) (names : Names) (o : Option Identifier) → SizedIn size body → AreSized size names → Sized size (loop_steps at start condition step body names o)
sized-loop size at start condition step body names None b k = tt
sized-loop size at start condition step body names (Some n) b k = sized-looped size at start condition step body names n (names n.name) b k

-- Cases.

abbrev SizedItems : (ℕ → ℕ) → List Item → Type 0
SizedItems size [] = Unit {0}
SizedItems size (i ∷ more) = SizedIn size i.body × SizedItems size more

abbrev SizedOption : (ℕ → ℕ) → Option InNames → Type 0
SizedOption size None = Unit {0}
SizedOption size (Some body) = SizedIn size body

sized-done : (size : ℕ → ℕ) (o : Option InNames) (names : Names) → SizedOption size o → AreSized size names → Sized size (done_by o names)
sized-done size None names b k = tt
sized-done size (Some body) names b k = b names k

sized-default : (size : ℕ → ℕ) (items : List Item) → SizedItems size items → SizedOption size (default_of items)
sized-default size [] b = tt
sized-default size (i ∷ more) b = go (is_empty i.labels) (sized-default size more b.1) where
  go : (e : Bool) → SizedOption size (default_of more) → SizedOption size (if e then Some i.body else default_of more)
  go true rest = b.0
  go false rest = rest

sized-labelled : (size : ℕ → ℕ) (items : List Item) → SizedItems size items → SizedItems size (labelled items)
sized-labelled size [] b = tt
sized-labelled size (i ∷ more) b = go (is_empty i.labels) (sized-labelled size more b.1) where
  go : (e : Bool) → SizedItems size (labelled more) → SizedItems size (if e then labelled more else i ∷ labelled more)
  go true rest = rest
  go false rest = (b.0, rest)

sized-front : (size : ℕ → ℕ) (items : List Item) → SizedItems size items → SizedItems size (front items)
sized-front size [] b = tt
sized-front size (i ∷ []) b = tt
sized-front size (i ∷ j ∷ more) b = (b.0, sized-front size (j ∷ more) b.1)

sized-last : (size : ℕ → ℕ) (items : List Item) → SizedItems size items → SizedOption size (last_body items)
sized-last size [] b = tt
sized-last size (i ∷ []) b = b.0
sized-last size (i ∷ j ∷ more) b = sized-last size (j ∷ more) b.1

sized-arms : (size : ℕ → ℕ) (c : Selection) (items : List Item) (o : Option InNames) → SizedItems size items → SizedOption size o → AreSized size c.names → SizedArms size (arms_of c items o)
sized-arms size c [] o b d k = sized-done size o c.names d k
sized-arms size c (i ∷ more) o b d k = go (always c i.labels) (sized-arms size c more o b.1 d k) where
  go : (e : Bool) → SizedArms size (arms_of c more o) → SizedArms size (if e then Otherwise (i.body c.names) else Arm i.place i.labels (i.body c.names) (arms_of c more o))
  go true rest = b.0 c.names k
  go false rest = (b.0 c.names k, rest)

sized-chosen : (size : ℕ → ℕ) (c : Selection) (items : List Item) (o : Option InNames) → SizedItems size items → SizedOption size o → AreSized size c.names → SizedArms size (chosen_arms c items o)
sized-chosen size c items (Some body) b d k = sized-arms size c items (Some body) b d k
sized-chosen size c items None b d k = go (names_all c) where
  go : (e : Bool) → SizedArms size (if e then arms_of c (front items) (last_body items) else arms_of c items None)
  go true = sized-arms size c (front items) (last_body items) (sized-front size items b) (sized-last size items b) k
  go false = sized-arms size c items None b tt k

sized-bodies : (size : ℕ → ℕ) (items : List Item) (names : Names) → SizedItems size items → AreSized size names → Sized size (bodies_of items names)
sized-bodies size [] names b k = tt
sized-bodies size (i ∷ more) names b k = sized-followed size (i.body names) (bodies_of more names) (b.0 names k) (sized-bodies size more names b.1 k)

-- Each statement.

abbrev ProvedStmt : (ℕ → ℕ) → Type 0
ProvedStmt size = (s : Stmt) × SizedIn size (steps_of s)

abbrev ProvedItem : (ℕ → ℕ) → Type 0
ProvedItem size = (i : CaseItem) × SizedIn size (item_steps i).body

sized-turn : (size : ℕ → ℕ) (body : List (ProvedStmt size)) → SizedIn size (in_turn (map steps_of (map (λ (w : ProvedStmt size). w.0) body)))
sized-turn size [] names k = tt
sized-turn size (w ∷ more) names k = sized-followed size (steps_of w.0 names) _ (w.1 names k) (sized-turn size more names k)

sized-items : (size : ℕ → ℕ) (items : List (ProvedItem size)) → SizedItems size (map item_steps (map (λ (w : ProvedItem size). w.0) items))
sized-items size [] = tt
sized-items size (w ∷ more) = (w.1, sized-items size more)

sized-step : (size : ℕ → ℕ) (y : Stmt-F (ProvedStmt size) (ProvedItem size)) → SizedIn size (step_of (map-Stmt Stmt CaseItem InNames Item steps_of item_steps (map-Stmt (ProvedStmt size) (ProvedItem size) Stmt CaseItem (λ (w : ProvedStmt size). w.0) (λ (w : ProvedItem size). w.0) y)))
sized-step size (t.Null at) names k = tt
sized-step size (t.SeqBlock at label body) names k = sized-turn size body names k
sized-step size (t.Conditional at c first None) names k = (k, first.1 names k, tt, tt)
sized-step size (t.Conditional at c first (Some second)) names k = (k, first.1 names k, second.1 names k, tt)
sized-step size (t.Case at kind selector items) names k =
    let is : List Item = map item_steps (map (λ (w : ProvedItem size). w.0) items) in
    (k, sized-chosen size (selection_of names kind selector is) (labelled is) (default_of is) (sized-labelled size is (sized-items size items)) (sized-default size is (sized-items size items)) k, tt, sized-bodies size is names (sized-items size items) k)
sized-step size (t.For at start condition step body) names k = sized-loop size at start condition step (steps_of body.0) names (name_alone (out-LeftSide start.left)) body.1 k
sized-step size (t.While at condition body) names k = tt
sized-step size (t.Repeat at count body) names k = tt
sized-step size (t.Forever at body) names k = tt
sized-step size (t.EventControl at control body) names k = tt
sized-step size (t.DelayControl at delay body) names k = tt
sized-step size (t.SystemTaskEnable n arguments) names k = tt
sized-step size (t.BlockingAssignment a) names k = (k, tt)
sized-step size (t.NonblockingAssignment a) names k = (k, tt)

pub sized-steps : (size : ℕ → ℕ) (s : Stmt) → SizedIn size (steps_of s)
sized-steps size =
    ind-Stmt (λ s. SizedIn size (steps_of s)) (λ i. SizedIn size (item_steps i).body)
    (λ x y is. subst (λ (f : InNames). SizedIn size f) (sym (fold-roll-Stmt InNames Item step_of item_of x)) (subst (λ (z : Stmt-F Stmt CaseItem). SizedIn size (step_of (map-Stmt Stmt CaseItem InNames Item steps_of item_steps z))) is (sized-step size y)))
    (λ x y is. subst (λ (j : Item). SizedIn size j.body) (sym (fold-roll-CaseItem InNames Item step_of item_of x)) (subst (λ (z : CaseItem-F Stmt CaseItem). SizedIn size (steps_of z.body)) is y.body.1))
