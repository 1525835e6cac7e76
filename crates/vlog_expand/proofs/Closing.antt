-- Where conditions are open at a place, their ends stand behind it.
use Rattle.vlog_expand.proofs.Common.{◌≡◌, ◌⊎◌, inl, inr, ℕ, zero, suc, Bool, true, false, not, cond, ◌&&◌, ◌==◌, List, [], ◌∷◌, ◌++◌, Option, Some, None, length, refl, sym, ◌∙◌, subst, arith, Span}
use Rattle.vlog_expand.proofs.Common.{Token, ParseError, Unexpected, is_directive, is_macro_name, is_name, is_shown, word_of, Turn, Ends, Shows, Leads, turn, turn_at, length-append, length-take}
use Rattle.vlog_expand.proofs.Common.{behind_line, is_on, rest_of_line, after_part, after_part_from, belongs, is_closed, is_closed_from, Definitions, ConditionsHaveTheirEnds, IsReached, here}
use Rattle.vlog_expand.proofs.Common.{behind_token, behind_directive, State, Move, Passes, Stops, move_by, with_name, unless_fault, fault_in, has_parameters, define_move, undef_move, condition_move}
use Rattle.vlog_expand.proofs.Common.{is_first, chosen_part, other_part, other_part_by, innermost, outer, else_move, behind_else, behind_else_by, endif_move}
use Rattle.vlog_expand.specs.declared.word.Word.{Word}
use Rattle.vlog_expand.specs.declared.word.Word.TheVariants.{Plain, Use, Define, Undef, Ifdef, Ifndef, Else, Elsif, Endif, Dropped, Include, Refused}
use Rattle.vlog_token.specs.declared.token.TokenKind.{TokenKind}
use Rattle.vlog_token.specs.declared.token.TokenKind.TheVariants.{Directive}
use Rattle.std.proofs.lemmas.Bool.{false≢true}

-- the rest of a line plays no part
line-passed-at : (d line : ℕ) (t : Token) (ts : List Token) (b : Bool) → is_on line t ≡ b → is_closed_from d (Some line) ts ≡ is_closed_from d None (behind_line line ts) → is_closed_from d (Some line) (t ∷ ts) ≡ is_closed_from d None (behind_line line (t ∷ ts))
line-passed-at d line t ts true e h = rw e h
line-passed-at d line t ts false e h = rw e refl

line-passed : (d line : ℕ) (ts : List Token) → is_closed_from d (Some line) ts ≡ is_closed_from d None (behind_line line ts)
line-passed d line [] = refl
line-passed d line (t ∷ ts) = line-passed-at d line t ts (is_on line t) refl (line-passed d line ts)

-- d conditions and j more
abbrev raised : ℕ → ℕ → ℕ
raised zero d = d
raised (suc j) d = suc (raised j d)

-- a part plays no part
abbrev PartPasses : ℕ → List Token → Type 0
PartPasses d ts = (j : ℕ) (line : Option ℕ) → is_closed_from (raised j d) line ts ≡ is_closed_from d None (after_part_from j line ts)

part-passed-at : (d : ℕ) (t : Token) (ts : List Token) (w : Word) → word_of t ≡ w → PartPasses d ts → (j : ℕ) → is_closed_from (raised j d) None (t ∷ ts) ≡ is_closed_from d None (after_part_from j None (t ∷ ts))
part-passed-at d t ts Ifdef e h j = rw e (h (suc j) None)
part-passed-at d t ts Ifndef e h j = rw e (h (suc j) None)
part-passed-at d t ts Endif e h zero = rw e (rw e refl)
part-passed-at d t ts Endif e h (suc j) = rw e (h j None)
part-passed-at d t ts Else e h zero = rw e (rw e refl)
part-passed-at d t ts Else e h (suc j) = rw e (h (suc j) None)
part-passed-at d t ts Elsif e h zero = rw e (rw e refl)
part-passed-at d t ts Elsif e h (suc j) = rw e (h (suc j) None)
part-passed-at d t ts Define e h j = rw e (h j (Some t.span.line))
part-passed-at d t ts Dropped e h j = rw e (h j (Some t.span.line))
part-passed-at d t ts _ e h j = rw e (h j None)

part-passed-by : (d : ℕ) (t : Token) (ts : List Token) (line : Option ℕ) (b : Bool) → belongs line t ≡ b → PartPasses d ts → (j : ℕ) → is_closed_from (raised j d) line (t ∷ ts) ≡ is_closed_from d None (after_part_from j line (t ∷ ts))
part-passed-by d t ts line true e h j = rw e (h j line)
part-passed-by d t ts line false e h j = rw e (part-passed-at d t ts (word_of t) refl h j)

part-passed : (d : ℕ) (ts : List Token) → PartPasses d ts
part-passed d [] j line = refl
part-passed d (t ∷ ts) j line = part-passed-by d t ts line (belongs line t) refl (part-passed d ts) j

behind-part : (d : ℕ) (ts : List Token) → is_closed_from d None ts ≡ true → is_closed_from d None (after_part ts) ≡ true
unfolding after_part
behind-part d ts h = sym (part-passed d ts 0 None) ∙ h

-- so many conditions are open before these tokens, and have their ends among them
abbrev Closes : ℕ → List Token → Type 0
Closes zero ts = Unit {0}
Closes (suc d) ts = is_closed_from d None ts ≡ true

-- a token that is no word of a condition and has no line
abbrev IsPassed : Word → Type 0
IsPassed Plain = Unit {0}
IsPassed Use = Unit {0}
IsPassed Undef = Unit {0}
IsPassed Include = Unit {0}
IsPassed Refused = Unit {0}
IsPassed _ = ⊥

closes-passed : (k : ℕ) (t : Token) (ts : List Token) (w : Word) → word_of t ≡ w → IsPassed w → Closes k (t ∷ ts) → Closes k ts
closes-passed zero t ts w e p h = tt
closes-passed (suc d) t ts Plain e p h = rw e at h
closes-passed (suc d) t ts Use e p h = rw e at h
closes-passed (suc d) t ts Undef e p h = rw e at h
closes-passed (suc d) t ts Include e p h = rw e at h
closes-passed (suc d) t ts Refused e p h = rw e at h
closes-passed (suc d) t ts _ e p h = absurd p

closes-dropped : (k : ℕ) (t : Token) (ts : List Token) → word_of t ≡ Dropped → Closes k (t ∷ ts) → Closes k (behind_line t.span.line ts)
closes-dropped zero t ts e h = tt
closes-dropped (suc d) t ts e h =
    let passed : is_closed_from d (Some t.span.line) ts ≡ true = rw e at h in
    sym (line-passed d t.span.line ts) ∙ passed

closes-defined : (k : ℕ) (t name : Token) (ts : List Token) → word_of t ≡ Define → is_on t.span.line name ≡ true → Closes k (t ∷ name ∷ ts) → Closes k (behind_line t.span.line ts)
closes-defined zero t name ts e on h = tt
closes-defined (suc d) t name ts e on h =
    let line : is_closed_from d (Some t.span.line) (name ∷ ts) ≡ true = rw e at h in
    let passed : is_closed_from d (Some t.span.line) ts ≡ true = rw on at line in
    sym (line-passed d t.span.line ts) ∙ passed

-- where a condition begins
closes-begun : (k : ℕ) (t : Token) (ts : List Token) (w : Word) → word_of t ≡ w → (w ≡ Ifdef) ⊎ (w ≡ Ifndef) → (k ≡ 0 → is_closed ts ≡ true) → Closes k (t ∷ ts) → is_closed_from k None ts ≡ true
unfolding is_closed
closes-begun zero t ts w e i z h = z refl
closes-begun (suc d) t ts w e (inl i) z h = rw (e ∙ i) at h
closes-begun (suc d) t ts w e (inr i) z h = rw (e ∙ i) at h

-- where a condition ends
closes-ended : (k : ℕ) (t : Token) (ts : List Token) → word_of t ≡ Endif → is_closed_from k None (t ∷ ts) ≡ true → Closes k ts
closes-ended zero t ts e h = tt
closes-ended (suc d) t ts e h = rw e at h

-- a place whose conditions have their ends behind it
abbrev StateCloses : State → Type 0
StateCloses s = Closes (length s.conditions) s.rest

abbrev MoveCloses : Move → Type 0
MoveCloses (Passes s) = StateCloses s
MoveCloses (Stops e) = Unit {0}

if-closes : (b : Bool) (m n : Move) → (b ≡ true → MoveCloses m) → (b ≡ false → MoveCloses n) → MoveCloses (cond b m n)
if-closes true m n f g = f refl
if-closes false m n f g = g refl

pub and-right : (a b : Bool) → (a && b) ≡ true → b ≡ true
and-right true b h = h
and-right false true h = refl
and-right false false h = h

kind-plain : (k : TokenKind) → is_name k ≡ true → is_directive k ≡ false
kind-plain Directive h = sym h
kind-plain _ h = refl

name-plain : (t : Token) → is_name t.kind ≡ true → word_of t ≡ Plain
unfolding word_of
name-plain t h = rw (kind-plain t.kind h) refl

name-closes : (end : Span) (ts : List Token) (go : Token → List Token → Move) → ((name : Token) (us : List Token) → ts ≡ name ∷ us → is_name name.kind ≡ true → MoveCloses (go name us)) → MoveCloses (with_name end ts go)
name-closes end [] go f = tt
name-closes end (t ∷ ts) go f = if-closes (is_name t.kind) (go t ts) (Stops (Unexpected t.span)) (λ e. f t ts refl e) (λ e. tt)

fault-closes : (f : Option ParseError) (s : State) → StateCloses s → MoveCloses (unless_fault f s)
fault-closes None s h = h
fault-closes (Some e) s h = tt

define-closes : (end : Span) (macros : Definitions) (c : List Bool) (t : Token) (ts : List Token) → word_of t ≡ Define → Closes (length c) (t ∷ ts) → MoveCloses (define_move end macros c t ts)
define-closes end macros c t [] e h = tt
define-closes end macros c t (name ∷ us) e h =
    if-closes (is_macro_name name && is_on t.span.line name) _ _
    (λ on. if-closes (has_parameters name us) _ _ (λ p. tt)
    (λ p. fault-closes (fault_in (rest_of_line t.span.line us)) _ (closes-defined (length c) t name us e (and-right (is_macro_name name) _ on) h)))
    (λ off. tt)

undef-closes : (end : Span) (macros : Definitions) (c : List Bool) (t : Token) (ts : List Token) → word_of t ≡ Undef → Closes (length c) (t ∷ ts) → MoveCloses (undef_move end macros c ts)
undef-closes end macros c t ts e h =
    let behind = closes-passed (length c) t ts Undef e tt h in
    name-closes end ts _ (λ name us i n. closes-passed (length c) name us Plain (name-plain name n) tt (subst (Closes (length c)) i behind))

length-more : (c : List Bool) (b : Bool) → length (c ++ b ∷ []) ≡ suc (length c)
length-more c b = simp length-append (omega arith)

closes-more : (c : List Bool) (b : Bool) (ts : List Token) → is_closed_from (length c) None ts ≡ true → Closes (length (c ++ b ∷ [])) ts
closes-more c b ts h = rw (length-more c b) h

other-closes-by : (macros : Definitions) (c : List Bool) (t : Token) (ts : List Token) (w : Word) → word_of t ≡ w → is_closed_from (length c) None (t ∷ ts) ≡ true → StateCloses (other_part_by w macros c t ts)
other-closes-by macros c t ts Else e h = closes-more c false ts (rw e at h)
other-closes-by macros c t ts Endif e h = closes-ended (length c) t ts e h
other-closes-by macros c t ts _ e h = closes-more c false (t ∷ ts) h

other-closes : (macros : Definitions) (c : List Bool) (ts : List Token) → is_closed_from (length c) None ts ≡ true → StateCloses (other_part macros c ts)
other-closes macros c [] h = absurd (false≢true h)
other-closes macros c (t ∷ ts) h = other-closes-by macros c t ts (word_of t) refl h

chosen-closes : (b : Bool) (macros : Definitions) (c : List Bool) (ts : List Token) → is_closed_from (length c) None ts ≡ true → StateCloses (chosen_part b macros c ts)
chosen-closes true macros c ts h = closes-more c true ts h
chosen-closes false macros c ts h = other-closes macros c (after_part ts) (behind-part (length c) ts h)

first-closed : (k : ℕ) (b : Bool) → ((k == 0) && not b) ≡ false → k ≡ 0 → b ≡ true
first-closed zero true h z = refl
first-closed zero false h z = sym h
first-closed (suc k) b h z = absurd (omega (arith, z))

condition-closes : (end : Span) (macros : Definitions) (c : List Bool) (wanted : Bool) (t : Token) (ts : List Token) (w : Word) → word_of t ≡ w → (w ≡ Ifdef) ⊎ (w ≡ Ifndef) → Closes (length c) (t ∷ ts) → MoveCloses (condition_move end macros c wanted t ts)
condition-closes end macros c wanted t ts w e i h =
    if-closes (is_first c && not (is_closed ts)) _ _ (λ o. tt)
    (λ o. let begun = closes-begun (length c) t ts w e i (first-closed (length c) (is_closed ts) o) h in
    name-closes end ts _ (λ name us l n.
    let behind : is_closed_from (length c) None (name ∷ us) ≡ true = subst (λ vs. is_closed_from (length c) None vs ≡ true) l begun in
    chosen-closes _ macros c us (rw (name-plain name n) at behind)))

-- the innermost condition is the last
length-outer : (c : List Bool) (b : Bool) → innermost c ≡ Some b → length c ≡ suc (length (outer c))
length-outer [] b h = let no : ⊥ = cc in absurd no
length-outer (x ∷ xs) b h = simp length-take (omega arith)

behind-else-closes-by : (macros : Definitions) (c : List Bool) (t : Token) (ts : List Token) (w : Word) → word_of t ≡ w → is_closed_from (length (outer c)) None (t ∷ ts) ≡ true → StateCloses (behind_else_by w macros c t ts)
behind-else-closes-by macros c t ts Endif e h = closes-ended (length (outer c)) t ts e h
behind-else-closes-by macros c t ts _ e h = closes-more (outer c) false (t ∷ ts) h

behind-else-closes : (macros : Definitions) (c : List Bool) (ts : List Token) → is_closed_from (length (outer c)) None ts ≡ true → StateCloses (behind_else macros c ts)
behind-else-closes macros c [] h = absurd (false≢true h)
behind-else-closes macros c (t ∷ ts) h = behind-else-closes-by macros c t ts (word_of t) refl h

else-closes : (macros : Definitions) (c : List Bool) (o : Option Bool) (t : Token) (ts : List Token) → innermost c ≡ o → word_of t ≡ Else → Closes (length c) (t ∷ ts) → MoveCloses (else_move macros c o t ts)
else-closes macros c None t ts i e h = tt
else-closes macros c (Some false) t ts i e h = tt
else-closes macros c (Some true) t ts i e h =
    let inner : is_closed_from (length (outer c)) None (t ∷ ts) ≡ true = subst (λ k. Closes k (t ∷ ts)) (length-outer c true i) h in
    behind-else-closes macros c (after_part ts) (behind-part (length (outer c)) ts (rw e at inner))

endif-closes : (macros : Definitions) (c : List Bool) (o : Option Bool) (t : Token) (ts : List Token) → innermost c ≡ o → word_of t ≡ Endif → Closes (length c) (t ∷ ts) → MoveCloses (endif_move macros c o t ts)
endif-closes macros c None t ts i e h = tt
endif-closes macros c (Some b) t ts i e h =
    let inner : is_closed_from (length (outer c)) None (t ∷ ts) ≡ true = subst (λ k. Closes k (t ∷ ts)) (length-outer c b i) h in
    closes-ended (length (outer c)) t ts e inner

move-closes : (end : Span) (macros : Definitions) (c : List Bool) (t : Token) (ts : List Token) (w : Word) → word_of t ≡ w → Closes (length c) (t ∷ ts) → MoveCloses (move_by w end macros c t ts)
move-closes end macros c t ts Define e h = define-closes end macros c t ts e h
move-closes end macros c t ts Undef e h = undef-closes end macros c t ts e h
move-closes end macros c t ts Ifdef e h = condition-closes end macros c true t ts Ifdef e (inl refl) h
move-closes end macros c t ts Ifndef e h = condition-closes end macros c false t ts Ifndef e (inr refl) h
move-closes end macros c t ts Else e h = else-closes macros c (innermost c) t ts refl e h
move-closes end macros c t ts Endif e h = endif-closes macros c (innermost c) t ts refl e h
move-closes end macros c t ts Dropped e h = closes-dropped (length c) t ts e h
move-closes end macros c t ts Include e h = tt
move-closes end macros c t ts Elsif e h = tt
move-closes end macros c t ts Refused e h = tt
move-closes end macros c t ts Plain e h = closes-passed (length c) t ts Plain e tt h
move-closes end macros c t ts Use e h = closes-passed (length c) t ts Use e tt h

-- a turn leads only to such places
abbrev TurnCloses : Turn → Type 0
TurnCloses Ends = Unit {0}
TurnCloses (Shows t s) = StateCloses s
TurnCloses (Leads m) = MoveCloses m

shown-closes : (k : ℕ) (t : Token) (ts : List Token) (w : Word) → word_of t ≡ w → is_shown w ≡ true → Closes k (t ∷ ts) → Closes k ts
shown-closes k t ts Plain e s h = closes-passed k t ts Plain e tt h
shown-closes k t ts Use e s h = closes-passed k t ts Use e tt h
shown-closes k t ts _ e s h = absurd (false≢true s)

pick-closes : (b : Bool) (x y : Turn) → (b ≡ true → TurnCloses x) → TurnCloses y → TurnCloses (cond b x y)
pick-closes true x y f g = f refl
pick-closes false x y f g = g

turn-closes-at : (end : Span) (macros : Definitions) (c : List Bool) (ts : List Token) → Closes (length c) ts → TurnCloses (turn_at end macros c ts)
turn-closes-at end macros c [] h = tt
turn-closes-at end macros c (t ∷ ts) h =
    pick-closes (is_shown (word_of t)) _ _ (λ s. shown-closes (length c) t ts (word_of t) refl s h) (move-closes end macros c t ts (word_of t) refl h)

turn-closes : (end : Span) (s : State) → StateCloses s → TurnCloses (turn end s)
unfolding turn
turn-closes end s h = turn-closes-at end s.macros s.conditions s.rest h

reached-closes : {end : Span} {s at : State} → IsReached end s at → StateCloses s → StateCloses at
reached-closes here h = h
reached-closes {end} {s} {at} (behind_token r e) h = subst TurnCloses e (turn-closes end _ (reached-closes r h))
reached-closes {end} {s} {at} (behind_directive r e) h = subst TurnCloses e (turn-closes end _ (reached-closes r h))

none-open : (c : List Bool) (ts : List Token) → Closes (length c) ts → ts ≡ [] → c ≡ []
none-open [] ts h e = refl
none-open (b ∷ c) ts h e = absurd (false≢true (subst (λ us. is_closed_from (length c) None us ≡ true) e h))

pub conditions_have_their_ends_lem : ConditionsHaveTheirEnds
conditions_have_their_ends_lem end tokens s r none = none-open s.conditions s.rest (reached-closes r tt) none
