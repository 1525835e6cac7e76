-- What the code of statements has from one statement to the next.
use Rattle.proc_muxes.proofs.Common.{◌≡◌, ℕ, zero, suc, ◌+◌, ◌<◌, ◌≤◌, true, false, List, [], ◌∷◌, ◌++◌, map, take, length, get_or, Option, Some, None, refl, sym, ◌∙◌, ap, subst, arith, option_map}
use Rattle.proc_muxes.proofs.Common.{map-append, take_more, Span, Bit, Expr, Stmt, Identifier, Assignment, Null, SeqBlock, Conditional, BlockingAssignment, NonblockingAssignment, rolls-Null}
use Rattle.proc_muxes.proofs.Common.{fold-roll-Stmt, Decl, Signal, Constant, Names, parts_of, Assigning, Test, Steps, Done, Assign, Choose, Case, Refuse, followed, InNames, Item, in_turn, assigning}
use Rattle.proc_muxes.proofs.Common.{step_of, item_of, steps_of, else_steps, Target, targets, parts_targets, steps-block, steps-conditional, IsSignal, IsShort, ElabError, more_short, Change, Work}
use Rattle.proc_muxes.proofs.Common.{BuildsTest, CanAssign, IsClear, AreHeld, IsReady, assign_cells, cells_of, Keeps, StandsBelow, AreWide, joined, given_back, Built}
use Rattle.vlog_syntax.specs.declared.stmt.Stmt.TheOpen as t
use Rattle.proc_muxes.proofs.Counting.{builds-counted}
use Rattle.proc_muxes.proofs.Frames.{keeps-restored, keeps-widths}
use Rattle.proc_muxes.proofs.Keeping.{keeps, keeps-test}
use Rattle.proc_muxes.proofs.Joining.{targets-followed, in_turn-push, built-push}
use Rattle.proc_muxes.proofs.Fitting.{back-is}
use Rattle.vlog_effects.proofs.Running.{steps-blocking, steps-nonblocking}

-- Parts of steps.

clear-first : (p q : Steps) → IsClear (followed p q) → IsClear p
clear-first Done q h = tt
clear-first (Assign s more) q h = (h.0, clear-first more q h.1)
clear-first (Choose at c then_part else_part more) q h = (h.0, h.1, h.2, clear-first more q h.3)
clear-first (Case c arms bodies more) q h = (h.0, h.1, clear-first more q h.2)
clear-first (Refuse x more) q h = absurd h

pub clear-next : (p q : Steps) → IsClear (followed p q) → IsClear q
clear-next Done q h = h
clear-next (Assign s more) q h = clear-next more q h.1
clear-next (Choose at c then_part else_part more) q h = clear-next more q h.3
clear-next (Case c arms bodies more) q h = clear-next more q h.2
clear-next (Refuse x more) q h = absurd h

pub held-first : (a : Work) (xs ys : List Target) → AreHeld a (xs ++ ys) → AreHeld a xs
held-first a [] ys h = tt
held-first a (x ∷ xs) ys h = (h.0, held-first a xs ys h.1)

pub held-next : (a : Work) (xs ys : List Target) → AreHeld a (xs ++ ys) → AreHeld a ys
held-next a [] ys h = h
held-next a (x ∷ xs) ys h = held-next a xs ys h.1

pub held-later : (ts : List Target) (a b : Work) (xs : List Target) → Keeps ts a b → AreHeld a xs → AreHeld b xs
held-later ts a b [] k h = tt
held-later ts a b (x ∷ xs) k h = (
  record { known = rw k.adds.count h.0.known; long = keeps-widths ts a b k x.is_blocking x.number ∙ h.0.long; some = h.0.some; narrow = h.0.narrow },
  held-later ts a b xs k h.1,
)

pub held-wide : (a : Work) (xs : List Target) → AreHeld a xs → AreWide a xs
held-wide a [] h = tt
held-wide a (x ∷ xs) h = (subst (λ (n : ℕ). 1 ≤ n) (sym h.0.long) h.0.some, subst (λ (n : ℕ). n ≤ 128) (sym h.0.long) h.0.narrow, held-wide a xs h.1)

signal-later : (ts : List Target) (a b : Work) (decl : Option Decl) → Keeps ts a b → StandsBelow b → IsSignal a.building decl → IsSignal b.building decl
signal-later ts a b (Some (Signal width low is_signed number)) k stands h = (rw k.adds.count h.0, k.seen_wide number ∙ h.1, stands.seen number)
signal-later ts a b (Some (Constant value low is_signed)) k stands h = tt
signal-later ts a b None k stands h = tt

pub ready-later : (names : Names) (p : Steps) (ts : List Target) (a b : Work) → Keeps ts a b → IsReady names p a → IsReady names p b
ready-later names p ts a b k h = record {
  clear = h.clear;
  held = held-later ts a b (targets p) k h.held;
  signals = λ name. signal-later ts a b (names name) k (k.below h.stands) (h.signals name);
  stands = k.below h.stands;
  sized = h.sized;
}

pub ready-first : (names : Names) (p q : Steps) (a : Work) → IsReady names (followed p q) a → IsReady names p a
ready-first names p q a h = record {
  clear = clear-first p q h.clear;
  held = held-first a (targets p) (targets q) (subst (λ (ts : List Target). AreHeld a ts) (targets-followed p q) h.held);
  signals = h.signals;
  stands = h.stands;
  sized = h.sized;
}

pub ready-next : (names : Names) (p q : Steps) (a : Work) → IsReady names (followed p q) a → IsReady names q a
ready-next names p q a h = record {
  clear = clear-next p q h.clear;
  held = held-next a (targets p) (targets q) (subst (λ (ts : List Target). AreHeld a ts) (targets-followed p q) h.held);
  signals = h.signals;
  stands = h.stands;
  sized = h.sized;
}

-- one statement of a block
ready-element : (names : Names) (xs : List Stmt) (k : ℕ) (x : Stmt) (a : Work) → x ≡ get_or xs k x → k < length xs → IsReady names (in_turn (map steps_of xs) names) a → IsReady names (steps_of x names) a
ready-element names [] k x a is h ready = absurd (omega arith)
ready-element names (y ∷ ys) zero x a is h ready = subst (λ (z : Stmt). IsReady names (steps_of z names) a) (sym is) (ready-first names (steps_of y names) (in_turn (map steps_of ys) names) a ready)
ready-element names (y ∷ ys) (suc k) x a is h ready = ready-element names ys k x a is (omega arith) (ready-next names (steps_of y names) (in_turn (map steps_of ys) names) a ready)

pub block-ready : (names : Names) (xs : List Stmt) (k : ℕ) (x : Stmt) (a m : Work) (cs : List Change) → x ≡ get_or xs k x → k < length xs → IsReady names (in_turn (map steps_of xs) names) a → Built (in_turn (map steps_of (take k xs)) names) a m cs → IsReady names (steps_of x names) m
block-ready names xs k x a m cs is h ready f =
    let p : Steps = in_turn (map steps_of (take k xs)) names in
    ready-later names (steps_of x names) (targets p) a m (keeps p a m f.builds) (ready-element names xs k x a is h ready)

turns-next : (names : Names) (xs : List Stmt) (k : ℕ) (x : Stmt) → x ≡ get_or xs k x → k < length xs → in_turn (map steps_of (take (k + 1) xs)) names ≡ followed (in_turn (map steps_of (take k xs)) names) (steps_of x names)
turns-next names xs k x is h =
    let longer : take (k + 1) xs ≡ take k xs ++ x ∷ [] = take_more xs k x h ∙ ap (λ (y : Stmt). take k xs ++ y ∷ []) (sym is) in
    ap (λ (l : List Stmt). in_turn (map steps_of l) names) longer
    ∙ ap (λ (l : List InNames). in_turn l names) (map-append steps_of (take k xs) (x ∷ []))
    ∙ in_turn-push (map steps_of (take k xs)) (steps_of x) names

pub block-built : (names : Names) (xs : List Stmt) (k : ℕ) (x : Stmt) (a m b : Work) (cs ds es : List Change) → x ≡ get_or xs k x → k < length xs → Built (in_turn (map steps_of (take k xs)) names) a m cs → Built (steps_of x names) m b ds → es ≡ joined cs ds → Built (in_turn (map steps_of (take (k + 1) xs)) names) a b es
block-built names xs k x a m b cs ds es is h f g e =
    subst (λ (l : List Change). Built (in_turn (map steps_of (take (k + 1) xs)) names) a b l) (sym e)
    (subst (λ (s : Steps). Built s a b (joined cs ds)) (sym (turns-next names xs k x is h))
    (built-push (in_turn (map steps_of (take k xs)) names) (steps_of x names) a m b cs ds f g))

pub cells-followed : (p q : Steps) → cells_of (followed p q) ≡ cells_of p + cells_of q
cells-followed Done q = omega arith
cells-followed (Assign s more) q = let e = cells-followed more q in omega (arith, e)
cells-followed (Choose at c then_part else_part more) q = let e = cells-followed more q in omega (arith, e)
cells-followed (Case c arms bodies more) q = let e = cells-followed more q in omega (arith, e)
cells-followed (Refuse x more) q = cells-followed more q

-- so many statements make no more cells than all
turns-within : (names : Names) (xs : List Stmt) (k : ℕ) → cells_of (in_turn (map steps_of (take k xs)) names) ≤ cells_of (in_turn (map steps_of xs) names)
turns-within names [] zero = omega arith
turns-within names [] (suc k) = omega arith
turns-within names (y ∷ ys) zero = omega arith
turns-within names (y ∷ ys) (suc k) =
    let e = turns-within names ys k in
    let f = cells-followed (steps_of y names) (in_turn (map steps_of (take k ys)) names) in
    let g = cells-followed (steps_of y names) (in_turn (map steps_of ys) names) in
    omega (arith, e, f, g)

pub block-short : (names : Names) (xs : List Stmt) (k : ℕ) (x : Stmt) (a m : Work) (cs : List Change) (e : ElabError) → x ≡ get_or xs k x → k < length xs → Built (in_turn (map steps_of (take k xs)) names) a m cs → IsShort (length m.building.cells + cells_of (steps_of x names)) e → IsShort (length a.building.cells + cells_of (in_turn (map steps_of xs) names)) e
block-short names xs k x a m cs e is h f short =
    let n = builds-counted (in_turn (map steps_of (take k xs)) names) a m f.builds in
    let next = ap cells_of (turns-next names xs k x is h) ∙ cells-followed (in_turn (map steps_of (take k xs)) names) (steps_of x names) in
    let within = turns-within names xs (k + 1) in
    more_short (length m.building.cells + cells_of (steps_of x names)) (length a.building.cells + cells_of (in_turn (map steps_of xs) names)) e (omega (arith, n, next, within)) short

-- A choice.

-- the condition, and what it leaves for both parts
pub choice-ready : (names : Names) (at : Span) (c : Test) (p q : Steps) (a t : Work) (test : List Bit) → IsReady names (Choose at c p q Done) a → BuildsTest c a t test → IsReady names p t × IsReady names q t × AreWide t (targets p ++ targets q)
choice-ready names at c p q a t test h f =
    let k : Keeps [] a t = keeps-test c a t test f in
    let ps : List Target = targets p in
    let qs : List Target = targets q in
    let first : AreHeld a ps = held-first a ps (qs ++ []) h.held in
    let second : AreHeld a qs = held-first a qs [] (held-next a ps (qs ++ []) h.held) in (
      ready-later names p [] a t k (record { clear = h.clear.1; held = first; signals = h.signals; stands = h.stands; sized = h.sized }),
      ready-later names q [] a t k (record { clear = h.clear.2; held = second; signals = h.signals; stands = h.stands; sized = h.sized }),
      held-wide t (ps ++ qs) (held-later [] a t (ps ++ qs) k (held-both a ps qs first second)),
    ) where
      held-both : (w : Work) (xs ys : List Target) → AreHeld w xs → AreHeld w ys → AreHeld w (xs ++ ys)
      held-both w [] ys g l = l
      held-both w (x ∷ xs) ys g l = (g.0, held-both w xs ys g.1 l)

-- what was given back is the builder with what it had
pub back-keeps : (p : Steps) (t y w : Work) (cs : List Change) → Built p t y cs → w ≡ given_back cs y → Keeps [] t w
back-keeps p t y w cs f e =
    subst (λ (u : Work). Keeps [] t u) (sym (back-is p t y w cs f e)) (keeps-restored (targets p) t y (keeps p t y f.builds))

pub back-counted : (p : Steps) (t y w : Work) (cs : List Change) → Built p t y cs → w ≡ given_back cs y → length w.building.cells ≡ length t.building.cells + cells_of p
back-counted p t y w cs f e = ap (λ (u : Work). length u.building.cells) (back-is p t y w cs f e) ∙ builds-counted p t y f.builds

-- Statements, by their variants.

steps-null : (at : Span) (names : Names) → steps_of (Null at) names ≡ Done
steps-null at names =
    ap (λ (s : Stmt). steps_of s names) (sym (rolls-Null at)) ∙ ap (λ (f : InNames). f names) (fold-roll-Stmt InNames Item step_of item_of (t.Null at))

-- nothing changes
pub null-built : (names : Names) (stmt : Stmt) (at : Span) (a : Work) (cs : List Change) → stmt ≡ Null at → cs ≡ [] → Built (steps_of stmt names) a a cs
null-built names stmt at a cs is e =
    subst (λ (p : Steps). Built p a a cs) (sym (ap (λ (s : Stmt). steps_of s names) is ∙ steps-null at names)) (record { builds = refl; changes_are = e })

pub none-built : (names : Names) (o : Option Stmt) (a : Work) (cs : List Change) → o ≡ None → cs ≡ [] → Built (else_steps (option_map steps_of o) names) a a cs
none-built names o a cs is e =
    subst (λ (x : Option Stmt). Built (else_steps (option_map steps_of x) names) a a cs) (sym is) (record { builds = refl; changes_are = e })

pub block-is : (names : Names) (stmt : Stmt) (at : Span) (label : Option Identifier) (body : List Stmt) → stmt ≡ SeqBlock at label body → steps_of stmt names ≡ in_turn (map steps_of body) names
block-is names stmt at label body is = ap (λ (s : Stmt). steps_of s names) is ∙ steps-block at label body names

pub blocking-is : (names : Names) (stmt : Stmt) (x : Assignment) → stmt ≡ BlockingAssignment x → steps_of stmt names ≡ Assign (assigning true x names) Done
blocking-is names stmt x is = ap (λ (s : Stmt). steps_of s names) is ∙ steps-blocking x names

pub nonblocking-is : (names : Names) (stmt : Stmt) (x : Assignment) → stmt ≡ NonblockingAssignment x → steps_of stmt names ≡ Assign (assigning false x names) Done
nonblocking-is names stmt x is = ap (λ (s : Stmt). steps_of s names) is ∙ steps-nonblocking x names

pub choice-is : (names : Names) (stmt : Stmt) (at : Span) (c : Expr) (first : Stmt) (second : Option Stmt) → stmt ≡ Conditional at c first second → steps_of stmt names ≡ Choose at (record { names = names; condition = c }) (steps_of first names) (else_steps (option_map steps_of second) names) Done
choice-is names stmt at c first second is = ap (λ (s : Stmt). steps_of s names) is ∙ steps-conditional at c first second names

pub ready-as : (names : Names) (p q : Steps) (a : Work) → p ≡ q → IsReady names p a → IsReady names q a
ready-as names p q a e h = subst (λ (s : Steps). IsReady names s a) e h

-- an assignment alone
pub assign-ready : (names : Names) (s : Assigning) (a : Work) → IsReady names (Assign s Done) a → CanAssign s × AreHeld a (parts_targets s.is_blocking s.names (parts_of s.left))
assign-ready names s a h = (h.clear.0, held-first a (parts_targets s.is_blocking s.names (parts_of s.left)) [] h.held)

pub alone-short : (s : Assigning) (n : ℕ) (e : ElabError) → IsShort (n + assign_cells s) e → IsShort (n + cells_of (Assign s Done)) e
alone-short s n e h = more_short (n + assign_cells s) (n + cells_of (Assign s Done)) e (omega arith) h
