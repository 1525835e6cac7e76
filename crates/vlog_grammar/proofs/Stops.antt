-- Why the reader may stop where it does.
use Rattle.vlog_grammar.proofs.Common.{◌≡◌, ℕ, ◌+◌, ◌<◌, ◌≤◌, suc, List, [], ◌∷◌, ◌++◌, length, take, drop, get_or, reverse, Option, Some, None, refl, sym, ap, subst, ◌∙◌, append_assoc, arith}
use Rattle.vlog_grammar.proofs.Common.{append-nil, append_cancel_right, drop-cons, drop-length, take-length, Token, Step, Take, Begin, Feature, Class, Finish, Symbol, kind_of, Trees, Nil, Leaf, Node}
use Rattle.vlog_grammar.proofs.Common.{tokens_of, next_of, Fits, Derives, steps_of, start, none_refused, AreStepsOf, IsUnexpected, IsRefused, IsUnexpectedAt, IsRefusedAt, IsStopAt, IsReading}
use Rattle.vlog_grammar.proofs.Common.{AreStepsSoFar, taken, named, Unexpected, Stop, AllFollowed, ExpandsTo, Reaches, with_asked, IsAsked}
use Rattle.std.proofs.lemmas.List as lists
use Rattle.vlog_grammar.specs.declared.reader.Asked.{Asked}
use Rattle.vlog_grammar.specs.declared.reader.Asked.TheVariants.{Asks, Stuck, Nothing}
use Rattle.vlog_grammar.proofs.Expand.{front_is}
use Rattle.vlog_grammar.proofs.Reach.{stack_finishes, NoRow, is_unexpected, is_refused, reaches_more, reaches_start}

-- the token isn't what is asked for
abbrev pub CannotTake : Asked → Token → Type 0
CannotTake (Asks g) t = (x : Option Feature) → Fits g t x → ⊥
CannotTake (Stuck g) t = Unit {0}
CannotTake Nothing t = Unit {0}

abbrev pub IsSomething : Asked → Type 0
IsSomething (Asks g) = Unit {0}
IsSomething (Stuck g) = Unit {0}
IsSomething Nothing = ⊥

-- no row for what is asked for begins with the token
asks_none : (y : Class) (asked : Asked) (gs : List Symbol) (t : Token) (h : Trees) (more : List Token) → AllFollowed (with_asked asked gs) → IsAsked y asked → CannotTake asked t → t.class ≡ y → Derives (with_asked asked gs) h [] → tokens_of h ≡ t ∷ more → ⊥
asks_none y (Asks g) gs t Nil more followed is none same d e = d
asks_none y (Asks g) gs t (Leaf u x f) more followed is none same d e =
    let token : u ≡ t = cc in
    none x (subst (λ (w : Token). Fits g w x) token d.0)
asks_none y (Asks g) gs t (Node r parts f) more followed is none same d e = is (kind_of r) d.0
asks_none y (Stuck g) gs t h more followed is none same d e =
    let a = front_is g gs is.0 y h followed is.1 d (ap next_of e ∙ same) in
    let wrong = sym a.4 ∙ is.2 in
    cc
asks_none y Nothing gs t Nil more followed is none same d e = cc
asks_none y Nothing gs t (Leaf u x f) more followed is none same d e = d
asks_none y Nothing gs t (Node r parts f) more followed is none same d e = d

pub no_row : (old : List Symbol) (asked : Asked) (gs : List Symbol) (s0 s1 : List Step) (t : Token) (rest : List Token) → ExpandsTo t.class old (with_asked asked gs) s0 s1 → IsAsked t.class asked → CannotTake asked t → NoRow old (t ∷ rest)
no_row old asked gs s0 s1 t rest to is none = λ f more d e.
    let n = to.expands.forth f d (ap next_of e) in
    asks_none t.class asked gs t n.row more to.expands.followed is none refl n.derives (n.tokens ∙ e)

-- at the end, where something is asked for
ends_none : (asked : Asked) (gs : List Symbol) (h : Trees) → AllFollowed (with_asked asked gs) → IsAsked Finish asked → IsSomething asked → Derives (with_asked asked gs) h [] → tokens_of h ≡ [] → ⊥
ends_none (Asks g) gs Nil followed is some d e = d
ends_none (Asks g) gs (Leaf u x f) followed is some d e = cc
ends_none (Asks g) gs (Node r parts f) followed is some d e = is (kind_of r) d.0
ends_none (Stuck g) gs h followed is some d e =
    let a = front_is g gs is.0 Finish h followed is.1 d (ap next_of e) in
    let wrong = sym a.4 ∙ is.2 in
    cc
ends_none Nothing gs h followed is some d e = some

pub no_end : (old : List Symbol) (asked : Asked) (gs : List Symbol) (s0 s1 : List Step) → ExpandsTo Finish old (with_asked asked gs) s0 s1 → IsAsked Finish asked → IsSomething asked → NoRow old []
no_end old asked gs s0 s1 to is some = λ f d e.
    let n = to.expands.forth f d (ap next_of e) in
    ends_none asked gs n.row to.expands.followed is some n.derives (n.tokens ∙ e)

pub whole : (ts : List Token) (old : List Symbol) (s0 s1 : List Step) → Reaches ts s0 old → ExpandsTo Finish old [] s0 s1 → AreStepsOf s1 ts
whole ts old s0 s1 at to =
    let w = to.expands.back Nil tt refl in
    let u = at.back w.row w.derives in
    record {
      text = u.row;
      trees = record {
        is_text = u.is_text;
        derives = u.tokens ∙ ap (λ (x : List Token). ts ++ x) w.tokens ∙ append-nil ts;
        none_is_refused = u.refusals ∙ ap (λ (x : List (Option Feature)). none_refused ts ++ x) w.refusals ∙ append-nil (none_refused ts);
      };
      are = u.steps ∙ ap (λ (x : List Step). s0 ++ x) (w.steps ∙ append-nil to.added) ∙ sym to.are;
    }

pub take_more : (done : List Token) (old : List Symbol) (g : Symbol) (gs : List Symbol) (t : Token) (s0 s1 s2 : List Step) → Reaches done s0 old → ExpandsTo t.class old (g ∷ gs) s0 s1 → Fits g t None → s2 ≡ s1 ++ Take t ∷ [] → Reaches (done ++ t ∷ []) s2 gs
take_more done old g gs t s0 s1 s2 at to fits step =
    let e : s2 ≡ s0 ++ (to.added ++ Take t ∷ []) = step ∙ ap (λ (x : List Step). x ++ Take t ∷ []) to.are ∙ append_assoc s0 to.added (Take t ∷ []) in
    subst (λ (x : List Step). Reaches (done ++ t ∷ []) x gs) (sym e) (reaches_more done s0 to.added old gs g t at to.expands fits)

-- at a place among the tokens
pub unexpected_at : (ts : List Token) (i : ℕ) (d : Token) (old : List Symbol) (asked : Asked) (gs : List Symbol) (s0 s1 : List Step) → i < length ts → Reaches (take i ts) s0 old → ExpandsTo (get_or ts i d).class old (with_asked asked gs) s0 s1 → IsAsked (get_or ts i d).class asked → CannotTake asked (get_or ts i d) → IsUnexpectedAt ts i
unexpected_at ts i d old asked gs s0 s1 within at to is none =
    let t = get_or ts i d in
    (omega arith, subst (λ (r : List Token). IsUnexpected (take i ts) r) (sym (drop-cons ts i d within)) (is_unexpected (take i ts) s0 old (t ∷ drop (suc i) ts) at (no_row old asked gs s0 s1 t (drop (suc i) ts) to is none)))

pub refused_at : (ts : List Token) (i : ℕ) (d : Token) (old : List Symbol) (asked : Asked) (g : Symbol) (gs : List Symbol) (s0 s1 : List Step) (x : Feature) → i < length ts → Reaches (take i ts) s0 old → ExpandsTo (get_or ts i d).class old (with_asked asked gs) s0 s1 → asked ≡ Asks g → Fits g (get_or ts i d) (Some x) → IsRefusedAt ts i x
refused_at ts i d old asked g gs s0 s1 x within at to is fits =
    let t = get_or ts i d in
    let to' = subst (λ (a : Asked). ExpandsTo t.class old (with_asked a gs) s0 s1) is to in
    (within, subst (λ (r : List Token). IsRefused x (take i ts) r) (sym (drop-cons ts i d within)) (is_refused (take i ts) s0 to'.added old gs g t (drop (suc i) ts) x at to'.expands fits))

pub taken_at : (ts : List Token) (i : ℕ) (d : Token) (old : List Symbol) (asked : Asked) (g : Symbol) (gs : List Symbol) (s0 s1 s2 : List Step) → i < length ts → Reaches (take i ts) s0 old → ExpandsTo (get_or ts i d).class old (with_asked asked gs) s0 s1 → asked ≡ Asks g → Fits g (get_or ts i d) None → s2 ≡ s1 ++ Take (get_or ts i d) ∷ [] → Reaches (take (i + 1) ts) s2 gs
taken_at ts i d old asked g gs s0 s1 s2 within at to is fits step =
    let t = get_or ts i d in
    let to' = subst (λ (a : Asked). ExpandsTo t.class old (with_asked a gs) s0 s1) is to in
    subst (λ (w : List Token). Reaches w s2 gs) (sym (lists.take_more ts i d within)) (take_more (take i ts) old g gs t s0 s1 s2 at to' fits step)

-- at the end
pub all_taken : (ts : List Token) (i : ℕ) (s : List Step) (gs : List Symbol) → i ≤ length ts → length ts ≤ i → Reaches (take i ts) s gs → Reaches ts s gs
all_taken ts i s gs le ge at =
    let e : i ≡ length ts = omega arith in
    subst (λ (w : List Token). Reaches w s gs) (ap (λ (n : ℕ). take n ts) e ∙ take-length ts) at

pub reaches_all : (ts : List Token) (s : List Step) (gs : List Symbol) → Reaches ts s gs → Reaches (take (length ts) ts) s gs
reaches_all ts s gs at = subst (λ (w : List Token). Reaches w s gs) (sym (take-length ts)) at

pub unexpected_end : (ts : List Token) (old : List Symbol) (asked : Asked) (gs : List Symbol) (s0 s1 : List Step) → Reaches ts s0 old → ExpandsTo Finish old (with_asked asked gs) s0 s1 → IsAsked Finish asked → IsSomething asked → IsUnexpectedAt ts (length ts)
unexpected_end ts old asked gs s0 s1 at to is some =
    let u = is_unexpected ts s0 old [] at (no_end old asked gs s0 s1 to is some) in
    (omega arith, subst (λ (r : List Token). IsUnexpected (take (length ts) ts) r) (sym (drop-length ts)) (subst (λ (d : List Token). IsUnexpected d []) (sym (take-length ts)) u))

pub whole_read : (ts : List Token) (old : List Symbol) (asked : Asked) (gs : List Symbol) (s0 s1 : List Step) → Reaches ts s0 old → ExpandsTo Finish old (with_asked asked gs) s0 s1 → asked ≡ Nothing → AreStepsOf s1 ts
whole_read ts old asked gs s0 s1 at to is = whole ts old s0 s1 at (subst (λ (a : Asked). ExpandsTo Finish old (with_asked a gs) s0 s1) is to)

pub next_at : (ts : List Token) (i : ℕ) (d : Token) → i < length ts → next_of (drop i ts) ≡ (get_or ts i d).class
next_at ts i d within = ap next_of (drop-cons ts i d within)

pub at_end : (ts : List Token) → IsUnexpectedAt ts (length ts) → IsStopAt ts (length ts) (Unexpected (length ts))
unfolding named
at_end ts h = (refl, h, ap (λ (w : List Token). named (next_of w)) (drop-length ts))

-- the steps so far
taken-append : (a b : List Step) → taken (a ++ b) ≡ taken a ++ taken b
taken-append [] b = refl
taken-append (Take t ∷ a) b = ap (λ (w : List Token). t ∷ w) (taken-append a b)
taken-append (Begin r ∷ a) b = taken-append a b

pub taken_steps : (f : Trees) → taken (steps_of f) ≡ tokens_of f
taken_steps Nil = refl
taken_steps (Leaf t x f) = ap (λ (w : List Token). t ∷ w) (taken_steps f)
taken_steps (Node r parts f) =
    taken-append (steps_of parts) (steps_of f) ∙ ap (λ (w : List Token). w ++ taken (steps_of f)) (taken_steps parts) ∙ ap (λ (w : List Token). tokens_of parts ++ w) (taken_steps f)

so_far : (done : List Token) (steps : List Step) (stack : List Symbol) → Reaches done steps stack → AreStepsSoFar steps done
so_far done steps stack at =
    let f = stack_finishes stack at.safe in
    let u = at.back f.row f.derives in
    let same : taken steps ++ tokens_of f.row ≡ done ++ tokens_of f.row =
    ap (λ (w : List Token). taken steps ++ w) (sym (taken_steps f.row)) ∙ sym (taken-append steps (steps_of f.row)) ∙ ap taken (sym u.steps) ∙ taken_steps u.row ∙ u.tokens in
    record {
      take_them = append_cancel_right (taken steps) done (tokens_of f.row) same;
      shared = λ text more d e. let r = at.forth text more d e in (steps_of r.row, r.steps);
    }

pub stopped_at : (ts : List Token) (n : ℕ) (stack : List Symbol) (s0 s1 kept : List Step) (y : Class) (new : List Symbol) (stop : Stop) (given : Option Stop) (count : ℕ) → Reaches (take n ts) s0 stack → ExpandsTo y stack new s0 s1 → count ≡ length s0 → kept ≡ take count s1 → given ≡ Some stop → IsStopAt ts n stop → IsReading ts kept given
stopped_at ts n stack s0 s1 kept y new stop given count at to all cut is h =
    let same : kept ≡ s0 = cut ∙ ap (λ (i : ℕ). take i s1) all ∙ ap (take (length s0)) to.are ∙ take_front s0 to.added in
    subst (λ (o : Option Stop). IsReading ts kept o) (sym is) (n, h, subst (λ (w : List Step). AreStepsSoFar w (take n ts)) (sym same) (so_far (take n ts) s0 stack at))
  where
    take_front : (a b : List Step) → take (length a) (a ++ b) ≡ a
    take_front [] b = refl
    take_front (x ∷ a) b = ap (λ (w : List Step). x ∷ w) (take_front a b)

-- the cases of what is asked for
pub not_asks : (asked : Asked) (t : Token) → ((x : Symbol) → asked ≡ Asks x → ⊥) → CannotTake asked t
not_asks (Asks g) t h = absurd (h g refl)
not_asks (Stuck g) t h = tt
not_asks Nothing t h = tt

pub misfits : (asked : Asked) (g : Symbol) (t : Token) → asked ≡ Asks g → ((x : Option Feature) → Fits g t x → ⊥) → CannotTake asked t
misfits asked g t e h = subst (λ (a : Asked). CannotTake a t) (sym e) h

pub not_nothing : (asked : Asked) → (asked ≡ Nothing → ⊥) → IsSomething asked
not_nothing (Asks g) h = tt
not_nothing (Stuck g) h = tt
not_nothing Nothing h = h refl

pub reaches_stack : (xs : List Symbol) (ss : List Step) → ss ≡ [] → xs ≡ start → Reaches [] ss (reverse xs)
reaches_stack xs ss e h = subst (λ (s : List Step). Reaches [] s (reverse xs)) (sym e) (subst (λ (gs : List Symbol). Reaches [] [] (reverse gs)) (sym h) reaches_start)

pub fits_as : (s : Symbol) (t : Token) (x y : Option Feature) → x ≡ y → Fits s t x → Fits s t y
fits_as s t x y e h = subst (λ (w : Option Feature). Fits s t w) e h
