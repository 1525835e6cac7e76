-- What the code of blocks and of `if` has from one call to the next.
use Rattle.proc_muxes.proofs.Common.{◌≡◌, ℕ, ◌+◌, List, [], map, length, Option, Some, sym, ◌∙◌, ap, subst, arith, option_map, Span, Bit, Expr, Identifier, Stmt, SeqBlock, Conditional, Names, sense}
use Rattle.proc_muxes.proofs.Common.{Test, Steps, Done, Choose, in_turn, steps_of, else_steps, targets, AllBelow, refusals, IsShort, ElabError, more_short, Change, Choice, Work, BuildsTest}
use Rattle.proc_muxes.proofs.Common.{ChoosesAll, IsReady, cells_of, StandsBelow, AllFit, AllChoicesFit, joined, all_have, given_back, chosen, Built, test_cells}
use Rattle.proc_muxes.proofs.Counting.{builds-counted, test-counted}
use Rattle.proc_muxes.proofs.Keeping.{keeps-test}
use Rattle.proc_muxes.proofs.Merging.{built-choice}
use Rattle.proc_muxes.proofs.Fitting.{leaves-steps, both-keep, parts-counted, later-below, changes-fit, choices-fit}
use Rattle.proc_muxes.proofs.Walking.{block-is, choice-is, ready-later, held-wide, choice-ready, back-keeps, back-counted}

-- Statements by what the code reads of them.

pub else-as : (names : Names) (o : Option Stmt) (s x : Stmt) → o ≡ Some s → x ≡ s → else_steps (option_map steps_of o) names ≡ steps_of x names
else-as names o s x is e = ap (λ (p : Option Stmt). else_steps (option_map steps_of p) names) is ∙ ap (λ (y : Stmt). steps_of y names) (sym e)

pub block-as : (names : Names) (stmt : Stmt) (at : Span) (label : Option Identifier) (body xs : List Stmt) → stmt ≡ SeqBlock at label body → xs ≡ body → steps_of stmt names ≡ in_turn (map steps_of xs) names
block-as names stmt at label body xs is e = block-is names stmt at label body is ∙ ap (λ (l : List Stmt). in_turn (map steps_of l) names) (sym e)

-- the test of an `if`
abbrev pub test_of : Names → Expr → Test
test_of names x = record { names = names; condition = x }

-- the steps of an `if`
abbrev pub choice : Names → Span → Expr → Stmt → Option Stmt → Steps
choice names at x y second = Choose at (test_of names x) (steps_of y names) (else_steps (option_map steps_of second) names) Done

pub choice-as : (names : Names) (stmt : Stmt) (at : Span) (c x : Expr) (first y : Stmt) (second : Option Stmt) → stmt ≡ Conditional at c first second → x ≡ c → y ≡ first → steps_of stmt names ≡ choice names at x y second
choice-as names stmt at c x first y second is ex ey =
    choice-is names stmt at c first second is
    ∙ ap (λ (z : Expr). choice names at z first second) (sym ex)
    ∙ ap (λ (z : Stmt). choice names at x z second) (sym ey)

-- What the calls of an `if` ask.

pub choice-clear : (names : Names) (at : Span) (x : Expr) (p q : Steps) (a : Work) → IsReady names (Choose at (test_of names x) p q Done) a → refusals names x (sense names x).shape ≡ []
choice-clear names at x p q a h = h.clear.0

pub first-ready : (names : Names) (at : Span) (x : Expr) (p q : Steps) (a t : Work) (test : List Bit) → IsReady names (Choose at (test_of names x) p q Done) a → BuildsTest (test_of names x) a t test → IsReady names p t
first-ready names at x p q a t test h f = (choice-ready names at (test_of names x) p q a t test h f).0

pub test-places : (c : Test) (a t : Work) (test : List Bit) (k : ℕ) → BuildsTest c a t test → k ≡ length a.building.signals → k ≡ length t.building.signals
test-places c a t test k f e = e ∙ sym (keeps-test c a t test f).adds.count

pub first-fit : (names : Names) (p : Steps) (t y : Work) (cs l : List Change) → IsReady names p t → Built p t y cs → l ≡ cs → AllFit y l
first-fit names p t y cs l r f e = subst (λ (k : List Change). AllFit y k) (sym e) (changes-fit p t y cs f r.stands (held-wide t (targets p) r.held))

pub backs : (y w : Work) (cs l : List Change) → w ≡ given_back l y → l ≡ cs → w ≡ given_back cs y
backs y w cs l h e = h ∙ ap (λ (k : List Change). given_back k y) e

pub haves : (y : Work) (xs : List Choice) (cs l : List Change) → xs ≡ all_have y l → l ≡ cs → xs ≡ all_have y cs
haves y xs cs l h e = h ∙ ap (λ (k : List Change). all_have y k) e

pub second-ready : (names : Names) (at : Span) (x : Expr) (p q : Steps) (a t y w : Work) (test : List Bit) (cs : List Change) → IsReady names (Choose at (test_of names x) p q Done) a → BuildsTest (test_of names x) a t test → Built p t y cs → w ≡ given_back cs y → IsReady names q w
second-ready names at x p q a t y w test cs h f g back =
    ready-later names q [] t w (back-keeps p t y w cs g back) (choice-ready names at (test_of names x) p q a t test h f).1

pub choices-ready : (names : Names) (at : Span) (x : Expr) (p q : Steps) (a t y w n : Work) (test : List Bit) (cs ds : List Change) (xs : List Choice) → IsReady names (Choose at (test_of names x) p q Done) a → BuildsTest (test_of names x) a t test → Built p t y cs → w ≡ given_back cs y → Built q w n ds → xs ≡ all_have y cs → AllChoicesFit n (chosen xs cs ds)
choices-ready names at x p q a t y w n test cs ds xs h f g back k have =
    let r = choice-ready names at (test_of names x) p q a t test h f in
    subst (λ (l : List Choice). AllChoicesFit n (chosen l cs ds)) (sym have) (choices-fit p q t y w n cs ds g back k r.0.stands r.2)

pub test-below : (p q : Steps) (t y w n : Work) (test : List Bit) (cs ds : List Change) → Built p t y cs → w ≡ given_back cs y → Built q w n ds → AllBelow t.building.nets test → AllBelow n.building.nets test
test-below p q t y w n test cs ds g back k h = later-below p (targets q) t y w n cs ds g back (leaves-steps q w n ds k) test h

pub both-stand : (p q : Steps) (t y w n : Work) (cs ds : List Change) → Built p t y cs → w ≡ given_back cs y → Built q w n ds → StandsBelow t → StandsBelow n
both-stand p q t y w n cs ds g back k h = (both-keep p (targets q) t y w n cs ds g back (leaves-steps q w n ds k)).below h

-- What is built in the end.

pub choice-built : (names : Names) (at : Span) (x : Expr) (p q s : Steps) (a t y w n b : Work) (test : List Bit) (cs ds es : List Change) (xs : List Choice) → s ≡ Choose at (test_of names x) p q Done → BuildsTest (test_of names x) a t test → Built p t y cs → w ≡ given_back cs y → Built q w n ds → xs ≡ all_have y cs → ChoosesAll at test (chosen xs cs ds) n b → es ≡ joined cs ds → Built s a b es
choice-built names at x p q s a t y w n b test cs ds es xs is f g back k have h e =
    let muxes : ChoosesAll at test (chosen (all_have y cs) cs ds) n b = subst (λ (l : List Choice). ChoosesAll at test (chosen l cs ds) n b) have h in
    let all : Built (Choose at (test_of names x) p q Done) a b (joined cs ds) = built-choice at (test_of names x) p q a t y w n b test cs ds f g back k muxes in
    subst (λ (l : List Change). Built s a b l) (sym e) (subst (λ (r : Steps). Built r a b (joined cs ds)) (sym is) all)

-- Errors.

short-as : (s r : Steps) (n : ℕ) (e : ElabError) → s ≡ r → IsShort (n + cells_of r) e → IsShort (n + cells_of s) e
short-as s r n e is h = subst (λ (z : Steps). IsShort (n + cells_of z) e) (sym is) h

pub test-short : (names : Names) (at : Span) (x : Expr) (p q s : Steps) (n : ℕ) (e : ElabError) → s ≡ Choose at (test_of names x) p q Done → IsShort (n + test_cells names x) e → IsShort (n + cells_of s) e
test-short names at x p q s n e is h =
    short-as s (Choose at (test_of names x) p q Done) n e is (more_short (n + test_cells names x) (n + cells_of (Choose at (test_of names x) p q Done)) e (omega arith) h)

pub first-short : (names : Names) (at : Span) (x : Expr) (p q s : Steps) (a t : Work) (test : List Bit) (e : ElabError) → s ≡ Choose at (test_of names x) p q Done → BuildsTest (test_of names x) a t test → IsShort (length t.building.cells + cells_of p) e → IsShort (length a.building.cells + cells_of s) e
first-short names at x p q s a t test e is f h =
    let k = test-counted (test_of names x) a t test f in
    short-as s (Choose at (test_of names x) p q Done) (length a.building.cells) e is (more_short (length t.building.cells + cells_of p) (length a.building.cells + cells_of (Choose at (test_of names x) p q Done)) e (omega (arith, k)) h)

pub second-short : (names : Names) (at : Span) (x : Expr) (p q s : Steps) (a t y w : Work) (test : List Bit) (cs : List Change) (e : ElabError) → s ≡ Choose at (test_of names x) p q Done → BuildsTest (test_of names x) a t test → Built p t y cs → w ≡ given_back cs y → IsShort (length w.building.cells + cells_of q) e → IsShort (length a.building.cells + cells_of s) e
second-short names at x p q s a t y w test cs e is f g back h =
    let k = test-counted (test_of names x) a t test f in
    let l = back-counted p t y w cs g back in
    short-as s (Choose at (test_of names x) p q Done) (length a.building.cells) e is (more_short (length w.building.cells + cells_of q) (length a.building.cells + cells_of (Choose at (test_of names x) p q Done)) e (omega (arith, k, l)) h)

pub muxes-short : (names : Names) (at : Span) (x : Expr) (p q s : Steps) (a t y w n : Work) (test : List Bit) (cs ds : List Change) (xs : List Choice) (e : ElabError) → s ≡ Choose at (test_of names x) p q Done → BuildsTest (test_of names x) a t test → Built p t y cs → w ≡ given_back cs y → Built q w n ds → xs ≡ all_have y cs → IsShort (length n.building.cells + length (chosen xs cs ds)) e → IsShort (length a.building.cells + cells_of s) e
muxes-short names at x p q s a t y w n test cs ds xs e is f g back k have h =
    let i = test-counted (test_of names x) a t test f in
    let j = back-counted p t y w cs g back in
    let l = builds-counted q w n k.builds in
    let m : length (chosen xs cs ds) ≡ _ = ap (λ (z : List Choice). length (chosen z cs ds)) have ∙ parts-counted p (targets q) t y w n cs ds g back (leaves-steps q w n ds k) in
    short-as s (Choose at (test_of names x) p q Done) (length a.building.cells) e is (more_short (length n.building.cells + length (chosen xs cs ds)) (length a.building.cells + cells_of (Choose at (test_of names x) p q Done)) e (omega (arith, i, j, l, m)) h)
