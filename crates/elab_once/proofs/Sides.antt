-- The first refusal of an assignment is one in builders that are alike.
use Rattle.elab_once.proofs.Common.{◌≡◌, inl, inr, Bool, List, [], ◌∷◌, ◌++◌, Option, sym, ap, ◌∙◌, option_map, Expr, LeftSide, least, Names, parts_of, Building, IsRefusal, assignment_faults}
use Rattle.elab_once.proofs.Common.{first_refusal, Reason, RefusesSides, found_in, AreAlike}
use Rattle.flat_runs.specs.Meanings.{Place}
use Rattle.flat_assigns.specs.declared.refusal.Refusal.{Refusal}
use Rattle.flat_assigns.specs.Sides.{slices}
use Rattle.flat_assigns.specs.Writers.{Target, targets, HasWriter, IsFirstWritten}

pub turned : (b c : Building) → AreAlike b c → AreAlike c b
turned b c h = record { signals = sym h.signals; written = λ k i. ((h.written k i).1, (h.written k i).0) }

has_writer : (b c : Building) (inputs : List Bool) (before : List Place) (p : Place) → AreAlike b c → HasWriter b inputs before p → HasWriter c inputs before p
has_writer b c inputs before p h (inl x) = inl x
has_writer b c inputs before p h (inr (inl x)) = inr (inl ((h.written p.signal p.bit).0 x))
has_writer b c inputs before p h (inr (inr x)) = inr (inr x)

written_once : (b c : Building) (inputs : List Bool) (before : List Place) (ts : List Target) (x y : Option Target) → AreAlike b c → IsFirstWritten b inputs before ts x → IsFirstWritten c inputs before ts y → x ≡ y
written_once b c inputs before [] x y h d e = d ∙ sym e
written_once b c inputs before (t ∷ more) x y h (inl d) (inl e) = d.1 ∙ sym e.1
written_once b c inputs before (t ∷ more) x y h (inl d) (inr e) = absurd (e.0 (has_writer b c inputs before t.place h d.0))
written_once b c inputs before (t ∷ more) x y h (inr d) (inl e) = absurd (d.0 (has_writer c b inputs before t.place (turned b c h) e.0))
written_once b c inputs before (t ∷ more) x y h (inr d) (inr e) = written_once b c inputs (before ++ t.place ∷ []) more x y h d.1 e.1

refusal_once : (b c : Building) (inputs : List Bool) (lefts : Names) (left : LeftSide) (rights : Names) (right : Expr) (x y : Option Refusal) → AreAlike b c → IsRefusal b inputs lefts left rights right x → IsRefusal c inputs lefts left rights right y → x ≡ y
refusal_once b c inputs lefts left rights right x y h d e =
    let same : d.0 ≡ e.0 = written_once b c inputs [] (targets (slices lefts (parts_of left))) d.0 e.0 h d.1 e.1 in
    d.2 ∙ ap (first_refusal (least (assignment_faults lefts left rights right))) same ∙ sym e.2

pub sides_once : (b c : Building) (inputs : List Bool) (lefts : Names) (left : LeftSide) (rights : Names) (right : Expr) (x y : Option Reason) → AreAlike b c → RefusesSides b inputs lefts left rights right x → RefusesSides c inputs lefts left rights right y → x ≡ y
sides_once b c inputs lefts left rights right x y h d e = d.2 ∙ ap (option_map found_in) (refusal_once b c inputs lefts left rights right d.0 e.0 h d.1 e.1) ∙ sym e.2
