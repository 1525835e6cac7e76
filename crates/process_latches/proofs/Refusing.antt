-- What is refused in the parts of a process, taken together.
use Rattle.process_latches.proofs.Common.{◌≡◌, Bool, List, ◌++◌, ◌∙◌, subst, Option, Span, EventControl, Stmt, Names, Steps, steps_of, Refusal, IsFirst, step_refusals, Marks, Write, AreBlank, Marked}
use Rattle.process_latches.proofs.Common.{mixed_refusals, latch_refusals, control_refusals, body_refusals, sound, IsOwn, writes}
use Rattle.process_latches.proofs.Choosing.{own_marks}

-- an answer that is first in both of two lists whose firsts these are
abbrev pub IsFirstOf : Option Refusal → Option Refusal → Option Refusal → Type 0
IsFirstOf f g found = (xs ys : List Refusal) → IsFirst xs f → IsFirst ys g → IsFirst (xs ++ ys) found

pub body_first : (comb : Bool) (names here : Names) (written : List Bool) (always : Span) (control : EventControl) (body : Stmt) (blank m : Marks) (ws : List Write) (events statements kinds latch last later found : Option Refusal) → here ≡ names → IsFirst (control_refusals names control) events → IsFirst (step_refusals comb written (steps_of body names)) statements → AreBlank blank → Marked (sound (steps_of body here)) blank m → ws ≡ m.writes.items → IsFirst (mixed_refusals ws) kinds → ((s : Steps) → IsOwn s m → IsFirst (latch_refusals comb always s) latch) → IsFirstOf kinds latch last → IsFirstOf statements last later → IsFirstOf events later found → IsFirst (body_refusals comb names written always control body) found
body_first comb names here written always control body blank m ws events statements kinds latch last later found same e s empty x as_items k l f1 f2 f3 =
    let own : IsOwn (sound (steps_of body names)) m = subst (λ (n : Names). IsOwn (sound (steps_of body n)) m) same (own_marks (sound (steps_of body here)) blank m empty x) in
    let k2 : IsFirst (mixed_refusals (writes (sound (steps_of body names)))) kinds = subst (λ (l : List Write). IsFirst (mixed_refusals l) kinds) (as_items ∙ own.writes_are) k in
    f3 (control_refusals names control) (step_refusals comb written (steps_of body names) ++ (mixed_refusals (writes (sound (steps_of body names))) ++ latch_refusals comb always (sound (steps_of body names)))) e (f2 (step_refusals comb written (steps_of body names)) (mixed_refusals (writes (sound (steps_of body names))) ++ latch_refusals comb always (sound (steps_of body names))) s (f1 (mixed_refusals (writes (sound (steps_of body names)))) (latch_refusals comb always (sound (steps_of body names))) k2 (l (sound (steps_of body names)) own)))
