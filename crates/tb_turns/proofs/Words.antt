-- A simulation has one word.
use Rattle.tb_turns.proofs.Common.{◌≡◌, ℕ, true, false, List, refl, sym, ◌∙◌, subst, Outcome, phases_of, OneOutcome, SimVerdict, IsWord, OneVerdict}
use Rattle.tb_turns.specs.declared.verdict.SimVerdict.TheVariants as v

true_is_not_false : true ≡ false → ⊥
true_is_not_false h = cc

pub one_word : (o : Outcome) (pass fail : List ℕ) (a b : SimVerdict) → IsWord o pass fail a → IsWord o pass fail b → a ≡ b
one_word o pass fail v.Pass v.Pass x y = refl
one_word o pass fail v.Pass v.Fail x y = absurd (y.1 x.1)
one_word o pass fail v.Pass v.Hang x y = absurd (true_is_not_false (sym x.0 ∙ y))
one_word o pass fail v.Fail v.Pass x y = absurd (x.1 y.1)
one_word o pass fail v.Fail v.Fail x y = refl
one_word o pass fail v.Fail v.Hang x y = absurd (true_is_not_false (sym x.0 ∙ y))
one_word o pass fail v.Hang v.Pass x y = absurd (true_is_not_false (sym y.0 ∙ x))
one_word o pass fail v.Hang v.Fail x y = absurd (true_is_not_false (sym y.0 ∙ x))
one_word o pass fail v.Hang v.Hang x y = refl

pub verdicts_agree : OneOutcome → OneVerdict
verdicts_agree law g start limit pass fail a b once x y =
    let same : x.outcome ≡ y.outcome = law g (phases_of limit) start x.outcome y.outcome once x.simulated y.simulated in
    let P : Outcome → Type 0 = λ o. IsWord o pass fail a in
    one_word y.outcome pass fail a b (subst P same x.word) y.word
