use Rattle.vlog_grammar.proofs.Common.{◌≡◌, ℕ, ◌-◌, inr, refl, arith, Feature, first_of}
use Rattle.vlog_syntax.specs.declared.feature.Feature.TheVariants as feature
use Rattle.vlog_grammar.proofs.reader.refused.Goals as goal

before : (x : Feature) (n m : ℕ) → x ≡ feature.Memory → m ≡ n - 1 → m ≡ first_of x n
unfolding first_of
before feature.Memory n m e h = h
before _ n m e h = absurd cc

here : (x : Feature) (n : ℕ) → (x ≡ feature.Memory → ⊥) → n ≡ first_of x n
unfolding first_of
here feature.Memory n h = absurd (h refl)
here _ n h = refl

pub returns-in-Memory : goal.returns-in-Memory
returns-in-Memory c = λ tokens h. inr (h, before c.args.feature c.args.at _ c.in-Memory.is (omega (arith, c.saturating_sub.ensures)))

pub returns-in_default : goal.returns-in_default
returns-in_default c = λ tokens h. inr (h, here c.args.feature c.args.at c.in_default.not-Memory)
