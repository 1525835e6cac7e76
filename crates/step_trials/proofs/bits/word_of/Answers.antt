use Rattle.step_trials.proofs.Common.{◌≡◌, Bool, List, ℕ, length, ap, sym, ◌∙◌, low_bits, number, values, length-values, nets_of}
use Rattle.step_trials.proofs.TableLemmas.{bits-number, some-word, word-parts}
use Rattle.step_trials.proofs.bits.word_of.Goals as goal

pub unwrap-requires : goal.unwrap-requires
unwrap-requires c = some-word c.new.result _ _ (record { some = c.requires.0; narrow = c.requires.1; fits = c.number_of.ensures.fits }) c.new.ensures

pub returns-clause-width : goal.returns-clause-width
returns-clause-width c = (word-parts c.new.result c.unwrap.result _ _ c.unwrap.ensures c.new.ensures).0

pub returns-clause-bits : goal.returns-clause-bits
returns-clause-bits c =
    let there : List Bool = values (nets_of c.args.table.now) c.args.bits.now in
    let parts = word-parts c.new.result c.unwrap.result _ _ c.unwrap.ensures c.new.ensures in
    let width : c.unwrap.result.width ≡ length there = parts.0 ∙ sym (length-values (nets_of c.args.table.now) c.args.bits.now) in
    let bits : c.unwrap.result.bits ≡ number there = parts.1 ∙ c.number_of.ensures.value in
    ap (λ (w : ℕ). low_bits w c.unwrap.result.bits) width ∙ ap (low_bits (length there)) bits ∙ bits-number there
