use Rattle.site_texts.proofs.Common.{◌≡◌, ◌∙◌, ◌+◌, ℕ, arith, inl, inr, sym, subst, ⊎_elim, take_rest, IsRead}
use Rattle.site_texts.proofs.Choosing.{IsSearched, read_whole, searched_all, searched_no_word, searched_none, searched_until}
use Rattle.site_texts.proofs.choice.Choice.read.Goals.{in-Until, in-NoWord}
use Rattle.site_texts.proofs.choice.Choice.read.Goals as goal

pub loop-number-init : goal.loop-number-init
loop-number-init c = searched_none c.args.self c.args.text.now

pub overflow_add-result : goal.overflow_add-result
overflow_add-result c = omega (arith, (read_whole c.args.self c.args.text.now c.loop-number.number c.in-Whole.len c.in-Whole.ensures).0)

pub slice_bounds-result-start : goal.slice_bounds-result-start
slice_bounds-result-start c = omega (arith, (read_whole c.args.self c.args.text.now c.loop-number.number c.in-Whole.len c.in-Whole.ensures).0)

pub returns-in-Whole : goal.returns-in-Whole
returns-in-Whole c = subst (IsRead c.args.self c.args.text.now c.loop-number.number) (sym (take_rest c.args.text.now (c.in-Whole.len + 1))) (read_whole c.args.self c.args.text.now c.loop-number.number c.in-Whole.len c.in-Whole.ensures).1

pub loop-number-preserved : goal.loop-number-preserved
loop-number-preserved c = elim c.match-along.branch [
  | in-Until w ↦ searched_until c.args.self c.args.text.now c.loop-number.number c.loop-number.longest w.in-Until.same c.match-along.longest c.loop-number.invariant w.in-Until.ensures
      (omega (arith, w.longer-longest.ensures.first, w.longest-is)) (omega (arith, w.longer-longest.ensures.second, w.longest-is))
      (⊎_elim (λ e. inl (w.longest-is ∙ e)) (λ e. inr (w.longest-is ∙ e)) w.longer-longest.ensures.one)
  | in-NoWord w ↦ subst (IsSearched c.args.self c.args.text.now (c.loop-number.number + 1)) (sym w.longest-is) (searched_no_word c.args.self c.args.text.now c.loop-number.number c.loop-number.longest c.loop-number.invariant w.in-NoWord.ensures)
]

pub returns : goal.returns
returns c = let last : c.loop-number.number ≡ 128 = omega arith in
    searched_all c.args.self c.args.text.now c.loop-number.longest (subst (λ (n : ℕ). IsSearched c.args.self c.args.text.now n c.loop-number.longest) last c.loop-number.invariant)
