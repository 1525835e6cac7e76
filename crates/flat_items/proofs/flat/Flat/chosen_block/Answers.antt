use Rattle.flat_items.proofs.Common.{List, ℕ, ap, sym, subst, names_of, what_of, opened_of, label_of, IsBlockName, place_of, flat_of}
use Rattle.flat_items.proofs.Rules.{block_opens}
use Rattle.flat_items.proofs.flat.Flat.chosen_block.Goals as goal

pub returns : goal.returns
returns c =
    let named = subst (λ (x : List ℕ). IsBlockName (what_of c.in-Some.around.now.own) c.args.number (label_of c.args.item.now) x) (sym c.as_str.ensures) c.in_ok-name.ensures in
    block_opens (flat_of c.args.self.now) (flat_of c.take_signals-signals.new.self) (flat_of c.open_block.new.self) c.args.place c.args.number c.args.item.now c.args.taken (place_of c.in-Some.around.now) c.as_str.result.now c.in_ok-tasks.tasks.items c.in_ok-inner.inner.items c.append.new.self.items (opened_of c.new-child.result) (names_of c.in_ok-copy.field-0) c.take_signals-signals.result.items c.requires.form c.requires.room c.take_signals-signals.ensures.signals c.take_signals-signals.ensures.taken c.in-Some.ensures named (ap names_of c.in_ok-copy.ensures) c.new-child.ensures c.in_ok-inner.ensures c.in_ok-tasks.ensures c.in_ok-append.ensures.items
