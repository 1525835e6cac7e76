use Rattle.std.proofs.Common.{rules, ◌≡◌, ◌↔◌, ◌-◌, sym, subst, IsTrue, ◌++◌, length}
use Rattle.tb_watch.specs.Searches.{Searching, HasSeen}
use Rattle.tb_watch.specs.Occurs.{Occurs, last}
use Rattle.tb_watch.proofs.Pieces.{seen-next}
use Rattle.tb_watch.proofs.search.Search.see.Goals as goal

pub returns-clause-seen : goal.returns-clause-seen
returns-clause-seen c = λ text seen.
    let s : Searching = record { word = c.self.inside.word.items; found = c.self.inside.found; tail = c.self.inside.tail.items } in
    let before : HasSeen s text = subst (λ x. HasSeen x text) (sym c.self.view_is) seen in
    let window : c.extend_from_slice.new.self.items ≡ s.tail ++ c.args.piece.now = c.in_ok-extend_from_slice.ensures.items in
    let searched : IsTrue c.occurs-self-inside.result ↔ Occurs s.word c.extend_from_slice.new.self.items = rw (c.as_slice.ensures.value, c.as_slice-2.ensures.value) at c.occurs-self-inside.ensures in
    let cut : c.keep_end.new.text.items ≡ last (length s.word - 1) c.extend_from_slice.new.self.items = search rules in
    seen-next s text c.args.piece.now c.extend_from_slice.new.self.items _ c.occurs-self-inside.result c.if-self.false before window searched cut
