use Rattle.result_book.proofs.Common.{◌≡◌, List, ℕ, Some, refl, length, slice_get, sym, ◌∙◌, ap, subst, Bool, Decides, ltb-true, slice_get_read, slice_get_within, bytes_eq-Decides}
use Rattle.result_book.proofs.check.has_item.Goals as goal

pub returns-in-Some : goal.returns-in-Some
returns-in-Some c =
    let lookup = c.in-Some.ensures.lookup in
    let inside = ltb-true c.args.place (length c.args.list.now) (sym lookup.0) in
    let at : slice_get c.args.list.now c.args.place ≡ Some c.in-Some.found.now = slice_get_read c.args.list.now (length c.args.list.now) c.args.place c.in-Some.found.now refl inside lookup.1 in
    let tells = subst (λ (r : Bool). Decides r (c.as_slice.result.now ≡ c.args.item.now)) (sym c.eq.ensures) (bytes_eq-Decides c.as_slice.result.now c.args.item.now) in
    (λ same. at ∙ ap Some (sym c.as_slice.ensures ∙ tells.0 same), λ has. tells.1 (c.as_slice.ensures ∙ same_item (sym at ∙ has)))
  where
    same_item : {x y : List ℕ} → Some x ≡ Some y → x ≡ y
    same_item is = cc

pub returns-in-None : goal.returns-in-None
returns-in-None c = (λ never. cc, λ has. c.in-None.ensures.lookup.2 (slice_get_within c.args.list.now c.args.place c.args.item.now has))
