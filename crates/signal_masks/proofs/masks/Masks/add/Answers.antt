use Rattle.signal_masks.proofs.Common.{List, length, get_or, arith, ap, sym, ◌∙◌, ◌||◌, ◌&&◌, nat_eq, Mask, has_bit, bits_in}
use Rattle.signal_masks.proofs.Sets.{bits_set, bits_push}
use Rattle.signal_masks.proofs.masks.Masks.add.Goals as goal

pub index-old-requires : goal.index-old-requires
index-old-requires c = omega (arith, ap (λ (l : List Mask). length l) c.self.view_is, c.in-Some.ensures.0)

pub index_mut-requires : goal.index_mut-requires
index_mut-requires c = omega (arith, ap (λ (l : List Mask). length l) c.self.view_is, c.in-Some.ensures.0)

pub returns-in-Some : goal.returns-in-Some
returns-in-Some c = λ n i.
    let old : Mask = c.index-old.result.now in
    let new : Mask = record { number = c.args.number; bits = c.joined.result } in
    let same = sym (c.in-Some.ensures.1 old) ∙ ap (λ (l : List Mask). (get_or l c.in-Some.place old).number) (sym c.self.view_is) ∙ ap (λ (m : Mask). m.number) (sym c.index-old.ensures) in
    bits_set c.self.inside.masks.items c.in-Some.place old new c.args.bits n i c.index-old.ensures (omega (arith, ap (λ (l : List Mask). length l) c.self.view_is, c.in-Some.ensures.0)) same (c.joined.ensures i) ∙ ap (λ (l : List Mask). bits_in l n i || (nat_eq n c.args.number && has_bit c.args.bits i)) c.self.view_is

pub returns-in_ok-push-in-None : goal.returns-in_ok-push-in-None
returns-in_ok-push-in-None c = λ n i. rw c.in_ok-push-in-None.ensures.items (bits_push c.self.inside.masks.items (record { number = c.args.number; bits = c.args.bits }) n i ∙ ap (λ (l : List Mask). bits_in l n i || (nat_eq n c.args.number && has_bit c.args.bits i)) c.self.view_is)
