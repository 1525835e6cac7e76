use Rattle.cycle_sim.proofs.Common.{◌≡◌, ◌+◌, List, [], ◌∷◌, ◌++◌, option_to_list, Option, sym, ◌∙◌, ap, subst, refl, Bit, Part, AllWhole}
use Rattle.cycle_sim.proofs.Growing.{IsGrown, grown-one, grown-last, whole-last}
use Rattle.cycle_sim.proofs.wiring.add_bit.Goals as goal

grown-by : (drivers : List (List Bit)) (old was new now : List Part) (bit : Bit) → old ≡ was → new ≡ now → IsGrown drivers was now bit → IsGrown drivers old new bit
grown-by drivers old was new now bit e f grown = subst (λ (x : List Part). IsGrown drivers x new bit) (sym e) (subst (λ (x : List Part). IsGrown drivers was x bit) (sym f) grown)

pub returns-then-goes_on : goal.returns-then-goes_on
returns-then-goes_on c = λ drivers bit whole is.
    let front : List Part = c.pop.new.self.items in
    let last : Part = c.in-Some.last in
    let was : c.args.parts.now.items ≡ front ++ last ∷ [] = c.pop.ensures.items ∙ ap (λ (o : Option Part). front ++ option_to_list o) c.in-Some.is in
    let all : AllWhole drivers (front ++ last ∷ []) = subst (AllWhole drivers) was whole in
    let more = c.goes_on.ensures.bits c.if-goes_on.true drivers bit (whole-last drivers front last all) is in
    grown-by drivers c.args.parts.now.items (front ++ last ∷ []) c.push-then-goes_on.new.self.items (front ++ record { first = last.first; width = last.width + 1 } ∷ []) bit was c.in_ok-push-2.ensures.items (grown-last drivers front last bit all more)

pub returns : goal.returns
returns c = λ drivers bit whole is.
    let front : List Part = c.pop.new.self.items in
    let last : Part = c.in-Some.last in
    let old : List Part = c.args.parts.now.items in
    let was : old ≡ front ++ last ∷ [] = c.pop.ensures.items ∙ ap (λ (o : Option Part). front ++ option_to_list o) c.in-Some.is in
    let again : c.push-2.new.self.items ≡ old = c.in_ok-push-3.ensures.items ∙ sym was in
    let now : c.push-3.new.self.items ≡ old ++ record { first = c.args.next; width = 1 } ∷ [] = c.in_ok-push-4.ensures.items ∙ ap (λ (l : List Part). l ++ c.one-2.result ∷ []) again ∙ ap (λ (p : Part). old ++ p ∷ []) c.one-2.ensures in
    grown-by drivers old old c.push-3.new.self.items (old ++ record { first = c.args.next; width = 1 } ∷ []) bit refl now (grown-one drivers old c.args.next bit whole is)
