use Rattle.vlog_grammar.proofs.Common.{◌≡◌, Some, None, rules, sym, subst, refl, same_true, Feature, the_type, Class, Token, Symbol, Is, Refused, Fits}
use Rattle.vlog_grammar.proofs.reader.fit.Goals as goal

is_class : (s : Symbol) (t : Token) (c : Class) → s ≡ Is c → t.class ≡ c → Fits s t None
is_class s t c is eq = subst (λ (w : Symbol). Fits w t None) (sym is) (eq, refl)

is_refused : (s : Symbol) (t : Token) (c : Class) (x : Feature) → s ≡ Refused c x → t.class ≡ c → Fits s t (Some x)
is_refused s t c x is eq = subst (λ (w : Symbol). Fits w t (Some x)) (sym is) (eq, refl)

pub returns-then-eq : goal.returns-then-eq
returns-then-eq c = is_class _ _ c.in-Is.class c.in-Is.is (same_true the_type (search rules) _ _ (sym c.if-eq.ensures))

pub returns-then-eq-2 : goal.returns-then-eq-2
returns-then-eq-2 c = is_refused _ _ c.in-Refused.class c.in-Refused.feature c.in-Refused.is (same_true the_type (search rules) _ _ (sym c.if-eq-2.ensures))
