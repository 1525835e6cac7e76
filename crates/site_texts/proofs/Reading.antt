-- Whole site texts: what was read field by field is a site text, and what is stuck is bad there.
use Rattle.site_texts.proofs.Common.{◌≡◌, ℕ, List, sym, subst, ◌∙◌, Parts, SiteText, AreOf, IsAny, IsPart, IsStuck, IsBadAt, IsSiteText, site_text}

-- fields are those of one site
pub same_site : (parts : Parts) (a b : SiteText) → AreOf parts a → AreOf parts b → a ≡ b
same_site parts a b fa fb = λ i. record {
  mode = (sym fa.0 ∙ fb.0) i;
  top = (sym fa.1 ∙ fb.1) i;
  is_cell = (sym fa.2.0 ∙ fb.2.0) i;
  name = (sym fa.2.1 ∙ fb.2.1) i;
  port = (sym fa.2.2.0 ∙ fb.2.2.0) i;
  bit = (sym fa.2.2.1.0 ∙ fb.2.2.1.0) i;
  control = (sym fa.2.2.1.1.0 ∙ fb.2.2.1.1.0) i;
  file = (sym fa.2.2.1.1.1.0 ∙ fb.2.2.1.1.1.0) i;
  line = (sym fa.2.2.1.1.1.1 ∙ fb.2.2.1.1.1.1) i;
}

pub is_site_text : (parts : Parts) (site : SiteText) (text : List ℕ) → IsPart IsAny site_text (AreOf parts) text → AreOf parts site → IsSiteText site text
is_site_text parts site text part are =
    let is : IsSiteText part.rest.site text = record { fields = part.rest.fields; spelled = part.rest.spelled } in
    subst (λ (s : SiteText). IsSiteText s text) (same_site parts part.rest.site site part.fields are) is

pub bad_at : (text : List ℕ) (at : ℕ) → IsStuck IsAny site_text text at → IsBadAt text at
bad_at text at stuck = record {
  within = stuck.within;
  before = record { site = stuck.before.site; more = stuck.more; is_text = record { fields = stuck.before.fields; spelled = stuck.before.spelled } };
  here = λ less goes. stuck.here goes.more less (record { site = goes.site; fields = goes.is_text.fields; known = tt; spelled = goes.is_text.spelled });
  none = λ site is. stuck.none (record { site = site; fields = is.fields; known = tt; spelled = is.spelled });
}
