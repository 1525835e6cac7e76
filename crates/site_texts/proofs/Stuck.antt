-- A part of a site text that begins with a field: where it is bad in the field, and where behind it.
use Rattle.site_texts.proofs.Common.{◌≡◌, ℕ, ◌+◌, ◌-◌, ◌<◌, List, [], ◌∷◌, ◌++◌, length, take, Result, Ok, Err, sym, subst, ap, ◌∙◌, arith, append_assoc, length-append, IsErrAnd, MatchResult}
use Rattle.site_texts.proofs.Common.{SiteText, IsBadField, IsRest, IsStuck, IsSite}
use Rattle.site_texts.proofs.Splits.{NoSpace, one_split, take_behind}

-- a site of which this is known, with this field
pub record HasField (Known : SiteText → Type 0) (field : SiteText → List ℕ) (content : List ℕ) : Type 0 where
  pub site : SiteText
  pub fields : IsSite site
  pub known : Known site
  pub spelled : field site ≡ content

-- the part of a site is its field, a blank and the rest
pub record Splits (Known : SiteText → Type 0) (part field rest : SiteText → List ℕ) : Type 0 where
  pub splits : (site : SiteText) → IsSite site → Known site → part site ≡ field site ++ 32 ∷ rest site

pub field_stuck : (Known : SiteText → Type 0) (part field rest : SiteText → List ℕ) (IsContent : List ℕ → Type 0) → Splits Known part field rest
    → ((site : SiteText) → IsSite site → Known site → IsContent (field site)) → ((content : List ℕ) → IsContent content → HasField Known field content)
    → (text : List ℕ) (at : ℕ) → IsBadField IsContent text at → IsStuck Known part text at
field_stuck Known part field rest IsContent s fits some text at bad =
    let one = some bad.content bad.is_content in
    record {
      within = bad.within;
      more = bad.more ++ 32 ∷ rest one.site;
      before = record {
        site = one.site;
        fields = one.fields;
        known = one.known;
        spelled = sym (append_assoc (take at text) bad.more (32 ∷ rest one.site)) ∙ ap (λ t. t ++ 32 ∷ rest one.site) (sym bad.before ∙ sym one.spelled) ∙ sym (s.splits one.site one.fields one.known);
      };
      here = λ other less is. (bad.here (field is.site) (fits is.site is.fields is.known)).here other (rest is.site) less (is.spelled ∙ s.splits is.site is.fields is.known);
      none = λ is. (bad.here (field is.site) (fits is.site is.fields is.known)).none (rest is.site) (is.spelled ∙ s.splits is.site is.fields is.known);
    }

-- a site of which this is known, with this field and the rest of another site
pub record Puts (Known : SiteText → Type 0) (field rest : SiteText → List ℕ) (content : List ℕ) (site : SiteText) : Type 0 where
  pub with_field : HasField Known field content
  pub same : rest with_field.site ≡ rest site

module _ (Known Behind : SiteText → Type 0) (part field rest : SiteText → List ℕ) (s : Splits Known part field rest) (no_space : (site : SiteText) → IsSite site → Known site → NoSpace (field site)) (content : List ℕ)
    (solid : NoSpace content) (learn : (site : SiteText) → IsSite site → Known site → field site ≡ content → Behind site) (put : (site : SiteText) → IsSite site → Behind site → Puts Known field rest content site)
    (text behind : List ℕ) (e : text ≡ content ++ 32 ∷ behind) where
  abbrev front : List ℕ
  front = content ++ 32 ∷ []

  joined : (t : List ℕ) → front ++ t ≡ content ++ 32 ∷ t
  joined t = append_assoc content (32 ∷ []) t

  first : (at : ℕ) → take (length front + at) text ≡ front ++ take at behind
  first at = ap (take (length front + at)) (e ∙ sym (joined behind)) ∙ take_behind front behind at

  long : length text ≡ length front + length behind
  long = ap length (e ∙ sym (joined behind)) ∙ length-append front behind

  -- a part that begins with the field and a blank is the field of a site
  behind_field : (t : List ℕ) (is : IsRest Known part (content ++ 32 ∷ t)) → IsRest Behind rest t
  behind_field t is =
      let both = one_split content (field is.site) t (rest is.site) solid (no_space is.site is.fields is.known) (is.spelled ∙ s.splits is.site is.fields is.known) in
      record { site = is.site; fields = is.fields; known = learn is.site is.fields is.known (sym both.0); spelled = both.1 }

  pub before_field : (t : List ℕ) → IsRest Behind rest t → IsRest Known part (content ++ 32 ∷ t)
  before_field t is =
      let p = put is.site is.fields is.known in
      let w = p.with_field in
      record {
        site = w.site;
        fields = w.fields;
        known = w.known;
        spelled = ap (λ r. content ++ 32 ∷ r) (is.spelled ∙ sym p.same) ∙ ap (λ c. c ++ 32 ∷ rest w.site) (sym w.spelled) ∙ sym (s.splits w.site w.fields w.known);
      }

  stuck_here : (at : ℕ) → IsStuck Behind rest behind at → IsStuck Known part text (length front + at)
  stuck_here at bad = record {
    within = omega (arith, bad.within, long);
    more = bad.more;
    before = subst (IsRest Known part) (sym (ap (λ t. t ++ bad.more) (first at) ∙ append_assoc front (take at behind) bad.more ∙ joined (take at behind ++ bad.more))) (before_field (take at behind ++ bad.more) bad.before);
    here = λ other less is.
        let next : take (length front + at + 1) text ≡ front ++ take (at + 1) behind = ap (λ n. take n text) (let n : length front + at + 1 ≡ length front + (at + 1) = omega arith in n) ∙ first (at + 1) in
        bad.here other (omega (arith, long))
        (behind_field (take (at + 1) behind ++ other) (subst (IsRest Known part) (ap (λ t. t ++ other) next ∙ append_assoc front (take (at + 1) behind) other ∙ joined (take (at + 1) behind ++ other)) is));
    none = λ is. bad.none (behind_field behind (subst (IsRest Known part) e is));
  }

  pub rest_stuck : (at : ℕ) → IsStuck Behind rest behind at → IsStuck Known part text (length text - length behind + at)
  rest_stuck at bad = subst (IsStuck Known part text) (let n : length front + at ≡ length text - length behind + at = omega (arith, long) in n) (stuck_here at bad)

-- what stands behind a field is shorter than the text
pub shorter : (content behind text : List ℕ) → text ≡ content ++ 32 ∷ behind → length behind < length text
shorter content behind text e = omega (arith, ap length e, length-append content (32 ∷ behind))

-- an error that is handed on
pub handed_on : {T : Type 0} (r : Result T ℕ) (at : ℕ) (P : T → Type 0) (Q : ℕ → Type 0) → IsErrAnd r (λ x. x ≡ at) → Q at → MatchResult r P Q
handed_on (Ok x) at P Q is q = absurd is
handed_on (Err x) at P Q is q = subst Q (sym is) q
