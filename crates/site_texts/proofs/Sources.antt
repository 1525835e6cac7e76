-- The end of a site text: a file and a line.
use Rattle.site_texts.proofs.Common.{◌≡◌, ◌≢◌, ℕ, zero, suc, ◌+◌, ◌-◌, ◌<◌, ◌≤◌, ◌^◌, ⊎_elim, Bool, true, false, cond, eqb, List, [], ◌∷◌, ◌++◌, length, get_or, take, drop, Some, None, Err, refl, sym}
use Rattle.site_texts.proofs.Common.{subst, ap, ap₂, ◌∙◌, arith, rules, cases_eq, cases_lt, nat_tests, IsAscii-decimal, decimal-digits_value, decimal_digit, decimal_is_IsNumeral, decimal_nonempty}
use Rattle.site_texts.proofs.Common.{first_decimal, parse-decimal, append_assoc, append-nil, drop_at, drop_more, length-append, length-take-le, take_all, take_at, take-append-drop, get_or-append-add}
use Rattle.site_texts.proofs.Common.{get_or_at, All-append, All-from_get_or, All-take, IsCharBoundary-before_ascii, IsUtf8-append, IsUtf8-from_ascii, IsUtf8-take, IsNumeralModel, digit_at}
use Rattle.site_texts.proofs.Common.{numerals_by_value, decimal, All, IsAscii, IsUtf8, Inv, SiteText, Source, IsFront, IsName, IsSolid, is_blank, AreOfSource, IsAny, IsLastColon, IsNoLine, IsNoSource}
use Rattle.site_texts.proofs.Common.{IsPart, IsRest, IsSource, IsStuck, IsSite, source_text}
use Rattle.std.specs.Str.Parse.{AllDigits, IsNumeral, digits_value, without_leading_plus}
use Rattle.site_texts.specs.declared.name.Front.{Front}
use Rattle.site_texts.proofs.Words.{plain_fields, plain_site}
use Rattle.site_texts.proofs.Fronts.{letter, solid-append}

abbrev IsFull : ℕ → Type 0
IsFull byte = is_blank byte ≡ false

full_digit : (b : ℕ) → 48 ≤ b → IsFull b
full_digit b least = grind (arith, nat_tests)

digit_of : (line : ℕ) → line < 2 ^ 64 → (k : ℕ) → k < length (decimal line) → (48 ≤ get_or (decimal line) k 0) × (get_or (decimal line) k 0 ≤ 57)
digit_of line small k within = let d = digit_at (decimal line) k ((decimal_is_IsNumeral line small).0.1) within in (d.0, d.1)

colon_ascii : IsAscii (58 ∷ [])
colon_ascii zero = omega arith
colon_ascii (suc k) = omega arith

colon_full : (k : ℕ) → k < length {A = ℕ} (58 ∷ []) → IsFull (get_or (58 ∷ []) k 0)
colon_full zero within = refl
colon_full (suc k) within = absurd (omega arith)

-- a colon and a number
number_solid : (line : ℕ) → line < 2 ^ 64 → IsSolid (58 ∷ decimal line)
number_solid line small = record {
  utf8 = IsUtf8-append (58 ∷ []) (decimal line) (IsUtf8-from_ascii (58 ∷ []) colon_ascii) (IsUtf8-from_ascii (decimal line) (IsAscii-decimal line small));
  solid = All-append IsFull (58 ∷ []) (decimal line) (All-from_get_or IsFull (58 ∷ []) 0 colon_full)
      (All-from_get_or IsFull (decimal line) 0 (λ k within. full_digit (get_or (decimal line) k 0) (digit_of line small k within).0));
}

pub source_solid : (site : SiteText) → IsSite site → IsSolid (source_text site)
source_solid site f = let small : site.line < 2 ^ 64 = omega (arith, f.line_fits) in solid-append site.file (58 ∷ decimal site.line) f.file.text (number_solid site.line small)

-- the front of a solid text up to a colon
colon_front : (file rest : List ℕ) → IsSolid (file ++ 58 ∷ rest) → IsSolid file
colon_front file rest is =
    let whole = file ++ 58 ∷ rest in
    let front : take (length file) whole ≡ file = take_at file (58 ∷ rest) (length file) refl in
    let within : length file < length whole = omega (arith, length-append file (58 ∷ rest)) in
    let colon : get_or whole (length file) 0 ≡ 58 = get_or_at file 58 rest 0 (length file) refl in
    record {
      utf8 = subst IsUtf8 front (IsUtf8-take whole (length file) is.utf8 (IsCharBoundary-before_ascii whole (length file) within (omega (arith, colon))));
      solid = subst (All IsFull) front (All-take IsFull (length file) whole is.solid);
    }

abbrev with_source : List ℕ → ℕ → SiteText
with_source file line = record (plain_site Inv true 0) { file = file; line = line }

with_fields : (file : List ℕ) (line : ℕ) → IsName file → 1 ≤ line → line < 2 ^ 32 → IsSite (with_source file line)
with_fields file line is first fits = let f = plain_fields Inv true 0 (omega arith) in record {
  top = f.top;
  name = f.name;
  port = f.port;
  bit = f.bit;
  control = f.control;
  file = is;
  line_some = first;
  line_fits = fits;
}

-- any text that goes on as a solid one goes on to a file and a line
goes_on : (text more : List ℕ) → IsSolid (text ++ more) → IsRest IsAny source_text (text ++ (more ++ (97 ∷ (58 ∷ decimal 1))))
goes_on text more is =
    let file = (text ++ more) ++ (97 ∷ []) in
    record {
      site = with_source file 1;
      fields = with_fields file 1 (record { some = omega (arith, length-append (text ++ more) (97 ∷ [])); text = solid-append (text ++ more) (97 ∷ []) is letter }) (omega arith) (omega arith);
      known = tt;
      spelled = sym (append_assoc text more (97 ∷ (58 ∷ decimal 1))) ∙ sym (append_assoc (text ++ more) (97 ∷ []) (58 ∷ decimal 1));
    }

pub front_stuck : (text : List ℕ) (front : Front) → IsFront text front → front.whole < length text → IsStuck IsAny source_text text front.stop
front_stuck text front is less = record {
  within = is.cut.within;
  more = is.cut.more ++ (97 ∷ (58 ∷ decimal 1));
  before = goes_on (take front.stop text) is.cut.more is.cut.before;
  here = λ other within rest. is.cut.here other within (subst IsSolid (sym rest.spelled) (source_solid rest.site rest.fields));
  none = λ rest.
      let solid : IsSolid text = subst IsSolid (sym rest.spelled) (source_solid rest.site rest.fields) in
      ⊎_elim (λ within. is.cut.here (drop (front.stop + 1) text) within (subst IsSolid (sym (take-append-drop (front.stop + 1) text)) solid))
      (λ past. is.inner (omega (arith, is.cut.within)) (subst IsUtf8 (sym (take_all front.stop text past)) solid.utf8)) (cases_lt front.stop (length text));
}

-- the whole text is solid
pub all_solid : (text : List ℕ) (front : Front) → IsFront text front → length text ≤ front.whole → IsSolid text
all_solid text front is past = subst IsSolid (take_all front.whole text past) is.whole

pub no_source_stuck : (text : List ℕ) → IsSolid text → IsNoSource text → IsStuck IsAny source_text text (length text)
no_source_stuck text is never = record {
  within = omega arith;
  more = [] ++ (97 ∷ (58 ∷ decimal 1));
  before = goes_on (take (length text) text) [] (subst IsSolid (sym (append-nil (take (length text) text))) (subst IsSolid (sym (take_all (length text) text (omega arith))) is));
  here = λ other less. absurd (omega arith);
  none = λ rest. never rest.site.file rest.site.line rest.fields.file.some rest.fields.line_some rest.fields.line_fits rest.spelled;
}

pub source_part : (text : List ℕ) (source : Source) → IsSolid text → IsSource text source → IsPart IsAny source_text (AreOfSource source) text
source_part text source is s =
    let file : IsSolid source.file.now = colon_front source.file.now (decimal source.line) (subst IsSolid s.spelled is) in
    record {
      rest = record {
        site = with_source source.file.now source.line;
        fields = with_fields source.file.now source.line (record { some = s.some; text = file }) s.first s.fits;
        known = tt;
        spelled = s.spelled;
      };
      fields = (refl, refl);
    }

-- lines
no_digit : (line : ℕ) → 1 ≤ line → line < 2 ^ 32 → (49 ≤ get_or (decimal line) 0 0) × (get_or (decimal line) 0 0 ≤ 57)
no_digit line some fits =
    let small : line < 2 ^ 64 = omega (arith, fits) in
    let first = first_decimal line (omega arith) small in
    (omega (arith, first), (digit_of line small 0 (decimal_nonempty line small)).1)

-- a text that begins otherwise is no line
pub no_line : (text : List ℕ) → (49 ≤ get_or text 0 0 → get_or text 0 0 ≤ 57 → ⊥) → IsNoLine text
no_line text not line some fits e =
    let d = no_digit line some fits in
    let same : get_or text 0 0 ≡ get_or (decimal line) 0 0 = ap (λ t. get_or t 0 0) e in
    not (omega (arith, d.0, same)) (omega (arith, d.1, same))

numerals : IsNumeralModel (AllDigits 10) (digits_value 10)
numerals = numerals_by_value _ (search rules)

without_plus : (text : List ℕ) → 49 ≤ get_or text 0 0 → without_leading_plus text ≡ text
without_plus text least = let t : eqb (get_or text 0 0) 43 ≡ false = grind (arith, nat_tests) in ap (λ (b : Bool). drop (cond b 1 0) text) t

zero_digit : get_or (decimal 0) 0 0 ≡ 48
zero_digit = ap (λ t. get_or t 0 0) (decimal_digit 0 (omega arith))

-- `parse` takes the text
abbrev pub IsParsed : List ℕ → Type 0
IsParsed text = IsNumeral 10 (without_leading_plus text) × (digits_value 10 (without_leading_plus text) < 2 ^ 32)

-- what `parse` reads of a text that begins with a digit other than 0
pub a_line : (text : List ℕ) (line : ℕ) → 49 ≤ get_or text 0 0 → IsParsed text × (line ≡ digits_value 10 (without_leading_plus text)) → (1 ≤ line) × (text ≡ decimal line)
a_line text line least parsed =
    let same = without_plus text least in
    let numeral : IsNumeral 10 text = subst (IsNumeral 10) same parsed.0.0 in
    let value : digits_value 10 text ≡ line = ap (digits_value 10) (sym same) ∙ sym parsed.1 in
    let fits : digits_value 10 text < 2 ^ 64 = omega (arith, ap (digits_value 10) same, parsed.0.1) in
    let spelled : decimal line ≡ text = ap decimal (sym value) ∙ decimal-digits_value numerals text numeral.1 numeral.0 (λ bad. absurd (omega arith)) fits in
    (⊎_elim (λ some. some) (λ none. let zero_is : line ≡ 0 = omega arith in let bad : get_or text 0 0 ≡ get_or (decimal 0) 0 0 = ap (λ t. get_or t 0 0) (sym spelled ∙ ap decimal zero_is) in absurd (omega (arith, bad, zero_digit))) (cases_lt 0 line), sym spelled)

pub not_a_line : (text : List ℕ) → (IsParsed text → ⊥) → IsNoLine text
not_a_line text failed line some fits is = let small : line < 2 ^ 64 = omega (arith, fits) in let bad = parse-decimal {E = ℕ} 32 line text (Err 0) fits small is failed in absurd cc

-- a file and a line, by the place of the last colon
at_last : (text : List ℕ) (at line : ℕ) → IsLastColon text (Some at) → drop (at + 1) text ≡ decimal line → text ≡ take at text ++ (58 ∷ decimal line)
at_last text at line last is = sym (take-append-drop at text) ∙ ap (λ t. take at text ++ t) (drop_more text at 0 last.0 ∙ ap₂ (λ (b : ℕ) (t : List ℕ). b ∷ t) last.1 is)

-- In a file and a line the colon between them is the last one.
colon_place : (text file : List ℕ) (line : ℕ) → line < 2 ^ 64 → text ≡ file ++ 58 ∷ decimal line → (length file < length text) × (get_or text (length file) 0 ≡ 58) × ((k : ℕ) → length file < k → k < length text → get_or text k 0 ≢ 58)
colon_place text file line small e =
    let long : length text ≡ length file + suc (length (decimal line)) = ap length e ∙ length-append file (58 ∷ decimal line) in (
      omega (arith, long),
      ap (λ t. get_or t (length file) 0) e ∙ get_or_at file 58 (decimal line) 0 (length file) refl,
      λ k later within bad.
          let place : k ≡ length file + suc (k - (length file + 1)) = omega arith in
          let inner : k - (length file + 1) < length (decimal line) = omega (arith, long) in
          let there : get_or text k 0 ≡ get_or (decimal line) (k - (length file + 1)) 0 = ap₂ (λ (t : List ℕ) (n : ℕ). get_or t n 0) e place ∙ get_or-append-add file (58 ∷ decimal line) (suc (k - (length file + 1))) 0 in
          absurd (omega (arith, (digit_of line small (k - (length file + 1)) inner).1, bad, there)),
    )

pub no_colon : (text : List ℕ) → IsLastColon text None → IsNoSource text
no_colon text none file line some first fits e = let small : line < 2 ^ 64 = omega (arith, fits) in let c = colon_place text file line small e in none (length file) c.0 c.1

same_place : (text file : List ℕ) (line at : ℕ) → line < 2 ^ 64 → IsLastColon text (Some at) → text ≡ file ++ 58 ∷ decimal line → length file ≡ at
same_place text file line at small last e =
    let c = colon_place text file line small e in
    ⊎_elim (λ same. same) (λ differ. ⊎_elim (λ less. absurd (last.2 (length file) less c.0 c.1)) (λ more. absurd (c.2 at (omega arith) last.0 last.1)) (cases_lt at (length file))) (cases_eq (length file) at)

pub no_file : (text : List ℕ) → IsLastColon text (Some 0) → IsNoSource text
no_file text last file line some first fits e = let small : line < 2 ^ 64 = omega (arith, fits) in absurd (omega (arith, same_place text file line 0 small last e))

pub no_number : (text : List ℕ) (at : ℕ) → IsLastColon text (Some at) → IsNoLine (drop (at + 1) text) → IsNoSource text
no_number text at last not file line some first fits e =
    let small : line < 2 ^ 64 = omega (arith, fits) in
    let place = same_place text file line at small last e in
    let split : text ≡ (file ++ 58 ∷ []) ++ decimal line = e ∙ sym (append_assoc file (58 ∷ []) (decimal line)) in
    not line first fits (ap (drop (at + 1)) split ∙ drop_at (file ++ 58 ∷ []) (decimal line) (at + 1) (length-append file (58 ∷ []) ∙ ap (λ n. n + 1) place))

pub a_source : (text : List ℕ) (at : ℕ) (source : Source) → IsLastColon text (Some at) → at ≢ 0 → 1 ≤ source.line → source.line < 2 ^ 32 → drop (at + 1) text ≡ decimal source.line → source.file.now ≡ take at text → IsSource text source
a_source text at source last some first fits is file = record {
  some = omega (arith, ap length file, length-take-le at text (omega (arith, last.0)));
  first = first;
  fits = fits;
  spelled = at_last text at source.line last is ∙ ap (λ t. t ++ (58 ∷ decimal source.line)) (sym file);
}
