-- Characters in UTF-8, byte by byte: what begins one, and what goes on to none.
use Rattle.site_texts.proofs.Common.{◌≡◌, ◌≢◌, ℕ, ◌+◌, ◌-◌, ◌<◌, ◌≤◌, ◌⊎◌, inl, inr, ⊎_elim, true, false, List, [], ◌∷◌, ◌++◌, length, get_or, take, sym, subst, ap, ◌∙◌, arith, cases_eq, cases_lt}
use Rattle.site_texts.proofs.Common.{nat_tests, append-nil, All-cons, All-nil, All-head, IsUtf8-nil, IsUtf8, StartsWithNoChar, no_text, IsCharacter, IsSolid, is_blank, Whole, Cut}
use Rattle.std.specs.Int.{is_in_range}
use Rattle.std.specs.Str.Lossy.{second_byte_max, second_byte_min}
use Rattle.std.proofs.str.Faults.{Ranged, no_char}
use Rattle.std.proofs.str.Laws.{Follows}
use Rattle.std.proofs.str.Valid.{of_one, of_two, of_three, of_four}

abbrev IsFull : ℕ → Type 0
IsFull byte = is_blank byte ≡ false

wide : (byte : ℕ) → 128 ≤ byte → IsFull byte
wide byte least = grind (arith, nat_tests)

in_range : (least most x : ℕ) → is_in_range least most x ≡ true → (least ≤ x) × (x ≤ most)
in_range least most x is = grind (arith, nat_tests)

not_in_range : (least most x : ℕ) → is_in_range least most x ≡ false → least ≤ x → x ≤ most → ⊥
not_in_range least most x is low high = grind (arith, nat_tests)

pub no_solid : IsSolid []
no_solid = record { utf8 = IsUtf8-nil; solid = All-nil _ }

pub solid_1 : (a : ℕ) → IsUtf8 (a ∷ []) → IsFull a → IsSolid (a ∷ [])
solid_1 a utf8 fa = record { utf8 = utf8; solid = All-cons IsFull a [] fa (All-nil IsFull) }

solid_2 : (a b : ℕ) → IsUtf8 (a ∷ b ∷ []) → 128 ≤ a → 128 ≤ b → IsSolid (a ∷ b ∷ [])
solid_2 a b utf8 la lb = record { utf8 = utf8; solid = All-cons IsFull a (b ∷ []) (wide a la) (All-cons IsFull b [] (wide b lb) (All-nil IsFull)) }

solid_3 : (a b c : ℕ) → IsUtf8 (a ∷ b ∷ c ∷ []) → 128 ≤ a → 128 ≤ b → 128 ≤ c → IsSolid (a ∷ b ∷ c ∷ [])
solid_3 a b c utf8 la lb lc = record {
  utf8 = utf8;
  solid = All-cons IsFull a (b ∷ c ∷ []) (wide a la) (All-cons IsFull b (c ∷ []) (wide b lb) (All-cons IsFull c [] (wide c lc) (All-nil IsFull)));
}

solid_4 : (a b c d : ℕ) → IsUtf8 (a ∷ b ∷ c ∷ d ∷ []) → 128 ≤ a → 128 ≤ b → 128 ≤ c → 128 ≤ d → IsSolid (a ∷ b ∷ c ∷ d ∷ [])
solid_4 a b c d utf8 la lb lc ld = record {
  utf8 = utf8;
  solid = All-cons IsFull a (b ∷ c ∷ d ∷ []) (wide a la)
      (All-cons IsFull b (c ∷ d ∷ []) (wide b lb) (All-cons IsFull c (d ∷ []) (wide c lc) (All-cons IsFull d [] (wide d ld) (All-nil IsFull))));
}

-- bytes that begin with no character are no text
no_utf8 : (bs : List ℕ) → 0 < length bs → (Ranged (length bs - 0) (get_or bs 0 0) (get_or bs 1 0) (get_or bs 2 0) (get_or bs 3 0) → ⊥) → IsUtf8 bs → ⊥
no_utf8 bs some none utf8 = no_text bs [] (subst StartsWithNoChar (sym (append-nil bs)) (no_char bs 0 none)) utf8 some

-- the least second byte, and the greatest, behind the first of three bytes and behind the first of four
least_of_three : (x : ℕ) → 224 ≤ x → x < 240 → ((x ≡ 224) × (second_byte_min x ≡ 160)) ⊎ ((224 < x) × (second_byte_min x ≡ 128))
least_of_three x low high = ⊎_elim (λ e. inl (e, ap second_byte_min e)) (λ ne. inr (omega arith, grind (arith, nat_tests))) (cases_eq x 224)

most_of_three : (x : ℕ) → 224 ≤ x → x < 240 → ((x ≡ 237) × (second_byte_max x ≡ 159)) ⊎ ((x ≢ 237) × (second_byte_max x ≡ 191))
most_of_three x low high = ⊎_elim (λ e. inl (e, ap second_byte_max e)) (λ ne. inr (ne, grind (arith, nat_tests))) (cases_eq x 237)

least_of_four : (x : ℕ) → 240 ≤ x → x < 245 → ((x ≡ 240) × (second_byte_min x ≡ 144)) ⊎ ((240 < x) × (second_byte_min x ≡ 128))
least_of_four x low high = ⊎_elim (λ e. inl (e, ap second_byte_min e)) (λ ne. inr (omega arith, grind (arith, nat_tests))) (cases_eq x 240)

most_of_four : (x : ℕ) → 240 ≤ x → x < 245 → ((x ≡ 244) × (second_byte_max x ≡ 143)) ⊎ ((x < 244) × (second_byte_max x ≡ 191))
most_of_four x low high = ⊎_elim (λ e. inl (e, ap second_byte_max e)) (λ ne. inr (omega arith, grind (arith, nat_tests))) (cases_eq x 244)

-- the second byte
pub record IsSecond (x y : ℕ) : Type 0 where
  pub least : second_byte_min x ≤ y
  pub most : y ≤ second_byte_max x

second : (x y : ℕ) → is_in_range (second_byte_min x) (second_byte_max x) y ≡ true → IsSecond x y
second x y is = let both = in_range (second_byte_min x) (second_byte_max x) y is in record { least = both.0; most = both.1 }

not_second : (x y : ℕ) → is_in_range (second_byte_min x) (second_byte_max x) y ≡ false → IsSecond x y → ⊥
not_second x y is s = not_in_range (second_byte_min x) (second_byte_max x) y is s.least s.most

least_is_second : (x : ℕ) → 224 ≤ x → x < 245 → IsSecond x (second_byte_min x)
least_is_second x low high = record {
  least = omega arith;
  most = ⊎_elim
      (λ three. ⊎_elim (λ a. ⊎_elim (λ b. omega arith) (λ b. omega arith) (most_of_three x low three))
      (λ a. ⊎_elim (λ b. omega arith) (λ b. omega arith) (most_of_three x low three)) (least_of_three x low three))
      (λ four. ⊎_elim (λ a. ⊎_elim (λ b. omega arith) (λ b. omega arith) (most_of_four x four high))
      (λ a. ⊎_elim (λ b. omega arith) (λ b. omega arith) (most_of_four x four high)) (least_of_four x four high))
      (cases_lt x 240);
}

follows_second : (x y : ℕ) → 224 ≤ x → x < 245 → IsSecond x y → Follows y
follows_second x y low high s = ⊎_elim
    (λ three. ⊎_elim (λ a. ⊎_elim (λ b. (omega (arith, s.least), omega (arith, s.most))) (λ b. (omega (arith, s.least), omega (arith, s.most))) (most_of_three x low three))
    (λ a. ⊎_elim (λ b. (omega (arith, s.least), omega (arith, s.most))) (λ b. (omega (arith, s.least), omega (arith, s.most))) (most_of_three x low three)) (least_of_three x low three))
    (λ four. ⊎_elim (λ a. ⊎_elim (λ b. (omega (arith, s.least), omega (arith, s.most))) (λ b. (omega (arith, s.least), omega (arith, s.most))) (most_of_four x four high))
    (λ a. ⊎_elim (λ b. (omega (arith, s.least), omega (arith, s.most))) (λ b. (omega (arith, s.least), omega (arith, s.most))) (most_of_four x four high)) (least_of_four x four high))
    (cases_lt x 240)

of_three_in : (x y z : ℕ) → 224 ≤ x → x < 240 → IsSecond x y → Follows z → IsUtf8 (x ∷ y ∷ z ∷ [])
of_three_in x y z low high s fz =
    let fy = follows_second x y low (omega arith) s in
    of_three (x ∷ y ∷ z ∷ []) 0 (omega arith) (low, high) fy fz
    (⊎_elim (λ a. omega (arith, s.least, fy, fz)) (λ a. omega (arith, s.least, fy, fz)) (least_of_three x low high))
    (⊎_elim (λ b. inl (omega (arith, s.most, fy, fz))) (λ b. ⊎_elim (λ less. inl (omega (arith, fy, fz))) (λ more. inr (omega (arith, fy, fz))) (cases_lt x 237)) (most_of_three x low high))

of_four_in : (x y z w : ℕ) → 240 ≤ x → x < 245 → IsSecond x y → Follows z → Follows w → IsUtf8 (x ∷ y ∷ z ∷ w ∷ [])
of_four_in x y z w low high s fz fw =
    let fy = follows_second x y (omega arith) high s in
    of_four (x ∷ y ∷ z ∷ w ∷ []) 0 (omega arith) low fy fz fw (
      ⊎_elim (λ a. omega (arith, s.least, fy)) (λ a. omega (arith, s.least, fy)) (least_of_four x low high),
      ⊎_elim (λ b. omega (arith, s.most, fy)) (λ b. omega (arith, s.most, fy)) (most_of_four x low high),
    )

second_of_three : (n x y z w : ℕ) → Ranged n x y z w → 224 ≤ x → x < 240 → IsSecond x y
second_of_three n x y z w r low high =
    let wide_y = (r.second (omega arith)).2 in
    let span = r.in_three low high in
    record {
      least = ⊎_elim (λ a. omega (arith, wide_y, span.0)) (λ a. omega (arith, wide_y)) (least_of_three x low high);
      most = ⊎_elim (λ b. ⊎_elim (λ less. omega (arith, wide_y, less)) (λ more. omega (arith, wide_y, more)) span.1) (λ b. omega (arith, wide_y)) (most_of_three x low high);
    }

second_of_four : (n x y z w : ℕ) → Ranged n x y z w → 240 ≤ x → x < 245 → IsSecond x y
second_of_four n x y z w r low high =
    let wide_y = (r.second (omega arith)).2 in
    let span = (r.fourth low).2 in
    record {
      least = ⊎_elim (λ a. omega (arith, wide_y, span.0)) (λ a. omega (arith, wide_y)) (least_of_four x low high);
      most = ⊎_elim (λ b. omega (arith, wide_y, span.1)) (λ b. omega (arith, wide_y)) (most_of_four x low high);
    }

-- A character is cut here.
cut_by : (text : List ℕ) (at : ℕ) (more : List ℕ) → at ≤ length text → IsSolid (take at text ++ more) → ((other : List ℕ) → at < length text → IsUtf8 (take (at + 1) text ++ other) → ⊥)
    → (0 < at → IsUtf8 (take at text) → ⊥) → IsCharacter text (Cut at)
cut_by text at more within solid here inner = (record { within = within; more = more; before = solid; here = λ other less is. here other less is.utf8 }, inner)

pub blank_cut : (text : List ℕ) → 0 < length text → is_blank (get_or text 0 0) ≡ true → IsCharacter text (Cut 0)
blank_cut [] some blank = absurd (omega arith)
blank_cut (x ∷ rest) some blank = (
  record {
    within = omega arith;
    more = [];
    before = no_solid;
    here = λ other less is. let full : is_blank x ≡ false = All-head IsFull x other is.solid in let bad : true ≡ false = sym blank ∙ full in absurd cc;
  },
  λ bad. absurd (omega arith),
)

pub ascii_whole : (text : List ℕ) → 0 < length text → get_or text 0 0 < 128 → is_blank (get_or text 0 0) ≡ false → IsCharacter text (Whole 1)
ascii_whole [] some low full = absurd (omega arith)
ascii_whole (x ∷ rest) some low full = (omega arith, omega arith, solid_1 x (of_one (x ∷ []) 0 (omega arith) low) full)

pub no_lead_cut : (text : List ℕ) → 0 < length text → 128 ≤ get_or text 0 0 → (get_or text 0 0 < 194) ⊎ (245 ≤ get_or text 0 0) → IsCharacter text (Cut 0)
no_lead_cut [] some low which = absurd (omega arith)
no_lead_cut (x ∷ rest) some low which = cut_by (x ∷ rest) 0 [] (omega arith) no_solid
    (λ other less utf8. no_utf8 (x ∷ other) (omega arith) (λ r. ⊎_elim (λ few. absurd (omega (arith, r.second low)))
    (λ many. absurd (omega (arith, (r.fourth (omega arith)).2))) which) utf8)
    (λ bad. absurd (omega arith))

-- two bytes
two_dead : (x : ℕ) (rest other : List ℕ) → 194 ≤ x → (1 < length (x ∷ rest) → is_in_range 128 191 (get_or (x ∷ rest) 1 0) ≡ false) → 1 < length (x ∷ rest) → IsUtf8 (take 2 (x ∷ rest) ++ other) → ⊥
two_dead x [] other low not less utf8 = absurd (omega arith)
two_dead x (y ∷ rest) other low not less utf8 = no_utf8 (x ∷ y ∷ other) (omega arith)
    (λ r. let f = (r.second (omega arith)).2 in not_in_range 128 191 y (not less) f.0 (omega (arith, f.1))) utf8

pub two_cut : (text : List ℕ) → 0 < length text → 194 ≤ get_or text 0 0 → get_or text 0 0 < 224 → (1 < length text → is_in_range 128 191 (get_or text 1 0) ≡ false) → IsCharacter text (Cut 1)
two_cut [] some low high not = absurd (omega arith)
two_cut (x ∷ rest) some low high not = cut_by (x ∷ rest) 1 (128 ∷ []) (omega arith)
    (solid_2 x 128 (of_two (x ∷ 128 ∷ []) 0 (omega arith) (low, high) (omega arith, omega arith)) (omega arith) (omega arith))
    (λ other less utf8. two_dead x rest other low not less utf8)
    (λ some utf8. no_utf8 (x ∷ []) (omega arith) (λ r. absurd (omega (arith, r.second (omega arith)))) utf8)

pub two_whole : (text : List ℕ) → 194 ≤ get_or text 0 0 → get_or text 0 0 < 224 → 1 < length text → is_in_range 128 191 (get_or text 1 0) ≡ true → IsCharacter text (Whole 2)
two_whole [] low high more is = absurd (omega arith)
two_whole (x ∷ []) low high more is = absurd (omega arith)
two_whole (x ∷ y ∷ rest) low high more is =
    let f = in_range 128 191 y is in
    (omega arith, omega arith, solid_2 x y (of_two (x ∷ y ∷ []) 0 (omega arith) (low, high) (f.0, omega (arith, f.1))) (omega arith) f.0)

-- the second byte of three or four
abbrev NotSecond : List ℕ → Type 0
NotSecond text = 1 < length text → is_in_range (second_byte_min (get_or text 0 0)) (second_byte_max (get_or text 0 0)) (get_or text 1 0) ≡ false

abbrev IsSecondIn : List ℕ → Type 0
IsSecondIn text = is_in_range (second_byte_min (get_or text 0 0)) (second_byte_max (get_or text 0 0)) (get_or text 1 0) ≡ true

first_dead : (x : ℕ) (rest other : List ℕ) → 224 ≤ x → x < 245 → NotSecond (x ∷ rest) → 1 < length (x ∷ rest) → IsUtf8 (take 2 (x ∷ rest) ++ other) → ⊥
first_dead x [] other low high not less utf8 = absurd (omega arith)
first_dead x (y ∷ rest) other low high not less utf8 = no_utf8 (x ∷ y ∷ other) (omega arith)
    (λ r. not_second x y (not less) (⊎_elim (λ three. second_of_three _ x y _ _ r low three) (λ four. second_of_four _ x y _ _ r four high) (cases_lt x 240))) utf8

one_of_more : (x : ℕ) → 224 ≤ x → IsUtf8 (x ∷ []) → ⊥
one_of_more x low utf8 = no_utf8 (x ∷ []) (omega arith) (λ r. absurd (omega (arith, r.second (omega arith)))) utf8

two_of_more : (x y : ℕ) → 224 ≤ x → IsUtf8 (x ∷ y ∷ []) → ⊥
two_of_more x y low utf8 = no_utf8 (x ∷ y ∷ []) (omega arith) (λ r. absurd (omega (arith, r.third low))) utf8

three_of_four : (x y z : ℕ) → 240 ≤ x → IsUtf8 (x ∷ y ∷ z ∷ []) → ⊥
three_of_four x y z low utf8 = no_utf8 (x ∷ y ∷ z ∷ []) (omega arith) (λ r. absurd (omega (arith, r.fourth low))) utf8

third_dead : (x y : ℕ) (rest other : List ℕ) → 224 ≤ x → (2 < length (x ∷ y ∷ rest) → is_in_range 128 191 (get_or (x ∷ y ∷ rest) 2 0) ≡ false) → 2 < length (x ∷ y ∷ rest) → IsUtf8 (take 3 (x ∷ y ∷ rest) ++ other) → ⊥
third_dead x y [] other low not less utf8 = absurd (omega arith)
third_dead x y (z ∷ rest) other low not less utf8 = no_utf8 (x ∷ y ∷ z ∷ other) (omega arith)
    (λ r. let f = (r.third low).1 in not_in_range 128 191 z (not less) f.0 (omega (arith, f.1))) utf8

fourth_dead : (x y z : ℕ) (rest other : List ℕ) → 240 ≤ x → (3 < length (x ∷ y ∷ z ∷ rest) → is_in_range 128 191 (get_or (x ∷ y ∷ z ∷ rest) 3 0) ≡ false) → 3 < length (x ∷ y ∷ z ∷ rest)
    → IsUtf8 (take 4 (x ∷ y ∷ z ∷ rest) ++ other) → ⊥
fourth_dead x y z [] other low not less utf8 = absurd (omega arith)
fourth_dead x y z (w ∷ rest) other low not less utf8 = no_utf8 (x ∷ y ∷ z ∷ w ∷ other) (omega arith)
    (λ r. let f = (r.fourth low).1 in not_in_range 128 191 w (not less) f.0 (omega (arith, f.1))) utf8

-- three bytes
pub three_cut_1 : (text : List ℕ) → 0 < length text → 224 ≤ get_or text 0 0 → get_or text 0 0 < 240 → NotSecond text → IsCharacter text (Cut 1)
three_cut_1 [] some low high not = absurd (omega arith)
three_cut_1 (x ∷ rest) some low high not =
    let s = least_is_second x low (omega arith) in
    let f = follows_second x (second_byte_min x) low (omega arith) s in
    cut_by (x ∷ rest) 1 (second_byte_min x ∷ 128 ∷ []) (omega arith)
    (solid_3 x (second_byte_min x) 128 (of_three_in x (second_byte_min x) 128 low high s (omega arith, omega arith)) (omega arith) f.0 (omega arith))
    (λ other less utf8. first_dead x rest other low (omega arith) not less utf8) (λ some utf8. one_of_more x low utf8)

pub three_cut_2 : (text : List ℕ) → 1 < length text → 224 ≤ get_or text 0 0 → get_or text 0 0 < 240 → IsSecondIn text → (2 < length text → is_in_range 128 191 (get_or text 2 0) ≡ false) → IsCharacter text (Cut 2)
three_cut_2 [] some low high is not = absurd (omega arith)
three_cut_2 (x ∷ []) some low high is not = absurd (omega arith)
three_cut_2 (x ∷ y ∷ rest) some low high is not =
    let s = second x y is in
    let f = follows_second x y low (omega arith) s in
    cut_by (x ∷ y ∷ rest) 2 (128 ∷ []) (omega arith)
    (solid_3 x y 128 (of_three_in x y 128 low high s (omega arith, omega arith)) (omega arith) f.0 (omega arith))
    (λ other less utf8. third_dead x y rest other low not less utf8) (λ some utf8. two_of_more x y low utf8)

pub three_whole : (text : List ℕ) → 2 < length text → 224 ≤ get_or text 0 0 → get_or text 0 0 < 240 → IsSecondIn text → is_in_range 128 191 (get_or text 2 0) ≡ true → IsCharacter text (Whole 3)
three_whole [] some low high is third = absurd (omega arith)
three_whole (x ∷ []) some low high is third = absurd (omega arith)
three_whole (x ∷ y ∷ []) some low high is third = absurd (omega arith)
three_whole (x ∷ y ∷ z ∷ rest) some low high is third =
    let s = second x y is in
    let f = follows_second x y low (omega arith) s in
    let g = in_range 128 191 z third in
    (omega arith, omega arith, solid_3 x y z (of_three_in x y z low high s (g.0, omega (arith, g.1))) (omega arith) f.0 g.0)

-- four bytes
pub four_cut_1 : (text : List ℕ) → 0 < length text → 240 ≤ get_or text 0 0 → get_or text 0 0 < 245 → NotSecond text → IsCharacter text (Cut 1)
four_cut_1 [] some low high not = absurd (omega arith)
four_cut_1 (x ∷ rest) some low high not =
    let s = least_is_second x (omega arith) high in
    let f = follows_second x (second_byte_min x) (omega arith) high s in
    cut_by (x ∷ rest) 1 (second_byte_min x ∷ 128 ∷ 128 ∷ []) (omega arith)
    (solid_4 x (second_byte_min x) 128 128 (of_four_in x (second_byte_min x) 128 128 low high s (omega arith, omega arith) (omega arith, omega arith)) (omega arith) f.0 (omega arith) (omega arith))
    (λ other less utf8. first_dead x rest other (omega arith) high not less utf8) (λ some utf8. one_of_more x (omega arith) utf8)

pub four_cut_2 : (text : List ℕ) → 1 < length text → 240 ≤ get_or text 0 0 → get_or text 0 0 < 245 → IsSecondIn text → (2 < length text → is_in_range 128 191 (get_or text 2 0) ≡ false) → IsCharacter text (Cut 2)
four_cut_2 [] some low high is not = absurd (omega arith)
four_cut_2 (x ∷ []) some low high is not = absurd (omega arith)
four_cut_2 (x ∷ y ∷ rest) some low high is not =
    let s = second x y is in
    let f = follows_second x y (omega arith) high s in
    cut_by (x ∷ y ∷ rest) 2 (128 ∷ 128 ∷ []) (omega arith)
    (solid_4 x y 128 128 (of_four_in x y 128 128 low high s (omega arith, omega arith) (omega arith, omega arith)) (omega arith) f.0 (omega arith) (omega arith))
    (λ other less utf8. third_dead x y rest other (omega arith) not less utf8) (λ some utf8. two_of_more x y (omega arith) utf8)

pub four_cut_3 : (text : List ℕ) → 2 < length text → 240 ≤ get_or text 0 0 → get_or text 0 0 < 245 → IsSecondIn text → is_in_range 128 191 (get_or text 2 0) ≡ true
    → (3 < length text → is_in_range 128 191 (get_or text 3 0) ≡ false) → IsCharacter text (Cut 3)
four_cut_3 [] some low high is third not = absurd (omega arith)
four_cut_3 (x ∷ []) some low high is third not = absurd (omega arith)
four_cut_3 (x ∷ y ∷ []) some low high is third not = absurd (omega arith)
four_cut_3 (x ∷ y ∷ z ∷ rest) some low high is third not =
    let s = second x y is in
    let f = follows_second x y (omega arith) high s in
    let g = in_range 128 191 z third in
    cut_by (x ∷ y ∷ z ∷ rest) 3 (128 ∷ []) (omega arith)
    (solid_4 x y z 128 (of_four_in x y z 128 low high s (g.0, omega (arith, g.1)) (omega arith, omega arith)) (omega arith) f.0 g.0 (omega arith))
    (λ other less utf8. fourth_dead x y z rest other low not less utf8) (λ some utf8. three_of_four x y z low utf8)

pub four_whole : (text : List ℕ) → 3 < length text → 240 ≤ get_or text 0 0 → get_or text 0 0 < 245 → IsSecondIn text → is_in_range 128 191 (get_or text 2 0) ≡ true
    → is_in_range 128 191 (get_or text 3 0) ≡ true → IsCharacter text (Whole 4)
four_whole [] some low high is third fourth = absurd (omega arith)
four_whole (x ∷ []) some low high is third fourth = absurd (omega arith)
four_whole (x ∷ y ∷ []) some low high is third fourth = absurd (omega arith)
four_whole (x ∷ y ∷ z ∷ []) some low high is third fourth = absurd (omega arith)
four_whole (x ∷ y ∷ z ∷ w ∷ rest) some low high is third fourth =
    let s = second x y is in
    let f = follows_second x y (omega arith) high s in
    let g = in_range 128 191 z third in
    let h = in_range 128 191 w fourth in
    (omega arith, omega arith, solid_4 x y z w (of_four_in x y z w low high s (g.0, omega (arith, g.1)) (h.0, omega (arith, h.1))) (omega arith) f.0 g.0 h.0)
