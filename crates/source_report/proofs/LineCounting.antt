-- The counts of a file's lines, from mutation to mutation, and over all.
use Rattle.source_report.proofs.Common.{◌≡◌, ◌≢◌, ◌⊎◌, ℕ, zero, suc, ◌+◌, ◌^◌, ◌<◌, ◌≤◌, Bool, true, false, ◌&&◌, ◌==◌, cond, if◌then◌else◌, List, [], ◌∷◌, ◌++◌, length, map, take, set, slice_get}
use Rattle.source_report.proofs.Common.{slice_index, count_by, Option, Some, None, IfSome, MatchOption, Vec, Global, refl, sym, ◌∙◌, ap, subst, inl, inr, arith, zip, get_or-set_other, length-set}
use Rattle.source_report.proofs.Common.{length-take, Ask, Campaign, Answer, ask, End, Tag, end_count, tag_counts, answers_at, counted, is_at, is_counted, is_wanted, wanted_count, AreLineCounts}
use Rattle.std.proofs.lemmas.Bool.Decides.{eqb_tells}
use Rattle.std.proofs.lemmas.Grind.{get_or-set_at}
use Rattle.std.proofs.lemmas.List.Sums.{count_by-le-length}
use Rattle.source_report.specs.declared.line_counts.LineCounts.{LineCounts}
use Rattle.source_report.proofs.Counted.{count-cons, count_no, count_yes}

abbrev pub Mutation : Type 0
Mutation = (ℕ × ℕ) × Ask

-- the counts of the mutations so far, on so many lines
pub record AreSeen (file : ℕ) (wanted : Option End) (lines : ℕ) (seen : List Mutation) (counts : List ℕ) : Type 0 where
  pub count : length counts ≡ lines
  pub each : (row : ℕ) → row < lines → slice_index counts row ≡ count_by (is_counted file wanted row) seen

-- a mutation counts on one line at most
other_row : (file : ℕ) (wanted : Option End) (row other : ℕ) (one : Mutation) → is_counted file wanted row one ≡ true → other ≢ row → is_counted file wanted other one ≡ false
other_row file wanted row other one is apart =
    go (one.0.0 == file) (eqb_tells one.0.1 (row + 1)) (eqb_tells one.0.1 (other + 1)) (is_wanted wanted one.1) is
  where
    go : (a : Bool) → ((one.0.1 == row + 1) ≡ true) × (one.0.1 ≡ row + 1) ⊎ ((one.0.1 == row + 1) ≡ false) × (one.0.1 ≢ row + 1) → ((one.0.1 == other + 1) ≡ true) × (one.0.1 ≡ other + 1) ⊎ ((one.0.1 == other + 1) ≡ false) × (one.0.1 ≢ other + 1) → (w : Bool) → ((a && one.0.1 == row + 1) && w) ≡ true → ((a && one.0.1 == other + 1) && w) ≡ false
    go false here there w is = refl
    go true (inl here) (inl there) w is = absurd (apart (let same : other + 1 ≡ row + 1 = sym there.1 ∙ here.1 in omega (arith, same)))
    go true (inr here) there w is = absurd (let no_one : false ≡ true = rw here.0 at is in cc)
    go true here (inr there) w is = rw there.0 refl

seen_none : (file : ℕ) (wanted : Option End) (lines m : ℕ) (all : List Mutation) (one : Mutation) (counts : List ℕ) → slice_get all m ≡ Some one → ((row : ℕ) → row < lines → is_counted file wanted row one ≡ false) → AreSeen file wanted lines (take m all) counts → AreSeen file wanted lines (take (m + 1) all) counts
seen_none file wanted lines m all one counts at missed seen = record {
  count = seen.count;
  each = λ row below. seen.each row below ∙ sym (count_no (is_counted file wanted row) all m one at (missed row below));
}

seen_one : (file : ℕ) (wanted : Option End) (lines m row : ℕ) (all : List Mutation) (one : Mutation) (counts : List ℕ) → slice_get all m ≡ Some one → row < lines → is_counted file wanted row one ≡ true → AreSeen file wanted lines (take m all) counts → AreSeen file wanted lines (take (m + 1) all) (set counts row (slice_index counts row + 1))
seen_one file wanted lines m row all one counts at within is seen =
    let more : ℕ = slice_index counts row + 1 in record {
      count = length-set counts row more ∙ seen.count;
      each = λ other below. elim (eqb_tells other row) [
        | inl h ↦ (let inside : row < length counts = (let long = seen.count in omega (arith, long, within)) in
            let last : is_counted file wanted other one ≡ true = ap (λ r. is_counted file wanted r one) h.1 ∙ is in
            get_or-set_at counts row other more 0 h.1 inside ∙ ap (λ r. slice_index counts r + 1) (sym h.1) ∙ ap (λ n. n + 1) (seen.each other below) ∙ sym (count_yes (is_counted file wanted other) all m one at last))
        | inr h ↦ get_or-set_other counts row other more 0 h.1 ∙ seen.each other below ∙ sym (count_no (is_counted file wanted other) all m one at (other_row file wanted row other one is h.1))
      ];
    }

-- one mutation more
pub seen-more : (file : ℕ) (wanted : Option End) (lines m : ℕ) (all : List Mutation) (one : Mutation) (row : Option ℕ) (old new : List ℕ) → slice_get all m ≡ Some one
    → MatchOption row ((row : ℕ) → row < lines → is_counted file wanted row one ≡ false) (λ row. row < lines) → IfSome row (λ row. is_counted file wanted row one ≡ true) → new ≡ counted row old
    → AreSeen file wanted lines (take m all) old → AreSeen file wanted lines (take (m + 1) all) new
seen-more file wanted lines m all one None old new at missed is more seen = subst (AreSeen file wanted lines (take (m + 1) all)) (sym more) (seen_none file wanted lines m all one old at missed seen)
seen-more file wanted lines m all one (Some row) old new at within is more seen = subst (AreSeen file wanted lines (take (m + 1) all)) (sym more) (seen_one file wanted lines m row all one old at within is seen)

-- The line of a mutation is one of those that are counted,
pub row-inside : (row : Option ℕ) (P : Type 0) (lines long : ℕ) → MatchOption row P (λ row. row < lines) → lines ≤ long → IfSome row (λ row. row < long)
row-inside None P lines long within less = tt
row-inside (Some row) P lines long within less = omega (arith, within, less)

-- and there are no more on it than were seen.
pub row-few : (row : Option ℕ) (P : Type 0) (file : ℕ) (wanted : Option End) (lines m most : ℕ) (all : List Mutation) (counts : List ℕ) → MatchOption row P (λ row. row < lines) → AreSeen file wanted lines (take m all) counts → m < most → IfSome row (λ row. slice_index counts row < most)
row-few None P file wanted lines m most all counts within seen below = tt
row-few (Some row) P file wanted lines m most all counts within seen below =
    let is = seen.each row within in
    let few = count_by-le-length (is_counted file wanted row) (take m all) in
    let short = length-take m all in
    omega (arith, is, few, short, below)

-- The mutations by their places and by how their scripts stand.

pub slice_get-zip : {A B : Type 0} (xs : List A) (ys : List B) (i : ℕ) (x : A) (y : B) → slice_get xs i ≡ Some x → slice_get ys i ≡ Some y → slice_get (zip xs ys) i ≡ Some (x, y)
slice_get-zip [] ys i x y at there = absurd (let none : None ≡ Some x = at in cc)
slice_get-zip (a ∷ xs) [] i x y at there = absurd (let none : None ≡ Some y = there in cc)
slice_get-zip (a ∷ xs) (b ∷ ys) zero x y at there = (let one : Some a ≡ Some x = at in let two : Some b ≡ Some y = there in let is : a ≡ x = cc in let is' : b ≡ y = cc in λ i. Some (is i, is' i))
slice_get-zip (a ∷ xs) (b ∷ ys) (suc i) x y at there = slice_get-zip xs ys i x y at there

one_more : (b w : Bool) (c : Campaign) (wanted : Option End) (answers : List Answer) (here : List (List Answer)) (n : ℕ) → w ≡ is_wanted wanted (ask c answers) → n ≡ wanted_count c here wanted → cond (b && w) 1 0 + n ≡ wanted_count c (if b then answers ∷ here else here) wanted
one_more true w c wanted answers here n is same = ap (λ (w : Bool). cond w 1 0 + n) is ∙ ap (λ n. cond (is_wanted wanted (ask c answers)) 1 0 + n) same ∙ sym (count-cons (λ answers. is_wanted wanted (ask c answers)) answers here)
one_more false w c wanted answers here n is same = omega (arith, same)

-- what counts on a line of all mutations is what is counted there
pub counted-all : (c : Campaign) (file row : ℕ) (wanted : Option End) (places : List (ℕ × ℕ)) (groups : List (List Answer)) → count_by (is_counted file wanted row) (zip places (map (ask c) groups)) ≡ wanted_count c (answers_at file (row + 1) places groups) wanted
counted-all c file row wanted [] groups = refl
counted-all c file row wanted (place ∷ places) [] = refl
counted-all c file row wanted (place ∷ places) (answers ∷ groups) =
    count-cons (is_counted file wanted row) (place, ask c answers) (zip places (map (ask c) groups))
    ∙ one_more (is_at file (row + 1) place) (is_wanted wanted (ask c answers)) c wanted answers (answers_at file (row + 1) places groups) (count_by (is_counted file wanted row) (zip places (map (ask c) groups))) refl (counted-all c file row wanted places groups)

-- on how many mutations the script stands in any way is how many they are
pub all-counted : (c : Campaign) (here : List (List Answer)) → wanted_count c here None ≡ length here
all-counted c [] = refl
all-counted c (answers ∷ here) = count-cons (λ answers. is_wanted None (ask c answers)) answers here ∙ (let more = all-counted c here in omega (arith, more))

-- what stands in a list with one more behind
pub pushed-at : {X : Type 0} (xs : List X) (x y : X) (i : ℕ) → slice_get (xs ++ x ∷ []) i ≡ Some y → (slice_get xs i ≡ Some y) ⊎ ((i ≡ length xs) × (y ≡ x))
pushed-at [] x y zero at = inr (refl, let same : Some x ≡ Some y = at in cc)
pushed-at [] x y (suc i) at = absurd (let none : None ≡ Some y = at in cc)
pushed-at (a ∷ xs) x y zero at = inl at
pushed-at (a ∷ xs) x y (suc i) at = elim (pushed-at xs x y i at) [ inl h ↦ inl h | inr h ↦ inr (ap suc h.0, h.1) ]

-- lists that count the tags on a line, one after another, give the counts of the tags
pub counts-tags : (c : Campaign) (here : List (List Answer)) (row tag : ℕ) (lists : List (Vec ℕ Global)) (names : List (List ℕ)) → length lists ≡ length names → ((i : ℕ) (counts : Vec ℕ Global) → slice_get lists i ≡ Some counts → slice_index counts.items row ≡ end_count c here (Tag (2 ^ (tag + i))))
    → map (λ (counts : Vec ℕ Global). slice_index counts.items row) lists ≡ tag_counts c here tag names
counts-tags c here row tag [] [] long each = refl
counts-tags c here row tag [] (name ∷ names) long each = absurd (omega (arith, long))
counts-tags c here row tag (one ∷ lists) [] long each = absurd (omega (arith, long))
counts-tags c here row tag (one ∷ lists) (name ∷ names) long each =
    let first : slice_index one.items row ≡ end_count c here (Tag (2 ^ tag)) = (let place : tag + 0 ≡ tag = omega arith in subst (λ n. slice_index one.items row ≡ end_count c here (Tag (2 ^ n))) place (each 0 one refl)) in
    let more : map (λ (counts : Vec ℕ Global). slice_index counts.items row) lists ≡ tag_counts c here (tag + 1) names =
    counts-tags c here row (tag + 1) lists names (omega (arith, long)) (λ i counts at. let place : tag + suc i ≡ (tag + 1) + i = omega arith in subst (λ n. slice_index counts.items row ≡ end_count c here (Tag (2 ^ n))) place (each (suc i) counts at)) in
    λ i. first i ∷ more i

-- the counts of a line are those of its mutations
pub row-counts : (c : Campaign) (groups : List (List Answer)) (file lines row : ℕ) (all : LineCounts) → AreLineCounts c groups file lines all → row < lines
    → (slice_index all.mutations.items row ≡ length (answers_at file (row + 1) c.lines groups)) × (map (λ (counts : Vec ℕ Global). slice_index counts.items row) all.tags.items ≡ tag_counts c (answers_at file (row + 1) c.lines groups) 0 c.tags)
row-counts c groups file lines row all are below =
    let here : List (List Answer) = answers_at file (row + 1) c.lines groups in (
      are.mutations.each row below ∙ all-counted c here,
      counts-tags c here row 0 all.tags.items c.tags are.count (λ i counts at. let place : i ≡ 0 + i = omega arith in subst (λ n. slice_index counts.items row ≡ end_count c here (Tag (2 ^ n))) place ((are.tags i counts at).each row below)),
    )
