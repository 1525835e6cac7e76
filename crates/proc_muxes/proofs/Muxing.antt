-- The mux of a choice, and the ones after it.
use Rattle.proc_muxes.proofs.Common.{◌≡◌, ℕ, suc, ◌+◌, ◌-◌, ◌≤◌, Bool, true, false, List, [], ◌∷◌, ◌++◌, take, drop, length, get_or, refl, sym, ◌∙◌, ap, subst, arith, take-length, length-append}
use Rattle.proc_muxes.proofs.Common.{if◌then◌else◌, Span, Bit, Mux, Target, Building, Grows, AllBelow, fresh_bits, with_cell, below_later, grown_by, length_fresh, Change, Choice, Work, held}
use Rattle.proc_muxes.proofs.Common.{with_held, Chooses, ChoosesAll, StandsBelow, Keeps, FitsChoice, AllChoicesFit, is_changed, joined}
use Rattle.proc_muxes.proofs.Frames.{stands-held, nets-added}
use Rattle.proc_muxes.proofs.Keeping.{keeps-cell}
use Rattle.proc_muxes.proofs.Merging.{choices-still}

pub keeps-chooses : (at : Span) (test : List Bit) (x : Choice) (a b : Work) → Chooses at test x a b → Keeps (record { number = x.number; width = 0; place = at; is_blocking = x.is_blocking } ∷ []) a b
keeps-chooses at test x a b f =
    let k : Target = record { number = x.number; width = 0; place = at; is_blocking = x.is_blocking } in
    let w : ℕ = length (held a x.is_blocking x.number) in
    subst (λ (z : Work). Keeps (k ∷ []) a z) (sym f.4) (keeps-cell k Mux (test ∷ held a x.is_blocking x.number ∷ x.bits ∷ []) w at a f.2 f.0 refl f.3)

-- the mux that the code adds
pub chooses-mux : (at : Span) (test s low high y : List Bit) (x : Choice) (a b : Work) (mid : Building) (w : ℕ) → FitsChoice a x → length test ≡ 1 → AllBelow a.building.nets test → StandsBelow a → s ≡ test → low ≡ held a x.is_blocking x.number → high ≡ x.bits → w ≡ length low → mid ≡ with_cell a.building Mux false (s ∷ low ∷ high ∷ []) w at → y ≡ fresh_bits a.building.nets w → b ≡ with_held x.is_blocking x.number y (record a { building = mid }) → Chooses at test x a b
chooses-mux at test s low high y x a b mid w fit one below stands is_s is_low is_high is_w is_mid is_y is_b =
    let h : List Bit = held a x.is_blocking x.number in
    let v : ℕ = length h in
    let w_is : w ≡ v = is_w ∙ ap (λ (l : List Bit). length l) is_low in
    let cell : mid ≡ with_cell a.building Mux false (test ∷ h ∷ x.bits ∷ []) v at = is_mid ∙ ap (λ (l : List Bit). with_cell a.building Mux false (l ∷ low ∷ high ∷ []) w at) is_s ∙ ap (λ (l : List Bit). with_cell a.building Mux false (test ∷ l ∷ high ∷ []) w at) is_low ∙ ap (λ (l : List Bit). with_cell a.building Mux false (test ∷ h ∷ l ∷ []) w at) is_high ∙ ap (λ (n : ℕ). with_cell a.building Mux false (test ∷ h ∷ x.bits ∷ []) n at) w_is in
    let some : 1 ≤ v = subst (λ (n : ℕ). 1 ≤ n) fit.long fit.some in
    let narrow : v ≤ 128 = subst (λ (n : ℕ). n ≤ 128) fit.long fit.narrow in
    let grows : Grows a.building mid = grown_by a.building mid Mux false (test ∷ h ∷ x.bits ∷ []) v at cell (one, refl, fit.long) (omega (arith, one), omega (arith, one), (some, narrow, (fit.some, fit.narrow, tt))) some narrow (below, (stands-held a x.is_blocking x.number stands, (fit.below, tt))) in
    let last : b ≡ with_held x.is_blocking x.number (fresh_bits a.building.nets v) (record a { building = mid }) = is_b ∙ ap (λ (l : List Bit). with_held x.is_blocking x.number l (record a { building = mid })) (is_y ∙ ap (fresh_bits a.building.nets) w_is) in
    (fit.known, fit.long, mid, (grows, cell), last)

-- the bits that the mux gives are as many as the variable has
pub mux-wide : (a : Work) (mid : Building) (kind : Bool) (n : ℕ) (s low high y : List Bit) (w : ℕ) (at : Span) → mid ≡ with_cell a.building Mux false (s ∷ low ∷ high ∷ []) w at → y ≡ fresh_bits a.building.nets w → w ≡ length low → low ≡ held a kind n → length y ≡ length (held (record a { building = mid }) kind n)
mux-wide a mid kind n s low high y w at is_mid is_y is_w is_low =
    ap (λ (l : List Bit). length l) is_y ∙ length_fresh a.building.nets w ∙ is_w ∙ ap (λ (l : List Bit). length l) is_low
    ∙ ap (λ (l : List Bit). length l) (sym (ap (λ (b : Building). held (record a { building = b }) kind n) is_mid ∙ same kind)) where
      same : (k : Bool) → held (record a { building = with_cell a.building Mux false (s ∷ low ∷ high ∷ []) w at }) k n ≡ held a k n
      same true = refl
      same false = refl

-- What one mux leaves to the next ones.
pub record Rest (at : Span) (test : List Bit) (initial rest : List Choice) (first a : Work) : Type 0 where
  pub fit : AllChoicesFit a rest
  pub test_below : AllBelow a.building.nets test
  pub stands : StandsBelow a
  pub same : (b : Work) → ChoosesAll at test rest a b → ChoosesAll at test initial first b

pub one-more : (at : Span) (test : List Bit) (initial rest : List Choice) (first a m : Work) (x : Choice) → Rest at test initial (x ∷ rest) first a → Chooses at test x a m → Rest at test initial rest first m
one-more at test initial rest first a m x r f =
    let k = keeps-chooses at test x a m f in
    record {
      fit = choices-still (record { number = x.number; width = 0; place = at; is_blocking = x.is_blocking } ∷ []) a m rest k r.fit.1;
      test_below = below_later a.building.nets m.building.nets test (nets-added a.building m.building k.adds) r.test_below;
      stands = k.below r.stands;
      same = λ b g. r.same b (m, f, g);
    }

-- changes that are joined to others are at least as many
pub joined_longer : (cs ds : List Change) → length cs ≤ length (joined cs ds)
joined_longer cs [] = omega arith
joined_longer cs (d ∷ more) = go (is_changed d.is_blocking cs d.number) (joined_longer cs more) (joined_longer (cs ++ d ∷ []) more) where
  go : (b : Bool) → length cs ≤ length (joined cs more) → length (cs ++ d ∷ []) ≤ length (joined (cs ++ d ∷ []) more) → length cs ≤ length (if b then joined cs more else joined (cs ++ d ∷ []) more)
  go true h k = h
  go false h k = let e : length (cs ++ d ∷ []) ≡ length cs + 1 = length-append cs (d ∷ []) in omega (arith, k, e)

-- the same of a list that is taken from its front
pub rest-more : (at : Span) (test : List Bit) (initial l : List Choice) (first a m : Work) (x : Choice) (k : ℕ) → 1 ≤ length l → x ≡ get_or l 0 x → k ≡ length l - 1 → Rest at test initial l first a → Chooses at test x a m → Rest at test initial (take k (drop 1 l)) first m
rest-more at test initial [] first a m x k some is e r f = absurd (omega arith)
rest-more at test initial (y ∷ more) first a m x k some is e r f =
    let long : k ≡ length more = (let j : suc (length more) - 1 ≡ length more = omega arith in e ∙ j) in
    let all : take k more ≡ more = ap (λ (n : ℕ). take n more) long ∙ take-length more in
    let here : Chooses at test y a m = subst (λ (z : Choice). Chooses at test z a m) is f in
    subst (λ (t : List Choice). Rest at test initial t first m) (sym all) (one-more at test initial more first a m y r here)

pub count-more : (l : List Choice) (k n m t : ℕ) → 1 ≤ length l → k ≡ length l - 1 → m ≡ n + 1 → n + length l ≡ t → m + length (take k (drop 1 l)) ≡ t
count-more [] k n m t some e f g = absurd (omega arith)
count-more (y ∷ more) k n m t some e f g =
    let long : k ≡ length more = (let j : suc (length more) - 1 ≡ length more = omega arith in e ∙ j) in
    let all : length (take k more) ≡ length more = ap (λ (n : ℕ). length (take n more)) long ∙ ap (λ (t : List Choice). length t) (take-length more) in
    let whole : n + suc (length more) ≡ t = g in
    omega (arith, all, f, whole)
