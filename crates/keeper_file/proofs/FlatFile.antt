-- Whole pages stand in a file of their own, each with its sum if they have sums.
use Rattle.std.proofs.Common.{◌≡◌, ℕ, zero, suc, ◌+◌, ◌-◌, ◌*◌, ◌/◌, ◌<◌, ◌≤◌, ◌&&◌, false, List, [], ◌++◌, length, take, slice_index, Option, Some, None, IsSome, option_map, unwrap_or, refl, sym, ap, ◌∙◌, inl, inr, arith, length-append, leb, le-leb, leb-true, cond, mul-div_cancel, mul-le-mul_right, true≢false}
use Rattle.std.proofs.lemmas.Bool.{cases_Bool, cases_eq, cond-true, cond-false, and_parts, and_from}
use Rattle.std.proofs.lemmas.List.{get_or-append-add}
use Rattle.std.proofs.Math.Path.{fun_ext}
use Rattle.sqlite_wal.specs.Format.{part}
use Rattle.sqlite_wal.specs.Recovery as raw
use Rattle.sqlite_wal.specs.Recovery.{AreWhole, Image, Pages}
use Rattle.sqlite_wal.proofs.PartLemmas.{part_whole, same_parts}
use Rattle.sqlite_wal.proofs.FormatLemmas.{part-append}
use Rattle.sqlite_wal.proofs.AppendLemmas.{some_value}
use Rattle.sqlite_wal.proofs.ChangeLemmas.{HaveCount}
use Rattle.sqlite_pool.specs.Stored.{Recovers, sealed, stored_size, trimmed}
use Rattle.sqlite_pool.specs.StoredLaws.{length-sealed, take_sealed}

-- the pages from 1 to k, one behind the other
abbrev pub flat : (ℕ → List ℕ) → ℕ → List ℕ
flat page zero = []
flat page (suc k) = flat page k ++ page (suc k)

part_behind : (front back : List ℕ) (n : ℕ) → length back ≡ n → part (front ++ back) (length front) n ≡ back
part_behind front back n len =
    let both = length-append front back in
    same_parts (front ++ back) back (length front) 0 n (omega arith) (omega arith) (λ i low. let here : i ≡ 0 + i = omega arith in get_or-append-add front back i 0 ∙ ap (λ (k : ℕ). slice_index back k) here) ∙ part_whole back n len

module _ (page : ℕ → List ℕ) (size count : ℕ) (sized : (n : ℕ) → 1 ≤ n → n ≤ count → length (page n) ≡ size) where
  length-flat : (k : ℕ) → k ≤ count → length (flat page k) ≡ k * size
  length-flat zero low = omega arith
  length-flat (suc k) low = omega (arith, length-append (flat page k) (page (suc k)), length-flat k (omega arith), sized (suc k) (omega arith) low)

  part-flat : (k : ℕ) → k ≤ count → (n : ℕ) → 1 ≤ n → n ≤ k → part (flat page k) ((n - 1) * size) size ≡ page n
  part-flat zero low n one within = absurd (omega arith)
  part-flat (suc k) low n one within =
      let len = length-flat k (omega arith) in
      elim (cases_eq n (suc k)) [
        | inl last ↦
            let before : n - 1 ≡ k = omega arith in
            ap (λ (a : ℕ). part (flat page k ++ page (suc k)) a size) (ap (λ (m : ℕ). m * size) before ∙ sym len)
            ∙ part_behind (flat page k) (page (suc k)) size (sized (suc k) (omega arith) low) ∙ ap page (sym last)
        | inr other ↦
            let earlier : suc (n - 1) ≤ k = omega arith in
            part-append (flat page k) (page (suc k)) ((n - 1) * size) size (omega (arith, len, mul-le-mul_right size earlier)) ∙ part-flat k (omega arith) n one (omega arith)
      ]

-- a page that is used, as it is stored
abbrev pub stored_page : Pages → ℕ → List ℕ
stored_page pages n = sealed (unwrap_or (pages n) [])

abbrev pub stored_pages : Pages → Pages
stored_pages pages n = option_map sealed (pages n)

-- the file of these pages, and no log
abbrev pub flat_image : Pages → ℕ → Image
flat_image pages count = record { log = []; db = flat (stored_page pages) count }

module _ (size : ℕ) (pages : Pages) (count : ℕ) (whole : AreWhole size pages) (counted : HaveCount pages count) (some : 0 < stored_size size) where
  page_sized : (n : ℕ) → 1 ≤ n → n ≤ count → length (stored_page pages n) ≡ stored_size size
  page_sized n low high =
      let (bytes, is) = some_value (pages n) ((counted n).1 low high) in
      rw is (length-sealed bytes ∙ ap stored_size (whole.sized n bytes is))

  long : length (flat (stored_page pages) count) ≡ count * stored_size size
  long = length-flat (stored_page pages) (stored_size size) count page_sized count (omega arith)

  many : length (flat (stored_page pages) count) / stored_size size ≡ count
  many = ap (λ (x : ℕ). x / stored_size size) long ∙ mul-div_cancel count some

  present : 0 < length (flat (stored_page pages) count)
  present =
      let first : 1 ≤ count = ((counted 1).0 whole.first).1 in
      omega (arith, long, some, mul-le-mul_right (stored_size size) first)

  none_past : (n : ℕ) → (leb 1 n && leb n count) ≡ false → pages n ≡ None
  none_past n outside = elim (pages n) as (λ o. (IsSome o → (1 ≤ n) × (n ≤ count)) → o ≡ None) [
    | None ↦ λ range. refl
    | Some bytes ↦ λ range. let here = range refl in absurd (true≢false (sym (and_from _ _ (le-leb _ _ here.0) (le-leb _ _ here.1)) ∙ outside))
  ] (counted n).0

  gives : raw.pages_after (stored_size size) [] (flat (stored_page pages) count) 0 ≡ stored_pages pages
  unfolding raw.pages_after
  gives = fun_ext λ n.
      let test = leb 1 n && leb n count in
      let page : Option (List ℕ) = Some (part (flat (stored_page pages) count) ((n - 1) * stored_size size) (stored_size size)) in
      ap (λ (m : ℕ). cond (leb 1 n && leb n m) page None) many ∙ elim (cases_Bool test) [
        | inl inside ↦
            let both = and_parts _ _ inside in
            let low = leb-true _ _ both.0 in
            let high = leb-true _ _ both.1 in
            let (bytes, is) = some_value (pages n) ((counted n).1 low high) in
            cond-true test _ _ inside ∙ ap Some (part-flat (stored_page pages) (stored_size size) count page_sized count (omega arith) n low high)
            ∙ ap (λ (o : Option (List ℕ)). Some (sealed (unwrap_or o []))) is ∙ sym (ap (option_map sealed) is)
        | inr outside ↦ cond-false test _ _ outside ∙ sym (ap (option_map sealed) (none_past n outside))
      ]

  found : raw.Recovers (stored_size size) (flat_image pages count) (stored_pages pages)
  found = record { frames = 0; replays = inl (inl (omega arith), refl); present = present; gives = gives }

  sealed_first : (o : Option (List ℕ)) → IsSome o → IsSome (option_map sealed o)
  sealed_first None none = none
  sealed_first (Some bytes) is = refl

  of_sealed : (o : Option (List ℕ)) → ((bytes : List ℕ) → o ≡ Some bytes → length bytes ≡ size) → (bytes : List ℕ) → option_map sealed o ≡ Some bytes → (length bytes ≡ stored_size size) × (bytes ≡ sealed (take size bytes))
  of_sealed None sized bytes is = absurd (cc)
  of_sealed (Some page) sized bytes is =
      let same : bytes ≡ sealed page = cc in
      let len = sized page refl in
      (ap length same ∙ length-sealed page ∙ ap stored_size len, same ∙ ap sealed (sym (ap (take size) same ∙ ap (λ (n : ℕ). take n (sealed page)) (sym len) ∙ take_sealed page)))

  used : (o : Option (List ℕ)) → ((bytes : List ℕ) → o ≡ Some bytes → length bytes ≡ size) → option_map (take size) (option_map sealed o) ≡ o
  used None sized = refl
  used (Some page) sized = ap Some (ap (λ (n : ℕ). take n (sealed page)) (sym (sized page refl)) ∙ take_sealed page)

  -- they recover to the same pages
  pub flat_recovers : Recovers size (flat_image pages count) pages
  unfolding trimmed
  flat_recovers = record {
    stored = stored_pages pages;
    found = found;
    whole = record { first = sealed_first (pages 1) whole.first; sized = λ n bytes is. (of_sealed (pages n) (whole.sized n) bytes is).0 };
    sealed = λ n bytes is. (of_sealed (pages n) (whole.sized n) bytes is).1;
    shows = fun_ext λ n. used (pages n) (whole.sized n);
    present = present;
  }
