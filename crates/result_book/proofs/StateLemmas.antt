-- What a state knows is what its rows say, and one more row.
use Rattle.result_book.proofs.Common.{◌≡◌, arith, ℕ, ◌<◌, ◌≤◌, false, List, [], ◌∷◌, ◌++◌, length, set, slice_get, replicate, Option, Some, refl, sym, ◌∙◌, ap, Entry, Campaign, Ask, ask, each_from}
use Rattle.result_book.proofs.Common.{mark_of, tags_of, words_of, IsFit, IsWordOf, answer_of, answers_of, ask_on, bounds_on, IsRow, MayFollow, IsStateOf, Progress}
use Rattle.result_book.proofs.Each.{each_from-all, each_at, length-each_from}
use Rattle.result_book.proofs.Words.{words_of-more}
use Rattle.result_book.proofs.Grouping.{answers_of-other, answers_of-same, bounds_on-more, bounds_on-other, each_more}
use Rattle.result_book.proofs.Growing.{rows_more}
use Rattle.result_book.proofs.Counting.{few_rows}

abbrev words_on : ℕ → List Entry → List (Option ℕ)
words_on m rows = words_of (answers_of m rows)

pub length-results : (c : Campaign) (rows : List Entry) (s : Progress) → IsStateOf c rows s → length s.results ≡ length c.mutations
length-results c rows s state = ap length state.results ∙ length-each_from (λ m. words_on m rows) 0 (length c.mutations)

pub length-bounds : (c : Campaign) (rows : List Entry) (s : Progress) → IsStateOf c rows s → length s.bounds ≡ length c.mutations
length-bounds c rows s state = ap length state.bounds ∙ length-each_from (λ m. bounds_on m rows) 0 (length c.mutations)

pub length-asks : (c : Campaign) (rows : List Entry) (s : Progress) → IsStateOf c rows s → length s.asks ≡ length c.mutations
length-asks c rows s state = ap length state.asks ∙ length-each_from (λ m. ask_on c m rows) 0 (length c.mutations)

-- a state has fewer rows than a u32 counts
pub length-rows : (c : Campaign) (rows : List Entry) (s : Progress) → IsFit c → IsStateOf c rows s → length s.rows ≤ 59360000
length-rows c rows s fit state = omega (arith, ap length state.rows_are, few_rows c rows fit state.form, fit.few_mutations)

-- what is known of a mutation
pub results-at : (c : Campaign) (rows : List Entry) (s : Progress) (m : ℕ) → IsStateOf c rows s → m < length c.mutations → slice_get s.results m ≡ Some (words_of (answers_of m rows))
results-at c rows s m state inside = ap (λ (l : List (List (Option ℕ))). slice_get l m) state.results ∙ each_at (λ k. words_on k rows) (length c.mutations) m inside

pub bounds-at : (c : Campaign) (rows : List Entry) (s : Progress) (m : ℕ) → IsStateOf c rows s → m < length c.mutations → slice_get s.bounds m ≡ Some (bounds_on m rows)
bounds-at c rows s m state inside = ap (λ (l : List (List ℕ)). slice_get l m) state.bounds ∙ each_at (λ k. bounds_on k rows) (length c.mutations) m inside

pub asks-at : (c : Campaign) (rows : List Entry) (s : Progress) (m : ℕ) → IsStateOf c rows s → m < length c.mutations → slice_get s.asks m ≡ Some (ask_on c m rows)
asks-at c rows s m state inside = ap (λ (l : List Ask). slice_get l m) state.asks ∙ each_at (λ k. ask_on c k rows) (length c.mutations) m inside

-- the state without rows
pub state_begun : (c : Campaign) (s : Progress) (words : List (Option ℕ)) (bounds : List ℕ) (stands : Ask) (n : ℕ) → words ≡ words_of [] → bounds ≡ bounds_on 0 [] → stands ≡ ask c [] → s.rows ≡ [] → s.results ≡ replicate n words → s.bounds ≡ replicate n bounds → s.asks ≡ replicate n stands → n ≡ length c.mutations → IsStateOf c [] s
unfolding bounds_on
state_begun c s words bounds stands n words_are bounds_are stands_is rows results all_bounds asks many = record {
  rows_are = rows;
  form = tt;
  results = results ∙ ap (λ (w : List (Option ℕ)). replicate n w) words_are ∙ ap (λ (k : ℕ). replicate k (words_of [])) many ∙ sym (each_from-all (λ m. words_on m []) (words_of []) 0 (length c.mutations) (λ m. refl));
  bounds = all_bounds ∙ ap (λ (b : List ℕ). replicate n b) bounds_are ∙ ap (λ (k : ℕ). replicate k (bounds_on 0 [])) many ∙ sym (each_from-all (λ m. bounds_on m []) (bounds_on 0 []) 0 (length c.mutations) (λ m. refl));
  asks = asks ∙ ap (λ (a : Ask). replicate n a) stands_is ∙ ap (λ (k : ℕ). replicate k (ask c [])) many ∙ sym (each_from-all (λ m. ask_on c m []) (ask c []) 0 (length c.mutations) (λ m. refl));
}

-- the words of a mutation with one more, a further one of its test or the first
pub words_next : (rows : List Entry) (e : Entry) → e.test < 16 → set (words_of (answers_of e.mutation rows)) e.test (Some e.word) ≡ words_of (answers_of e.mutation (rows ++ e ∷ []))
words_next rows e inside = sym (words_of-more (answers_of e.mutation rows) (answer_of e) inside) ∙ ap words_of (sym (answers_of-same e.mutation rows e refl))

-- the row that comes next for a word and a bound
pub next_row : (c : Campaign) (rows : List Entry) (e : Entry) → e.seq ≡ length rows → e.mutation < length c.mutations → e.test < length c.kinds → MayFollow c rows e.mutation e.test e.bound → IsWordOf c e.test e.word
    → e.mark ≡ mark_of (ask_on c e.mutation (rows ++ e ∷ [])) → e.tags ≡ tags_of (ask_on c e.mutation (rows ++ e ∷ [])) → IsRow c rows e
next_row c rows e seq mutation test follows word mark tags = record {
  seq = seq;
  mutation = mutation;
  test = test;
  follows = follows;
  word = word;
  mark = mark;
  tags = tags;
}

-- the state after one more row
pub state_more : (c : Campaign) (rows : List Entry) (s next : Progress) (e : Entry) (words : List (Option ℕ)) (stands : Ask) → IsFit c → IsStateOf c rows s → IsRow c rows e
    → words ≡ words_of (answers_of e.mutation (rows ++ e ∷ [])) → stands ≡ ask_on c e.mutation (rows ++ e ∷ [])
    → next.rows ≡ s.rows ++ e ∷ [] → next.results ≡ set s.results e.mutation words → next.bounds ≡ set s.bounds e.mutation (set (bounds_on e.mutation rows) e.test e.bound) → next.asks ≡ set s.asks e.mutation stands → IsStateOf c (rows ++ e ∷ []) next
state_more c rows s next e words stands fit state row words_are stands_is new_rows new_results new_bounds new_asks =
    let n : ℕ = length c.mutations in
    let m : ℕ = e.mutation in record {
      rows_are = new_rows ∙ ap (λ (l : List Entry). l ++ e ∷ []) state.rows_are;
      form = rows_more false c [] rows e state.form row;
      results = new_results ∙ ap (λ (l : List (List (Option ℕ))). set l m words) state.results ∙ ap (set (each_from (λ k. words_on k rows) 0 n) m) words_are
          ∙ sym (each_more words_on (λ k rs r other. ap words_of (answers_of-other k rs r other)) n rows e row.mutation);
      bounds = new_bounds ∙ ap (λ (l : List (List ℕ)). set l m (set (bounds_on m rows) e.test e.bound)) state.bounds ∙ ap (set (each_from (λ k. bounds_on k rows) 0 n) m) (sym (bounds_on-more rows e (omega (arith, row.test, fit.few_tests))))
          ∙ sym (each_more bounds_on bounds_on-other n rows e row.mutation);
      asks = new_asks ∙ ap (λ (l : List Ask). set l m stands) state.asks ∙ ap (set (each_from (λ k. ask_on c k rows) 0 n) m) stands_is
          ∙ sym (each_more (ask_on c) (λ k rs r other. ap (ask c) (answers_of-other k rs r other)) n rows e row.mutation);
    }
