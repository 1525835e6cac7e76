-- No refused book is well-formed.
use Rattle.result_book.proofs.Common.{◌≡◌, ◌≢◌, inl, inr, arith, ℕ, ◌<◌, ◌≤◌, Bool, true, false, List, [], ◌∷◌, ◌++◌, slice_get, Option, None, Some, refl, sym, ◌∙◌, ap, subst, IsSomeAnd, Entry, Book}
use Rattle.result_book.proofs.Common.{is_first, Campaign, Seq, NoMutation, NoTest, Twice, NotAsked, BadWord, Mark, Tags, Bound, Unknown, mark_of, tags_of, word_code, ask_on, bound_in, AreRowsIn}
use Rattle.result_book.proofs.Common.{IsGivenUp, IsRow, IsRowIn, IsWellFormed, meta_in_second, DifferFirst, HasNone, IsAskedOn, IsBoundFault, IsFirstFault, IsOnce, IsRefused, IsRowFault, IsTwice}
use Rattle.result_book.specs.declared.check.RowFault.{RowFault}
use Rattle.result_book.specs.declared.check.BookError.{BookError}
use Rattle.result_book.specs.declared.check.BookError.TheVariants.{Meta, Mutation, Row, Stray, Memory}
use Rattle.result_book.proofs.Growing.{rows_rest}
use Rattle.result_book.proofs.FaultLemmas.{ask_on-same}
use Rattle.result_book.proofs.Pairs.{not_both, old_pair}

-- what a further row needs and what forbids it do not go together
pub twice_once : (first : Bool) (earlier : List Entry) (e : Entry) → IsTwice first earlier e → IsOnce first earlier e → ⊥
twice_once first earlier e twice once = elim once [
  | inl none ↦ not_both e.mutation e.test earlier none twice.0
  | inr again ↦ elim twice.1 [
    | inl is_first ↦ (let never : true ≡ false = sym is_first ∙ again.0 in cc)
    | inr rest ↦ elim rest [
      | inl other ↦ other again.1.word
      | inr above ↦ crossed (bound_in e.mutation e.test earlier) again.1.below above
    ]
  ]
]
  where
    crossed : (o : Option ℕ) → IsSomeAnd o (λ before. before < e.bound) → IsSomeAnd o (λ before. e.bound ≤ before) → ⊥
    crossed None below above = below
    crossed (Some before) below above = omega (arith, below, above)

-- a row that may stand stands once or was given up, and is asked for
pub stands_once : (first : Bool) (c : Campaign) (earlier : List Entry) (e : Entry) → IsRowIn first c earlier e → IsOnce first earlier e
stands_once true c earlier e row = inl row.follows.0.new
stands_once false c earlier e row = elim row.follows [ inl new ↦ inl new.0.new | inr again ↦ inr (refl, again.given_up) ]

pub stands_asked : (first : Bool) (c : Campaign) (earlier : List Entry) (e : Entry) → IsRowIn first c earlier e → IsAskedOn c earlier e
stands_asked true c earlier e row = inr row.follows.0.asked
stands_asked false c earlier e row = elim row.follows [ inl new ↦ inr new.0.asked | inr again ↦ inl again.read ]

-- its bound is right
bound_right : (first : Bool) (c : Campaign) (earlier : List Entry) (e : Entry) (n : ℕ) → IsRowIn first c earlier e → IsBoundFault first c earlier e n → ⊥
bound_right true c earlier e n row bad = elim bad [
  | inl new ↦ new.2 (row.follows.1 ∙ sym new.1)
  | inr old ↦ not_both e.mutation e.test earlier row.follows.0.new old.0
]
bound_right false c earlier e n row bad = elim row.follows [
  | inl follows ↦ elim bad [
    | inl new ↦ new.2 (follows.1 ∙ sym new.1)
    | inr old ↦ not_both e.mutation e.test earlier follows.0.new old.0
  ]
  | inr again ↦ elim bad [
    | inl new ↦ twice_new new.0 again.given_up
    | inr old ↦ elim old.2 [
      | inl odd ↦ (let never : true ≡ false = sym again.round ∙ odd in cc)
      | inr above ↦ omega (arith, old.1, above, again.most)
    ]
  ]
]
  where
    -- a pair that was given up has a row
    twice_new : HasNone earlier e → IsGivenUp earlier e.mutation e.test e.bound → ⊥
    twice_new none given_up = not_both e.mutation e.test earlier none (old_pair e.mutation e.test (word_code Unknown) earlier given_up.word)

-- a row with a fault is no row that may come next
pub faulty : (first : Bool) (c : Campaign) (earlier : List Entry) (e : Entry) (fault : RowFault) → IsRowFault first c earlier e fault → IsRowIn first c earlier e → ⊥
faulty first c earlier e (Seq n) bad row = bad.1 (row.seq ∙ sym bad.0)
faulty first c earlier e NoMutation bad row = omega (arith, bad.1, row.mutation)
faulty first c earlier e NoTest bad row = omega (arith, bad.2, row.test)
faulty first c earlier e Twice bad row = twice_once first earlier e bad.1 (stands_once first c earlier e row)
faulty first c earlier e NotAsked bad row = bad.2 (stands_asked first c earlier e row)
faulty first c earlier e BadWord bad row = bad.1 row.word
faulty first c earlier e (Mark n) bad row = bad.2 (row.mark ∙ sym bad.1)
faulty first c earlier e (Tags n) bad row = bad.3 (row.tags ∙ sym bad.2)
faulty first c earlier e (Bound n) bad row = bound_right first c earlier e n row bad.1

faulty_rows : (first : Bool) (c : Campaign) (rows : List Entry) (e : Entry) (fault : RowFault) → IsFirstFault first c rows e fault → AreRowsIn first c [] rows → ⊥
faulty_rows first c rows e fault found all =
    let rest : AreRowsIn first c found.before (e ∷ found.after) = rows_rest first c [] found.before (e ∷ found.after) (subst (λ (l : List Entry). AreRowsIn first c [] l) found.rows_are all) in
    faulty first c found.before e fault found.bad rest.0

differing : (kept derived : List (List ℕ)) (place : ℕ) (old new : Option (List ℕ)) → DifferFirst kept derived place old new → kept ≡ derived → ⊥
differing kept derived place old new differ same = differ.differ (differ.old_is ∙ ap (λ (l : List (List ℕ)). slice_get l place) same ∙ sym differ.new_is)

pub ill_formed : (c : Campaign) (book : Book) (error : BookError) → IsRefused c book error → error ≢ Memory → ¬ IsWellFormed c book
ill_formed c book (Meta place old new) refused other form = differing (meta_in_second book.meta) c.meta place old new refused form.meta
ill_formed c book (Mutation place old new) refused other form = differing book.mutations c.mutations place old new refused.1 form.mutations
ill_formed c book (Row e fault) refused other form = faulty_rows (is_first book) c book.journal e fault refused.2 form.rows
ill_formed c book (Stray mutations rows) refused other form = refused
ill_formed c book Memory refused other form = other refl

abbrev entry : ℕ → ℕ → ℕ → ℕ → ℕ → ℕ → ℕ → Entry
entry seq mutation test word mark tags bound = record { seq = seq; mutation = mutation; test = test; word = word; mark = mark; tags = tags; bound = bound }

-- the next row of a pair is determined by its word and its bound
pub one_row : (c : Campaign) (earlier : List Entry) (e f : Entry) → IsRow c earlier e → IsRow c earlier f → e.mutation ≡ f.mutation → e.test ≡ f.test → e.word ≡ f.word → e.bound ≡ f.bound → e ≡ f
one_row c earlier e f row row' mutation test word bound =
    let stands : ask_on c e.mutation (earlier ++ e ∷ []) ≡ ask_on c f.mutation (earlier ++ f ∷ []) = ask_on-same c earlier f e mutation test word in
    let seq : e.seq ≡ f.seq = row.seq ∙ sym row'.seq in
    let mark : e.mark ≡ f.mark = row.mark ∙ ap mark_of stands ∙ sym row'.mark in
    let tags : e.tags ≡ f.tags = row.tags ∙ ap tags_of stands ∙ sym row'.tags in
    let same : entry e.seq e.mutation e.test e.word e.mark e.tags e.bound ≡ entry f.seq f.mutation f.test f.word f.mark f.tags f.bound = cc in
    same
