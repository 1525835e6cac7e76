-- Why a kept book is refused.
use Rattle.std.specs.Prelude.{◌≡◌, ◌≢◌, ◌⊎◌, ℕ, ◌<◌, ◌≤◌, Bool, true, false, List, [], ◌∷◌, ◌++◌, length, take, slice_get, Option, Some, IsSomeAnd, ⊤, if◌then◌else◌}
use Rattle.std.specs.List.{All, Any}
use Rattle.mcy_keeper.specs.declared.book.Entry.{Entry}
use Rattle.mcy_keeper.specs.declared.book.Book.{Book}
use Rattle.mcy_keeper.specs.Books.{is_first}
use Rattle.result_book.specs.declared.campaign.Campaign.{Campaign}
use Rattle.tag_script.specs.declared.answer.Ask.TheVariants.{Need}
use Rattle.result_book.specs.declared.check.RowFault.{RowFault}
use Rattle.result_book.specs.declared.check.RowFault.TheVariants.{Seq, NoMutation, NoTest, Twice, NotAsked, BadWord, Mark, Tags, Bound}
use Rattle.result_book.specs.declared.check.BookError.{BookError}
use Rattle.result_book.specs.declared.check.BookError.TheVariants.{Meta, Mutation, Row, Stray, Memory}
use Rattle.result_book.specs.declared.script.TestWord.TheVariants.{Unknown}
use Rattle.result_book.specs.Scripts.{IsRead, mark_of, tags_of, word_code, word_in}
use Rattle.result_book.specs.Campaigns.{IsWordOf, first_bound}
use Rattle.result_book.specs.Rounds.{is_round, max_limit}
use Rattle.result_book.specs.Rows.{answers_of, ask_on, bound_in, meta_in_second, AreRowsIn, IsGivenUp, IsPair}

-- The lists are the same before this place and differ there: an item of the kept list and one of the derived list, of
-- which one is none where its list has ended.
pub record DifferFirst (kept derived : List (List ℕ)) (place : ℕ) (old new : Option (List ℕ)) : Type 0 where
  pub same : take place kept ≡ take place derived
  pub old_is : old ≡ slice_get kept place
  pub new_is : new ≡ slice_get derived place
  pub differ : old ≢ new

-- the row has its place as its number, and names a mutation and a test
pub record IsPlaced (c : Campaign) (earlier : List Entry) (e : Entry) : Type 0 where
  pub seq : e.seq ≡ length earlier
  pub mutation : e.mutation < length c.mutations
  pub test : e.test < length c.kinds

-- the pair has no row yet
abbrev pub HasNone : List Entry → Entry → Type 0
HasNone earlier e = All (λ row. ¬ IsPair e.mutation e.test row) earlier

-- the pair has one
abbrev pub HasOne : List Entry → Entry → Type 0
HasOne earlier e = Any (IsPair e.mutation e.test) earlier

-- The pair has a row already, and no further one may stand: in the first format there is none, and in the second one only where
-- the last word is UNKNOWN, found under a smaller bound.
abbrev pub IsTwice : Bool → List Entry → Entry → Type 0
IsTwice first earlier e = HasOne earlier e × ((first ≡ true) ⊎ (word_in (answers_of e.mutation earlier) e.test ≢ Some (word_code Unknown)) ⊎ IsSomeAnd (bound_in e.mutation e.test earlier) (λ before. e.bound ≤ before))

-- it has none, or may have a further one
abbrev pub IsOnce : Bool → List Entry → Entry → Type 0
IsOnce first earlier e = HasNone earlier e ⊎ ((first ≡ false) × IsGivenUp earlier e.mutation e.test e.bound)

-- a test is read on a mutation's rows, or the next that the script needs
abbrev pub IsAskedFor : Campaign → List Entry → ℕ → ℕ → Type 0
IsAskedFor c earlier m t = IsRead c (answers_of m earlier) t ⊎ (ask_on c m earlier ≡ Need t)

abbrev pub IsAskedOn : Campaign → List Entry → Entry → Type 0
IsAskedOn c earlier e = IsAskedFor c earlier e.mutation e.test

-- the row is placed, its pair stands once or was given up, and its test is asked
pub record IsAsked (first : Bool) (c : Campaign) (earlier : List Entry) (e : Entry) : Type 0 where
  pub placed : IsPlaced c earlier e
  pub once : IsOnce first earlier e
  pub asked : IsAskedOn c earlier e

-- and its word is one of its kind of test
pub record IsAnswered (first : Bool) (c : Campaign) (earlier : List Entry) (e : Entry) : Type 0 where
  pub asked : IsAsked first c earlier e
  pub word : IsWordOf c e.test e.word

-- and its mark and tags are those of the script after it
pub record IsMarked (first : Bool) (c : Campaign) (earlier : List Entry) (e : Entry) : Type 0 where
  pub answered : IsAnswered first c earlier e
  pub mark : e.mark ≡ mark_of (ask_on c e.mutation (earlier ++ e ∷ []))
  pub tags : e.tags ≡ tags_of (ask_on c e.mutation (earlier ++ e ∷ []))

-- the bound of a pair's first row, in a book of this format
abbrev pub derived_bound : Bool → Campaign → ℕ → ℕ
derived_bound first c test = if first then 0 else first_bound c test

-- A pair's first row has another bound than this, which is derived; or a later row has one that is not round or above this,
-- which is the greatest.
abbrev pub IsBoundFault : Bool → Campaign → List Entry → Entry → ℕ → Type 0
IsBoundFault first c earlier e n =
    (HasNone earlier e × (n ≡ derived_bound first c e.test) × (e.bound ≢ n))
    ⊎ (HasOne earlier e × (n ≡ max_limit) × ((is_round e.bound ≡ false) ⊎ (n < e.bound)))

-- what each fault says of a row after these, in a book of this format: all that is tested before holds
abbrev pub IsRowFault : Bool → Campaign → List Entry → Entry → RowFault → Type 0
IsRowFault first c earlier e (Seq n) = (n ≡ length earlier) × (e.seq ≢ n)
IsRowFault first c earlier e NoMutation = (e.seq ≡ length earlier) × (length c.mutations ≤ e.mutation)
IsRowFault first c earlier e NoTest = (e.seq ≡ length earlier) × (e.mutation < length c.mutations) × (length c.kinds ≤ e.test)
IsRowFault first c earlier e Twice = IsPlaced c earlier e × IsTwice first earlier e
IsRowFault first c earlier e NotAsked = IsPlaced c earlier e × IsOnce first earlier e × (¬ IsAskedOn c earlier e)
IsRowFault first c earlier e BadWord = IsAsked first c earlier e × (¬ IsWordOf c e.test e.word)
IsRowFault first c earlier e (Mark n) = IsAnswered first c earlier e × (n ≡ mark_of (ask_on c e.mutation (earlier ++ e ∷ []))) × (e.mark ≢ n)
IsRowFault first c earlier e (Tags n) =
    IsAnswered first c earlier e × (e.mark ≡ mark_of (ask_on c e.mutation (earlier ++ e ∷ []))) × (n ≡ tags_of (ask_on c e.mutation (earlier ++ e ∷ []))) × (e.tags ≢ n)
IsRowFault first c earlier e (Bound n) = IsMarked first c earlier e × IsBoundFault first c earlier e n

-- the row is the first of these rows that has a fault
pub record IsFirstFault (first : Bool) (c : Campaign) (rows : List Entry) (e : Entry) (fault : RowFault) : Type 0 where
  pub before : List Entry
  pub after : List Entry
  pub rows_are : rows ≡ before ++ e ∷ after
  pub good : AreRowsIn first c [] before
  pub bad : IsRowFault first c before e fault

-- what each refusal says of a kept book; a check alone never finds stray rows
abbrev pub IsRefused : Campaign → Book → BookError → Type 0
IsRefused c book (Meta place old new) = DifferFirst (meta_in_second book.meta) c.meta place old new
IsRefused c book (Mutation place old new) = (meta_in_second book.meta ≡ c.meta) × DifferFirst book.mutations c.mutations place old new
IsRefused c book (Row e fault) = (meta_in_second book.meta ≡ c.meta) × (book.mutations ≡ c.mutations) × IsFirstFault (is_first book) c book.journal e fault
IsRefused c book (Stray mutations rows) = ⊥
IsRefused c book Memory = ⊤
