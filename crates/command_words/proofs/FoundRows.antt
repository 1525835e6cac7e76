-- What was found of the options of `run`: a row for each that was given, in the order given.
use Rattle.command_words.proofs.Common.{◌≡◌, ◌∙◌, ◌||◌, Bool, cond, true, false, refl, ap, List, [], ◌∷◌, ◌++◌, Option, Some, None, bytes_eq, find, option_and_then, slice_get, is_some, Row, Text}
use Rattle.command_words.proofs.Common.{at_row, first_of, has_row, more_values, with_values, without, CommandLine, AsWritten, or_parts}
use Rattle.std.proofs.lemmas.List.{append-nil}
use Rattle.command_words.proofs.OptionWords.{Flag, Jobs, Mutations, Retry, Stop, name_of}

-- the row of an option with this value
abbrev pub row : Flag → Text → Row
row f value = record { id = name_of f; values = value ∷ []; count = None; source = Some CommandLine; reading = AsWritten }

-- a change of a row that is not there adds what stands in its place
absent : (id : Text) (change : Row → List Row) (missing rows : List Row) → has_row id rows ≡ false → at_row id change missing rows ≡ rows ++ missing
absent id change missing [] none = refl
absent id change missing (r ∷ rows) none =
    let parts = or_parts (bytes_eq r.id id) (has_row id rows) none in
    ap (λ (b : Bool). cond b (change r ++ rows) (r ∷ at_row id change missing rows)) parts.0 ∙ ap (λ (rs : List Row). r ∷ rs) (absent id change missing rows parts.1)

-- a first value adds a row
pub first_value : (f : Flag) (value : Text) (rows : List Row) → has_row (name_of f) rows ≡ false
    → with_values (name_of f) AsWritten CommandLine (value ∷ []) (without (name_of f) rows) ≡ rows ++ row f value ∷ []
first_value f value rows none =
    let same : without (name_of f) rows ≡ rows = absent (name_of f) (λ r. []) [] rows none ∙ append-nil rows in
    ap (with_values (name_of f) AsWritten CommandLine (value ∷ [])) same ∙ absent (name_of f) (more_values CommandLine (value ∷ [])) (row f value ∷ []) rows none

-- ---- the values of the options

pub record Values : Type 0 where
  pub jobs : Option Text
  pub stop : Option Text
  pub retry : Option Text
  pub mutations : Option Text

abbrev pub value_at : Flag → Values → Option Text
value_at Jobs values = values.jobs
value_at Stop values = values.stop
value_at Retry values = values.retry
value_at Mutations values = values.mutations

abbrev pub with_value : Flag → Text → Values → Values
with_value Jobs word values = record values { jobs = Some word }
with_value Stop word values = record values { stop = Some word }
with_value Retry word values = record values { retry = Some word }
with_value Mutations word values = record values { mutations = Some word }

abbrev pub no_values : Values
no_values = record { jobs = None; stop = None; retry = None; mutations = None }

-- these rows have these values
pub record AreRows (rows : List Row) (values : Values) : Type 0 where
  pub found : (f : Flag) → first_of (name_of f) rows ≡ value_at f values
  pub has : (f : Flag) → has_row (name_of f) rows ≡ is_some (value_at f values)

pub no_rows : AreRows [] no_values
no_rows = record { found = found; has = has }
  where
    found : (f : Flag) → first_of (name_of f) [] ≡ value_at f no_values
    found Jobs = refl
    found Stop = refl
    found Retry = refl
    found Mutations = refl

    has : (f : Flag) → has_row (name_of f) [] ≡ is_some (value_at f no_values)
    has Jobs = refl
    has Stop = refl
    has Retry = refl
    has Mutations = refl

has_more : (id : Text) (rows : List Row) (r : Row) → has_row id (rows ++ r ∷ []) ≡ (has_row id rows || bytes_eq r.id id)
has_more id [] r = or_none (bytes_eq r.id id)
  where
    or_none : (b : Bool) → (b || false) ≡ (false || b)
    or_none true = refl
    or_none false = refl
has_more id (x ∷ rows) r = ap (λ (b : Bool). bytes_eq x.id id || b) (has_more id rows r) ∙ regroup (bytes_eq x.id id) (has_row id rows) (bytes_eq r.id id)
  where
    regroup : (a b c : Bool) → (a || (b || c)) ≡ ((a || b) || c)
    regroup true b c = refl
    regroup false b c = refl

-- the row of an option behind rows that lack it is found, and changes nothing for the others
found_last : (id : Text) (rows : List Row) (r : Row) → has_row id rows ≡ false → bytes_eq r.id id ≡ true → first_of id (rows ++ r ∷ []) ≡ slice_get r.values 0
found_last id [] r none same = ap (λ (b : Bool). option_and_then (λ (x : Row). slice_get x.values 0) (cond b (Some r) None)) same
found_last id (x ∷ rows) r none same =
    let parts = or_parts (bytes_eq x.id id) (has_row id rows) none in
    ap (λ (b : Bool). option_and_then (λ (y : Row). slice_get y.values 0) (cond b (Some x) (find (λ y. bytes_eq y.id id) (rows ++ r ∷ [])))) parts.0 ∙ found_last id rows r parts.1 same

found_before : (id : Text) (rows : List Row) (r : Row) → bytes_eq r.id id ≡ false → first_of id (rows ++ r ∷ []) ≡ first_of id rows
found_before id [] r other = ap (λ (b : Bool). option_and_then (λ (x : Row). slice_get x.values 0) (cond b (Some r) None)) other
found_before id (x ∷ rows) r other = go (found_before id rows r other) (bytes_eq x.id id) refl
  where
    go : first_of id (rows ++ r ∷ []) ≡ first_of id rows → (b : Bool) → bytes_eq x.id id ≡ b → first_of id ((x ∷ rows) ++ r ∷ []) ≡ first_of id (x ∷ rows)
    go h true e = rw e refl
    go h false e = rw e h

-- ---- one row more

module _ (f : Flag) (word : Text) (rows : List Row) (values : Values) (are : AreRows rows values) (none : value_at f values ≡ None) where
  absent_is : has_row (name_of f) rows ≡ false
  absent_is = are.has f ∙ ap is_some none

  own : bytes_eq (name_of f) (name_of f) ≡ true → first_of (name_of f) (rows ++ row f word ∷ []) ≡ Some word
  own same = found_last (name_of f) rows (row f word) absent_is same

  other : (g : Flag) → bytes_eq (name_of f) (name_of g) ≡ false → first_of (name_of g) (rows ++ row f word ∷ []) ≡ value_at g values
  other g differs = found_before (name_of g) rows (row f word) differs ∙ are.found g

  has_own : bytes_eq (name_of f) (name_of f) ≡ true → has_row (name_of f) (rows ++ row f word ∷ []) ≡ true
  has_own same = has_more (name_of f) rows (row f word) ∙ ap (λ (b : Bool). has_row (name_of f) rows || b) same ∙ last (has_row (name_of f) rows)
    where
      last : (b : Bool) → (b || true) ≡ true
      last true = refl
      last false = refl

  has_other : (g : Flag) → bytes_eq (name_of f) (name_of g) ≡ false → has_row (name_of g) (rows ++ row f word ∷ []) ≡ is_some (value_at g values)
  has_other g differs = has_more (name_of g) rows (row f word) ∙ ap (λ (b : Bool). has_row (name_of g) rows || b) differs ∙ no_more (has_row (name_of g) rows) ∙ are.has g
    where
      no_more : (b : Bool) → (b || false) ≡ b
      no_more true = refl
      no_more false = refl

found_more : (f : Flag) (word : Text) (rows : List Row) (values : Values) → AreRows rows values → value_at f values ≡ None
    → (g : Flag) → first_of (name_of g) (rows ++ row f word ∷ []) ≡ value_at g (with_value f word values)
found_more Jobs word rows values are none Jobs = own Jobs word rows values are none refl
found_more Jobs word rows values are none Stop = other Jobs word rows values are none Stop refl
found_more Jobs word rows values are none Retry = other Jobs word rows values are none Retry refl
found_more Jobs word rows values are none Mutations = other Jobs word rows values are none Mutations refl
found_more Stop word rows values are none Jobs = other Stop word rows values are none Jobs refl
found_more Stop word rows values are none Stop = own Stop word rows values are none refl
found_more Stop word rows values are none Retry = other Stop word rows values are none Retry refl
found_more Stop word rows values are none Mutations = other Stop word rows values are none Mutations refl
found_more Retry word rows values are none Jobs = other Retry word rows values are none Jobs refl
found_more Retry word rows values are none Stop = other Retry word rows values are none Stop refl
found_more Retry word rows values are none Retry = own Retry word rows values are none refl
found_more Retry word rows values are none Mutations = other Retry word rows values are none Mutations refl
found_more Mutations word rows values are none Jobs = other Mutations word rows values are none Jobs refl
found_more Mutations word rows values are none Stop = other Mutations word rows values are none Stop refl
found_more Mutations word rows values are none Retry = other Mutations word rows values are none Retry refl
found_more Mutations word rows values are none Mutations = own Mutations word rows values are none refl

has_row_more : (f : Flag) (word : Text) (rows : List Row) (values : Values) → AreRows rows values → value_at f values ≡ None
    → (g : Flag) → has_row (name_of g) (rows ++ row f word ∷ []) ≡ is_some (value_at g (with_value f word values))
has_row_more Jobs word rows values are none Jobs = has_own Jobs word rows values are none refl
has_row_more Jobs word rows values are none Stop = has_other Jobs word rows values are none Stop refl
has_row_more Jobs word rows values are none Retry = has_other Jobs word rows values are none Retry refl
has_row_more Jobs word rows values are none Mutations = has_other Jobs word rows values are none Mutations refl
has_row_more Stop word rows values are none Jobs = has_other Stop word rows values are none Jobs refl
has_row_more Stop word rows values are none Stop = has_own Stop word rows values are none refl
has_row_more Stop word rows values are none Retry = has_other Stop word rows values are none Retry refl
has_row_more Stop word rows values are none Mutations = has_other Stop word rows values are none Mutations refl
has_row_more Retry word rows values are none Jobs = has_other Retry word rows values are none Jobs refl
has_row_more Retry word rows values are none Stop = has_other Retry word rows values are none Stop refl
has_row_more Retry word rows values are none Retry = has_own Retry word rows values are none refl
has_row_more Retry word rows values are none Mutations = has_other Retry word rows values are none Mutations refl
has_row_more Mutations word rows values are none Jobs = has_other Mutations word rows values are none Jobs refl
has_row_more Mutations word rows values are none Stop = has_other Mutations word rows values are none Stop refl
has_row_more Mutations word rows values are none Retry = has_other Mutations word rows values are none Retry refl
has_row_more Mutations word rows values are none Mutations = has_own Mutations word rows values are none refl

pub rows_more : (f : Flag) (word : Text) (rows : List Row) (values : Values) → AreRows rows values → value_at f values ≡ None → AreRows (rows ++ row f word ∷ []) (with_value f word values)
rows_more f word rows values are none = record { found = found_more f word rows values are none; has = has_row_more f word rows values are none }
