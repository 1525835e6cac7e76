-- How a word that is an option of `run` looks to the lexer, and how no other word does.
use Rattle.command_words.proofs.Common.{◌≡◌, ◌∙◌, ◌==◌, ℕ, Bool, true, false, true≢false, refl, sym, ap, subst, [], ◌∷◌, ◌++◌, drop, length, arith, Option, Some, inl, inr, codes, nat_eq, append_assoc}
use Rattle.command_words.proofs.Common.{IsUtf8, chars, ◌⊎◌, bytes_eq, slice_get, before_first, starts_with, false_from_ne_true, Decides-eqb, bytes_eq-Decides, starts_is, long_of, short_of, Text}
use Rattle.command_words.proofs.WordParts.{cut_as, first_byte, long_parts, past_hyphen, short_parts}

-- the options of `run`
pub data Flag : Type 0 where
  Jobs : Flag
  Stop : Flag
  Retry : Flag
  Mutations : Flag

abbrev pub name_of : Flag → Text
name_of Jobs = codes "jobs"
name_of Stop = codes "stop-after"
name_of Retry = codes "retry"
name_of Mutations = codes "mutations"

-- a long flag without a value, and what stands before a value that is joined to it
abbrev pub long_alone : Text → Text
long_alone name = 45 ∷ 45 ∷ name

abbrev pub long_prefix : Text → Text
long_prefix name = 45 ∷ 45 ∷ (name ++ (61 ∷ []))

-- the option without a value
abbrev pub alone : Flag → Text
alone Jobs = 45 ∷ 106 ∷ []
alone Stop = long_alone (name_of Stop)
alone Retry = long_alone (name_of Retry)
alone Mutations = long_alone (name_of Mutations)

-- an option with its value in one word: `-j=N`, `-jN`, `--stop-after=N`, `--retry=N` or `--mutations=N,N`
pub data Joined : Type 0 where
  JobsBy : Text → Joined
  JobsIn : (x : ℕ) → (x == 61) ≡ false → Text → Joined
  StopBy : Text → Joined
  RetryBy : Text → Joined
  MutationsBy : Text → Joined

abbrev pub flag_in : Joined → Flag
flag_in (JobsBy value) = Jobs
flag_in (JobsIn x other xs) = Jobs
flag_in (StopBy value) = Stop
flag_in (RetryBy value) = Retry
flag_in (MutationsBy value) = Mutations

abbrev pub value_in : Joined → Text
value_in (JobsBy value) = value
value_in (JobsIn x other xs) = x ∷ xs
value_in (StopBy value) = value
value_in (RetryBy value) = value
value_in (MutationsBy value) = value

abbrev pub joined : Joined → Text
joined (JobsBy value) = 45 ∷ 106 ∷ 61 ∷ value
joined (JobsIn x other xs) = 45 ∷ 106 ∷ x ∷ xs
joined (StopBy value) = long_prefix (name_of Stop) ++ value
joined (RetryBy value) = long_prefix (name_of Retry) ++ value
joined (MutationsBy value) = long_prefix (name_of Mutations) ++ value

-- each begins with a hyphen
pub alone_begins : (f : Flag) → (rest : Text) × (alone f ≡ 45 ∷ rest)
alone_begins Jobs = (106 ∷ [], refl)
alone_begins Stop = (45 ∷ name_of Stop, refl)
alone_begins Retry = (45 ∷ name_of Retry, refl)
alone_begins Mutations = (45 ∷ name_of Mutations, refl)

pub joined_begins : (g : Joined) → (rest : Text) × (joined g ≡ 45 ∷ rest)
joined_begins (JobsBy value) = (106 ∷ 61 ∷ value, refl)
joined_begins (JobsIn x other xs) = (106 ∷ x ∷ xs, refl)
joined_begins (StopBy value) = (drop 1 (long_prefix (name_of Stop)) ++ value, refl)
joined_begins (RetryBy value) = (drop 1 (long_prefix (name_of Retry)) ++ value, refl)
joined_begins (MutationsBy value) = (drop 1 (long_prefix (name_of Mutations)) ++ value, refl)

-- ---- a long flag

-- the word is not this flag, with a value or without
pub record IsNotLong (name word : Text) : Type 0 where
  pub long : (p : Text × Option Text) → long_of word ≡ Some p → bytes_eq name p.0 ≡ false
  pub not_alone : bytes_eq word (long_alone name) ≡ false
  pub not_joined : starts_with nat_eq word (long_prefix name) ≡ false

abbrev pub LongOrNot : Text → Text → Type 0
LongOrNot name word = (word ≡ long_alone name) ⊎ (((value : Text) × (word ≡ long_prefix name ++ value)) ⊎ IsNotLong name word)

module _ (name word : Text) where
  -- a long flag with the name is the flag
  named : (p : Text × Option Text) → long_of word ≡ Some p → bytes_eq name p.0 ≡ true → (word ≡ long_alone name) ⊎ ((value : Text) × (word ≡ long_prefix name ++ value))
  named p e same =
      let parts = long_parts word p e in
      let is_name : before_first (λ x. x == 61) parts.0 ≡ name = sym parts.2 ∙ sym ((bytes_eq-Decides name p.0).0 same) in
      go parts.0 parts.1 is_name (cut_as parts.0)
    where
      go : (rest : Text) → word ≡ 45 ∷ 45 ∷ rest → before_first (λ x. x == 61) rest ≡ name
          → (rest ≡ before_first (λ x. x == 61) rest) ⊎ ((more : Text) × (rest ≡ before_first (λ x. x == 61) rest ++ 61 ∷ more)) → (word ≡ long_alone name) ⊎ ((value : Text) × (word ≡ long_prefix name ++ value))
      go rest is is_name (inl h) = inl (is ∙ ap (λ t. 45 ∷ 45 ∷ t) (h ∙ is_name))
      go rest is is_name (inr h) =
          inr (h.0, is ∙ ap (λ t. 45 ∷ 45 ∷ t) (h.1 ∙ ap (λ t. t ++ (61 ∷ h.0)) is_name ∙ sym (append_assoc name (61 ∷ []) h.0)))

  pub long_or_not : LongOrNot name word
  long_or_not = go (bytes_eq word (long_alone name)) refl (starts_with nat_eq word (long_prefix name)) refl
    where
      go : (a : Bool) → bytes_eq word (long_alone name) ≡ a → (b : Bool) → starts_with nat_eq word (long_prefix name) ≡ b → LongOrNot name word
      go true e b g = inl ((bytes_eq-Decides word (long_alone name)).0 e)
      go false e true g = inr (inl (drop (length (long_prefix name)) word, (starts_is Decides-eqb word (long_prefix name) _ refl).0 g))
      go false e false g = inr (inr (record {
        long = λ p is. false_from_ne_true _ (λ same. either (named p is same));
        not_alone = e;
        not_joined = g;
      }))
        where
          either : (word ≡ long_alone name) ⊎ ((value : Text) × (word ≡ long_prefix name ++ value)) → ⊥
          either (inl h) = true≢false (sym ((bytes_eq-Decides word (long_alone name)).1 h) ∙ e)
          either (inr h) = true≢false (sym ((starts_is Decides-eqb word (long_prefix name) _ refl).1 h.0 h.1) ∙ g)

-- ---- the short flag

-- the word is not `-j`, with a value or without
pub record IsNotJobs (word : Text) : Type 0 where
  pub short : (flags : Text) → short_of word ≡ Some flags → (x : ℕ) → slice_get (chars flags) 0 ≡ Some x → (106 == x) ≡ false
  pub not_alone : bytes_eq word (codes "-j") ≡ false
  pub not_begun : starts_with nat_eq word (codes "-j") ≡ false

abbrev pub JobsOrNot : Text → Type 0
JobsOrNot word = (word ≡ alone Jobs) ⊎ (((g : Joined) × (word ≡ joined g)) ⊎ IsNotJobs word)

-- what follows `-j` is its value
jobs_by : (word value : Text) → word ≡ 45 ∷ 106 ∷ value → JobsOrNot word
jobs_by word [] is = inl is
jobs_by word (x ∷ xs) is = go (x == 61) refl
  where
    go : (b : Bool) → (x == 61) ≡ b → JobsOrNot word
    go true e = inr (inl (JobsBy xs, is ∙ ap (λ y. 45 ∷ 106 ∷ y ∷ xs) ((Decides-eqb x 61).0 e)))
    go false e = inr (inl (JobsIn x e xs, is))

module _ (word : Text) (text : IsUtf8 word) (other : starts_with nat_eq word (codes "-j") ≡ false) where
  begun_never : (value : Text) → word ≡ 45 ∷ 106 ∷ value → ⊥
  begun_never value is = true≢false (sym ((starts_is Decides-eqb word (codes "-j") _ refl).1 value is) ∙ other)

  -- the characters of a text are those that its bytes spell
  no_short : (flags : Text) → short_of word ≡ Some flags → (x : ℕ) → slice_get (chars flags) 0 ≡ Some x → (106 == x) ≡ false
  no_short flags e x first = false_from_ne_true (106 == x) (λ same. by (sym ((Decides-eqb 106 x).0 same)))
    where
      is : word ≡ 45 ∷ flags
      is = short_parts word flags e

      by : x ≡ 106 → ⊥
      by j =
          let begins = first_byte flags (past_hyphen flags (subst IsUtf8 is text)) 106 (omega arith) (first ∙ ap (λ y. Some y) j) in
          begun_never begins.0 (is ∙ ap (λ t. 45 ∷ t) begins.1)

  not_alone : bytes_eq word (codes "-j") ≡ false
  not_alone = false_from_ne_true (bytes_eq word (codes "-j")) (λ same. begun_never [] ((bytes_eq-Decides word (codes "-j")).0 same))

  no_jobs : IsNotJobs word
  no_jobs = record { short = no_short; not_alone = not_alone; not_begun = other }

jobs_or_not : (word : Text) → IsUtf8 word → JobsOrNot word
jobs_or_not word text = go (starts_with nat_eq word (codes "-j")) refl
  where
    go : (b : Bool) → starts_with nat_eq word (codes "-j") ≡ b → JobsOrNot word
    go true e = jobs_by word (drop 2 word) ((starts_is Decides-eqb word (codes "-j") _ refl).0 e)
    go false e = inr (inr (no_jobs word text e))

-- ---- an option

-- the word is no option
pub record IsOther (word : Text) : Type 0 where
  pub jobs : IsNotJobs word
  pub stop : IsNotLong (name_of Stop) word
  pub retry : IsNotLong (name_of Retry) word
  pub mutations : IsNotLong (name_of Mutations) word

-- a word is an option without a value, one with a value, or neither
abbrev pub IsAlone : Text → Type 0
IsAlone word = (f : Flag) × (word ≡ alone f)

abbrev pub IsJoined : Text → Type 0
IsJoined word = (g : Joined) × (word ≡ joined g)

pub option_or_other : (word : Text) → IsUtf8 word → IsAlone word ⊎ (IsJoined word ⊎ IsOther word)
option_or_other word text = go (jobs_or_not word text) (long_or_not (name_of Stop) word) (long_or_not (name_of Retry) word) (long_or_not (name_of Mutations) word)
  where
    go : JobsOrNot word → LongOrNot (name_of Stop) word → LongOrNot (name_of Retry) word → LongOrNot (name_of Mutations) word → IsAlone word ⊎ (IsJoined word ⊎ IsOther word)
    go (inl is) stop retry mutations = inl (Jobs, is)
    go (inr (inl is)) stop retry mutations = inr (inl is)
    go (inr (inr other)) (inl is) retry mutations = inl (Stop, is)
    go (inr (inr other)) (inr (inl v)) retry mutations = inr (inl (StopBy v.0, v.1))
    go (inr (inr other)) (inr (inr no_stop)) (inl is) mutations = inl (Retry, is)
    go (inr (inr other)) (inr (inr no_stop)) (inr (inl v)) mutations = inr (inl (RetryBy v.0, v.1))
    go (inr (inr other)) (inr (inr no_stop)) (inr (inr no_retry)) (inl is) = inl (Mutations, is)
    go (inr (inr other)) (inr (inr no_stop)) (inr (inr no_retry)) (inr (inl v)) = inr (inl (MutationsBy v.0, v.1))
    go (inr (inr other)) (inr (inr no_stop)) (inr (inr no_retry)) (inr (inr no_mutations)) =
        inr (inr (record { jobs = other; stop = no_stop; retry = no_retry; mutations = no_mutations }))
