-- What a row of symbols can begin with, and what stands behind it.
use Rattle.std.proofs.Common.{ℕ, ◌+◌, Bool, true, false, ◌&&◌, ◌||◌, not, cond, List, [], ◌∷◌, ltb}
use denote.Enum.Bare.{sameb}
use Rattle.vlog_grammar.specs.contracts.class.Class.{the_type}
use Rattle.vlog_grammar.specs.declared.class.Class.{Class}
use Rattle.vlog_grammar.specs.declared.class.Class.TheVariants.{Else, Finish}
use Rattle.vlog_grammar.specs.declared.rule.Kind.{Kind}
use Rattle.vlog_grammar.specs.declared.table.Symbol.{Symbol}
use Rattle.vlog_grammar.specs.declared.table.Symbol.TheVariants.{Is, Refused, Of}
use Rattle.vlog_grammar.specs.Sets.{firsts, follows, is_null, rank_of, height_of}

-- For proofs alone.

abbrev pub is_same : Class → Class → Bool
is_same a b = sameb the_type a b

abbrev pub is_among : List Class → Class → Bool
is_among [] y = false
is_among (c ∷ cs) y = is_same c y || is_among cs y

abbrev pub is_first : Kind → Class → Bool
is_first k y = is_among (firsts k) y

abbrev pub is_follow : Kind → Class → Bool
is_follow k y = is_among (follows k) y

abbrev pub is_finish : Class → Bool
is_finish y = is_same Finish y

-- what no production avoids
abbrev pub is_plain : Class → Bool
is_plain y = not (is_same Else y)

abbrev pub can_vanish : List Symbol → Bool
can_vanish [] = true
can_vanish (Is c ∷ ss) = false
can_vanish (Refused c x ∷ ss) = false
can_vanish (Of k ∷ ss) = is_null k && can_vanish ss

abbrev pub can_begin : List Symbol → Class → Bool
can_begin [] c = false
can_begin (Is d ∷ ss) c = is_same d c
can_begin (Refused d x ∷ ss) c = is_same d c
can_begin (Of k ∷ ss) c = is_first k c || (is_null k && can_begin ss c)

-- where o can stand behind
abbrev pub can_come : List Symbol → Bool → Class → Bool
can_come ss o c = can_begin ss c || (can_vanish ss && o)

-- no symbol here is one before which a production may not be left out, or a refused one
abbrev pub is_safe : Symbol → Bool
is_safe (Is c) = is_plain c
is_safe (Refused c x) = false
is_safe (Of k) = true

abbrev pub all_safe : List Symbol → Bool
all_safe [] = true
all_safe (s ∷ ss) = is_safe s && all_safe ss

abbrev pub rest_of : List Symbol → List Symbol
rest_of [] = []
rest_of (s ∷ ss) = ss

-- how many productions can begin here before a token is taken
abbrev pub work_of : List Symbol → ℕ
work_of [] = 0
work_of (Is c ∷ ss) = 0
work_of (Refused c x ∷ ss) = 0
work_of (Of k ∷ ss) = rank_of k + cond (is_null k) (work_of ss) 0

-- the cheapest trees of these symbols are less deep than n
abbrev pub all_below : ℕ → List Symbol → Bool
all_below n [] = true
all_below n (Is c ∷ ss) = all_below n ss
all_below n (Refused c x ∷ ss) = false
all_below n (Of k ∷ ss) = ltb (height_of k) n && all_below n ss
