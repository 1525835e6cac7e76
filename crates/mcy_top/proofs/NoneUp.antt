-- Where 3 ^ k is no more than the limit of the campaign, for the k free bits of its design, no pair is given up.
use Rattle.mcy_top.proofs.Common.{◌≡◌, ◌≢◌, inl, inr, arith, ℕ, ◌<◌, ◌≤◌, ◌^◌, ◌==◌, ◌&&◌, not, Bool, true, false, List, [], ◌∷◌, ◌++◌, Option, None, Some, refl, sym, subst, ◌∙◌, append_assoc}
use Rattle.mcy_top.proofs.Common.{if◌then◌else◌, Contains, eqb_tells, Contains-append_left, Contains-push, Entry, Book, first_bound, is_sim_test, AreRows, Prepared, Trial, Equality, Simulation}
use Rattle.mcy_top.proofs.Common.{IsPlan, plan_kind, AreRight, IsGood, book_of, book_form, book_second, given_up, has_pair, is_equality, GivesNoneUp}
use Rattle.std.specs.Prelude.{slice_get}
use Rattle.netlist_core.specs.Checked.{free_bits}
use Rattle.row_laws.proofs.Telling.{unknowns_long}
use Rattle.mcy_top.proofs.Advancing.{history_second}
use Rattle.mcy_top.proofs.Finishing.{unknown_equality}
use Rattle.mcy_top.proofs.Fresh.{AreNew}

-- no word is UNKNOWN
abbrev AreKnown : List Entry → Type 0
AreKnown [] = Unit {0}
AreKnown (e ∷ more) = (e.word ≢ 3) × AreKnown more

none_given : (rows : List Entry) → AreKnown rows → given_up rows ≡ []
none_given [] known = refl
none_given (e ∷ rows) known = elim (eqb_tells e.word 3) [
  | inl h ↦ absurd (known.0 h.1)
  | inr h ↦ here (e.word == 3) h.0 (none_given rows known.1)
]
  where
    here : (b : Bool) → b ≡ false → given_up rows ≡ [] → (if b && not (has_pair rows e.mutation e.test) then record { mutation = e.mutation; test = e.test } ∷ given_up rows else given_up rows) ≡ []
    here true is none = absurd (let never : true ≡ false = is in cc)
    here false is none = none

-- the first bound of an equality is the limit of the campaign
is_equality_trial : (o : Option Trial) → is_equality o ≡ true → o ≡ Some Equality
is_equality_trial None is = absurd (let never : false ≡ true = is in cc)
is_equality_trial (Some Equality) is = refl
is_equality_trial (Some (Simulation bench pass fail)) is = absurd (let never : false ≡ true = is in cc)

limit_of : (c : Prepared) (t : ℕ) → IsPlan c → slice_get c.trials t ≡ Some Equality → first_bound c.campaign t ≡ c.campaign.conflicts
limit_of c t plan at = by (is_sim_test c.campaign t) (rw (plan_kind c t Equality plan at) refl)
  where
    by : (b : Bool) → b ≡ false → (if b then 0 else c.campaign.conflicts) ≡ c.campaign.conflicts
    by true is = absurd (let never : true ≡ false = is in cc)
    by false is = refl

module _ (c : Prepared) (rows : List Entry) (plan : IsPlan c) (form : AreRows c.campaign [] rows) (right : AreRight c rows) (small : 3 ^ free_bits c.netlist ≤ c.campaign.conflicts) where
  good : IsGood (book_of c rows)
  good = record { prepared = c; plan = plan; form = book_form c rows plan form; words_right = subst (λ (b : Book). AreRight c b.journal) (sym (history_second c (book_of c rows) (book_second c rows plan))) right }

  -- an UNKNOWN has a greater bound
  long : (e : Entry) → Contains rows e → e.word ≡ 3 → e.bound < 3 ^ free_bits c.netlist
  unfolding good
  long e has is = unknowns_long (book_of c rows) good e (subst (λ (b : Book). Contains b.journal e) (sym (history_second c (book_of c rows) (book_second c rows plan))) has) is

  known_rows : (earlier more : List Entry) → rows ≡ earlier ++ more → AreNew c.campaign earlier more → AreRight c more → AreKnown more
  known_rows earlier [] are new words = tt
  known_rows earlier (e ∷ more) are new words = (
    λ is.
        let front : rows ≡ (earlier ++ e ∷ []) ++ more = are ∙ sym (append_assoc earlier (e ∷ []) more) in
        let has : Contains rows e = subst (λ (l : List Entry). Contains l e) (sym front) (Contains-append_left (earlier ++ e ∷ []) more e (Contains-push earlier e)) in
        let equality : slice_get c.trials e.test ≡ Some Equality = is_equality_trial (slice_get c.trials e.test) (unknown_equality c e.mutation e.test e.bound e.word words.0 is) in
        let bound : e.bound ≡ c.campaign.conflicts = new.2 ∙ limit_of c e.test plan equality in
        let less : e.bound < 3 ^ free_bits c.netlist = long e has is in
        omega (arith, bound, less, small),
    known_rows (earlier ++ e ∷ []) more (are ∙ sym (append_assoc earlier (e ∷ []) more)) new.3 words.1,
  )

pub none_up : (c : Prepared) (rows : List Entry) → IsPlan c → AreRows c.campaign [] rows → AreRight c rows → AreNew c.campaign [] rows → GivesNoneUp c c.campaign.conflicts (given_up rows)
none_up c rows plan form right new small = none_given rows (known_rows c rows plan form right small [] rows refl new right)
