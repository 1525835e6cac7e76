-- A file comes to one outcome.
use Rattle.vlog_expand.proofs.Common.{◌≡◌, ℕ, [], refl, sym, ap, ◌∙◌, subst, Span, Outcome, Gives, Refuses, behind, expanded, State, Passes, Stops, Turn, Ends, Shows, Leads, turn, Comes, ends, stops}
use Rattle.vlog_expand.proofs.Common.{passes, refuses, shows, FilesComeToOneOutcome}

-- what a file comes to where its first token comes to this
abbrev GivenAt : Span → State → Outcome → Outcome → Type 0
GivenAt end next (Gives ts m) o = (p : Outcome) × Comes end next m p × (o ≡ behind ts p)
GivenAt end next (Refuses e) o = o ≡ Refuses e

-- what a file comes to at this turn
abbrev At : Span → State → ℕ → Turn → Outcome → Type 0
At end s n Ends o = o ≡ Gives [] n
At end s n (Shows t next) o = GivenAt end next (expanded 16 s.macros t n) o
At end s n (Leads (Passes next)) o = Comes end next n o
At end s n (Leads (Stops e)) o = o ≡ Refuses e

at-turn : {end : Span} {s : State} {n : ℕ} {o : Outcome} → Comes end s n o → At end s n (turn end s) o
at-turn {end} {s} {n} {o} (ends a) = subst (λ x. At end s n x o) (sym a) refl
at-turn {end} {s} {n} {o} (stops a) = subst (λ x. At end s n x o) (sym a) refl
at-turn {end} {s} {n} {o} (passes a c) = subst (λ x. At end s n x o) (sym a) c
at-turn {end} {s} {n} {o} (refuses {next = next} a x) = subst (λ y. At end s n y o) (sym a) (subst (λ y. GivenAt end next y o) (sym x) refl)
at-turn {end} {s} {n} {o} (shows {next = next} a x c) = subst (λ y. At end s n y o) (sym a) (subst (λ y. GivenAt end next y o) (sym x) (_, c, refl))

one : {end : Span} {s : State} {n : ℕ} {o p : Outcome} → Comes end s n o → Comes end s n p → o ≡ p
one {end} {s} {n} {o} {p} (ends a) d = sym (subst (λ x. At end s n x p) a (at-turn d))
one {end} {s} {n} {o} {p} (stops a) d = sym (subst (λ x. At end s n x p) a (at-turn d))
one {end} {s} {n} {o} {p} (passes a c) d = one c (subst (λ x. At end s n x p) a (at-turn d))
one {end} {s} {n} {o} {p} (refuses {next = next} a x) d = sym (subst (λ y. GivenAt end next y p) x (subst (λ y. At end s n y p) a (at-turn d)))
one {end} {s} {n} {o} {p} (shows {next = next} {ts = ts} a x c) d =
    let other = subst (λ y. GivenAt end next y p) x (subst (λ y. At end s n y p) a (at-turn d)) in
    ap (behind ts) (one c other.1) ∙ sym other.2

pub files_come_to_one_outcome_lem : FilesComeToOneOutcome
files_come_to_one_outcome_lem end s n o p c d = one c d
