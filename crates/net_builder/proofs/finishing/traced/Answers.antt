use Rattle.net_builder.proofs.Common.{◌≡◌, ◌≤◌, ◌↔◌, ◌⊎◌, ℕ, List, [], length, sym, ◌∙◌, subst, Contains, Decides-eqb, nil_from_length, IsFirst, Step, LeadsTo, Follows, IsOnLoop, next_in, known_of}
use Rattle.net_builder.proofs.Common.{end_in}
use Rattle.net_builder.proofs.Ending.{all_end, first_loop}
use Rattle.net_builder.proofs.finishing.traced.Goals as goal

pub returns-then-is_empty-clause-ends : goal.returns-then-is_empty-clause-ends
returns-then-is_empty-clause-ends c =
    let trace = c.in_ok-trace.trace in
    let empty : length c.loops.result.now ≡ 0 = (Decides-eqb (length c.loops.result.now) 0).0 (sym c.is_empty.ensures ∙ c.if-is_empty.true) in
    let none : trace.loops.items ≡ [] = sym c.loops.ensures ∙ nil_from_length c.loops.result.now empty in
    λ n end. subst (λ (s : List Step). LeadsTo (next_in s) n end ↔ (end_in (known_of trace) n ≡ end)) c.in_ok-trace.ensures.same (all_end (known_of trace) c.in_ok-trace.ensures.done c.in_ok-trace.ensures.known none n end)

pub returns-clause-loops : goal.returns-clause-loops
returns-clause-loops c =
    let trace = c.in_ok-trace.trace in
    let least = c.in_ok-least.least in
    let loop : IsOnLoop (next_in trace.steps) least = subst (λ (s : List Step). IsOnLoop (next_in s) least) c.steps.ensures c.in_ok-least.ensures.least in
    let below : (d n : ℕ) → Contains trace.loops.items d → (n ≡ d) ⊎ Follows (next_in trace.steps) d n → IsOnLoop (next_in trace.steps) n → least ≤ n =
    subst (λ (s : List Step). (d n : ℕ) → Contains trace.loops.items d → (n ≡ d) ⊎ Follows (next_in s) d n → IsOnLoop (next_in s) n → least ≤ n) c.steps.ensures
    (subst (λ (l : List ℕ). (d n : ℕ) → Contains l d → (n ≡ d) ⊎ Follows (next_in c.steps.result.now) d n → IsOnLoop (next_in c.steps.result.now) n → least ≤ n) c.loops-2.ensures c.in_ok-least.ensures.below) in
    subst (λ (s : List Step). IsFirst (IsOnLoop (next_in s)) least) c.in_ok-trace.ensures.same (first_loop (known_of trace) c.in_ok-trace.ensures.done c.in_ok-trace.ensures.known least loop below)
