-- The body of a process in which nothing is refused can be built.
use Rattle.process_cells.proofs.Common.{◌≡◌, Bool, false, not, List, [], ◌++◌, map, refl, sym, ap, ◌∙◌, subst, if◌then◌else◌, Span, left_nil, right_nil, Target, latch_of, Steps, steps_of}
use Rattle.process_cells.proofs.Common.{step_refusals, distinct, stands, Conforms, mixed_refusals, control_refusals, latch_refusal, latch_refusals, sound, writes, targets_are, AcceptedCanBeBuilt}
use Rattle.std.specs.Prelude.{Option, None, Some}
use Rattle.process_latches.specs.Latching.{latch_in}
use Rattle.process_cells.proofs.OneKind.{one_kind}
use Rattle.process_cells.proofs.Sounding.{accepted_sound}

no_latch : (always : Span) (o : Option Target) → latch_refusal always o ≡ [] → o ≡ None
no_latch always None e = refl
no_latch always (Some x) e = cc

pub can_be_built : AcceptedCanBeBuilt
can_be_built comb names written always control s e =
    let steps : Steps = steps_of s names in
    let f = right_nil (control_refusals names control) (step_refusals comb written steps ++ (mixed_refusals (writes (sound steps)) ++ latch_refusals comb always (sound steps))) e in
    let free : step_refusals comb written steps ≡ [] = left_nil (step_refusals comb written steps) (mixed_refusals (writes (sound steps)) ++ latch_refusals comb always (sound steps)) f in
    let g = right_nil (step_refusals comb written steps) (mixed_refusals (writes (sound steps)) ++ latch_refusals comb always (sound steps)) f in
    let mixed : mixed_refusals (writes (sound steps)) ≡ [] = left_nil (mixed_refusals (writes (sound steps))) (latch_refusals comb always (sound steps)) g in
    let latch : latch_refusals comb always (sound steps) ≡ [] = right_nil (mixed_refusals (writes (sound steps))) (latch_refusals comb always (sound steps)) g in
    let same = accepted_sound comb written s names free in
    record {
      accepted = (written, free);
      kinds = subst (λ (ts : List Target). Conforms (λ n. not (stands false ts n)) ts) same.0 (one_kind (sound steps) mixed);
      unlatched = λ is.
          let none : latch_in (sound steps) ≡ None = no_latch always (latch_in (sound steps)) (subst (λ (b : Bool). latch_refusals b always (sound steps) ≡ []) is latch) in
          sym same.1 ∙ sym (ap (λ (b : Bool). if b then None else latch_of (sound steps)) same.2) ∙ none;
      numbers = ap (λ (ts : List Target). map (λ (x : Target). x.number) (distinct ts)) (targets_are (sound steps) ∙ same.0);
    }
