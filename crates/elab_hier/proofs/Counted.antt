-- Items whose turns were counted are built, or they are refused.
use Rattle.elab_hier.proofs.Common.{◌≡◌, ◌⊎◌, inl, inr, ℕ, Bool, List, None, Some, take, refl, sym, ◌∙◌, subst, Building, FlatItem, Flat, Clocks, clocks_of, ElabError, Memory, TooMany, BuildsAll}
use Rattle.elab_hier.proofs.Common.{FailsSome, IsPast, max_turns, IsBegun, IsBuilt, IsNotBuilt, build_answer, counted}
use Rattle.mcy_base.specs.declared.kind.Kind.TheVariants.{LoopTurns}
use Rattle.elab_items.specs.declared.error.BuildError.{BuildError}
use Rattle.elab_items.proofs.Turning.{all_within}

module _ (flat : Flat) (flags : List Bool) (clocks : Clocks) (timed : clocks ≡ clocks_of flags flat) (first : Building) (begun : IsBegun flat first) where
  -- some of the items are not built
  not_built : (items : List FlatItem) (reason : BuildError) (error : ElabError) → counted flat ≡ items → FailsSome flags flat clocks items first reason → (error ≡ build_answer flat.signals reason) ⊎ (error ≡ Memory) → IsNotBuilt flat flags error
  not_built items reason error is fails (inl answer) =
      let by_clocks = subst (λ (c : Clocks). FailsSome flags flat c items first reason) timed fails in
      inr (inl (record { first = first; begins = begun.begins; reason = reason; fails = subst (λ (l : List FlatItem). FailsSome flags flat (clocks_of flags flat) l first reason) (sym is) by_clocks; answers = answer }))
  not_built items reason error is fails (inr memory) = inl (inr memory)

  pub all_built : (last : Building) → IsPast flat.places max_turns flat.items None → BuildsAll flags flat clocks flat.items first last → IsBuilt flat flags last
  all_built last few builds = record { first = first; begun = begun; builds = record { few = few; all = subst (λ (c : Clocks). BuildsAll flags flat c flat.items first last) timed builds } }

  pub all_refused : (reason : BuildError) (error : ElabError) → IsPast flat.places max_turns flat.items None → FailsSome flags flat clocks flat.items first reason → (error ≡ build_answer flat.signals reason) ⊎ (error ≡ Memory) → IsNotBuilt flat flags error
  all_refused reason error few fails answer = not_built flat.items reason error (all_within flat.places flat.items max_turns few) fails answer

  -- The items before the one with which loops take too many turns.

  pub some_refused : (count : ℕ) (before : List FlatItem) (reason : BuildError) (error : ElabError) → IsPast flat.places max_turns flat.items (Some count) → before ≡ take count flat.items → FailsSome flags flat clocks before first reason → (error ≡ build_answer flat.signals reason) ⊎ (error ≡ Memory) → IsNotBuilt flat flags error
  some_refused count before reason error many is fails answer = not_built (take count flat.items) reason error many.1 (subst (λ (l : List FlatItem). FailsSome flags flat clocks l first reason) is fails) answer

  pub turns_refused : (count : ℕ) (before : List FlatItem) (last : Building) → IsPast flat.places max_turns flat.items (Some count) → before ≡ take count flat.items → BuildsAll flags flat clocks before first last → IsNotBuilt flat flags (TooMany LoopTurns)
  turns_refused count before last many is builds =
      let by_clocks = subst (λ (c : Clocks). BuildsAll flags flat c before first last) timed builds in
      inr (inr (record { many = many.2; first = first; begins = begun.begins; last = last; builds = subst (λ (l : List FlatItem). BuildsAll flags flat (clocks_of flags flat) l first last) (is ∙ sym many.1) by_clocks; answers = refl }))
