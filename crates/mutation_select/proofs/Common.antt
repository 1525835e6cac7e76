-- What several files here take from the specs of this crate and from the crates below.
pub use Rattle.std.proofs.Common.{[], ◌++◌, ◌+◌, ◌<◌, ◌∙◌, ◌∷◌, ◌≡◌, ◌≢◌, ◌≤◌, Bool, List, None, Option, Some, ap, append_assoc, arith, cond, drop, false, get_or, inl, inr, length, map, min, refl}
pub use Rattle.std.proofs.Common.{rules, subst, suc, sym, take, true, true≢false, zero, ℕ}
pub use Rattle.std.proofs.lemmas.Bool.{cases_lt, cases_order, eq-eqb, eqb-true, false_from_ne_true, le-ltb, lt-ltb}
pub use Rattle.std.proofs.lemmas.Bool.Decides.{eqb_tells, nat_tests}
pub use Rattle.std.proofs.lemmas.Cmp.{tied_itself, upto}
pub use Rattle.std.proofs.lemmas.List.Elements.{filter-append, recursion_from_All}
pub use Rattle.std.proofs.lemmas.List.Sorted.{IsPermutation-map, IsPermutation-trans, length_permutation, ranks_by, sorted_far, sum_by-IsPermutation}
pub use Rattle.std.proofs.lemmas.List.Sums.{get_or-le-sum_by, length-filter, sum_by-append, sum_by-cons}
pub use Rattle.std.proofs.lemmas.Result.{IfOk-weaker}
pub use Rattle.std.specs.Cmp.{IsTotalOrder, nat_cmp_is}
pub use Rattle.std.specs.Cmp.Rules.{comparing}
pub use Rattle.std.specs.List.{AllByRecursion, count_by, sum_by}
pub use Rattle.std.specs.List.Sorted.{IsPermutation, IsSorted, IsSortedBy, IsSplitAround}
pub use Rattle.std.specs.Ordering.{is_gt, is_lt, nat_cmp, on, ordering_reverse, ordering_then, then_cmp}
pub use Rattle.std.specs.Prelude.{⊤, ◌&&◌, ◌⊎◌, eqb, filter, ltb}
pub use Rattle.std.specs.declared.cmp.Ordering.{Ordering}
pub use Rattle.std.specs.declared.cmp.Ordering.TheVariants.{Equal, Greater, Less}
unfoldable pub use Rattle.mutation_select.specs.Draws.{generator}
pub use Rattle.mutation_select.specs.Draws.{drawn}
pub use Rattle.mutation_select.specs.Selection.{draw_cmp, draw_number, drawn_cmp, draws, is_kept, is_taken, kept, number_of, rank, ranked, selected, shares_line, taken, with_rank}
pub use Rattle.mutation_select.specs.Walks.{Ascends, rank_after, ranked_from}
pub use Rattle.mutation_select.specs.declared.draw.Draw.{Draw}
pub use Rattle.mutation_select.specs.declared.pick.Pick.{Pick}
pub use Rattle.mutation_select.specs.declared.pick.Pick.TheVariants.{Even, Plain}
pub use Rattle.mutation_select.specs.declared.words.Drawn.{Drawn}
