-- Items are all built, or one is the first that is not, for one reason: what is built before has room for its cells.
use Rattle.hier_once.proofs.Common.{◌≡◌, ◌≢◌, inl, inr, ℕ, ◌+◌, ◌<◌, ◌≤◌, Bool, List, [], ◌∷◌, length, None, Some, refl, sym, ap, ◌∙◌, arith, slice_index_or, Kind, Bit, Building, max_cells, FlatItem}
use Rattle.hier_once.proofs.Common.{Flat, Clocks, IsShort, Stands, cell_count, BuildsAll, BuildsTimed, FailsSome, FailsTimed, RefusesTimed, built_count, built_one, refused_once}
use Rattle.mcy_base.specs.declared.kind.Kind.TheVariants as kind
use Rattle.process_cells.specs.Items.{Widths, widths_in}
use Rattle.flat_instances.specs.Places.{Place}
use Rattle.elab_items.specs.declared.error.BuildError.{BuildError}
use Rattle.elab_items.specs.declared.error.BuildError.TheVariants.{Refused, TooMany, Memory}
use Rattle.elab_items.specs.declared.error.Reason.{Reason}
use Rattle.elab_items.proofs.Standing.{builds_stand}
use Rattle.elab_hier.specs.Alike.{AreAlike}
use Rattle.std.proofs.lemmas.Option.{same_Some, none-some}

-- Builders in which the same was built: they are alike, and have as many cells.
pub record AreLevel (b c : Building) : Type 0 where
  pub alike : AreAlike b c
  pub cells : length b.cells ≡ length c.cells

-- there are too many cells, and nothing else
too_many : (n : ℕ) (k : Kind) → IsShort n (TooMany k) → (max_cells < n) × (k ≡ kind.Cells)
too_many n kind.Cells h = (h, refl)
too_many n kind.NetBits h = absurd h
too_many n kind.Tokens h = absurd h
too_many n kind.LoopTurns h = absurd h
too_many n kind.RegisterBits h = absurd h
too_many n kind.Sites h = absurd h
too_many n kind.Gates h = absurd h
too_many n kind.FreeBits h = absurd h
too_many n kind.Scopes h = absurd h

-- the signals have the same widths
same_widths : (b c : Building) → AreAlike b c → widths_in b ≡ widths_in c
same_widths b c h = ap (λ (s : List (List Bit)). λ (k : ℕ). length (slice_index_or s k [])) h.signals

-- an item has as many cells in both
same_count : (places : List Place) (item : FlatItem) (b c : Building) → AreLevel b c → length b.cells + cell_count (widths_in b) places item ≡ length c.cells + cell_count (widths_in c) places item
same_count places item b c h = ap (λ (n : ℕ). n + cell_count (widths_in b) places item) h.cells ∙ ap (λ (w : Widths). length c.cells + cell_count w places item) (same_widths b c h.alike)

-- an item in which nothing is refused
accepted : (inputs : List Bool) (flat : Flat) (clocks : Clocks) (item : FlatItem) (b next : Building) → BuildsTimed inputs flat clocks item b next → RefusesTimed b inputs flat clocks item None
accepted inputs flat clocks item b next d = (None, d.builds.accepted, (None, d.timed, refl))

module _ (inputs : List Bool) (flat : Flat) (clocks : Clocks) where
  -- what the same item leaves in both
  level_on : (item : FlatItem) (b c next end : Building) → AreLevel b c → BuildsTimed inputs flat clocks item b next → BuildsTimed inputs flat clocks item c end → AreLevel next end
  level_on item b c next end h d e = record {
    alike = built_one inputs flat.places item b c next end h.alike d.builds e.builds;
    cells = built_count inputs flat.places item b next d.builds ∙ same_count flat.places item b c h ∙ sym (built_count inputs flat.places item c end e.builds);
  }

  stands_on : (item : FlatItem) (b next : Building) → BuildsTimed inputs flat clocks item b next → Stands flat.places b → Stands flat.places next
  stands_on item b next d stands = builds_stand inputs flat.places item b next d.builds stands

  -- an item in which nothing is refused, and whose cells have room, does not fail, but for want of memory
  fits : (item : FlatItem) (b : Building) (x : BuildError) → ((r : Reason) → RefusesTimed b inputs flat clocks item (Some r) → ⊥) → length b.cells + cell_count (widths_in b) flat.places item ≤ max_cells → FailsTimed inputs flat clocks item b x → x ≡ Memory
  fits item b (Refused r) none most e = absurd (none r e)
  fits item b (TooMany k) none most e = let many = (too_many (length b.cells + cell_count (widths_in b) flat.places item) k e.1).0 in absurd (omega (arith, most, many))
  fits item b Memory none most e = refl

  built_fits : (item : FlatItem) (b c next : Building) (x : BuildError) → AreLevel b c → Stands flat.places b → BuildsTimed inputs flat clocks item b next → FailsTimed inputs flat clocks item c x → x ≡ Memory
  built_fits item b c next x h stands d e =
      let none : (r : Reason) → RefusesTimed c inputs flat clocks item (Some r) → ⊥ = λ r refuses. none-some r (refused_once inputs flat clocks item b c None (Some r) h.alike stands (accepted inputs flat clocks item b next d) refuses) in
      let most = d.few in
      let same = same_count flat.places item b c h in
      fits item c x none (omega (arith, most, same)) e

  fits_built : (item : FlatItem) (b c next : Building) (x : BuildError) → AreLevel b c → Stands flat.places b → FailsTimed inputs flat clocks item b x → BuildsTimed inputs flat clocks item c next → x ≡ Memory
  fits_built item b c next x h stands d e =
      let none : (r : Reason) → RefusesTimed b inputs flat clocks item (Some r) → ⊥ = λ r refuses. none-some r (sym (refused_once inputs flat clocks item b c (Some r) None h.alike stands refuses (accepted inputs flat clocks item c next e))) in
      let most = e.few in
      let same = same_count flat.places item b c h in
      fits item b x none (omega (arith, most, same)) d

  fails_once : (item : FlatItem) (b c : Building) (x y : BuildError) → x ≢ Memory → y ≢ Memory → AreLevel b c → Stands flat.places b → FailsTimed inputs flat clocks item b x → FailsTimed inputs flat clocks item c y → x ≡ y
  fails_once item b c (Refused x) (Refused y) found also h stands d e = ap Refused (same_Some x y (refused_once inputs flat clocks item b c (Some x) (Some y) h.alike stands d e))
  fails_once item b c (Refused x) (TooMany k) found also h stands d e = absurd (none-some x (sym (refused_once inputs flat clocks item b c (Some x) None h.alike stands d e.0)))
  fails_once item b c (TooMany k) (Refused y) found also h stands d e = absurd (none-some y (refused_once inputs flat clocks item b c None (Some y) h.alike stands d.0 e))
  fails_once item b c (TooMany j) (TooMany k) found also h stands d e =
      ap TooMany ((too_many (length b.cells + cell_count (widths_in b) flat.places item) j d.1).1 ∙ sym (too_many (length c.cells + cell_count (widths_in c) flat.places item) k e.1).1)
  fails_once item b c Memory y found also h stands d e = absurd (found refl)
  fails_once item b c x Memory found also h stands d e = absurd (also refl)

  -- Items that are all built do not fail.
  pub all_fit : (items : List FlatItem) (b c last : Building) (x : BuildError) → AreLevel b c → Stands flat.places b → BuildsAll inputs flat clocks items b last → FailsSome inputs flat clocks items c x → x ≡ Memory
  all_fit [] b c last x h stands d e = absurd e
  all_fit (item ∷ more) b c last x h stands (mid, d, rest) (inl e) = built_fits item b c mid x h stands d e
  all_fit (item ∷ more) b c last x h stands (mid, d, rest) (inr (there, e, later)) = all_fit more mid there last x (level_on item b c mid there h d e) (stands_on item b mid d stands) rest later

  -- Items that are not all built fail for one reason.
  pub fail_once : (items : List FlatItem) (b c : Building) (x y : BuildError) → x ≢ Memory → y ≢ Memory → AreLevel b c → Stands flat.places b → FailsSome inputs flat clocks items b x → FailsSome inputs flat clocks items c y → x ≡ y
  fail_once [] b c x y found also h stands d e = absurd d
  fail_once (item ∷ more) b c x y found also h stands (inl d) (inl e) = fails_once item b c x y found also h stands d e
  fail_once (item ∷ more) b c x y found also h stands (inl d) (inr (there, e, later)) =
      absurd (found (fits_built item b c there x h stands d e))
  fail_once (item ∷ more) b c x y found also h stands (inr (mid, d, rest)) (inl e) = absurd (also (built_fits item b c mid y h stands d e))
  fail_once (item ∷ more) b c x y found also h stands (inr (mid, d, rest)) (inr (there, e, later)) =
      fail_once more mid there x y found also (level_on item b c mid there h d e) (stands_on item b mid d stands) rest later
