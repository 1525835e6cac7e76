-- Sources in a table, and the items of a design one at a time.
use Rattle.flat_clocks.proofs.Common.{◌≡◌, zero, suc, ℕ, ◌<◌, ◌≤◌, Bool, true, false, List, [], ◌∷◌, refl, sym, ap, ◌∙◌, cond, nat_eq, length, get_or, drop, arith, fun_ext, Option, None, Some}
use Rattle.flat_clocks.proofs.Common.{slice_get, if◌then◌else◌, option_map, Names, Signal, FlatItem, Flat, Sources, names_at, own, with_source, with_item, with_items, sources, source_or, sources_in}
use Rattle.std.proofs.Math.Seq.{drop-cons}
use Rattle.std.specs.BTreeMap.{BTreeMap, get, is_at, Updates, IsEmpty}
use Rattle.std.specs.Ordering.{nat_cmp}
use Rattle.std.proofs.lemmas.Bool.Decides.{nat_tests}
use Rattle.flat_instances.specs.Places.{Place}
use Rattle.flat_clocks.specs.Clocks.{names_in}

at_number : (k q : ℕ) → is_at (nat_cmp k) q ≡ nat_eq k q
at_number k q = grind (arith, nat_tests)

-- nothing is passed on
pub none_passed : (m : BTreeMap ℕ ℕ) → IsEmpty m → sources_in m ≡ own
none_passed m empty = fun_ext (λ k. by_empty k)
  where
    by_empty : (k : ℕ) → sources_in m k ≡ own k
    by_empty k = rw empty refl

either : (k : ℕ) (a b : Bool) (from s : ℕ) (o : Option ℕ) → a ≡ b → from ≡ s → source_or k (cond a (Some from) o) ≡ (if b then s else source_or k o)
either k true true from s o e is = is
either k false false from s o e is = refl
either k true false from s o e is = cc
either k false true from s o e is = cc

-- a signal is passed on to an input
pub one_passed : (m n : BTreeMap ℕ ℕ) (port number from : ℕ) → from ≡ sources_in m number → Updates nat_cmp m n port (Some from) → sources_in n ≡ with_source (sources_in m) port (Some number)
one_passed m n port number from is updates = fun_ext (λ k. ap (source_or k) (updates.0 k) ∙ either k (is_at (nat_cmp port) k) (nat_eq port k) from (sources_in m number) (get nat_cmp m k) (at_number port k) is)

module _ (signals : List Signal) (places : List Place) where
  pub item_more : (items : List FlatItem) (k : ℕ) (x : FlatItem) (source next last : Sources) → x ≡ get_or items k x → k < length items → next ≡ with_item signals places source x → with_items signals places source (drop k items) ≡ last → with_items signals places next (drop (suc k) items) ≡ last
  item_more items k x source next last is h one all =
      ap (λ (s : Sources). with_items signals places s (drop (suc k) items)) (one ∙ ap (with_item signals places source) is) ∙
      sym (ap (with_items signals places source) (drop-cons items k x h)) ∙ all

-- the names of a scope that was found
pub names_found : (places : List Place) (k : ℕ) (names : Names) → option_map (λ p. p.names) (slice_get places k) ≡ Some names → names_at places k ≡ names
names_found places k names h = go (slice_get places k) refl h
  where
    go : (o : Option Place) → slice_get places k ≡ o → option_map (λ p. p.names) o ≡ Some names → names_at places k ≡ names
    go (Some p) is e = let inner : p.names ≡ names = cc in ap names_in is ∙ inner
    go None is e = cc

-- nothing is left behind the last one
pub dropped : {A : Type 0} (l : List A) (k : ℕ) → length l ≤ k → drop k l ≡ []
dropped [] zero h = refl
dropped [] (suc k) h = refl
dropped (x ∷ l) zero h = absurd (omega arith)
dropped (x ∷ l) (suc k) h = dropped l k (omega arith)

-- all items, from a table with nothing in it
pub all_passed : (flat : Flat) (m n : BTreeMap ℕ ℕ) (items : List FlatItem) → items ≡ flat.items → IsEmpty m → sources_in n ≡ with_items flat.signals flat.places (sources_in m) items → sources_in n ≡ sources flat
all_passed flat m n items same empty all = all ∙ ap (with_items flat.signals flat.places (sources_in m)) same ∙ ap (λ (s : Sources). with_items flat.signals flat.places s flat.items) (none_passed m empty)
