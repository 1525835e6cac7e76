-- What items leave that are built in builders that are alike is alike.
use Rattle.elab_once.proofs.Common.{◌≡◌, ◌⊎◌, inl, inr, ℕ, ◌<◌, Bool, List, [], ◌∷◌, length, Option, None, Some, sym, ap, ◌∙◌, subst, slice_index_or, Bit, Building, signal, Meaning, Writes, Widths}
use Rattle.elab_once.proofs.Common.{AddsMeaning, widths_in, Place, FlatItem, Builds, AreAlike, BeginAlike, BuiltAlike}
use Rattle.std.proofs.lemmas.Option.{slice_get_within}
use Rattle.netlist_core.specs.declared.bit.Bit.TheVariants.{Net}
use Rattle.flat_runs.specs.Adding.{IsWritten, AddsItem}
use Rattle.elab_items.specs.Meanings.{Means}
use Rattle.elab_once.proofs.Meaning.{means_once}
use Rattle.elab_once.proofs.Sides.{turned}

-- what is joined and stored is the same
pub begin_alike : BeginAlike
begin_alike old b c x y =
    let same : b ≡ record c { starts = b.starts } = x ∙ ap (λ (o : Building). record o { starts = b.starts }) (sym y) in
    record {
      signals = ap (λ (o : Building). o.signals) same;
      written = λ k i. (subst (λ (o : Building). IsWritten o k i) same, subst (λ (o : Building). IsWritten o k i) (sym same));
    }

-- a bit that is written after an item is so after the same item in the other builder
written_on : (b c next end : Building) (m : Meaning) (k i : ℕ) → AreAlike b c → AddsItem b next m → AddsItem c end m → IsWritten next k i → IsWritten end k i
written_on b c next end m k i h d e (n, at, w) =
    let long : List (List Bit) → ℕ = λ s. length (slice_index_or s k []) in
    let there : i < long next.signals = slice_get_within (signal next k) i (Net n) at in
    let here : i < long b.signals = subst (λ (s : List (List Bit)). i < long s) d.signals there in
    let other : i < long c.signals = subst (λ (s : List (List Bit)). i < long s) h.signals here in
    e.writes k i other (go (d.written k i here (n, at, w))) where
      go : IsWritten b k i ⊎ Writes m k i → IsWritten c k i ⊎ Writes m k i
      go (inl x) = inl ((h.written k i).0 x)
      go (inr x) = inr x

added_alike : (b c next end : Building) (m : Option Meaning) → AreAlike b c → AddsMeaning b next m → AddsMeaning c end m → AreAlike next end
added_alike b c next end None h d e = subst (λ (x : Building). AreAlike x end) (sym d) (subst (AreAlike b) (sym e) h)
added_alike b c next end (Some m) h d e = record {
  signals = d.signals ∙ h.signals ∙ sym e.signals;
  written = λ k i. (written_on b c next end m k i h d e, written_on c b end next m k i (turned b c h) e d);
}

pub built_one : (inputs : List Bool) (places : List Place) (item : FlatItem) (b c next end : Building) → AreAlike b c → Builds inputs places item b next → Builds inputs places item c end → AreAlike next end
built_one inputs places item b c next end h d e =
    let width : widths_in c ≡ widths_in b = ap (λ (s : List (List Bit)). λ (k : ℕ). length (slice_index_or s k [])) (sym h.signals) in
    let also : Means (widths_in b) places item e.meaning = subst (λ (w : Widths). Means w places item e.meaning) width e.means in
    let same : e.meaning ≡ d.meaning = means_once (widths_in b) places item e.meaning d.meaning also d.means in
    added_alike b c next end d.meaning h d.adds (subst (AddsMeaning c end) same e.adds)

pub built_alike : BuiltAlike
built_alike inputs flat clocks [] b c last end h d e = subst (λ (x : Building). AreAlike x end) (sym d) (subst (AreAlike b) (sym e) h)
built_alike inputs flat clocks (item ∷ more) b c last end h (mid, d, rest) (there, e, others) =
    built_alike inputs flat clocks more mid there last end (built_one inputs flat.places item b c mid there h d.builds e.builds) rest others
