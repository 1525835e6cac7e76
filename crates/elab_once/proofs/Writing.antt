-- Builders that are alike have the same signals with a writer.
use Rattle.elab_once.proofs.Common.{◌≡◌, ◌⊎◌, inl, inr, ℕ, suc, ◌<◌, Bool, true, false, IsTrue, List, [], ◌∷◌, length, slice_get, Some, refl, sym, subst, Bit, Building, signal, AreAlike, at_some}
use Rattle.netlist_core.specs.declared.bit.Bit.TheVariants.{Fixed, Net}
use Rattle.net_builder.specs.Written.{IsJoined, IsStored}
use Rattle.elab_proc.specs.Refusals.{is_written}
use Rattle.elab_items.specs.Writers.{HasWriter, SomeBitWritten, TellsWriters}
use Rattle.elab_once.proofs.Sides.{turned}

bit_of : (b : Building) (xs : List Bit) → SomeBitWritten b xs → (i : ℕ) × (n : ℕ) × (slice_get xs i ≡ Some (Net n)) × (IsJoined b n ⊎ IsStored b n)
bit_of b [] h = absurd h
bit_of b (Net n ∷ more) (inl h) = (0, n, refl, h)
bit_of b (Fixed v ∷ more) (inl h) = absurd h
bit_of b (x ∷ more) (inr h) = let t = bit_of b more h in (suc t.0, t.1, t.2, t.3)

has_writer : (b c : Building) (inputs : List Bool) (k : ℕ) → AreAlike b c → HasWriter b inputs k → HasWriter c inputs k
has_writer b c inputs k h (inl x) = inl x
has_writer b c inputs k h (inr x) =
    let t = bit_of b (signal b k) x in
    let w = (h.written k t.0).0 (t.1, t.2, t.3) in
    inr (at_some c (signal c k) t.0 w.0 w.1 w.2)

flags_same : (x y : Bool) → (IsTrue x → IsTrue y) → (IsTrue y → IsTrue x) → x ≡ y
flags_same true true f g = refl
flags_same true false f g = sym (f refl)
flags_same false true f g = g refl
flags_same false false f g = refl

-- what is told of the writers of a signal is the same
pub told_once : (b c : Building) (inputs written others : List Bool) (k : ℕ) → AreAlike b c → TellsWriters b inputs written → TellsWriters c inputs others → k < length b.signals → is_written written k ≡ is_written others k
told_once b c inputs written others k h tells also less =
    let there : k < length c.signals = subst (λ (s : List (List Bit)). k < length s) h.signals less in
    flags_same (is_written written k) (is_written others k)
    (λ x. (also k there).1 (has_writer b c inputs k h ((tells k less).0 x)))
    (λ x. (tells k less).1 (has_writer c b inputs k (turned b c h) ((also k there).0 x)))
