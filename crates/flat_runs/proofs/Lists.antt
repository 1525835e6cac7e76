-- Members of lists.
use Rattle.flat_runs.proofs.Common.{◌≡◌, ℕ, List, length, slice_get, Some, refl, sym, Contains, slice_get_within, get_or_from_slice_get, slice_get_read}

pub get_contains : {A : Type 0} → (xs : List A) (k : ℕ) (x : A) → slice_get xs k ≡ Some x → Contains xs x
get_contains xs k x e = (k, slice_get_within xs k x e, get_or_from_slice_get xs k x x e)

pub contains_get : {A : Type 0} → (xs : List A) (x : A) → Contains xs x → (k : ℕ) × (slice_get xs k ≡ Some x)
contains_get xs x h = (h.0, slice_get_read xs (length xs) h.0 x refl h.1 (sym h.2))
