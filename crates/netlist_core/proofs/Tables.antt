-- A table of drivers as a function of the net.
use Rattle.netlist_core.proofs.Common.{◌≡◌, ◌≢◌, ℕ, zero, suc, ◌+◌, ◌<◌, max, true, List, [], ◌∷◌, ◌++◌, length, get_or, set, Option, Some, refl, sym, ◌∙◌, ap, subst, inl, inr, length-set, eqb_tells}
use Rattle.netlist_core.proofs.Common.{get_or-set_same, get_or-set_other, get_or_read, Driver, Nothing, Source, Known, driver_at, with_driver, is_driven, lesser, with_room, after_net}
use Rattle.netlist_core.specs.declared.drivers.Driver.TheVariants.{Cell}

-- a default at the end is not seen
reads-push : (table : List Driver) (m : ℕ) → driver_at (table ++ Nothing ∷ []) m ≡ driver_at table m
reads-push [] zero = refl
reads-push [] (suc m) = refl
reads-push (d ∷ more) zero = refl
reads-push (d ∷ more) (suc m) = reads-push more m

pub push-is : (table : List Driver) → driver_at (table ++ Nothing ∷ []) ≡ driver_at table
push-is table = λ i m. reads-push table m i

-- a write is a change of the function
reads-set : (table : List Driver) (n : ℕ) (d : Driver) (m : ℕ) → n < length table → driver_at (set table n d) m ≡ with_driver (driver_at table) n d m
reads-set table n d m h = elim (eqb_tells m n) [ inl e ↦ rw (e.0, e.1) (get_or-set_same table n d Nothing h) | inr e ↦ rw e.0 (get_or-set_other table n m d Nothing e.1) ]

pub set-is : (table : List Driver) (n : ℕ) (d : Driver) → n < length table → driver_at (set table n d) ≡ with_driver (driver_at table) n d
set-is table n d h = λ i m. reads-set table n d m h i

pub driven-unless : (d : Driver) → d ≢ Nothing → is_driven d ≡ true
driven-unless Nothing h = absurd (h refl)
driven-unless Source h = refl
driven-unless (Cell c) h = refl

-- the first driver of a net, and a further one, where there is room
marked-first : (d : Driver) (n : ℕ) (known : Known) → known.driver n ≡ Nothing → after_net d n known ≡ record { driver = with_driver known.driver n d; twice = known.twice; nets = max known.nets (n + 1) }
marked-first d n known is = rw is refl

marked-further : (d : Driver) (n : ℕ) (known : Known) → known.driver n ≢ Nothing → after_net d n known ≡ record { driver = known.driver; twice = Some (lesser known.twice n); nets = max known.nets (n + 1) }
marked-further d n known other = rw (driven-unless (known.driver n) other) refl

pub first-driver : (d : Driver) (n : ℕ) (table : List Driver) (twice : Option ℕ) (old : Known) → n < length table → driver_at table n ≡ Nothing → record { driver = driver_at table; twice = twice; nets = length table } ≡ with_room n old → record { driver = driver_at (set table n d); twice = twice; nets = length (set table n d) } ≡ after_net d n old
first-driver d n table twice old inside is room =
    let same : driver_at table ≡ old.driver = ap (λ (k : Known). k.driver) room in
    let nothing : old.driver n ≡ Nothing = sym (ap (λ (f : ℕ → Driver). f n) same) ∙ is in
    rw (set-is table n d inside, length-set table n d) (ap (λ (k : Known). record { driver = with_driver k.driver n d; twice = k.twice; nets = k.nets }) room ∙ sym (marked-first d n old nothing))

pub further-driver : (d : Driver) (n : ℕ) (table : List Driver) (twice : Option ℕ) (old : Known) → driver_at table n ≢ Nothing → record { driver = driver_at table; twice = twice; nets = length table } ≡ with_room n old → record { driver = driver_at table; twice = Some (lesser twice n); nets = length table } ≡ after_net d n old
further-driver d n table twice old other room =
    let same : driver_at table ≡ old.driver = ap (λ (k : Known). k.driver) room in
    let driven : old.driver n ≢ Nothing = subst (λ (f : ℕ → Driver). f n ≢ Nothing) same other in
    ap (λ (k : Known). record { driver = k.driver; twice = Some (lesser k.twice n); nets = k.nets }) room ∙ sym (marked-further d n old driven)

-- what indexing the table gives
pub read-nothing : (table : List Driver) (n : ℕ) (x : Driver) → x ≡ get_or table n x → x ≡ Nothing → driver_at table n ≡ Nothing
read-nothing table n x e is = let P : Driver → Type 0 = λ y. y ≡ get_or table n y in sym (subst P is e)

pub read-other : (table : List Driver) (n : ℕ) (x : Driver) → n < length table → x ≡ get_or table n x → x ≢ Nothing → driver_at table n ≢ Nothing
read-other table n x inside e other is = other (get_or_read table n x inside e Nothing ∙ is)
