-- Items are all built, or refused in one way.
use Rattle.elab_once.proofs.Common.{◌≡◌, inl, inr, ℕ, Bool, List, [], ◌∷◌, Option, None, Some, refl, sym, subst, Bit, Decl, Signal, Constant, Building, IsSignal, Place, FlatItem, Reason, Stands}
use Rattle.elab_once.proofs.Common.{names_at, BuildsAll, BuildsTimed, FailsSome, FailsTimed, RefusesTimed, AreAlike, BuiltOrRefused, RefusedOnce, StopsOnce, builds_signals}
use Rattle.flat_items.specs.Flattened.{Flat}
use Rattle.flat_clocks.specs.Clocks.{Clocks}
use Rattle.flat_clocks.specs.Refusals.{clock_refusals}
use Rattle.elab_items.specs.declared.error.BuildError.{BuildError}
use Rattle.elab_items.specs.declared.error.BuildError.TheVariants.{Refused, TooMany, Memory}
use Rattle.elab_once.specs.Reasons.{AreOneAnswer, IsLimit}
use Rattle.elab_once.proofs.Building.{built_one}
use Rattle.elab_once.proofs.Refusing.{refuses_once, sooner_once}
use Rattle.elab_once.proofs.Sides.{turned}
use Rattle.elab_once.proofs.Steps.{AreKnown, IsKnown}

-- the names of each scope are those of signals
abbrev ScopesKnown : List Place → List (List Bit) → Type 0
ScopesKnown places signals = (k : ℕ) → AreKnown signals (names_at places k)

scopes_known : (places : List Place) (b : Building) → Stands places b → ScopesKnown places b.signals
scopes_known places b h = λ k name. go (names_at places k name) (h.signals k name) where
  go : (d : Option Decl) → IsSignal b d → IsKnown b.signals d
  go (Some (Signal width low is_signed number)) s = (s.0, s.1)
  go (Some (Constant value low is_signed)) s = tt
  go None s = tt

timed_once : (inputs : List Bool) (flat : Flat) (clocks : Clocks) (item : FlatItem) (b c : Building) (x y : Option Reason)
    → AreAlike b c → ScopesKnown flat.places b.signals → RefusesTimed b inputs flat clocks item x → RefusesTimed c inputs flat clocks item y → x ≡ y
timed_once inputs flat clocks item b c x y h known (own, refuses, sooner) (other, also, later) =
    sooner_once (clock_refusals clocks flat.signals flat.places item) own other x y (refuses_once b c inputs flat.places item own other h known refuses also) sooner later

pub refused_once : RefusedOnce
refused_once inputs flat clocks item b c x y h stands d e = timed_once inputs flat clocks item b c x y h (scopes_known flat.places b stands) d e

none_some : (x : Reason) → None ≡ Some x → ⊥
none_some x e = cc

some_same : (x y : Reason) → Some x ≡ Some y → x ≡ y
some_same x y e = cc

-- in an item that is built nothing is refused
accepted : (inputs : List Bool) (flat : Flat) (clocks : Clocks) (item : FlatItem) (b next : Building) → BuildsTimed inputs flat clocks item b next → RefusesTimed b inputs flat clocks item None
accepted inputs flat clocks item b next d = (None, d.builds.accepted, (None, d.timed, refl))

not_refused : (inputs : List Bool) (flat : Flat) (clocks : Clocks) (item : FlatItem) (b c next : Building) (error : BuildError)
    → AreAlike b c → ScopesKnown flat.places b.signals → BuildsTimed inputs flat clocks item b next → FailsTimed inputs flat clocks item c error → IsLimit error
not_refused inputs flat clocks item b c next (Refused reason) h known d e = none_some reason (timed_once inputs flat clocks item b c None (Some reason) h known (accepted inputs flat clocks item b next d) e)
not_refused inputs flat clocks item b c next (TooMany kind) h known d e = tt
not_refused inputs flat clocks item b c next Memory h known d e = tt

known_on : (inputs : List Bool) (flat : Flat) (clocks : Clocks) (item : FlatItem) (b next : Building) → BuildsTimed inputs flat clocks item b next → ScopesKnown flat.places b.signals → ScopesKnown flat.places next.signals
known_on inputs flat clocks item b next d known = subst (ScopesKnown flat.places) (sym (builds_signals inputs flat.places item b next d.builds)) known

either : (inputs : List Bool) (flat : Flat) (clocks : Clocks) (items : List FlatItem) (b c last : Building) (error : BuildError)
    → AreAlike b c → ScopesKnown flat.places b.signals → BuildsAll inputs flat clocks items b last → FailsSome inputs flat clocks items c error → IsLimit error
either inputs flat clocks [] b c last error h known d e = absurd e
either inputs flat clocks (item ∷ more) b c last error h known (mid, d, rest) (inl e) = not_refused inputs flat clocks item b c mid error h known d e
either inputs flat clocks (item ∷ more) b c last error h known (mid, d, rest) (inr (there, e, later)) =
    either inputs flat clocks more mid there last error (built_one inputs flat.places item b c mid there h d.builds e.builds) (known_on inputs flat clocks item b mid d known) rest later

pub built_or_refused : BuiltOrRefused
built_or_refused inputs flat clocks items b c last error h stands d e = either inputs flat clocks items b c last error h (scopes_known flat.places b stands) d e

-- answers of which one is a limit
limit_first : (x y : BuildError) → IsLimit x → AreOneAnswer x y
limit_first (Refused reason) y h = absurd h
limit_first (TooMany kind) y h = tt
limit_first Memory y h = tt

limit_last : (x y : BuildError) → IsLimit y → AreOneAnswer x y
limit_last (Refused x) (Refused y) h = absurd h
limit_last (Refused x) (TooMany kind) h = tt
limit_last (Refused x) Memory h = tt
limit_last (TooMany kind) y h = tt
limit_last Memory y h = tt

here_once : (inputs : List Bool) (flat : Flat) (clocks : Clocks) (item : FlatItem) (b c : Building) (x y : BuildError)
    → AreAlike b c → ScopesKnown flat.places b.signals → FailsTimed inputs flat clocks item b x → FailsTimed inputs flat clocks item c y → AreOneAnswer x y
here_once inputs flat clocks item b c (Refused x) (Refused y) h known d e = some_same x y (timed_once inputs flat clocks item b c (Some x) (Some y) h known d e)
here_once inputs flat clocks item b c (Refused x) (TooMany kind) h known d e = tt
here_once inputs flat clocks item b c (Refused x) Memory h known d e = tt
here_once inputs flat clocks item b c (TooMany kind) y h known d e = tt
here_once inputs flat clocks item b c Memory y h known d e = tt

stops : (inputs : List Bool) (flat : Flat) (clocks : Clocks) (items : List FlatItem) (b c : Building) (x y : BuildError)
    → AreAlike b c → ScopesKnown flat.places b.signals → FailsSome inputs flat clocks items b x → FailsSome inputs flat clocks items c y → AreOneAnswer x y
stops inputs flat clocks [] b c x y h known d e = absurd d
stops inputs flat clocks (item ∷ more) b c x y h known (inl d) (inl e) = here_once inputs flat clocks item b c x y h known d e
stops inputs flat clocks (item ∷ more) b c x y h known (inl d) (inr (there, e, later)) =
    limit_first x y (not_refused inputs flat clocks item c b there x (turned b c h) (subst (ScopesKnown flat.places) h.signals known) e d)
stops inputs flat clocks (item ∷ more) b c x y h known (inr (mid, d, later)) (inl e) = limit_last x y (not_refused inputs flat clocks item b c mid y h known d e)
stops inputs flat clocks (item ∷ more) b c x y h known (inr (mid, d, rest)) (inr (there, e, later)) =
    stops inputs flat clocks more mid there x y (built_one inputs flat.places item b c mid there h d.builds e.builds) (known_on inputs flat clocks item b mid d known) rest later

pub stops_once : StopsOnce
stops_once inputs flat clocks items b c x y h stands d e = stops inputs flat clocks items b c x y h (scopes_known flat.places b stands) d e
