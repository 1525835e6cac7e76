-- The end of what is built is refused in one way, or not at all.
use Rattle.hier_once.proofs.Common.{◌≡◌, ◌≢◌, ◌⊎◌, inl, inr, ℕ, ◌<◌, ◌≤◌, Bool, true, List, [], ◌∷◌, map, Option, None, Some, refl, sym, ap, ◌∙◌, subst, arith, slice_get, Kind, Bit, Register}
use Rattle.hier_once.proofs.Common.{RawNetlist, Building, signal, Follows, direct, further, step_of, stepped, DesignError, IsEnding}
use Rattle.std.proofs.lemmas.Bool.{cases_lt}
use Rattle.mcy_base.specs.declared.kind.Kind.TheVariants as kind
use Rattle.mcy_base.specs.declared.span.Span.{Span}
use Rattle.netlist_core.specs.declared.bit.Bit.TheVariants.{Fixed, Net}
use Rattle.netlist_core.specs.declared.cell.Cell.{Cell}
use Rattle.netlist_core.specs.Orders.{Reads, IsOnLoop}
use Rattle.netlist_core.specs.Checked.{IsFirst, Never, net_bits}
use Rattle.net_builder.specs.declared.steps.Step.TheVariants.{On}
use Rattle.net_builder.specs.Written.{joint_of}
use Rattle.net_builder.proofs.Following.{leads_no_loop}
use Rattle.elab_finish.specs.declared.error.DesignError.TheVariants.{Loop, TooMany, Twice, Memory}
use Rattle.elab_finish.specs.declared.left.Left.{Left}
use Rattle.elab_finish.specs.Loops.{IsFirstLooped, IsLeftLooped, next_of}
use Rattle.elab_finish.specs.Names.{AreNamedApart, IsAgainAt, IsNamedAgain, IsRegisterAt}
use Rattle.elab_finish.specs.Refusals.{IsAt, IsLeftAt, IsLoopAt, IsOver, IsRefused, IsWithin, max_net_bits, max_register_bits, register_bits}
use Rattle.hier_once.proofs.Endings.{ending_once}

-- Loops of nets.

-- what is joined goes on, whatever else is known of the net
stepped_on : (o : Option Bit) (kept : Bool) (start : Option Bool) (m : ℕ) → stepped o true None ≡ On m → stepped o kept start ≡ On m
stepped_on (Some (Fixed v)) kept start m e = absurd cc
stepped_on (Some (Net k)) kept start m e = e
stepped_on None kept start m e = absurd cc

follows_on : (b : Building) (ports : List (List Bit)) (n k : ℕ) → Follows (next_of b) n k → Follows (step_of b ports) n k
follows_on b ports n k (direct _ _ e) = direct n k (stepped_on (joint_of b.joints n) _ _ k e)
follows_on b ports n k (further _ m _ e h) = further n m k (stepped_on (joint_of b.joints n) _ _ m e) (follows_on b ports m k h)

looped_there : (b : Building) (lefts : List Left) (left : Left) → IsFirstLooped b lefts left → IsLeftLooped b left
looped_there b [] left h = absurd h
looped_there b (x ∷ more) left (inl h) = subst (IsLeftLooped b) h.1 h.0
looped_there b (x ∷ more) left (inr h) = looped_there b more left h.1

left_once : (b : Building) (lefts : List Left) (x y : Left) → IsFirstLooped b lefts x → IsFirstLooped b lefts y → x ≡ y
left_once b [] x y h g = absurd h
left_once b (z ∷ more) x y (inl h) (inl g) = sym h.1 ∙ g.1
left_once b (z ∷ more) x y (inl h) (inr g) = absurd (g.0 h.0)
left_once b (z ∷ more) x y (inr h) (inl g) = absurd (h.0 g.0)
left_once b (z ∷ more) x y (inr h) (inr g) = left_once b more x y h.1 g.1

-- Where nets loop, there is no netlist.
loops_end_not : (b : Building) (top : List ℕ) (clock : Option (List ℕ)) (ins outs declared : List ℕ) (lefts : List Left) (span : Span) (n : RawNetlist) → IsLeftAt b lefts span → IsEnding b top clock ins outs declared n → ⊥
loops_end_not b top clock ins outs declared lefts span n (left, first, is) ends =
    let loop = looped_there b lefts left first in
    let ports : List (List Bit) = map (signal b) ins in
    leads_no_loop (step_of b ports) loop.0 (ends.to loop.0) ((ends.leads loop.0 (ends.to loop.0)).1 refl) (follows_on b ports loop.0 loop.0 loop.2)

-- Netlists that are refused.

first_once : (P : ℕ → Type 0) (c d : ℕ) → IsFirst P c → IsFirst P d → c ≡ d
first_once P c d h g = elim (cases_lt c d) [
  | inl less ↦ absurd (g.before c less h.here)
  | inr most ↦ elim (cases_lt d c) [
    | inl less ↦ absurd (h.before d less g.here)
    | inr least ↦ omega (arith, most, least)
  ]
]

place_once : (o : Option Cell) (s t : Span) → IsAt o s → IsAt o t → s ≡ t
place_once None s t h g = absurd h
place_once (Some cell) s t h g = sym h ∙ g

loop_once : (b : Building) (n : RawNetlist) (s t : Span) → IsLoopAt b n s → IsLoopAt b n t → s ≡ t
loop_once b n s t (c, first, at) (d, also, there) =
    let same : d ≡ c = first_once (IsOnLoop (Reads n)) d c also first in
    place_once (slice_get b.cells c) s t at (subst (λ (k : ℕ). IsAt (slice_get b.cells k) t) same there)

named_place : (o : Option Register) (s t : Span) → IsRegisterAt o s → IsRegisterAt o t → s ≡ t
named_place None s t h g = absurd h
named_place (Some r) s t h g = sym h ∙ g

-- the first register that has the name of one before it stands at one place
again_once : (rs : List Register) (s t : Span) → IsAgainAt rs s → IsAgainAt rs t → s ≡ t
again_once rs s t (p, first, at) (q, also, there) =
    let same : q ≡ p = first_once (IsNamedAgain rs) q p also first in
    named_place (slice_get rs p) s t at (subst (λ (k : ℕ). IsRegisterAt (slice_get rs k) t) same there)

apart_none : (rs : List Register) (s : Span) → AreNamedApart rs → IsAgainAt rs s → ⊥
apart_none rs s apart (p, first, at) = apart p first.here

abbrev OverNets : RawNetlist → Kind → Type 0
OverNets n k = (max_net_bits < net_bits n) × (k ≡ kind.NetBits)

abbrev OverRegisters : RawNetlist → Kind → Type 0
OverRegisters n k = (net_bits n ≤ max_net_bits) × (max_register_bits < register_bits n) × (k ≡ kind.RegisterBits)

-- which limit is passed
which_limit : (b : Building) (n : RawNetlist) (k : Kind) → IsOver b n (TooMany k) → OverNets n k ⊎ OverRegisters n k
which_limit b n kind.NetBits h = inl (h, refl)
which_limit b n kind.RegisterBits h = inr (h.0, h.1, refl)
which_limit b n kind.Tokens h = absurd h
which_limit b n kind.LoopTurns h = absurd h
which_limit b n kind.Cells h = absurd h
which_limit b n kind.Sites h = absurd h
which_limit b n kind.Gates h = absurd h
which_limit b n kind.FreeBits h = absurd h
which_limit b n kind.Scopes h = absurd h

within_not_over : (b : Building) (n : RawNetlist) (k : Kind) → IsWithin n → IsOver b n (TooMany k) → ⊥
within_not_over b n k within over = elim (which_limit b n k over) [
  | inl h ↦ (let few = within.nets in let many = h.0 in absurd (omega (arith, few, many)))
  | inr h ↦ (let few = within.registers in let many = h.1 in absurd (omega (arith, few, many)))
]

limit_once : (b : Building) (n : RawNetlist) (j k : Kind) → IsOver b n (TooMany j) → IsOver b n (TooMany k) → j ≡ k
limit_once b n j k h g = both (which_limit b n j h) (which_limit b n k g) where
  both : OverNets n j ⊎ OverRegisters n j → OverNets n k ⊎ OverRegisters n k → j ≡ k
  both (inl x) (inl y) = x.1 ∙ sym y.1
  both (inl x) (inr y) = (let many = x.0 in let few = y.0 in absurd (omega (arith, many, few)))
  both (inr x) (inl y) = (let many = y.0 in let few = x.0 in absurd (omega (arith, many, few)))
  both (inr x) (inr y) = x.2 ∙ sym y.2

over_once : (b : Building) (n : RawNetlist) (x y : DesignError) → x ≢ Memory → y ≢ Memory → IsOver b n x → IsOver b n y → x ≡ y
over_once b n (Loop s) (Loop t) found also h g = ap Loop (loop_once b n s t h.2 g.2)
over_once b n (Loop s) (TooMany k) found also h g = absurd (within_not_over b n k h.0 g)
over_once b n (Loop s) (Twice t) found also h g = absurd (apart_none n.registers t h.1 g.1)
over_once b n (Loop s) Memory found also h g = absurd (also refl)
over_once b n (TooMany k) (Loop t) found also h g = absurd (within_not_over b n k g.0 h)
over_once b n (TooMany j) (TooMany k) found also h g = ap TooMany (limit_once b n j k h g)
over_once b n (TooMany k) (Twice t) found also h g = absurd (within_not_over b n k g.0 h)
over_once b n (TooMany k) Memory found also h g = absurd (also refl)
over_once b n (Twice s) (Loop t) found also h g = absurd (apart_none n.registers s g.1 h.1)
over_once b n (Twice s) (TooMany k) found also h g = absurd (within_not_over b n k h.0 g)
over_once b n (Twice s) (Twice t) found also h g = ap Twice (again_once n.registers s t h.1 g.1)
over_once b n (Twice s) Memory found also h g = absurd (also refl)
over_once b n Memory y found also h g = absurd (found refl)

-- a netlist that can be run within its limits, and whose registers have names of their own, is not refused
sound_not_over : (b : Building) (n : RawNetlist) (x : DesignError) → x ≢ Memory → Never (IsOnLoop (Reads n)) → IsWithin n → AreNamedApart n.registers → IsOver b n x → ⊥
sound_not_over b n (Loop s) found none within apart (fits, named, (c, first, at)) = none c first.here
sound_not_over b n (TooMany k) found none within apart over = within_not_over b n k within over
sound_not_over b n (Twice s) found none within apart over = apart_none n.registers s apart over.1
sound_not_over b n Memory found none within apart over = found refl

-- The end.

memory_or : (x : DesignError) → (x ≡ Memory) ⊎ (x ≢ Memory)
memory_or (Loop s) = inr (λ e. absurd cc)
memory_or (TooMany k) = inr (λ e. absurd cc)
memory_or (Twice s) = inr (λ e. absurd cc)
memory_or Memory = inl refl

module _ (b : Building) (top : List ℕ) (clock : Option (List ℕ)) (ins outs declared : List ℕ) (lefts : List Left) where
  abbrev HasLoop : DesignError → Type 0
  HasLoop x = (s : Span) × (x ≡ Loop s) × IsLeftAt b lefts s

  abbrev HasOver : DesignError → Type 0
  HasOver x = (n : RawNetlist) × IsEnding b top clock ins outs declared n × IsOver b n x

  -- there is a loop of nets, or a netlist
  which_end : (x : DesignError) → x ≢ Memory → IsRefused b top clock ins outs declared lefts x → HasLoop x ⊎ HasOver x
  which_end (Loop s) found (inl h) = inl (s, refl, h)
  which_end (Loop s) found (inr h) = inr h
  which_end (TooMany k) found h = inr h
  which_end (Twice s) found h = inr h
  which_end Memory found h = absurd (found refl)

  pub refused_once : (x y : DesignError) → x ≢ Memory → y ≢ Memory → IsRefused b top clock ins outs declared lefts x → IsRefused b top clock ins outs declared lefts y → x ≡ y
  refused_once x y found also h g = both (which_end x found h) (which_end y also g) where
    both : HasLoop x ⊎ HasOver x → HasLoop y ⊎ HasOver y → x ≡ y
    both (inl (s, is, (left, first, at))) (inl (t, are, (other, later, there))) =
        is ∙ ap Loop (sym at ∙ ap (λ (l : Left). l.span) (left_once b lefts left other first later) ∙ there) ∙ sym are
    both (inl (s, is, at)) (inr (m, ends, over)) = absurd (loops_end_not b top clock ins outs declared lefts s m at ends)
    both (inr (n, ends, over)) (inl (t, are, at)) = absurd (loops_end_not b top clock ins outs declared lefts t n at ends)
    both (inr (n, ends, over)) (inr (m, close, past)) =
        let same : m ≡ n = ending_once b top clock ins outs declared m n close ends in
        over_once b n x y found also over (subst (λ (r : RawNetlist). IsOver b r y) same past)

  -- Where there is a netlist that can be run, none is refused.
  pub ended_not_refused : (n : RawNetlist) (x : DesignError) → IsEnding b top clock ins outs declared n → IsWithin n → AreNamedApart n.registers → Never (IsOnLoop (Reads n)) → IsRefused b top clock ins outs declared lefts x → x ≡ Memory
  ended_not_refused n x ends within apart none h = elim (memory_or x) [
    | inl is ↦ is
    | inr found ↦ elim (which_end x found h) [
      | inl (s, is, at) ↦ absurd (loops_end_not b top clock ins outs declared lefts s n at ends)
      | inr (m, close, past) ↦ (let same : m ≡ n = ending_once b top clock ins outs declared m n close ends in absurd (sound_not_over b n x found none within apart (subst (λ (r : RawNetlist). IsOver b r x) same past)))
    ]
  ]
