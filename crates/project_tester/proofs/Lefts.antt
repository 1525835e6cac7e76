-- Turns without a word are counted down.
use Rattle.project_tester.proofs.Common.{◌≡◌, arith, ℕ, ◌+◌, ◌-◌, ◌/◌, ◌<◌, ◌≤◌, max, phases_of, phases_after, turns_in}

-- a new equality has at most the lemmas of its bound before it
pub all_lemmas : (limit bound lemmas : ℕ) → limit ≡ bound → turns_in (limit - lemmas) ≤ turns_in bound
all_lemmas limit bound lemmas is = omega (arith, is)

-- 256 lemmas more, and there may be more still
pub fewer_lemmas : (limit limit' before now : ℕ) → limit' ≡ limit → now ≡ before + 256 → now < limit → turns_in (limit' - now) < turns_in (limit - before)
fewer_lemmas limit limit' before now same added more = omega (arith, same, added, more)

-- a new simulation has its cycles before it
pub all_cycles : (limit cycles phases : ℕ) → limit ≡ cycles → phases ≡ 0 → turns_in ((phases_of limit - max phases 1) / 2) ≤ turns_in cycles
all_cycles limit cycles phases is none = omega (arith, is, none)

-- 256 cycles more, and there are more still
pub fewer_cycles : (limit limit' before now : ℕ) → limit' ≡ limit → now ≡ phases_after before 256 → now < phases_of limit → turns_in ((phases_of limit' - max now 1) / 2) < turns_in ((phases_of limit - max before 1) / 2)
fewer_cycles limit limit' before now same added more = omega (arith, same, added, more)
