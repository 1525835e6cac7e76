-- A mutant is refused for want of memory alone.
use Rattle.mutation_sites.proofs.Common.{◌≡◌, ℕ, ◌≤◌, length, refl, arith, drivers, net_bits, IsRefused, Plan, IsSound, Site, mutant_of}
use Rattle.mcy_base.specs.declared.kind.Kind.TheVariants.{Tokens, LoopTurns, Cells, NetBits, RegisterBits, Sites, Gates, FreeBits, Scopes}
use Rattle.netlist_core.specs.declared.netlist.NetError.{NetError}
use Rattle.netlist_core.specs.declared.netlist.NetError.TheVariants.{TooMany, BadShape, TwoDrivers, Undriven, Loop, Memory}
use Rattle.mutation_sites.proofs.More.{has-one-more}
use Rattle.mutation_sites.proofs.Kept.{bits-kept, shapes-kept, single-kept, reads-kept}
use Rattle.mutation_sites.proofs.Acyclic.{loops-kept}

pub refused-memory : (plan : Plan) → IsSound plan → (site : Site) (fresh : ℕ) → drivers plan.raw fresh ≡ 0 → length plan.raw.cells ≤ 65535 → net_bits plan.raw ≤ 1048576 → (error : NetError) → IsRefused (mutant_of plan.raw site fresh) error → error ≡ Memory
refused-memory plan sound site fresh none cells bits (TooMany Cells) refused = absurd (omega (arith, refused, cells, (has-one-more plan.raw site fresh).count))
refused-memory plan sound site fresh none cells bits (TooMany NetBits) refused = absurd (omega (arith, refused.1, bits, bits-kept plan.raw site fresh))
refused-memory plan sound site fresh none cells bits (TooMany Tokens) refused = absurd refused
refused-memory plan sound site fresh none cells bits (TooMany LoopTurns) refused = absurd refused
refused-memory plan sound site fresh none cells bits (TooMany RegisterBits) refused = absurd refused
refused-memory plan sound site fresh none cells bits (TooMany Sites) refused = absurd refused
refused-memory plan sound site fresh none cells bits (TooMany Gates) refused = absurd refused
refused-memory plan sound site fresh none cells bits (TooMany FreeBits) refused = absurd refused
refused-memory plan sound site fresh none cells bits (TooMany Scopes) refused = absurd refused
refused-memory plan sound site fresh none cells bits (BadShape c) refused = absurd (shapes-kept plan sound site fresh c refused.1.here)
refused-memory plan sound site fresh none cells bits (TwoDrivers n) refused = absurd (single-kept plan sound site fresh none n refused.1.here)
refused-memory plan sound site fresh none cells bits (Undriven n) refused = absurd (reads-kept plan sound site fresh n refused.1.here)
refused-memory plan sound site fresh none cells bits (Loop c) refused = absurd (loops-kept plan sound site fresh none c refused.1.here)
refused-memory plan sound site fresh none cells bits Memory refused = refl
