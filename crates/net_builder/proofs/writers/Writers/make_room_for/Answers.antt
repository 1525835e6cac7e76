use Rattle.net_builder.proofs.Common.{◌≡◌, ◌≤◌, ◌+◌, ◌<◌, ℕ, suc, length, drop, ◌∙◌, ap, subst, arith, Fixed, Net, AllBelow, writers_of}
use Rattle.net_builder.specs.declared.writers.Writers.{Writers}
use Rattle.net_builder.proofs.Writing.{below_step}
use Rattle.net_builder.proofs.writers.Writers.make_room_for.Goals.{in-Net+in_ok-make_room, in_default}
use Rattle.net_builder.proofs.writers.Writers.make_room_for.Goals as goal

pub loop-bit-preserved : goal.loop-bit-preserved
loop-bit-preserved c =
    let k = c.loop-bit.bit-index in
    let next : k + 1 ≡ suc k = omega arith in
    elim c.match-bit.branch [
      | in-Net+in_ok-make_room w ↦
          let long : length c.match-bit.self.table.items ≡ length w.make_room.new.self.table.items = ap (λ (s : Writers). length s.table.items) w.self-is in (
            λ n less rest.
                (let net : w.in-Net.net < n = omega (arith, less, long, w.in_ok-make_room.ensures.room) in
                let old : length c.loop-bit.self.table.items ≤ n = omega (arith, less, long, w.make_room.ensures.longer) in
                c.loop-bit.invariant.0 n old (below_step n c.args.bits.now k _ (Net w.in-Net.net) c.loop-bit-test.true w.in-Net.is (net, tt) (subst (λ (i : ℕ). AllBelow n (drop i c.args.bits.now)) next rest))),
            ap writers_of w.self-is ∙ w.make_room.ensures.same ∙ c.loop-bit.invariant.1,
          )
      | in_default w ↦
          let long : length c.match-bit.self.table.items ≡ length c.loop-bit.self.table.items = ap (λ (s : Writers). length s.table.items) w.self-is in (
            λ n less rest.
                (let old : length c.loop-bit.self.table.items ≤ n = omega (arith, less, long) in
                c.loop-bit.invariant.0 n old (below_step n c.args.bits.now k _ (Fixed w.in_default.field-0) c.loop-bit-test.true w.in_default.is tt (subst (λ (i : ℕ). AllBelow n (drop i c.args.bits.now)) next rest))),
            ap writers_of w.self-is ∙ c.loop-bit.invariant.1,
          )
    ]
