use Rattle.mutation_sites.proofs.Common.{◌≡◌, Ok, Err, refl, sym, subst, ◌∙◌, IfOk, RawNetlist, IsFormed, IsRefused, Plan, RunsAlike, HasEachRun, HasOneMore, HasSameNames, HasSameShapes, IsMutant}
use Rattle.std.specs.declared.result.Result.{Result}
use Rattle.netlist_core.specs.declared.netlist.NetError.{NetError}
use Rattle.netlist_core.specs.declared.netlist.NetError.TheVariants.{Memory}
use Rattle.mutation_sites.proofs.Alike.{runs-alike}
use Rattle.mutation_sites.proofs.Back.{has-each-run}
use Rattle.mutation_sites.proofs.More.{has-one-more, has-same-names}
use Rattle.mutation_sites.proofs.SameShapes.{has-same-shapes}
use Rattle.mutation_sites.proofs.Formed.{mutant-formed}
use Rattle.mutation_sites.proofs.Refused.{refused-memory}
use Rattle.mutation_sites.proofs.mutant.mutate.Goals as goal

-- what holds of parts holds of the netlist made of them
checked-has : {E : Type 0} (P : RawNetlist → Type 0) (parts whole : RawNetlist) (result : Result Plan E) → parts ≡ whole → P whole → IfOk result (λ netlist. netlist.raw ≡ parts) → IfOk result (λ netlist. P netlist.raw)
checked-has P parts whole (Ok netlist) same has is = subst P (sym (is ∙ same)) has
checked-has P parts whole (Err error) same has is = tt

pub checked-requires-clause-formed : goal.checked-requires-clause-formed
checked-requires-clause-formed c = subst IsFormed (sym c.in_ok-parts.ensures) (mutant-formed c.args.netlist.now.raw c.args.site.now c.unused_net-net.result c.unused_net-net.ensures.sound.formed)

pub checked-requires-clause-accepted : goal.checked-requires-clause-accepted
checked-requires-clause-accepted c =
    let P : RawNetlist → Type 0 = λ parts. (error : NetError) → IsRefused parts error → error ≡ Memory in
    subst P (sym c.in_ok-parts.ensures) (refused-memory c.args.netlist.now c.unused_net-net.ensures.sound c.args.site.now c.unused_net-net.result c.unused_net-net.ensures.new.undriven c.requires.cells c.requires.bits)

pub returns-clause-is : goal.returns-clause-is
returns-clause-is c = checked-has (IsMutant c.args.netlist.now c.args.site.now) c.in_ok-parts.parts _ c.checked.result c.in_ok-parts.ensures (record { fresh = c.unused_net-net.result; new = c.unused_net-net.ensures.new; is = refl }) c.checked.ensures.parts

pub returns-clause-one_more : goal.returns-clause-one_more
returns-clause-one_more c = checked-has (HasOneMore c.args.netlist.now.raw) c.in_ok-parts.parts _ c.checked.result c.in_ok-parts.ensures (has-one-more c.args.netlist.now.raw c.args.site.now c.unused_net-net.result) c.checked.ensures.parts

pub returns-clause-names : goal.returns-clause-names
returns-clause-names c = checked-has (HasSameNames c.args.netlist.now.raw) c.in_ok-parts.parts _ c.checked.result c.in_ok-parts.ensures (has-same-names c.args.netlist.now.raw c.args.site.now c.unused_net-net.result) c.checked.ensures.parts

pub returns-clause-shapes : goal.returns-clause-shapes
returns-clause-shapes c = checked-has (λ (mutant : RawNetlist). HasSameShapes c.args.netlist.now.raw mutant c.args.site.now.mode) c.in_ok-parts.parts _ c.checked.result c.in_ok-parts.ensures (has-same-shapes c.args.netlist.now.raw c.args.site.now c.unused_net-net.result) c.checked.ensures.parts

pub returns-clause-alike : goal.returns-clause-alike
returns-clause-alike c = checked-has (λ (mutant : RawNetlist). RunsAlike c.args.netlist.now.raw mutant c.args.site.now) c.in_ok-parts.parts _ c.checked.result c.in_ok-parts.ensures (runs-alike c.args.netlist.now.raw c.args.site.now c.unused_net-net.result) c.checked.ensures.parts

pub returns-clause-each_run : goal.returns-clause-each_run
returns-clause-each_run c = checked-has (λ (mutant : RawNetlist). HasEachRun c.args.netlist.now.raw mutant c.args.site.now) c.in_ok-parts.parts _ c.checked.result c.in_ok-parts.ensures (has-each-run c.args.netlist.now c.unused_net-net.ensures.sound c.args.site.now c.unused_net-net.result c.unused_net-net.ensures.new.undriven) c.checked.ensures.parts
