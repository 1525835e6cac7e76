use Rattle.campaign_core.proofs.Common.{◌≡◌, ◌*◌, ℕ, length, ap, ap₂, ◌∙◌, arith, room_for}
use Rattle.campaign_core.proofs.Begins.{few_product, length_wanted, made_is, made_kept}
use Rattle.campaign_core.proofs.under_way.Core.new.Goals as goal

pub overflow_cast-len : goal.overflow_cast-len
overflow_cast-len g c =
    let long = length_wanted c.args.campaign.now c.args.state.rows c.args.goal.now c.in_ok-wants.wants.items c.in_ok-wants.ensures in
    omega (arith, c.len.ensures, c.in_ok-wants.wants.ok.0, long, c.requires.fit.few_mutations)

pub overflow_mul-len : goal.overflow_mul-len
overflow_mul-len g c =
    let long = length_wanted c.args.campaign.now c.args.state.rows c.args.goal.now c.in_ok-wants.wants.items c.in_ok-wants.ensures in
    let most = few_product c.len.result (length c.as_slice.result.now) (omega (arith, c.len.ensures, c.in_ok-wants.wants.ok.0, long, c.requires.fit.few_mutations)) (omega (arith, ap length c.as_slice.ensures, c.requires.fit.few_tests)) in
    omega (arith, most)

pub overflow_mul-len-2 : goal.overflow_mul-len-2
overflow_mul-len-2 g c =
    let long = length_wanted c.args.campaign.now c.args.state.rows c.args.goal.now c.in_ok-wants.wants.items c.in_ok-wants.ensures in
    let most = few_product c.len.result (length c.as_slice.result.now) (omega (arith, c.len.ensures, c.in_ok-wants.wants.ok.0, long, c.requires.fit.few_mutations)) (omega (arith, ap length c.as_slice.ensures, c.requires.fit.few_tests)) in
    omega (arith, most)

pub new-requires : goal.new-requires
new-requires g c =
    let long = length_wanted c.args.campaign.now c.args.state.rows c.args.goal.now c.in_ok-wants.wants.items c.in_ok-wants.ensures in
    omega (arith, c.in_ok-wants.wants.ok.0, long, c.requires.fit.few_mutations)

pub invariant_of-result-2 : goal.invariant_of-result-2
invariant_of-result-2 g c =
    let long = length_wanted c.args.campaign.now c.args.state.rows c.args.goal.now c.in_ok-wants.wants.items c.in_ok-wants.ensures in
    let count : c.len.result ≡ length c.args.campaign.now.mutations = omega (arith, c.len.ensures, c.in_ok-wants.wants.ok.0, long) in
    let rows_are : 2 * (c.len.result * length c.as_slice.result.now) ≡ room_for c.args.campaign.now = ap₂ (λ (a b : ℕ). 2 * (a * b)) count (ap length c.as_slice.ensures) in
    made_kept (g.T.Tester.gives c.args.tester) c.args.campaign.now c.args.goal.now c.args.tester c.args.state c.args.slots c.requires.fit c.requires.goal c.requires.state
    g.T.Tester.left c.in_ok-free_slots.field-0.items _ (2 * (c.len.result * length c.as_slice.result.now)) c.in_ok-free_slots.ensures (c.state-2.view_is ∙ c.in_ok-reserve.ensures.ok) rows_are
    (g.T.Tester.mutations c.args.tester) (g.T.Tester.kinds c.args.tester) (g.T.Tester.has c.args.tester) g.T.Tester.asked g.T.Tester.word c.in_ok-wants.wants.items c.in_ok-new.field-0
    c.requires.slots.0 c.requires.slots.1 c.requires.mutations c.requires.kinds c.in_ok-wants.ensures c.in_ok-new.ensures

pub returns-clause-new : goal.returns-clause-new
returns-clause-new g c =
    let long = length_wanted c.args.campaign.now c.args.state.rows c.args.goal.now c.in_ok-wants.wants.items c.in_ok-wants.ensures in
    let count : c.len.result ≡ length c.args.campaign.now.mutations = omega (arith, c.len.ensures, c.in_ok-wants.wants.ok.0, long) in
    let rows_are : 2 * (c.len.result * length c.as_slice.result.now) ≡ room_for c.args.campaign.now = ap₂ (λ (a b : ℕ). 2 * (a * b)) count (ap length c.as_slice.ensures) in
    made_is (g.T.Tester.gives c.args.tester) c.args.campaign.now c.args.goal.now c.args.tester c.args.state c.args.slots c.requires.fit c.requires.goal c.requires.state
    g.T.Tester.left c.in_ok-free_slots.field-0.items _ (2 * (c.len.result * length c.as_slice.result.now)) c.in_ok-free_slots.ensures (c.state-2.view_is ∙ c.in_ok-reserve.ensures.ok) rows_are

pub returns-clause-order : goal.returns-clause-order
returns-clause-order g c =
    let long = length_wanted c.args.campaign.now c.args.state.rows c.args.goal.now c.in_ok-wants.wants.items c.in_ok-wants.ensures in
    let count : c.len.result ≡ length c.args.campaign.now.mutations = omega (arith, c.len.ensures, c.in_ok-wants.wants.ok.0, long) in
    let rows_are : 2 * (c.len.result * length c.as_slice.result.now) ≡ room_for c.args.campaign.now = ap₂ (λ (a b : ℕ). 2 * (a * b)) count (ap length c.as_slice.ensures) in
    (made_kept (g.T.Tester.gives c.args.tester) c.args.campaign.now c.args.goal.now c.args.tester c.args.state c.args.slots c.requires.fit c.requires.goal c.requires.state
    g.T.Tester.left c.in_ok-free_slots.field-0.items _ (2 * (c.len.result * length c.as_slice.result.now)) c.in_ok-free_slots.ensures (c.state-2.view_is ∙ c.in_ok-reserve.ensures.ok) rows_are
    (g.T.Tester.mutations c.args.tester) (g.T.Tester.kinds c.args.tester) (g.T.Tester.has c.args.tester) g.T.Tester.asked g.T.Tester.word c.in_ok-wants.wants.items c.in_ok-new.field-0
    c.requires.slots.0 c.requires.slots.1 c.requires.mutations c.requires.kinds c.in_ok-wants.ensures c.in_ok-new.ensures).order
