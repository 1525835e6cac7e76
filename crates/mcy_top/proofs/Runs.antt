-- A run as a whole.
use Rattle.mcy_top.proofs.Common.{◌≡◌, ◌∙◌, arith, ℕ, ◌+◌, false, List, length, Option, None, refl, sym, ap, subst, length-replicate, Entry, Book, KeepFault, KeepMemory, Keeps, Campaign, Goal, IsGoal}
use Rattle.mcy_top.proofs.Common.{IsWellFormed, IsStateOf, Progress, status_text, Run, core_book, HasFree, CoreRan, CoreTorn, GivesTheSame, Turns, begun, IsUnderWay, Prepared, IsPlan, book_of, Ran}
use Rattle.mcy_top.proofs.Common.{book_form, ran_none, may_give, most_of, Ending, HasNamed, broken_outcome, ended_outcome, run_outcome, Delivers, StartsFew, Work, IsInOrder}
use Rattle.campaign_core.specs.declared.event.CoreError.{CoreError}
use Rattle.campaign_core.specs.declared.event.CoreError.TheVariants.{Keeper as CoreFault, Memory as CoreMemory}
use Rattle.mcy_top.proofs.Torn.{order_of, tears_of, Tears}
use Rattle.mcy_top.proofs.Turning.{counts_of, few_of, program_on, went_of, On}
use Rattle.mcy_top.proofs.Working.{work_broke, work_ran, Counts, Went}

-- the core as it begins
begun_on : (c : Prepared) (aim : Goal) (jobs : ℕ) (state : Progress) (core : Turns Prepared) → IsPlan c → core ≡ begun c.campaign aim c state jobs → IsStateOf c.campaign state.rows state → IsUnderWay (may_give core.tester) core → On c aim jobs state.rows core
begun_on c aim jobs state core plan is form order =
    let own : core.tester ≡ c = ap (λ (s : Turns Prepared). s.tester) is in
    let rows : core.state.rows ≡ state.rows = ap (λ (s : Turns Prepared). s.state.rows) is in
    let acknowledged : core.acknowledged ≡ 0 = ap (λ (s : Turns Prepared). s.acknowledged) is in
    record {
      order = order;
      campaign = ap (λ (s : Turns Prepared). s.campaign) is;
      goal = ap (λ (s : Turns Prepared). s.goal) is;
      same = subst (λ (t : Prepared). GivesTheSame (may_give c) (may_give t)) (sym own) (record { on = λ asked word h. h; back = λ asked word h. h });
      ran = subst (λ (l : List Entry). Ran c aim state.rows l) (sym rows) (ran_none c aim state.rows plan form.form);
      counted = omega (arith, ap length rows, acknowledged);
      slots = ap (λ (s : Turns Prepared). length s.slots) is ∙ length-replicate jobs None;
    }

-- what a core begins with
pub record Begins (c : Prepared) (aim : Goal) (jobs : ℕ) (state : Progress) (core : Turns Prepared) : Type 0 where
  pub plan : IsPlan c
  pub goal : IsGoal aim
  pub named : HasNamed aim c
  pub form : IsStateOf c.campaign state.rows state
  pub is : core ≡ begun c.campaign aim c state jobs
  pub on : On c aim jobs state.rows core
  pub acknowledged : core.acknowledged ≡ 0
  pub started : core.started ≡ 0
  pub going : core.is_stopped ≡ false
  pub free : HasFree core.slots

pub begins : (c : Prepared) (aim : Goal) (jobs : ℕ) (state : Progress) (tester : Prepared) (core : Turns Prepared) → IsPlan c → IsGoal aim → HasNamed aim c → IsStateOf c.campaign state.rows state → tester ≡ c
    → core ≡ begun c.campaign aim tester state jobs → IsUnderWay (may_give core.tester) core → Begins c aim jobs state core
begins c aim jobs state tester core plan goal named form mine made order =
    let is : core ≡ begun c.campaign aim c state jobs = made ∙ ap (λ (t : Prepared). begun c.campaign aim t state jobs) mine in
    let acknowledged : core.acknowledged ≡ 0 = ap (λ (s : Turns Prepared). s.acknowledged) is in
    let started : core.started ≡ 0 = ap (λ (s : Turns Prepared). s.started) is in
    record {
      plan = plan;
      goal = goal;
      named = named;
      form = form;
      is = is;
      on = begun_on c aim jobs state core plan is form order;
      acknowledged = acknowledged;
      started = started;
      going = ap (λ (s : Turns Prepared). s.is_stopped) is;
      free = omega (arith, order.counts, acknowledged, started, order.some_slots);
    }

module _ (c : Prepared) (aim : Goal) (jobs : ℕ) (stop retry : Option ℕ) (state : Progress) (core : Turns Prepared) (b : Begins c aim jobs state core) where
  -- the run that came to its end
  end_on : (end : Turns Prepared) → CoreRan may_give most_of stop core end → On c aim jobs state.rows end
  end_on end ran = program_on c aim jobs state.rows b.plan ran.events core end b.on ran.program

  -- what is known of the book then is of the campaign
  pub state_is : (end : Turns Prepared) (shown : Progress) → CoreRan may_give most_of stop core end → shown ≡ end.state → IsStateOf end.campaign shown.rows shown → IsStateOf c.campaign shown.rows shown
  state_is end shown ran is form = subst (λ (k : Campaign). IsStateOf k shown.rows shown) (end_on end ran).campaign form

  pub work_turned : (holds : Book → Type 0) (leaves : Option Book → Type 0) (written written' : Option (List ℕ)) (before now : ℕ) (end : Turns Prepared) (shown told : Progress) (ending : Ending) → CoreRan may_give most_of stop core end
      → now + core.started ≡ before + end.started → Keeps holds leaves (core_book end.campaign end.state.rows) → shown ≡ end.state → told ≡ end.state → Delivers written written' (status_text c.campaign shown.rows) ending
      → Work leaves written written' before now (Run jobs stop retry) aim c (book_of c state.rows) (ended_outcome (run_outcome c aim told.rows) ending)
  work_turned holds leaves written written' before now end shown told ending ran steps kept shown_is told_is wrote =
      let on : On c aim jobs state.rows end = end_on end ran in
      let since : now ≡ before + end.started = omega (arith, steps, b.started) in
      let counts : Counts c aim jobs state.rows end.state.rows before now = counts_of c aim jobs state.rows b.plan end before now on since in
      let went : Went c aim stop state.rows end.state.rows = went_of c aim jobs state.rows b.plan stop core end b.on b.acknowledged b.going b.goal b.named b.form.form ran in
      let few : StartsFew stop jobs before now = few_of c aim jobs state.rows b.plan stop core end before now b.on b.acknowledged b.going b.free ran since in
      let order : IsInOrder c aim jobs (book_of c state.rows) (book_of c end.state.rows) = order_of c aim jobs state b.plan core b.is ran.events end end.state.rows ran.program refl in
      let mine : Keeps holds leaves (book_of c end.state.rows) = subst (λ (k : Campaign). Keeps holds leaves (core_book k end.state.rows)) on.campaign kept in
      let text : Delivers written written' (status_text c.campaign end.state.rows) ending = subst (λ (p : Progress). Delivers written written' (status_text c.campaign p.rows) ending) shown_is wrote in
      let whole : Work leaves written written' before now (Run jobs stop retry) aim c (book_of c state.rows) (ended_outcome (run_outcome c aim end.state.rows) ending) =
      work_ran holds leaves written written' before now jobs stop retry aim c state.rows end.state.rows ending went mine counts few order text in
      subst (λ (p : Progress). Work leaves written written' before now (Run jobs stop retry) aim c (book_of c state.rows) (ended_outcome (run_outcome c aim p.rows) ending)) (sym told_is) whole

  -- the run that broke off
  pub work_torn : (leaves : Option Book → Type 0) (written : Option (List ℕ)) (before now : ℕ) (new : Turns Prepared) (e : CoreError) → CoreTorn may_give most_of stop leaves core new → now + core.started ≡ before + new.started
      → Work leaves written written before now (Run jobs stop retry) aim c (book_of c state.rows) (broken_outcome e)
  work_torn leaves written before now new e torn steps = go e
    where
      tears : Tears leaves c aim jobs stop state.rows before now
      tears = tears_of c aim jobs state b.plan core b.is leaves stop new before now b.on b.acknowledged torn (omega (arith, steps, b.started))

      form : IsWellFormed c.campaign (book_of c state.rows)
      form = book_form c state.rows b.plan b.form.form

      go : (e : CoreError) → Work leaves written written before now (Run jobs stop retry) aim c (book_of c state.rows) (broken_outcome e)
      go CoreFault = work_broke leaves written written before now jobs stop retry aim c state.rows KeepFault b.plan form b.named tears.broke tears.order tears.wants refl
      go CoreMemory = work_broke leaves written written before now jobs stop retry aim c state.rows KeepMemory b.plan form b.named tears.broke tears.order tears.wants refl
