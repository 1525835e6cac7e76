use Rattle.mcy_top.proofs.Common.{◌≡◌, List, ℕ, Option, Some, inl, inr, map, string_bytes, refl, sym, ap, subst, ◌∙◌, rules, Held, Demo, cells_are_few, asked_of, command_of, Goal, IsGoal, aim_of}
use Rattle.mcy_top.proofs.Common.{goal_of, AsksBaseline, IsAccepted, WorkUnder, Shown}
use Rattle.mcy_top.proofs.Aiming.{asks_no_baseline, asks_none, demo_is, demo_no_baseline, given_is, goal_is, numbers_are, slots_are, works_on}
use Rattle.mcy_top.proofs.Answered.{failed_answered, late_answered}
use Rattle.mcy_top.proofs.Limiting.{made_limited}
use Rattle.mcy_top.proofs.BaselineEnds.{told_made, told_refused}
use Rattle.mcy_top.proofs.main_call.carry_out_words.Goals as goal

-- ---- a demo

pub demo-requires : goal.demo-requires
demo-requires g c =
    let says = c.in-Ok-Some.ensures in
    let field = c.in-Ok-Some.field-0-is in
    let command = c.in-Ok-Some.asked-is in
    let is = c.in-Demo.is in
    let words : List (List ℕ) = map string_bytes c.args.words.now in
    let found : asked_of words ≡ Some c.in-Ok-Some.asked = cc in
    let given : command_of words ≡ Some c.in-Ok-Some.asked.command = given_is words c.in-Ok-Some.asked found in
    let asked : command_of words ≡ Some (Demo c.in-Demo.seed c.in-Demo.cells) = cc in
    record { cells = cells_are_few words c.in-Demo.seed c.in-Demo.cells asked }

pub returns-in-Demo-clause-answer : goal.returns-in-Demo-clause-answer
returns-in-Demo-clause-answer g c none =
    let says = c.in-Ok-Some.ensures in
    let field = c.in-Ok-Some.field-0-is in
    let command = c.in-Ok-Some.asked-is in
    let is = c.in-Demo.is in
    let words : List (List ℕ) = map string_bytes c.args.words.now in
    let found : asked_of words ≡ Some c.in-Ok-Some.asked = cc in
    let given : command_of words ≡ Some c.in-Ok-Some.asked.command = given_is words c.in-Ok-Some.asked found in
    let asked : command_of words ≡ Some (Demo c.in-Demo.seed c.in-Demo.cells) = cc in
    absurd (none c.in-Demo.seed c.in-Demo.cells asked)

pub returns-in-Demo-clause-cause : goal.returns-in-Demo-clause-cause
returns-in-Demo-clause-cause g c = c.demo.ensures.cause _ _

pub returns-in-Demo-clause-life : goal.returns-in-Demo-clause-life
returns-in-Demo-clause-life g c tells =
    let says = c.in-Ok-Some.ensures in
    let field = c.in-Ok-Some.field-0-is in
    let command = c.in-Ok-Some.asked-is in
    let is = c.in-Demo.is in
    let words : List (List ℕ) = map string_bytes c.args.words.now in
    let found : asked_of words ≡ Some c.in-Ok-Some.asked = cc in
    let given : command_of words ≡ Some c.in-Ok-Some.asked.command = given_is words c.in-Ok-Some.asked found in
    let asked : command_of words ≡ Some (Demo c.in-Demo.seed c.in-Demo.cells) = cc in
    inl (inr (record { asked = inr (c.in-Demo.seed, c.in-Demo.cells, asked); leaves_is = λ left was. was }))

pub returns-in-Demo-clause-demo : goal.returns-in-Demo-clause-demo
returns-in-Demo-clause-demo g c seed cells demo =
    let says = c.in-Ok-Some.ensures in
    let field = c.in-Ok-Some.field-0-is in
    let command = c.in-Ok-Some.asked-is in
    let is = c.in-Demo.is in
    let words : List (List ℕ) = map string_bytes c.args.words.now in
    let found : asked_of words ≡ Some c.in-Ok-Some.asked = cc in
    let given : command_of words ≡ Some c.in-Ok-Some.asked.command = given_is words c.in-Ok-Some.asked found in
    let asked : command_of words ≡ Some (Demo c.in-Demo.seed c.in-Demo.cells) = cc in
    (demo_is words c.in-Demo.seed c.in-Demo.cells seed cells (λ s k. Shown s k (g.O.Sink.written c.args.out.now) (g.O.Sink.written c.demo.new.out) c.args.steps.now c.demo.new.steps c.demo.result) asked demo c.demo.ensures.shown, refl, refl)

-- ---- what the benches say of the design itself

pub returns-in-Err-read_campaign-clause-baseline : goal.returns-in-Err-read_campaign-clause-baseline
returns-in-Err-read_campaign-clause-baseline g c asked = (rw c.refused.ensures (told_refused (g.F.SourceFiles.held c.args.files.now) (g.O.Sink.written c.args.out.now) c.in-Err-read_campaign.refusal c.in-Err-read_campaign.ensures.refused), refl, refl)

pub returns-in-Baseline-clause-answer : goal.returns-in-Baseline-clause-answer
returns-in-Baseline-clause-answer g c none =
    let says = c.in-Ok-Some.ensures in
    let field = c.in-Ok-Some.field-0-is in
    let command = c.in-Ok-Some.asked-is in
    let words : List (List ℕ) = map string_bytes c.args.words.now in
    let held : Option Held = g.F.SourceFiles.held c.args.files.now in
    let found : asked_of words ≡ Some c.in-Ok-Some.asked = cc in
    let given : command_of words ≡ Some c.in-Ok-Some.asked.command = given_is words c.in-Ok-Some.asked found in
    let asked : command_of words ≡ Some c.in-Ok-Some.asked.command = cc in
    let accepted : IsAccepted words held = record { asked = λ is. cc; prepared = c.in-Ok.prepared; made = c.in-Ok.ensures.made } in
    c.baseline.ensures.answered words held accepted

pub returns-in-Baseline-clause-cause : goal.returns-in-Baseline-clause-cause
returns-in-Baseline-clause-cause g c = c.baseline.ensures.cause _ _ _

pub returns-in-Baseline-clause-life : goal.returns-in-Baseline-clause-life
returns-in-Baseline-clause-life g c tells =
    let says = c.in-Ok-Some.ensures in
    let field = c.in-Ok-Some.field-0-is in
    let command = c.in-Ok-Some.asked-is in
    let is = c.in-Baseline.is in
    let words : List (List ℕ) = map string_bytes c.args.words.now in
    let found : asked_of words ≡ Some c.in-Ok-Some.asked = cc in
    let given : command_of words ≡ Some c.in-Ok-Some.asked.command = given_is words c.in-Ok-Some.asked found in
    let asked : AsksBaseline words = cc in
    inl (inr (record { asked = inl asked; leaves_is = λ left was. was }))

pub returns-in-Baseline-clause-demo : goal.returns-in-Baseline-clause-demo
returns-in-Baseline-clause-demo g c seed cells demo =
    let says = c.in-Ok-Some.ensures in
    let field = c.in-Ok-Some.field-0-is in
    let command = c.in-Ok-Some.asked-is in
    let words : List (List ℕ) = map string_bytes c.args.words.now in
    let found : asked_of words ≡ Some c.in-Ok-Some.asked = cc in
    let given : command_of words ≡ Some c.in-Ok-Some.asked.command = given_is words c.in-Ok-Some.asked found in
    let asked : command_of words ≡ Some c.in-Ok-Some.asked.command = cc in
    absurd (asks_none words c.in-Ok-Some.asked.command asked c.in_default.not-Demo seed cells demo)

pub returns-in-Baseline-clause-baseline : goal.returns-in-Baseline-clause-baseline
returns-in-Baseline-clause-baseline g c asked =
    (told_made (g.F.SourceFiles.held c.args.files.now) c.in-Ok.prepared (g.O.Sink.written c.args.out.now) (g.O.Sink.written c.baseline.new.out) c.baseline.result c.in-Ok.ensures.made c.baseline.ensures.told, refl, refl)

-- ---- a call on the book

pub on_book-requires-clause-book : goal.on_book-requires-clause-book
on_book-requires-clause-book g c = works_on c.in-Ok-Some.asked.command c.in_default.not-Demo c.in_default-command.not-Baseline

pub returns-in-Ok-load-clause-life : goal.returns-in-Ok-load-clause-life
returns-in-Ok-load-clause-life g c tells =
    let before = c.on_book.ensures.tells tells in
    let says = c.in-Ok-Some.ensures in
    let field = c.in-Ok-Some.field-0-is in
    let command = c.in-Ok-Some.asked-is in
    let words : List (List ℕ) = map string_bytes c.args.words.now in
    let found : asked_of words ≡ Some c.in-Ok-Some.asked = cc in
    let aims : c.goal_of-goal.result ≡ aim_of words c.in-Ok-Some.asked.command = c.goal_of-goal.ensures ∙ ap (goal_of c.in-Ok-Some.asked.command) (sym (numbers_are words c.in-Ok-Some.asked found)) in
    let work : WorkUnder (g.K.Keeper.leaves c.on_book.new.keeper) (g.O.Sink.written c.args.out.now) (g.O.Sink.written c.on_book.new.out) c.args.steps.now c.on_book.new.steps c.in-Ok-Some.asked.command (aim_of words c.in-Ok-Some.asked.command) c.in-Ok.prepared c.in-Ok-load.loaded c.on_book.result =
    subst (λ (aim : Goal). WorkUnder (g.K.Keeper.leaves c.on_book.new.keeper) (g.O.Sink.written c.args.out.now) (g.O.Sink.written c.on_book.new.out) c.args.steps.now c.on_book.new.steps c.in-Ok-Some.asked.command aim c.in-Ok.prepared c.in-Ok-load.loaded c.on_book.result) aims (c.on_book.ensures.work tells) in
    inr (record {
      command = c.in-Ok-Some.asked.command;
      prepared = record c.in-Ok.prepared { cycles = work.cycles };
      loaded = c.in-Ok-load.loaded;
      asked = given_is words c.in-Ok-Some.asked found;
      on_book = works_on c.in-Ok-Some.asked.command c.in_default.not-Demo c.in_default-command.not-Baseline;
      made = made_limited (g.F.SourceFiles.held c.args.files.now) c.in-Ok.prepared work.cycles work.same c.in-Ok.ensures.made;
      found = c.in-Ok-load.ensures.same before;
      allowed = c.in-Ok-load.ensures.allowed before;
      work = work.work;
      passes = work.passes;
    })

pub returns-in-Err-load-clause-life : goal.returns-in-Err-load-clause-life
returns-in-Err-load-clause-life g c tells =
    inl (inl (record {
      early = search rules;
      leaves_is = c.in-Err-load.ensures.refused tells;
      steps_is = refl;
    }))

pub returns-in-Ok-load-clause-answer : goal.returns-in-Ok-load-clause-answer
returns-in-Ok-load-clause-answer g c none =
    let says = c.in-Ok-Some.ensures in
    let field = c.in-Ok-Some.field-0-is in
    let command = c.in-Ok-Some.asked-is in
    let words : List (List ℕ) = map string_bytes c.args.words.now in
    let held : Option Held = g.F.SourceFiles.held c.args.files.now in
    let found : asked_of words ≡ Some c.in-Ok-Some.asked = cc in
    let given : command_of words ≡ Some c.in-Ok-Some.asked.command = given_is words c.in-Ok-Some.asked found in
    let asked : command_of words ≡ Some c.in-Ok-Some.asked.command = cc in
    let accepted : IsAccepted words held = record { asked = λ is. cc; prepared = c.in-Ok.prepared; made = c.in-Ok.ensures.made } in
    late_answered words held _ _ _ _ c.on_book.result accepted c.on_book.ensures.ends.cause

pub returns-in-Err-load-clause-answer : goal.returns-in-Err-load-clause-answer
returns-in-Err-load-clause-answer g c none =
    let says = c.in-Ok-Some.ensures in
    let field = c.in-Ok-Some.field-0-is in
    let command = c.in-Ok-Some.asked-is in
    let words : List (List ℕ) = map string_bytes c.args.words.now in
    let held : Option Held = g.F.SourceFiles.held c.args.files.now in
    let found : asked_of words ≡ Some c.in-Ok-Some.asked = cc in
    let given : command_of words ≡ Some c.in-Ok-Some.asked.command = given_is words c.in-Ok-Some.asked found in
    let asked : command_of words ≡ Some c.in-Ok-Some.asked.command = cc in
    let accepted : IsAccepted words held = record { asked = λ is. cc; prepared = c.in-Ok.prepared; made = c.in-Ok.ensures.made } in
    rw c.failed.ensures (failed_answered words held c.in-Err-load.error accepted)

-- what the words aim at is a goal
pub on_book-requires-clause-goal : goal.on_book-requires-clause-goal
on_book-requires-clause-goal g c =
    let says = c.in-Ok-Some.ensures in
    let field = c.in-Ok-Some.field-0-is in
    let command = c.in-Ok-Some.asked-is in
    let words : List (List ℕ) = map string_bytes c.args.words.now in
    let found : asked_of words ≡ Some c.in-Ok-Some.asked = cc in
    let given : command_of words ≡ Some c.in-Ok-Some.asked.command = given_is words c.in-Ok-Some.asked found in
    let asked : command_of words ≡ Some c.in-Ok-Some.asked.command = cc in
    subst IsGoal (sym c.goal_of-goal.ensures) (goal_is words c.in-Ok-Some.asked.command c.in-Ok-Some.asked.mutations asked)

-- and its slots are
pub on_book-requires-clause-slots : goal.on_book-requires-clause-slots
on_book-requires-clause-slots g c =
    let says = c.in-Ok-Some.ensures in
    let field = c.in-Ok-Some.field-0-is in
    let command = c.in-Ok-Some.asked-is in
    let words : List (List ℕ) = map string_bytes c.args.words.now in
    let found : asked_of words ≡ Some c.in-Ok-Some.asked = cc in
    let given : command_of words ≡ Some c.in-Ok-Some.asked.command = given_is words c.in-Ok-Some.asked found in
    let asked : command_of words ≡ Some c.in-Ok-Some.asked.command = cc in
    slots_are words c.in-Ok-Some.asked.command asked

-- no demo was asked for
pub returns-in-Ok-load-clause-demo : goal.returns-in-Ok-load-clause-demo
returns-in-Ok-load-clause-demo g c seed cells demo =
    let says = c.in-Ok-Some.ensures in
    let field = c.in-Ok-Some.field-0-is in
    let command = c.in-Ok-Some.asked-is in
    let words : List (List ℕ) = map string_bytes c.args.words.now in
    let found : asked_of words ≡ Some c.in-Ok-Some.asked = cc in
    let given : command_of words ≡ Some c.in-Ok-Some.asked.command = given_is words c.in-Ok-Some.asked found in
    let asked : command_of words ≡ Some c.in-Ok-Some.asked.command = cc in
    absurd (asks_none words c.in-Ok-Some.asked.command asked c.in_default.not-Demo seed cells demo)

pub returns-in-Err-load-clause-demo : goal.returns-in-Err-load-clause-demo
returns-in-Err-load-clause-demo g c seed cells demo =
    let says = c.in-Ok-Some.ensures in
    let field = c.in-Ok-Some.field-0-is in
    let command = c.in-Ok-Some.asked-is in
    let words : List (List ℕ) = map string_bytes c.args.words.now in
    let found : asked_of words ≡ Some c.in-Ok-Some.asked = cc in
    let given : command_of words ≡ Some c.in-Ok-Some.asked.command = given_is words c.in-Ok-Some.asked found in
    let asked : command_of words ≡ Some c.in-Ok-Some.asked.command = cc in
    absurd (asks_none words c.in-Ok-Some.asked.command asked c.in_default.not-Demo seed cells demo)

-- and neither were the benches' words of the design
pub returns-in-Demo-clause-baseline : goal.returns-in-Demo-clause-baseline
returns-in-Demo-clause-baseline g c baseline =
    let says = c.in-Ok-Some.ensures in
    let field = c.in-Ok-Some.field-0-is in
    let command = c.in-Ok-Some.asked-is in
    let is = c.in-Demo.is in
    let words : List (List ℕ) = map string_bytes c.args.words.now in
    let found : asked_of words ≡ Some c.in-Ok-Some.asked = cc in
    let given : command_of words ≡ Some c.in-Ok-Some.asked.command = given_is words c.in-Ok-Some.asked found in
    let asked : command_of words ≡ Some (Demo c.in-Demo.seed c.in-Demo.cells) = cc in
    absurd (demo_no_baseline words c.in-Demo.seed c.in-Demo.cells asked baseline)

pub returns-in-Ok-load-clause-baseline : goal.returns-in-Ok-load-clause-baseline
returns-in-Ok-load-clause-baseline g c baseline =
    let says = c.in-Ok-Some.ensures in
    let field = c.in-Ok-Some.field-0-is in
    let command = c.in-Ok-Some.asked-is in
    let words : List (List ℕ) = map string_bytes c.args.words.now in
    let found : asked_of words ≡ Some c.in-Ok-Some.asked = cc in
    let given : command_of words ≡ Some c.in-Ok-Some.asked.command = given_is words c.in-Ok-Some.asked found in
    let asked : command_of words ≡ Some c.in-Ok-Some.asked.command = cc in
    absurd (asks_no_baseline words c.in-Ok-Some.asked.command asked c.in_default-command.not-Baseline baseline)

pub returns-in-Err-load-clause-baseline : goal.returns-in-Err-load-clause-baseline
returns-in-Err-load-clause-baseline g c baseline =
    let says = c.in-Ok-Some.ensures in
    let field = c.in-Ok-Some.field-0-is in
    let command = c.in-Ok-Some.asked-is in
    let words : List (List ℕ) = map string_bytes c.args.words.now in
    let found : asked_of words ≡ Some c.in-Ok-Some.asked = cc in
    let given : command_of words ≡ Some c.in-Ok-Some.asked.command = given_is words c.in-Ok-Some.asked found in
    let asked : command_of words ≡ Some c.in-Ok-Some.asked.command = cc in
    absurd (asks_no_baseline words c.in-Ok-Some.asked.command asked c.in_default-command.not-Baseline baseline)
