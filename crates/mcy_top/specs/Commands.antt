-- What the commands do: which of them work on the book of a campaign, the tests that they may have under way, when they are to stop,
-- what they aim at, and which of them change the book.
use Rattle.std.specs.Prelude.{◌≡◌, ◌⊎◌, ℕ, ◌≤◌, true, List, Option, None, Some, unwrap_or, ⊤}
use Rattle.result_book.specs.declared.goal.Goal.{Goal}
use Rattle.result_book.specs.Goals.{is_in}
use Rattle.command_words.specs.declared.command.Command.{Command}
use Rattle.command_words.specs.declared.command.Command.TheVariants.{Init, Run, List as Listing, Status, Source, Baseline, Demo}
use Rattle.command_words.specs.Commands.{command_of, mutations_of}

-- the words ask for the demo that two numbers make
abbrev pub AsksDemo : List (List ℕ) → ℕ → ℕ → Type 0
AsksDemo words seed cells = command_of words ≡ Some (Demo seed cells)

-- they ask for none
abbrev pub AsksNoDemo : List (List ℕ) → Type 0
AsksNoDemo words = (seed cells : ℕ) → ¬ AsksDemo words seed cells

-- the words ask for what the benches say of the design itself
abbrev pub AsksBaseline : List (List ℕ) → Type 0
AsksBaseline words = command_of words ≡ Some Baseline

-- they ask for what is done without a book
abbrev pub IsAside : List (List ℕ) → Type 0
IsAside words = AsksBaseline words ⊎ ((seed : ℕ) × (cells : ℕ) × AsksDemo words seed cells)

-- the command works on the book of a campaign, as each does but a demo and the one for the benches
abbrev pub OnBook : Command → Type 0
OnBook Init = ⊤
OnBook (Run jobs stop_after retry) = ⊤
OnBook Listing = ⊤
OnBook (Status strict) = ⊤
OnBook Source = ⊤
OnBook Baseline = ⊥
OnBook (Demo seed cells) = ⊥

-- how many tests a command may have under way at once
abbrev pub slots_of : Command → ℕ
slots_of Init = 0
slots_of (Run jobs stop_after retry) = jobs
slots_of Listing = 0
slots_of (Status strict) = 0
slots_of Source = 0
slots_of Baseline = 0
slots_of (Demo seed cells) = 4

-- the number of rows after which a command is to stop, if it has one
abbrev pub stop_of : Command → Option ℕ
stop_of Init = None
stop_of (Run jobs stop_after retry) = stop_after
stop_of Listing = None
stop_of (Status strict) = None
stop_of Source = None
stop_of Baseline = None
stop_of (Demo seed cells) = None

-- The mutations of these numbers, or all where there are none, are aimed at, and the pairs that were given up under less than the number
-- of the option; without it none.
abbrev pub run_goal : Option ℕ → List ℕ → Goal
run_goal retry numbers = record { retry = unwrap_or retry 0; part = 0; parts = 1; mutations = numbers }

-- the number of that option, if a command has it
abbrev pub retry_of : Command → Option ℕ
retry_of Init = None
retry_of (Run jobs stop_after retry) = retry
retry_of Listing = None
retry_of (Status strict) = None
retry_of Source = None
retry_of Baseline = None
retry_of (Demo seed cells) = None

-- what a command aims at that names these mutations, and what the words do that give it
abbrev pub goal_of : Command → List ℕ → Goal
goal_of command numbers = run_goal (retry_of command) numbers

abbrev pub aim_of : List (List ℕ) → Command → Goal
aim_of words command = goal_of command (mutations_of words)

-- all mutations are aimed at
abbrev pub AimsAtAll : Goal → Type 0
AimsAtAll aim = (m : ℕ) → is_in aim m ≡ true

-- the command runs tests of the book's campaign
abbrev pub Runs : Command → Type 0
Runs Init = ⊥
Runs (Run jobs stop retry) = ⊤
Runs Listing = ⊥
Runs (Status strict) = ⊥
Runs Source = ⊥
Runs Baseline = ⊥
Runs (Demo seed cells) = ⊥

-- the command only reads the book
abbrev pub OnlyReads : Command → Type 0
OnlyReads Init = ⊥
OnlyReads (Run jobs stop retry) = ⊥
OnlyReads Listing = ⊤
OnlyReads (Status strict) = ⊤
OnlyReads Source = ⊤
OnlyReads Baseline = ⊥
OnlyReads (Demo seed cells) = ⊥

-- For proofs alone.

-- and a run may have at least one, and at most 64
abbrev pub AreSlots : ℕ → Type 0
AreSlots jobs = (1 ≤ jobs) × (jobs ≤ 64)

abbrev pub HasSlots : Command → Type 0
HasSlots Init = ⊤
HasSlots (Run jobs stop_after retry) = AreSlots jobs
HasSlots Listing = ⊤
HasSlots (Status strict) = ⊤
HasSlots Source = ⊤
HasSlots Baseline = ⊤
HasSlots (Demo seed cells) = ⊤
