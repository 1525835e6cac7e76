-- Why a command refuses the book that was loaded.
use Rattle.std.specs.Prelude.{◌≡◌, ◌≢◌, ◌⊎◌, ℕ, [], length, ⊤, if◌then◌else◌, nat_le, Option, None, Some}
use Rattle.mcy_keeper.specs.declared.book.Book.{Book}
use Rattle.mcy_keeper.specs.Books.{IsBlank}
use Rattle.result_book.specs.declared.check.BookError.{BookError}
use Rattle.result_book.specs.declared.check.BookError.TheVariants.{Stray, Memory as NoMemory}
use Rattle.result_book.specs.declared.goal.Goal.{Goal}
use Rattle.result_book.specs.Goals.{first_unnamed}
use Rattle.result_book.specs.Rows.{IsWellFormed}
use Rattle.result_book.specs.BookFaults.{IsRefused}
use Rattle.command_words.specs.declared.command.Command.{Command}
use Rattle.command_words.specs.declared.command.Command.TheVariants.{Init}
use Rattle.campaign_plan.specs.declared.prepared.Prepared.{Prepared}
use Rattle.mcy_top.specs.declared.refusal.BookRefusal.{BookRefusal}
use Rattle.mcy_top.specs.declared.refusal.BookRefusal.TheVariants.{NoCampaign, AlreadyBegun, BookBad, NoMutation, Memory}
use Rattle.mcy_top.specs.Commands.{OnlyReads, Runs}

-- a count as it is told, at most 4,294,967,295
abbrev pub told : ℕ → ℕ
told n = if nat_le n 4294967295 then n else 4294967295

-- The book has no meta, but mutations or rows; or it is begun, and is not the campaign's in either format.
abbrev pub IsBookBad : Prepared → Book → BookError → Type 0
IsBookBad c book (Stray mutations rows) = (book.meta ≡ []) × (¬ IsBlank book) × (mutations ≡ told (length book.mutations)) × (rows ≡ told (length book.journal))
IsBookBad c book NoMemory = ⊥
IsBookBad c book error = (book.meta ≢ []) × (¬ IsWellFormed c.campaign book) × IsRefused c.campaign book error

-- whether the book is looked at row by row
abbrev pub IsChecked : Command → BookError → Type 0
IsChecked command (Stray mutations rows) = ⊤
IsChecked command error = command ≢ Init

-- the first number under which a goal names a mutation that the campaign has not, if there is one
abbrev pub lacking : Goal → Prepared → Option ℕ
lacking aim c = first_unnamed (length c.campaign.mutations) aim.mutations

-- the campaign has all mutations that are named
abbrev pub HasNamed : Goal → Prepared → Type 0
HasNamed aim c = lacking aim c ≡ None

-- why a command that aims so refuses the book
abbrev pub RefusesBook : Command → Goal → Prepared → Book → BookRefusal → Type 0
RefusesBook command aim c loaded NoCampaign = IsBlank loaded × OnlyReads command
RefusesBook command aim c loaded AlreadyBegun = (loaded.meta ≢ []) × (command ≡ Init)
RefusesBook command aim c loaded (BookBad error) = IsBookBad c loaded error × IsChecked command error
RefusesBook command aim c loaded (NoMutation number) = Runs command × (IsBlank loaded ⊎ IsWellFormed c.campaign loaded) × (lacking aim c ≡ Some number)
RefusesBook command aim c loaded Memory = ⊤
