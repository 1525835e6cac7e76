-- Laws of campaigns: a project and its source have one, and it defines one text of each command.
use Rattle.std.specs.Prelude.{◌≡◌, ℕ, List}
use Rattle.mcy_keeper.specs.declared.book.Book.{Book}
use Rattle.campaign_plan.specs.declared.prepared.Prepared.{Prepared}
use Rattle.result_book.specs.declared.answer.Answer.{Answer}
use Rattle.campaign_plan.specs.Campaigns.{IsPlan}
use Rattle.result_book.specs.Rows.{IsFinished, IsWellFormed}
use Rattle.campaign_run.specs.Rows.{IsGood, IsRightWord}
use Rattle.command_words.specs.declared.command.Command.{Command}
use Rattle.mcy_top.specs.Texts.{text_of}
use Rattle.mcy_top.specs.Requirements.{misses_on}
use Rattle.mcy_top.specs.Defined.{given_up, is_given_up, AreAllAnswers, IsFinalText, Pair}

-- the words of tests for the one campaign are words for the other
abbrev pub SayTheSame : Prepared → Prepared → Type 0
SayTheSame c d = (m t bound word : ℕ) → IsRightWord c m t bound word → IsRightWord d m t bound word

-- Campaigns with the same meta, which has the project and its sources, are the same but for parts of their benches, and for limits of
-- cycles that are to follow from these. They say the same of each mutation under each bound.
abbrev pub CampaignsAreOne : Type 0
CampaignsAreOne = (c d : Prepared) → IsPlan c → IsPlan d → c.campaign.meta ≡ d.campaign.meta → (c ≡ record d { trials = c.trials; cycles = c.cycles }) × SayTheSame c d

-- A campaign and its given-up pairs define the answers of each mutation once,
abbrev pub AnswersAreOne : Type 0
AnswersAreOne = (c : Prepared) (pairs : List Pair) (all others : List (List Answer)) → AreAllAnswers c pairs 0 all → AreAllAnswers c pairs 0 others → all ≡ others

-- and so one text of each command.
abbrev pub FinalTextsAreOne : Type 0
FinalTextsAreOne = (command : Command) (c : Prepared) (pairs : List Pair) (text other : List ℕ) → IsFinalText command c pairs text → IsFinalText command c pairs other → text ≡ other

-- a good book of the campaign in which every mutation is finished
pub record IsEnded (c : Prepared) (book : Book) : Type 0 where
  pub good : IsGood book
  pub form : IsWellFormed c.campaign book
  pub finished : IsFinished c.campaign book

-- the same pairs have UNKNOWN as their last words in the books, in any order
abbrev pub GaveUpSame : Book → Book → Type 0
GaveUpSame book other = (m t : ℕ) → is_given_up (given_up book.journal) m t ≡ is_given_up (given_up other.journal) m t

-- Books of one campaign that are finished and gave up the same pairs have one text of each command, be it the status, the list of
-- the mutations or the sources line by line, whatever the format, the order and the bounds of their rows, and whatever was run again.
abbrev pub FinishedTextsAreOne : Type 0
FinishedTextsAreOne = (command : Command) (c : Prepared) (book other : Book) → IsPlan c → IsEnded c book → IsEnded c other → GaveUpSame book other → text_of command c book ≡ text_of command c other

-- So they miss the same of what is required, and a command that is done over one ends as one that is done over the other.
abbrev pub FinishedBooksMissTheSame : Type 0
FinishedBooksMissTheSame = (command : Command) (c : Prepared) (book other : Book) → IsPlan c → IsEnded c book → IsEnded c other → GaveUpSame book other → misses_on command c book ≡ misses_on command c other
