-- The text of each command, from the read tests of each mutation with their last words.
use Rattle.std.specs.Prelude.{ℕ, List, [], ◌++◌, length, codes}
use Rattle.mcy_keeper.specs.declared.book.Book.{Book}
use Rattle.result_book.specs.Rows.{groups}
use Rattle.result_book.specs.declared.answer.Answer.{Answer}
use Rattle.source_report.specs.Lists.{list_lines}
use Rattle.source_report.specs.Sources.{file_texts}
use Rattle.source_report.specs.Texts.{lines, number_line}
use Rattle.command_words.specs.declared.command.Command.{Command}
use Rattle.command_words.specs.declared.command.Command.TheVariants.{Init, Run, List as Listing, Status, Source, Baseline, Demo}
use Rattle.campaign_plan.specs.declared.prepared.Prepared.{Prepared}
use Rattle.made_project.specs.Summaries.{summary_text}

-- the sites that there are, and the mutations that were taken
abbrev pub init_text : Prepared → List ℕ
init_text c = number_line (codes "Sites") c.site_count ++ number_line (codes "Mutations") (length c.campaign.mutations)

-- the text of a command where these are the answers of each mutation; what the benches say of the design itself is no text of these
abbrev pub answers_text : Command → Prepared → List (List Answer) → List ℕ
answers_text Init c all = init_text c
answers_text (Run jobs stop retry) c all = lines c.campaign all
answers_text Listing c all = list_lines c.campaign 0 c.campaign.mutations all
answers_text (Status strict) c all = lines c.campaign all
answers_text Source c all = file_texts c.campaign all 0 c.files
answers_text Baseline c all = []
answers_text (Demo seed cells) c all = summary_text seed cells c.site_count (lines c.campaign all)

-- The text of a command over a book. It is that over its history, whose read tests are the same (`HistoriesAreWellFormed` of `result_book`).
abbrev pub text_of : Command → Prepared → Book → List ℕ
text_of command c book = answers_text command c (groups c.campaign book.journal)
