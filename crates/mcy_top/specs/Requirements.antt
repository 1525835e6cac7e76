-- Which commands look at what is required of a campaign, and where it is missed: a function of the read tests of each mutation with
-- their last words, as the texts are.
use Rattle.std.specs.Prelude.{Bool, false, not, ◌&&◌, ◌||◌, List, Option, None, Some}
use Rattle.mcy_keeper.specs.declared.book.Book.{Book}
use Rattle.result_book.specs.Rows.{groups}
use Rattle.result_book.specs.declared.answer.Answer.{Answer}
use Rattle.source_report.specs.Texts.{are_finished, has_faults}
use Rattle.source_report.specs.Requirements.{is_met}
use Rattle.project_file.specs.declared.project.Requirement.{Requirement}
use Rattle.result_book.specs.declared.campaign.Campaign.{Campaign}
use Rattle.command_words.specs.declared.command.Command.{Command}
use Rattle.command_words.specs.declared.command.Command.TheVariants.{Init, Run, List as Listing, Status, Source, Baseline, Demo}
use Rattle.campaign_plan.specs.declared.prepared.Prepared.{Prepared}

-- what a project requires of the tags is missed, where it requires something
abbrev pub is_missed : Option Requirement → Campaign → List (List Answer) → Bool
is_missed None c all = false
is_missed (Some r) c all = not (is_met c all r.percent r.counted r.among)

-- the campaign is finished, and that is missed
abbrev pub falls_short : Prepared → List (List Answer) → Bool
falls_short c all = are_finished c.campaign all && is_missed c.requirement c.campaign all

-- whether a command finds what it is to look at missed, where these are the answers of each mutation
abbrev pub misses : Command → Prepared → List (List Answer) → Bool
misses Init c all = false
misses (Run jobs stop retry) c all = falls_short c all
misses Listing c all = false
misses (Status strict) c all = (strict && has_faults c.campaign all) || falls_short c all
misses Source c all = false
misses Baseline c all = false
misses (Demo seed cells) c all = false

-- the same over a book
abbrev pub misses_on : Command → Prepared → Book → Bool
misses_on command c book = misses command c (groups c.campaign book.journal)
