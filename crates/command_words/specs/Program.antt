-- The command line as `clap` knows it, and the command that its matches give.
use Rattle.std.specs.Prelude.{ℕ, true, false, Option, Some, None, List, [], if◌then◌else◌, bytes_eq, codes, option_and_then, unwrap_or}
use Rattle.clap.specs.Words.{App, Row, Rule, Shape, Text, first_of, new_app, new_rule, with_rule, with_subcommand}
use Rattle.clap.specs.declared.builder.action.ArgAction.TheVariants.{Set, SetTrue}
use Rattle.command_words.specs.Commands.{cells_number, demo_with, jobs_number, mutation_numbers, plainly, retry_limit, seed_number, stop_number}
use Rattle.command_words.specs.declared.asked.Asked.{Asked}
use Rattle.command_words.specs.declared.command.Command.TheVariants.{Init, Run, List as Listing, Status, Source, Baseline}

-- For proofs alone.

-- no word before the commands is the program's name, and none asks for help
abbrev pub bare_program : App
bare_program = record {
  top = record (new_app (codes "mcy")).top {
    no_binary_name = true;
    disable_help_flag = true;
    disable_help_subcommand = true;
  };
  subs = [];
}

-- `-j N`, `-jN` or `-j=N`; 106 is the code of `j`
abbrev pub jobs_rule : Rule
jobs_rule = record (new_rule (codes "jobs")) { short = Some 106; action = Some Set }

-- `--stop-after N` or `--stop-after=N`
abbrev pub stop_rule : Rule
stop_rule = record (new_rule (codes "stop-after")) { long = Some (codes "stop-after"); action = Some Set }

-- `--retry N` or `--retry=N`
abbrev pub retry_rule : Rule
retry_rule = record (new_rule (codes "retry")) { long = Some (codes "retry"); action = Some Set }

-- `--mutations N,N` or `--mutations=N,N`
abbrev pub mutations_rule : Rule
mutations_rule = record (new_rule (codes "mutations")) { long = Some (codes "mutations"); action = Some Set }

abbrev pub run_line : App
run_line = with_rule (with_rule (with_rule (with_rule (new_app (codes "run")) jobs_rule) stop_rule) retry_rule) mutations_rule

abbrev pub run_shape : Shape
run_shape = run_line.top

-- `status --strict`
abbrev pub strict_rule : Rule
strict_rule = record (new_rule (codes "strict")) { long = Some (codes "strict"); action = Some SetTrue }

abbrev pub status_line : App
status_line = with_rule (new_app (codes "status")) strict_rule

abbrev pub status_shape : Shape
status_shape = status_line.top

-- `demo SEED CELLS`
abbrev pub seed_rule : Rule
seed_rule = record (new_rule (codes "seed")) { action = Some Set }

abbrev pub cells_rule : Rule
cells_rule = record (new_rule (codes "cells")) { action = Some Set }

abbrev pub demo_line : App
demo_line = with_rule (with_rule (new_app (codes "demo")) seed_rule) cells_rule

abbrev pub demo_shape : Shape
demo_shape = demo_line.top

abbrev pub leaf : Text → Shape
leaf name = (new_app name).top

-- a subcommand for each command
abbrev pub first_line : App
first_line = with_subcommand (with_subcommand (with_subcommand (with_subcommand bare_program (leaf (codes "init"))) run_shape) (leaf (codes "list"))) status_shape

abbrev pub command_line : App
command_line = with_subcommand (with_subcommand (with_subcommand first_line (leaf (codes "source"))) (leaf (codes "baseline"))) demo_shape

-- what an option's value says by this reading, where the option stands; none where its value says nothing
abbrev pub said_by : {N : Type 0} → (Text → Option N) → Option Text → (Option N → Option Asked) → Option Asked
said_by read None next = next None
said_by read (Some word) next = option_and_then (λ said. next (Some said)) (read word)

-- a run with these numbers, at these mutations
abbrev pub run_at : ℕ → Option ℕ → Option ℕ → List ℕ → Asked
run_at jobs stop_after retry mutations = record { command = Run jobs stop_after retry; mutations = mutations }

-- `run` with these numbers, and the values of its other options, as far as it has them
abbrev pub choosing_by : ℕ → Option ℕ → Option ℕ → Option Text → Option Asked
choosing_by jobs stop_after retry mutations = said_by mutation_numbers mutations (λ numbers. Some (run_at jobs stop_after retry (unwrap_or numbers [])))

abbrev pub retrying_by : ℕ → Option ℕ → Option Text → Option Text → Option Asked
retrying_by jobs stop_after retry mutations = said_by retry_limit retry (λ limit. choosing_by jobs stop_after limit mutations)

abbrev pub stopping_by : ℕ → Option Text → Option Text → Option Text → Option Asked
stopping_by jobs stop_after retry mutations = said_by stop_number stop_after (λ number. retrying_by jobs number retry mutations)

-- `run` with the values of its options; one test is under way at once where none says how many
abbrev pub run_by : Option Text → Option Text → Option Text → Option Text → Option Asked
run_by jobs stop_after retry mutations = said_by jobs_number jobs (λ number. stopping_by (unwrap_or number 1) stop_after retry mutations)

-- by what was found of them
abbrev pub run_found : List Row → Option Asked
run_found rows = run_by (first_of (codes "jobs") rows) (first_of (codes "stop-after") rows) (first_of (codes "retry") rows) (first_of (codes "mutations") rows)

-- `demo` with its words, where both stand
abbrev pub demo_by : Option Text → Option Text → Option Asked
demo_by seed cells = demo_with (option_and_then seed_number seed) (option_and_then cells_number cells)

-- `status`, with the text of its flag: that it was given
abbrev pub status_by : Option Text → Asked
status_by strict = plainly (Status (elim strict [ None ↦ false | Some text ↦ bytes_eq text (codes "true") ]))

-- what is asked by the name of the subcommand and what was found behind it
abbrev pub asked_named : Text → List Row → Option Asked
asked_named name rows =
    if bytes_eq name (codes "init") then Some (plainly Init)
    else if bytes_eq name (codes "run") then run_found rows
    else if bytes_eq name (codes "list") then Some (plainly Listing)
    else if bytes_eq name (codes "status") then Some (status_by (first_of (codes "strict") rows))
    else if bytes_eq name (codes "source") then Some (plainly Source)
    else if bytes_eq name (codes "baseline") then Some (plainly Baseline)
    else if bytes_eq name (codes "demo") then demo_by (first_of (codes "seed") rows) (first_of (codes "cells") rows)
    else None

abbrev pub asked_by : Option (Text × List Row) → Option Asked
asked_by None = None
asked_by (Some p) = asked_named p.0 p.1
