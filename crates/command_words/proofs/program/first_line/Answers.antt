-- The settings and the first commands, one after the other.
use Rattle.command_words.proofs.Common.{rules, ap, ap₂, codes, true, ◌≡◌, ◌∙◌, IfOk-weaker, App, app_of, with_subcommand, bare_program, leaf, run_line, run_shape, status_line}
use Rattle.command_words.proofs.program.first_line.Goals as goal

pub returns : goal.returns
returns c =
    let run_is : app_of c.in_ok-run.run' ≡ run_line = c.in_ok-run.ensures.shape in
    let status_is : app_of c.in_ok-status.status ≡ status_line = c.in_ok-status.ensures.shape in
    let bare_is : app_of c.disable_help_subcommand.result ≡ bare_program = rw (c.disable_help_subcommand.ensures, c.disable_help_flag.ensures, c.no_binary_name.ensures)
    (ap (λ (a : App). record a { top = record a.top { no_binary_name = true; disable_help_flag = true; disable_help_subcommand = true } }) c.new.ensures.app) in
    let with_init : app_of c.in_ok-subcommand.field-0 ≡ with_subcommand bare_program (leaf (codes "init")) = c.in_ok-subcommand.ensures.shape (search rules)
    ∙ ap₂ with_subcommand bare_is (ap (λ (a : App). a.top) c.new-2.ensures.app) in
    let with_run : app_of c.in_ok-subcommand-2.field-0 ≡ with_subcommand (with_subcommand bare_program (leaf (codes "init"))) run_shape = c.in_ok-subcommand-2.ensures.shape c.in_ok-run.ensures.local
    ∙ ap₂ with_subcommand with_init (ap (λ (a : App). a.top) run_is) in
    let with_list : app_of c.in_ok-subcommand-3.field-0 ≡ with_subcommand (with_subcommand (with_subcommand bare_program (leaf (codes "init"))) run_shape) (leaf (codes "list")) =
    c.in_ok-subcommand-3.ensures.shape (search rules) ∙ ap₂ with_subcommand with_run (ap (λ (a : App). a.top) c.new-3.ensures.app) in
    IfOk-weaker c.subcommand-4.result _ _ (λ r adds. adds.shape c.in_ok-status.ensures.local ∙ ap₂ with_subcommand with_list (ap (λ (a : App). a.top) status_is)) c.subcommand-4.ensures
