-- The last commands, one after the other.
use Rattle.command_words.proofs.Common.{rules, ap, ap₂, codes, ◌≡◌, ◌∙◌, IfOk-weaker, App, app_of, with_subcommand, demo_line, first_line, leaf}
use Rattle.command_words.proofs.program.command_line.Goals as goal

pub returns : goal.returns
returns c =
    let demo_is : app_of c.in_ok-demo.demo ≡ demo_line = c.in_ok-demo.ensures.shape in
    let with_source : app_of c.in_ok-subcommand.field-0 ≡ with_subcommand first_line (leaf (codes "source")) =
    c.in_ok-subcommand.ensures.shape (search rules) ∙ ap₂ with_subcommand c.in_ok-first.ensures (ap (λ (a : App). a.top) c.new.ensures.app) in
    let with_baseline : app_of c.in_ok-subcommand-2.field-0 ≡ with_subcommand (with_subcommand first_line (leaf (codes "source"))) (leaf (codes "baseline")) =
    c.in_ok-subcommand-2.ensures.shape (search rules) ∙ ap₂ with_subcommand with_source (ap (λ (a : App). a.top) c.new-2.ensures.app) in
    IfOk-weaker c.subcommand-3.result _ _ (λ r adds. adds.shape c.in_ok-demo.ensures.local ∙ ap₂ with_subcommand with_baseline (ap (λ (a : App). a.top) demo_is)) c.subcommand-3.ensures
