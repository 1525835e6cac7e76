-- The name of the subcommand and its rows make one pair.
use Rattle.command_words.proofs.Common.{rules, ap, ap₂, sym, codes, true≢false, ◌≡◌, ◌∙◌, List, Option, Some, None, option_map, is_some, option_map_or, IfOk-weaker, found_of, rows_of}
use Rattle.command_words.proofs.Common.{subcommand_rows_of, first_value-rows, asked_by, asked_named, demo_by, status_by}
use Rattle.clap.specs.Words.{Row, Text, first_of}
use Rattle.command_words.proofs.reading.matched.Goals as goal

paired : {X : Type 0} (f : X → Text × List Row) (o : Option X) (name : Text) (rows : List Row) → Some name ≡ option_map (λ b. (f b).0) o
    → Some rows ≡ option_map (λ (p : Text × List Row). p.1) (option_map f o) → option_map f o ≡ Some (name, rows)
paired f None name rows n r = absurd (true≢false (ap is_some n))
paired f (Some b) name rows n r = λ i. Some (option_map_or (λ x. x) (sym n i) name, option_map_or (λ x. x) (sym r i) rows)

-- what is asked by a name that is known
named_as : (o : Option (Text × List Row)) (name known : Text) (rows : List Row) → o ≡ Some (name, rows) → name ≡ known → asked_named known rows ≡ asked_by o
named_as o name known rows found is = sym (ap asked_by found ∙ ap (λ n. asked_named n rows) is)

pub returns-in-run : goal.returns-in-run
returns-in-run c =
    let rows : List Row = rows_of (found_of c.in-Some.inner.now) in
    let found : subcommand_rows_of c.args.matches.now ≡ Some (c.in-Some.name.now, rows) = paired _ _ _ rows c.in-Some.ensures.name c.in-Some.ensures.rows in
    let is_run : c.in-Some.name.now ≡ codes "run" = search rules in
    IfOk-weaker c.run_found.result _ _ (λ r e. e ∙ named_as _ _ (codes "run") rows found is_run) c.run_found.ensures

pub returns-in-status : goal.returns-in-status
returns-in-status c =
    let rows : List Row = rows_of (found_of c.in-Some.inner.now) in
    let found : subcommand_rows_of c.args.matches.now ≡ Some (c.in-Some.name.now, rows) = paired _ _ _ rows c.in-Some.ensures.name c.in-Some.ensures.rows in
    let strict = c.get_str.ensures ∙ first_value-rows (found_of c.in-Some.inner.now) (codes "strict") in
    let is_status : c.in-Some.name.now ≡ codes "status" = search rules in
    ap (λ asked. Some asked) (c.status_by.ensures ∙ ap status_by strict) ∙ named_as _ _ (codes "status") rows found is_status

pub returns-in-demo : goal.returns-in-demo
returns-in-demo c =
    let rows : List Row = rows_of (found_of c.in-Some.inner.now) in
    let found : subcommand_rows_of c.args.matches.now ≡ Some (c.in-Some.name.now, rows) = paired _ _ _ rows c.in-Some.ensures.name c.in-Some.ensures.rows in
    let seed = c.get_str-in-demo.ensures ∙ first_value-rows (found_of c.in-Some.inner.now) (codes "seed") in
    let cells = c.get_str-in-demo-2.ensures ∙ first_value-rows (found_of c.in-Some.inner.now) (codes "cells") in
    let value : c.demo_by.result ≡ demo_by (first_of (codes "seed") rows) (first_of (codes "cells") rows) = c.demo_by.ensures ∙ ap₂ demo_by seed cells in
    let is_demo : c.in-Some.name.now ≡ codes "demo" = search rules in
    value ∙ named_as _ _ (codes "demo") rows found is_demo
