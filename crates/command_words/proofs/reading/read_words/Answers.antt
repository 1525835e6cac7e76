-- What the parse's clauses say of the command line, turned into what the words ask for.
use Rattle.command_words.proofs.Common.{rules, ap, subst, refl, sym, true, false, true≢false, inl, inr, map, string_bytes, ◌≡◌, ◌∙◌, List, [], bytes_eq, list_any, IfOk-weaker, App, app_of, is_simple}
use Rattle.command_words.proofs.Common.{is_simple_and_free, kind_of, subcommand_rows_of, list_any-map, clap_on_literals, asked_by, command_line}
use Rattle.clap.specs.Words.{IsAmong, Text, fault_of, subcommand_of}
use Rattle.command_words.proofs.RunTurns.{IsClean}
use Rattle.command_words.proofs.Turns.{dashes}
use Rattle.command_words.proofs.Whole.{accepted, clean_from, refused, with_dashes}
use Rattle.command_words.proofs.WordParts.{strings_are_texts}
use Rattle.command_words.proofs.reading.read_words.Goals as goal

is_plain : is_simple command_line ≡ true
unfolding clap_on_literals
is_plain = refl

is_free : is_simple_and_free command_line ≡ true
unfolding clap_on_literals
is_free = refl

pub returns-then-has_dashes : goal.returns-then-has_dashes
returns-then-has_dashes c =
    let some : list_any (λ word. bytes_eq (string_bytes word) dashes) c.args.words.now ≡ true = search rules in
    with_dashes (map string_bytes c.args.words.now) (sym (list_any-map (λ word. bytes_eq word dashes) string_bytes c.args.words.now) ∙ some)

pub returns-in-Ok : goal.returns-in-Ok
returns-in-Ok c =
    let words : List Text = map string_bytes c.args.words.now in
    let none : list_any (λ word. bytes_eq (string_bytes word) dashes) c.args.words.now ≡ false = search rules in
    let clean : IsClean words = clean_from words (strings_are_texts c.args.words.now) (sym (list_any-map (λ word. bytes_eq word dashes) string_bytes c.args.words.now) ∙ none) in
    let line_is : app_of c.in_ok-command.command ≡ command_line = c.in_ok-command.ensures in
    let free : is_simple_and_free (app_of c.in_ok-command.command) ≡ true = ap is_simple_and_free line_is ∙ is_free in
    let no_fault : fault_of command_line words ≡ [] = ap (λ (a : App). fault_of a words) (sym line_is) ∙ c.in-Ok.ensures.kinds free in
    let sub : subcommand_rows_of c.in-Ok.matches ≡ subcommand_of command_line words = (c.in-Ok.ensures.matches (ap is_simple line_is ∙ is_plain)).1
    ∙ ap (λ (a : App). subcommand_of a words) line_is in
    IfOk-weaker c.matched.result _ _ (λ r e. e ∙ ap asked_by sub ∙ accepted words clean no_fault) c.matched.ensures

pub returns : goal.returns
returns c =
    let words : List Text = map string_bytes c.args.words.now in
    let none : list_any (λ word. bytes_eq (string_bytes word) dashes) c.args.words.now ≡ false = search rules in
    let clean : IsClean words = clean_from words (strings_are_texts c.args.words.now) (sym (list_any-map (λ word. bytes_eq word dashes) string_bytes c.args.words.now) ∙ none) in
    let line_is : app_of c.in_ok-command.command ≡ command_line = c.in_ok-command.ensures in
    let free : is_simple_and_free (app_of c.in_ok-command.command) ≡ true = ap is_simple_and_free line_is ∙ is_free in
    elim (c.in-Err.ensures.kinds free) [
      | inl memory ↦ let same : c.eq.result ≡ true = rw (c.kind.ensures, memory) at c.eq.ensures in absurd (true≢false (sym same ∙ c.if-eq.false))
      | inr among ↦ refused words clean (kind_of c.in-Err.error) (subst (λ (a : App). IsAmong (kind_of c.in-Err.error) (fault_of a words)) line_is among)
    ]
