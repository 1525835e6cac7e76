use Rattle.vlog_token.proofs.Common.{false, drop, ap, ◌∙◌, take_rest, IsStringValue, string_bytes, unescaped}
use Rattle.std.specs.Prelude.{◌≡◌}
use Rattle.vlog_token.proofs.StringValues.{string_value_of}
use Rattle.vlog_token.proofs.quoted.string_value.Goals as goal
use Rattle.std.proofs.lemmas.Result.{IfOk-weaker}

pub returns-in-len1-up : goal.returns-in-len1-up
returns-in-len1-up c =
    let text = c.args.text.now in
    let body = take_rest c.as_bytes.result.now 1 ∙ ap (drop 1) c.as_bytes.ensures.value in
    record {
      value = IfOk-weaker c.unescape.result _ (λ v. IsStringValue text v.items)
          (λ v is. string_value_of text v.items (is ∙ ap (unescaped false) body)) c.unescape.ensures;
      bytes = IfOk-weaker c.unescape.result _ (λ v. v.items ≡ string_bytes text)
          (λ v is. is ∙ ap (unescaped false) body) c.unescape.ensures;
    }
