use Rattle.std.proofs.Common.{◌≡◌, IfOk, string_bytes, codes, List, ℕ, sym, subst}
use Rattle.vlog_expand.specs.declared.error.ParseError.{ParseError}
use Rattle.source_faults.specs.Lines as texts
use Rattle.source_faults.proofs.line.parse_line.Goals as goal

pub returns-in-Unsupported : goal.returns-in-Unsupported
returns-in-Unsupported c =
    let named = subst (λ (name : List ℕ). IfOk c.line_on.result (λ line. string_bytes line ≡ texts.line_on c.args.file.now c.in-Unsupported.at (codes "Unsupported") name)) c.feature_name.ensures c.line_on.ensures in
    subst (λ (error : ParseError). IfOk c.line_on.result (λ line. string_bytes line ≡ texts.parse_line c.args.file.now error)) (sym c.in-Unsupported.is) named

pub returns-in-UnknownMacro : goal.returns-in-UnknownMacro
returns-in-UnknownMacro c =
    subst (λ (error : ParseError). IfOk c.line_at-in-UnknownMacro.result (λ line. string_bytes line ≡ texts.parse_line c.args.file.now error)) (sym c.in-UnknownMacro.is) c.line_at-in-UnknownMacro.ensures

pub returns-in-OpenCondition : goal.returns-in-OpenCondition
returns-in-OpenCondition c =
    subst (λ (error : ParseError). IfOk c.line_at-in-OpenCondition.result (λ line. string_bytes line ≡ texts.parse_line c.args.file.now error)) (sym c.in-OpenCondition.is) c.line_at-in-OpenCondition.ensures
