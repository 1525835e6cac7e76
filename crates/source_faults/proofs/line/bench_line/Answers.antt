use Rattle.std.proofs.Common.{◌≡◌, IfOk, string_bytes, codes, List, ℕ, sym, subst}
use Rattle.tb_faults.specs.declared.error.BenchError.{BenchError}
use Rattle.source_faults.specs.Lines as texts
use Rattle.source_faults.proofs.line.bench_line.Goals as goal

pub returns-in-Unsupported : goal.returns-in-Unsupported
returns-in-Unsupported c =
    let named = subst (λ (name : List ℕ). IfOk c.line_on.result (λ line. string_bytes line ≡ texts.line_on c.args.file.now c.in-Unsupported.at (codes "Unsupported") name)) c.feature_name.ensures c.line_on.ensures in
    subst (λ (error : BenchError). IfOk c.line_on.result (λ line. string_bytes line ≡ texts.bench_line c.args.file.now error)) (sym c.in-Unsupported.is) named
