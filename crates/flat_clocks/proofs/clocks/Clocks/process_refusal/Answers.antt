use Rattle.flat_clocks.proofs.Common.{Stmt, names_of, clock_names, stmt_reads, clocks_in}
use Rattle.flat_clocks.proofs.Firsts.{moved}
use Rattle.flat_clocks.proofs.clocks.Clocks.process_refusal.Goals as goal

pub returns : goal.returns
returns c = c.earlier.ensures _ _ c.gated-first.ensures (moved (λ (x : Stmt). stmt_reads x (clock_names (clocks_in c.args.self.now) (names_of c.args.scope.now))) _ _ _ c.get.ensures c.in_ok-later.ensures)
