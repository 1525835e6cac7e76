-- Blocks and bodies by their room.
use Rattle.report_script.proofs.Common.{◌≡◌, ℕ, zero, suc, ◌-◌, ◌≤◌, List, refl, ap, arith, Row, block_by, block_in, body_in, Project}

pub block_is : (p : Project) (room indent : ℕ) (rows : List Row) → block_in p room indent rows ≡ block_by p room (body_in p room) indent rows
unfolding block_in body_in
block_is p zero indent rows = refl
block_is p (suc room) indent rows = refl

pub body_more : (p : Project) (room indent : ℕ) (rows : List Row) → 1 ≤ room → body_in p room indent rows ≡ block_in p (room - 1) indent rows
unfolding body_in
body_more p zero indent rows l = absurd (omega arith)
body_more p (suc room) indent rows l = ap (λ (r : ℕ). block_in p r indent rows) (omega arith)
