-- Blocks and bodies by their room.
use Rattle.tag_script.proofs.Common.{◌≡◌, ℕ, zero, suc, ◌-◌, ◌≤◌, List, refl, ap, arith, Row, Known, Project}
use Rattle.tag_script.specs.Blocks.{block_by, block_in, body_in}

pub block_is : (p : Project) (room indent : ℕ) (known : Known) (rows : List Row) → block_in p room indent known rows ≡ block_by p room (body_in p room) indent known rows
unfolding block_in body_in
block_is p zero indent known rows = refl
block_is p (suc room) indent known rows = refl

pub body_more : (p : Project) (room indent : ℕ) (known : Known) (rows : List Row) → 1 ≤ room → body_in p room indent known rows ≡ block_in p (room - 1) indent known rows
unfolding body_in
body_more p zero indent known rows l = absurd (omega arith)
body_more p (suc room) indent known rows l = ap (λ (r : ℕ). block_in p r indent known rows) (omega arith)
