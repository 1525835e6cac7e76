-- What a node does rests on the statements at its parts alone.
use Rattle.tb_code.proofs.Common.{◌≡◌, ℕ, zero, suc, ◌<◌, ◌≤◌, List, [], ◌∷◌, ◌++◌, map, Option, Some, None, All, refl, ap, arith, All-head, All-tail, All-weaker, Choice, Node, World, Meaning, Work}
use Rattle.tb_code.proofs.Common.{Do, Goes, Tree, node_step, optional_do, choice_at, choice_do, choice_labels, BodyBelow, PartsBelow}
use Rattle.tb_machine.specs.declared.node.Node.TheVariants as n

-- two trees that agree below a limit
abbrev pub Agree : ℕ → Tree → Tree → Type 0
Agree limit f g = (k : ℕ) → k < limit → f k ≡ g k

all_agree : (limit : ℕ) (f g : Tree) → Agree limit f g → (ks : List ℕ) → All (λ k. k < limit) ks → map (λ k. Do (f k)) ks ≡ map (λ k. Do (g k)) ks
all_agree limit f g same [] below = refl
all_agree limit f g same (k ∷ ks) below = rw (same k (All-head (λ j. j < limit) k ks below), all_agree limit f g same ks (All-tail (λ j. j < limit) k ks below)) refl

else_agrees : (limit : ℕ) (f g : Tree) → Agree limit f g → (b : Option ℕ) → BodyBelow limit b → optional_do f b ≡ optional_do g b
else_agrees limit f g same None below = refl
else_agrees limit f g same (Some k) below = rw (same k below) refl

choice_agrees : (limit : ℕ) (f g : Tree) → Agree limit f g → (items : List Choice) → All (λ i. i.body < limit) items → (o : Option ℕ) → choice_do f (choice_at items o) ≡ choice_do g (choice_at items o)
choice_agrees limit f g same items below None = refl
choice_agrees limit f g same [] below (Some i) = refl
choice_agrees limit f g same (x ∷ more) below (Some zero) = rw (same x.body (All-head (λ (i : Choice). i.body < limit) x more below)) refl
choice_agrees limit f g same (x ∷ more) below (Some (suc i)) = choice_agrees limit f g same more (All-tail (λ (i : Choice). i.body < limit) x more below) (Some i)

pub step_agrees : (m : Meaning) (limit : ℕ) (f g : Tree) → Agree limit f g → (node : Node) → PartsBelow limit node → (rest : List Work) (w : World) → node_step m f node rest w ≡ node_step m g node rest w
step_agrees m limit f g same n.Null below rest w = refl
step_agrees m limit f g same (n.SeqBlock body) below rest w = ap (λ (l : List Work). Goes (l ++ rest) w) (all_agree limit f g same body below)
step_agrees m limit f g same (n.Conditional x a b) below rest w = rw (same a below.0, else_agrees limit f g same b below.1) refl
step_agrees m limit f g same (n.Case kind x items) below rest w = rw (choice_agrees limit f g same items below (m.choice kind x (map choice_labels items) w).0) refl
step_agrees m limit f g same (n.For start x step body) below rest w = rw (same body below) refl
step_agrees m limit f g same (n.While x body) below rest w = rw (same body below) refl
step_agrees m limit f g same (n.Repeat x body) below rest w = rw (same body below) refl
step_agrees m limit f g same (n.Forever body) below rest w = rw (same body below) refl
step_agrees m limit f g same (n.EventControl event body) below rest w = rw (same body below) refl
step_agrees m limit f g same n.Finish below rest w = refl
step_agrees m limit f g same (n.SystemTaskEnable name arguments) below rest w = refl
step_agrees m limit f g same (n.Blocking a) below rest w = refl
step_agrees m limit f g same (n.Nonblocking a) below rest w = refl

-- the numbers of its parts are below each greater limit

else_below : (low high : ℕ) → low ≤ high → (b : Option ℕ) → BodyBelow low b → BodyBelow high b
else_below low high le None below = tt
else_below low high le (Some k) below = let within : k < low = below in omega arith

pub parts_below : (low high : ℕ) → low ≤ high → (node : Node) → PartsBelow low node → PartsBelow high node
parts_below low high le n.Null below = tt
parts_below low high le (n.SeqBlock body) below = All-weaker (λ k. k < low) (λ k. k < high) (λ k h. omega arith) body below
parts_below low high le (n.Conditional x a b) below = (let within : a < low = below.0 in omega arith, else_below low high le b below.1)
parts_below low high le (n.Case kind x items) below = All-weaker (λ (i : Choice). i.body < low) (λ (i : Choice). i.body < high) (λ i h. omega arith) items below
parts_below low high le (n.For start x step body) below = let within : body < low = below in omega arith
parts_below low high le (n.While x body) below = let within : body < low = below in omega arith
parts_below low high le (n.Repeat x body) below = let within : body < low = below in omega arith
parts_below low high le (n.Forever body) below = let within : body < low = below in omega arith
parts_below low high le (n.EventControl event body) below = let within : body < low = below in omega arith
parts_below low high le n.Finish below = tt
parts_below low high le (n.SystemTaskEnable name arguments) below = tt
parts_below low high le (n.Blocking a) below = tt
parts_below low high le (n.Nonblocking a) below = tt
