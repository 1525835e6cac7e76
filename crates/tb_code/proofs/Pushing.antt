-- One node more, which does what its statement does where its parts stand.
use Rattle.tb_code.proofs.Common.{◌≡◌, ℕ, ◌+◌, ◌<◌, ◌≤◌, inl, inr, List, [], ◌∷◌, ◌++◌, map, length, Some, slice_get, All, sym, ap, ◌∙◌, arith, append_assoc, length_push, All-nil, All-cons, All-head}
use Rattle.tb_code.proofs.Common.{All-push, All-weaker, slice_get_within, Stmt, out-Stmt, Node, World, Meaning, Work, execute, Tree, tree_of, node_step, PartsBelow, IsWhole, Holds, Adds, Pushed}
use Rattle.tb_code.proofs.Common.{Tests, Passes, NodePasses}
use Rattle.tb_code.proofs.Trees.{tree-front, tree-last, trees-front, get-push, all-get, all-front, all-behind}
use Rattle.tb_code.proofs.Agreeing.{step_agrees, parts_below}

-- the node does what the statement does, where its numbers are those of the parts
pub record IsNodeOf (x : Stmt) (node : Node) (numbers : List ℕ) (parts : List Stmt) : Type 0 where
  pub does : (tree : Tree) → map tree numbers ≡ parts → (m : Meaning) (rest : List Work) (w : World) → execute m (out-Stmt x) rest w ≡ node_step m tree node rest w
  pub below : (limit : ℕ) → All (λ k. k < limit) numbers → PartsBelow limit node
  -- where all in the statement passes tests, so does what the node holds itself, and all in the parts
  pub own : (t : Tests) → Passes t x → NodePasses t node
  pub inner : (t : Tests) → Passes t x → All (Passes t) parts

-- what a node did before, it does with one statement more
old-does : (nodes : List Node) (trees : List Stmt) (x : Stmt) (k : ℕ) (other : Node) → IsWhole nodes trees → slice_get nodes k ≡ Some other → (m : Meaning) (rest : List Work) (w : World) → execute m (out-Stmt (tree_of (trees ++ x ∷ []) k)) rest w ≡ node_step m (tree_of (trees ++ x ∷ [])) other rest w
old-does nodes trees x k other whole at m rest w =
    let long : length trees ≡ length nodes = whole.code.long in
    let within : k < length nodes = slice_get_within nodes k other at in
    let front : k < length trees = omega arith in
    let closed : PartsBelow (length trees) other = rw long (all-get (PartsBelow (length nodes)) nodes k other whole.closed at) in
    ap (λ (y : Stmt). execute m (out-Stmt y) rest w) (tree-front trees (x ∷ []) k front) ∙
    whole.code.does k other at m rest w ∙
    step_agrees m (length trees) (tree_of trees) (tree_of (trees ++ x ∷ [])) (λ j h. sym (tree-front trees (x ∷ []) j h)) other closed rest w

new-does : (nodes : List Node) (trees : List Stmt) (x : Stmt) (k : ℕ) (node other : Node) (numbers : List ℕ) (parts : List Stmt) → IsWhole nodes trees → IsNodeOf x node numbers parts → map (tree_of trees) numbers ≡ parts → All (λ j. j < length nodes) numbers → k ≡ length nodes → node ≡ other → (m : Meaning) (rest : List Work) (w : World) → execute m (out-Stmt (tree_of (trees ++ x ∷ []) k)) rest w ≡ node_step m (tree_of (trees ++ x ∷ [])) other rest w
new-does nodes trees x k node other numbers parts whole is stand below last same m rest w =
    let long : length trees ≡ length nodes = whole.code.long in
    let within : All (λ j. j < length trees) numbers = rw long below in
    let here : tree_of (trees ++ x ∷ []) k ≡ x = ap (tree_of (trees ++ x ∷ [])) (last ∙ sym long) ∙ tree-last trees x in
    ap (λ (y : Stmt). execute m (out-Stmt y) rest w) here ∙
    is.does (tree_of (trees ++ x ∷ [])) (trees-front trees (x ∷ []) numbers within ∙ stand) m rest w ∙
    ap (λ (z : Node). node_step m (tree_of (trees ++ x ∷ [])) z rest w) same

pub whole-push : (nodes : List Node) (trees : List Stmt) (x : Stmt) (node : Node) (numbers : List ℕ) (parts : List Stmt) → IsWhole nodes trees → IsNodeOf x node numbers parts → map (tree_of trees) numbers ≡ parts → All (λ j. j < length nodes) numbers → IsWhole (nodes ++ node ∷ []) (trees ++ x ∷ [])
whole-push nodes trees x node numbers parts whole is stand below =
    let long : length trees ≡ length nodes = whole.code.long in
    let more : length (nodes ++ node ∷ []) ≡ length nodes + 1 = length_push nodes node in
    let most : length (trees ++ x ∷ []) ≡ length trees + 1 = length_push trees x in
    let wider : length nodes ≤ length (nodes ++ node ∷ []) = omega arith in
    record {
      code = record {
        long = omega arith;
        does = λ k other at. elim (get-push nodes node other k at) [
          | inl here ↦ old-does nodes trees x k other whole here
          | inr last ↦ new-does nodes trees x k node other numbers parts whole is stand below last.0 last.1
        ];
      };
      closed = All-push (PartsBelow (length (nodes ++ node ∷ []))) nodes node
          (All-weaker (PartsBelow (length nodes)) (PartsBelow (length (nodes ++ node ∷ []))) (λ other h. parts_below (length nodes) (length (nodes ++ node ∷ [])) wider other h) nodes whole.closed)
          (parts_below (length nodes) (length (nodes ++ node ∷ [])) wider node (is.below (length nodes) below));
      passing = λ t all. All-push (NodePasses t) nodes node (whole.passing t (all-front (Passes t) trees (x ∷ []) all)) (is.own t (All-head (Passes t) x [] (all-behind (Passes t) trees (x ∷ []) all)));
    }

-- a node behind those of its parts
push-holds : (b : List Node) (trees more : List Stmt) (x : Stmt) (node : Node) (numbers : List ℕ) (parts : List Stmt) → IsNodeOf x node numbers parts → IsWhole b (trees ++ more) → map (tree_of (trees ++ more)) numbers ≡ parts → All (λ j. j < length b) numbers → ((t : Tests) → All (Passes t) parts → All (Passes t) more) → Holds trees (b ++ node ∷ []) (length b ∷ []) (x ∷ [])
push-holds b trees more x node numbers parts is whole stand below passing =
    let long : length (trees ++ more) ≡ length b = whole.code.long in
    let longer : length (b ++ node ∷ []) ≡ length b + 1 = length_push b node in
    let pushed : IsWhole (b ++ node ∷ []) (trees ++ more ++ x ∷ []) = whole-push b (trees ++ more) x node numbers parts whole is stand below in
    let here : tree_of (trees ++ more ++ x ∷ []) (length b) ≡ x = ap (tree_of (trees ++ more ++ x ∷ [])) (sym long) ∙ tree-last (trees ++ more) x in
    record {
      more = more ++ x ∷ [];
      whole = rw (← append_assoc trees more (x ∷ [])) pushed;
      stand = rw (← append_assoc trees more (x ∷ [])) (ap (λ (y : Stmt). y ∷ []) here);
      below = All-cons (λ j. j < length (b ++ node ∷ [])) (length b) [] (omega arith) (All-nil (λ j. j < length (b ++ node ∷ [])));
      passing = λ t all. let here : Passes t x = All-head (Passes t) x [] all in All-push (Passes t) more x (passing t (is.inner t here)) here;
    }

pub adds_push : (a b c : List Node) (x : Stmt) (node : Node) (number : ℕ) (numbers : List ℕ) (parts : List Stmt) → Adds a b numbers parts → IsNodeOf x node numbers parts → Pushed b node c number → Adds a c (number ∷ []) (x ∷ [])
adds_push a b c x node number numbers parts adds is pushed trees whole =
    let held = adds trees whole in
    rw (pushed.0, pushed.1) (push-holds b trees held.more x node numbers parts is held.whole held.stand held.below held.passing)
