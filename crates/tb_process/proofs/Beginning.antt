-- Processes from their starts, one after the other.
use Rattle.tb_process.proofs.Common.{◌≡◌, ℕ, ◌+◌, ◌<◌, ◌≤◌, List, [], ◌∷◌, ◌++◌, map, length, take, drop, set, get_or, append_assoc, ap, sym, ◌∙◌, subst, map-append, drop_more, take_more}
use Rattle.tb_process.proofs.Common.{take_more_set, take_all, All-push, Node, Process, Suspended, Tree, suspended, all_suspended, StackBelow, StacksBelow, Waiting, begun}

pub one_begun : (nodes : List Node) (tree : Tree) (ps : List Process) (p : Process) (ws : List Waiting) (k : ℕ) (d : Waiting) → k < length ws → suspended nodes tree p ≡ begun tree (get_or ws k d) → all_suspended nodes tree ps ++ map (begun tree) (drop k ws) ≡ map (begun tree) ws → all_suspended nodes tree (ps ++ p ∷ []) ++ map (begun tree) (drop (k + 1) ws) ≡ map (begun tree) ws
one_begun nodes tree ps p ws k d inside is before =
    let more : List Suspended = map (begun tree) (drop (k + 1) ws) in
    let split : map (begun tree) (drop k ws) ≡ begun tree (get_or ws k d) ∷ more = ap (map (begun tree)) (drop_more ws k d inside) in
    let apart : all_suspended nodes tree (ps ++ p ∷ []) ≡ all_suspended nodes tree ps ++ suspended nodes tree p ∷ [] = map-append (suspended nodes tree) ps (p ∷ []) in
    ap (λ (l : List Suspended). l ++ more) apart ∙ append_assoc (all_suspended nodes tree ps) (suspended nodes tree p ∷ []) more ∙ ap (λ (q : Suspended). all_suspended nodes tree ps ++ q ∷ more) is ∙ ap (λ (l : List Suspended). all_suspended nodes tree ps ++ l) (sym split) ∙ before

-- Processes that begin again, as far as a number.

pub next_begun : (nodes : List Node) (tree : Tree) (ps : List Process) (q : Process) (ws : List Waiting) (i : ℕ) (d : Waiting) → i < length ps → i < length ws → suspended nodes tree q ≡ begun tree (get_or ws i d) → all_suspended nodes tree (take i ps) ≡ map (begun tree) (take i ws) → all_suspended nodes tree (take (i + 1) (set ps i q)) ≡ map (begun tree) (take (i + 1) ws)
next_begun nodes tree ps q ws i d inside within is before =
    let both : all_suspended nodes tree (take i ps) ++ suspended nodes tree q ∷ [] ≡ map (begun tree) (take i ws) ++ begun tree (get_or ws i d) ∷ [] = λ j. before j ++ is j ∷ [] in
    ap (all_suspended nodes tree) (take_more_set ps i q inside) ∙ map-append (suspended nodes tree) (take i ps) (q ∷ []) ∙ both ∙ sym (map-append (begun tree) (take i ws) (get_or ws i d ∷ [])) ∙ ap (map (begun tree)) (sym (take_more ws i d within))

pub next_below : (limit : ℕ) (ps : List Process) (q : Process) (i : ℕ) → i < length ps → StackBelow limit q → StacksBelow limit (take i ps) → StacksBelow limit (take (i + 1) (set ps i q))
next_below limit ps q i inside one before = subst (StacksBelow limit) (sym (take_more_set ps i q inside)) (All-push (StackBelow limit) (take i ps) q before one)

pub each_begun : (nodes : List Node) (tree : Tree) (ps : List Process) (ws : List Waiting) (i : ℕ) → length ps ≤ i → length ws ≤ i → all_suspended nodes tree (take i ps) ≡ map (begun tree) (take i ws) → all_suspended nodes tree ps ≡ map (begun tree) ws
each_begun nodes tree ps ws i past beyond before = ap (all_suspended nodes tree) (sym (take_all i ps past)) ∙ before ∙ ap (map (begun tree)) (take_all i ws beyond)

pub each_below : (limit : ℕ) (ps : List Process) (i : ℕ) → length ps ≤ i → StacksBelow limit (take i ps) → StacksBelow limit ps
each_below limit ps i past before = subst (StacksBelow limit) (take_all i ps past) before
