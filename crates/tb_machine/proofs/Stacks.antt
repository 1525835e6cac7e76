-- Stacks of frames.
use Rattle.tb_machine.proofs.Common.{◌≡◌, ℕ, suc, zero, ◌<◌, List, [], ◌∷◌, ◌++◌, map, length, drop, drop-cons, get_or, refl, ap, arith, All-append, Node, Frame, Work, Do, Tree, works, work_of}
use Rattle.tb_machine.proofs.Common.{FramesBelow, frame_number}

-- what is pushed comes next
pub works-push : (nodes : List Node) (tree : Tree) (stack : List Frame) (x : Frame) → works nodes tree (stack ++ x ∷ []) ≡ work_of nodes tree x ∷ works nodes tree stack
works-push nodes tree [] x = refl
works-push nodes tree (y ∷ more) x = ap (λ (k : List Work). k ++ work_of nodes tree y ∷ []) (works-push nodes tree more x)

pub below-one : (limit : ℕ) (x : Frame) → frame_number x < limit → FramesBelow limit (x ∷ [])
below-one limit x h zero d k = h
below-one limit x h (suc i) d k = absurd (omega arith)

pub below-push : (limit : ℕ) (stack : List Frame) (x : Frame) → FramesBelow limit stack → frame_number x < limit → FramesBelow limit (stack ++ x ∷ [])
below-push limit stack x below h = All-append (λ y. frame_number y < limit) stack (x ∷ []) below (below-one limit x h)

-- one more statement of a block, from its end
pub block-step : (tree : Tree) (body : List ℕ) (i j : ℕ) (work : List Work) → j ≡ suc i → i < length body → Do (tree (get_or body i 0)) ∷ (map (λ k. Do (tree k)) (drop j body) ++ work) ≡ map (λ k. Do (tree k)) (drop i body) ++ work
block-step tree body i j work e h = rw (e, drop-cons body i 0) refl
