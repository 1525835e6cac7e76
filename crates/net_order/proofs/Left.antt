-- The loops of nodes are those of what is left to be listed, since a node that is not listed reads its way to another one through
-- nodes that are not.
use Rattle.net_order.proofs.Common.{ℕ, List, [], ◌∷◌, inl, inr, arith, Contains, AreInside, Reads, ReadsThrough, IsOnLoop, Stage, IsStage, none_left}
use Rattle.net_order.proofs.Reading.{listed-reads}
use Rattle.net_order.proofs.Along.{loop_along}
use Rattle.net_order.proofs.Chains.{listed-no_loop}

module _ (graph : List (List ℕ)) (s : Stage) (h : IsStage graph s none_left) where
  -- what a listed node reads, directly or through others, is listed
  way-listed : (d : ℕ) (between : List ℕ) (e : ℕ) → Contains s.order d → ReadsThrough (Reads graph) d between e → Contains s.order e
  way-listed d [] e there r = listed-reads graph s.order h.order d e there r
  way-listed d (f ∷ more) e there r = way-listed f more e (listed-reads graph s.order h.order d f there r.0) r.1

  kept : (c d : ℕ) → Reads graph c d → ¬ Contains s.order d → Reads s.reads c d
  kept c d r free = elim (h.covers c d r) [ inl listed ↦ absurd (free (h.told d listed)) | inr has ↦ has ]

  left-way : (c : ℕ) (between : List ℕ) (e : ℕ) → ReadsThrough (Reads graph) c between e → ¬ Contains s.order e → ReadsThrough (Reads s.reads) c between e
  left-way c [] e r free = kept c e r free
  left-way c (d ∷ more) e r free = (kept c d r.0 (λ there. free (way-listed d more e there r.1)), left-way d more e r.1 free)

  pub loop-left : (c : ℕ) → IsOnLoop (Reads graph) c → IsOnLoop (Reads s.reads) c
  loop-left c loop = (loop.0, left-way c loop.0 c loop.1 (λ there. listed-no_loop graph s.order h.order c there loop))

  pub loop-whole : (c : ℕ) → IsOnLoop (Reads s.reads) c → IsOnLoop (Reads graph) c
  loop-whole = loop_along (Reads s.reads) (Reads graph) h.sound

  pub left-inside : AreInside s.reads
  left-inside c d r = omega (arith, h.inside c d (h.sound c d r), h.rows)
