-- Ways from node to node, and what holds of a relation between nodes and so of one that relates the same nodes.
use Rattle.net_order.proofs.Common.{ℕ, List, [], ◌∷◌, ◌++◌, take, get_or, ReadsThrough, IsOnLoop, IsReady, IsLeastReady, IsOrder, Never, IsFirst}

-- a way, and one step more
pub through_more : (R : ℕ → ℕ → Type 0) (c : ℕ) (between : List ℕ) (d e : ℕ) → ReadsThrough R c between d → R d e → ReadsThrough R c (between ++ d ∷ []) e
through_more R c [] d e h r = (h, r)
through_more R c (b ∷ more) d e h r = (h.0, through_more R b more d e h.1 r)

module _ (R S : ℕ → ℕ → Type 0) (to : (c d : ℕ) → R c d → S c d) where
  through : (c : ℕ) (between : List ℕ) (e : ℕ) → ReadsThrough R c between e → ReadsThrough S c between e
  through c [] e r = to c e r
  through c (d ∷ more) e r = (to c d r.0, through d more e r.1)

  pub loop_along : (c : ℕ) → IsOnLoop R c → IsOnLoop S c
  loop_along c loop = (loop.0, through c loop.0 c loop.1)

  ready_back : (count : ℕ) (listed : List ℕ) (c : ℕ) → IsReady count S listed c → IsReady count R listed c
  ready_back count listed c h = record { node = h.node; unlisted = h.unlisted; reads = λ d r. h.reads d (to c d r) }

module _ (R S : ℕ → ℕ → Type 0) (to : (c d : ℕ) → R c d → S c d) (back : (c d : ℕ) → S c d → R c d) where
  pub never_along : Never (IsOnLoop R) → Never (IsOnLoop S)
  never_along never c loop = never c (loop_along S R back c loop)

  pub order_along : (count : ℕ) (order : List ℕ) → IsOrder count R order → IsOrder count S order
  order_along count order h = record {
    places = λ k l.
        let old : IsLeastReady count R (take k order) (get_or order k 0) = h.places k l in
        record {
          ready = ready_back S R back count (take k order) (get_or order k 0) old.ready;
          least = λ d ready. old.least d (ready_back R S to count (take k order) d ready);
        };
    each = h.each;
  }

  pub first_along : (c : ℕ) → IsFirst (IsOnLoop R) c → IsFirst (IsOnLoop S) c
  first_along c h = record {
    here = loop_along R S to c h.here;
    before = λ k below loop. h.before k below (loop_along S R back k loop);
  }
