-- The stages of listing, as the code keeps them.
use Rattle.net_order.proofs.Common.{◌≡◌, ℕ, ◌<◌, Bool, true, List, [], ◌∷◌, ◌++◌, map, length, get_or, set, Option, Some, None, refl, sym, ◌∙◌, ap, insert_key, nat_cmp, map-set, get_or-map, row_of}
use Rattle.net_order.proofs.Common.{IsNext, IsPlaced, marked}

module _ {V : Type 0} (items : V → List ℕ) where
  -- the list at a place
  pub at_place : (ws : List V) (d : ℕ) (v : V) → d < length ws → v ≡ get_or ws d v → items v ≡ row_of (map items ws) d
  at_place ws d v inside e = ap items e ∙ sym (get_or-map items ws d v [] inside)

  module _ (listed : List Bool) (rs : List V) (ready : List ℕ) (ws : List V) (order : List ℕ) (c : ℕ) (v r : V) (inside : c < length rs) (e : v ≡ get_or rs c v) where
    told : (o : Option ℕ) → IsNext listed (items v) (items r) o → IsNext listed (row_of (map items rs) c) (items r) o
    told o next = rw (sym (at_place rs c v inside e)) next

    -- a node that is ready
    pub stage-ready : (keys : List ℕ) (o : Option ℕ) → o ≡ None → IsNext listed (items v) (items r) o → keys ≡ insert_key nat_cmp ready c → IsPlaced c (record { listed = listed; reads = map items rs; ready = ready; waiting = map items ws; order = order }) (record { listed = listed; reads = map items (set rs c r); ready = keys; waiting = map items ws; order = order })
    stage-ready keys o none next same = record {
      row = items r;
      unlisted = o;
      next = told o next;
      is = rw (none, map-set items rs c r, same) refl;
    }

    -- a node that waits
    pub stage-waits : (d : ℕ) (u w : V) (o : Option ℕ) → o ≡ Some d → IsNext listed (items v) (items r) o → d < length ws → u ≡ get_or ws d u → items w ≡ items u ++ c ∷ [] → IsPlaced c (record { listed = listed; reads = map items rs; ready = ready; waiting = map items ws; order = order }) (record { listed = listed; reads = map items (set rs c r); ready = ready; waiting = map items (set ws d w); order = order })
    stage-waits d u w o some next below at longer =
        let new : items w ≡ row_of (map items ws) d ++ c ∷ [] = longer ∙ ap (λ (l : List ℕ). l ++ c ∷ []) (at_place ws d u below at) in
        let same : map items (set ws d w) ≡ set (map items ws) d (row_of (map items ws) d ++ c ∷ []) = map-set items ws d w ∙ ap (λ (l : List ℕ). set (map items ws) d l) new in
        record {
          row = items r;
          unlisted = o;
          next = told o next;
          is = rw (some, map-set items rs c r, same) refl;
        }

  -- a node that is listed
  pub stage-marked : (listed : List Bool) (reads : List (List ℕ)) (ready : List ℕ) (ws : List V) (order longer : List ℕ) (c : ℕ) (w : V) → items w ≡ [] → longer ≡ order ++ c ∷ [] → record { listed = set listed c true; reads = reads; ready = ready; waiting = map items (set ws c w); order = longer } ≡ marked c (record { listed = listed; reads = reads; ready = ready; waiting = map items ws; order = order })
  stage-marked listed reads ready ws order longer c w empty more =
      let same : map items (set ws c w) ≡ set (map items ws) c [] = map-set items ws c w ∙ ap (λ (l : List ℕ). set (map items ws) c l) empty in
      rw (same, more) refl
