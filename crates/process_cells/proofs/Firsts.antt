-- The first assignments of variables, one after the other.
use Rattle.process_cells.proofs.Common.{◌≡◌, ℕ, ◌+◌, ◌<◌, ◌≤◌, Bool, true, false, ◌||◌, List, [], ◌∷◌, ◌++◌, map, take, length, get_or, refl, sym, ap, ◌∙◌, arith, append-nil, if◌then◌else◌}
use Rattle.process_cells.proofs.Common.{map-append, take_more, take-length, Target, distinct, stands, stands-distinct, Write, target_of, with_write}
use Rattle.proc_muxes.proofs.Joining.{seen_after, distinct-append, stands-after}

or_nothing : (b : Bool) → (b || false) ≡ b
or_nothing true = refl
or_nothing false = refl

-- one target more
distinct_more : (ts : List Target) (x : Target) → distinct (ts ++ x ∷ []) ≡ (if stands x.is_blocking ts x.number then distinct ts else distinct ts ++ x ∷ [])
distinct_more ts x = distinct-append [] ts (x ∷ []) ∙ go (stands x.is_blocking (seen_after [] ts) x.number) (stands-after x.is_blocking [] ts x.number ∙ or_nothing (stands x.is_blocking ts x.number))
  where
    go : (b : Bool) → b ≡ stands x.is_blocking ts x.number → distinct ts ++ (if b then [] else x ∷ []) ≡ (if stands x.is_blocking ts x.number then distinct ts else distinct ts ++ x ∷ [])
    go true e = append-nil (distinct ts) ∙ sym (ap (λ (c : Bool). if c then distinct ts else distinct ts ++ x ∷ []) (sym e))
    go false e = sym (ap (λ (c : Bool). if c then distinct ts else distinct ts ++ x ∷ []) (sym e))

written_more : (found : List Write) (w : Write) → map target_of (with_write found w) ≡ (if stands w.is_blocking (map target_of found) w.number then map target_of found else map target_of found ++ target_of w ∷ [])
written_more found w = go (stands w.is_blocking (map target_of found) w.number)
  where
    go : (b : Bool) → map target_of (if b then found else found ++ w ∷ []) ≡ (if b then map target_of found else map target_of found ++ target_of w ∷ [])
    go true = refl
    go false = map-append target_of found (w ∷ [])

one_more : (found : List Write) (ts : List Target) (w : Write) → map target_of found ≡ distinct ts → map target_of (with_write found w) ≡ distinct (ts ++ target_of w ∷ [])
one_more found ts w e =
    written_more found w
    ∙ ap (λ (l : List Target). if stands w.is_blocking l w.number then l else l ++ target_of w ∷ []) e
    ∙ ap (λ (b : Bool). if b then distinct ts else distinct ts ++ target_of w ∷ []) (stands-distinct w.is_blocking ts w.number)
    ∙ sym (distinct_more ts (target_of w))

pub firsts_more : (found next : List Write) (ws : List Write) (k : ℕ) (d : Write) → k < length ws → map target_of found ≡ distinct (map target_of (take k ws)) → next ≡ with_write found (get_or ws k d) → map target_of next ≡ distinct (map target_of (take (k + 1) ws))
firsts_more found next ws k d less e is =
    let w : Write = get_or ws k d in
    ap (map target_of) is ∙ one_more found (map target_of (take k ws)) w e
    ∙ ap distinct (sym (map-append target_of (take k ws) (w ∷ [])))
    ∙ ap (λ (l : List Write). distinct (map target_of l)) (sym (take_more ws k d less))

pub firsts_all : (found ws : List Write) (k : ℕ) → length ws ≤ k → k ≤ length ws → map target_of found ≡ distinct (map target_of (take k ws)) → map target_of found ≡ distinct (map target_of ws)
firsts_all found ws k above below e =
    let same : k ≡ length ws = omega arith in
    e ∙ ap (λ (l : List Write). distinct (map target_of l)) (ap (λ (n : ℕ). take n ws) same ∙ take-length ws)

pub numbers_all : (firsts : List Write) (ts : List Target) → map target_of firsts ≡ ts → map (λ (w : Write). w.number) firsts ≡ map (λ (x : Target). x.number) ts
numbers_all firsts ts e = numbers firsts ∙ ap (map (λ (x : Target). x.number)) e
  where
    numbers : (l : List Write) → map (λ (w : Write). w.number) l ≡ map (λ (x : Target). x.number) (map target_of l)
    numbers [] = refl
    numbers (w ∷ more) = ap (λ (ns : List ℕ). w.number ∷ ns) (numbers more)
