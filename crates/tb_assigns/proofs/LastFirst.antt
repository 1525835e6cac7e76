-- The last window is written first.
use Rattle.tb_assigns.proofs.Common.{◌≡◌, ℕ, ◌+◌, ◌/◌, ◌^◌, List, [], ◌∷◌, ◌++◌, ap, sym, ◌∙◌, arith, append_assoc, append-nil, map-append, shr-shr, Update, Piece, Window, window_update, total_size}
use Rattle.tb_assigns.proofs.Common.{updates_of, window_of, windows_of}
use Rattle.tb_assigns.proofs.Clips.{whole}

total_last : (ws : List Window) (w : Window) → total_size (ws ++ w ∷ []) ≡ w.size + total_size ws
total_last [] w = omega arith
total_last (x ∷ ws) w = let e = total_last ws w in omega (arith, e)

last_first : (ws : List Window) (w : Window) (v : ℕ) → updates_of (ws ++ w ∷ []) v ≡ window_update w v ++ updates_of ws (v / 2 ^ w.size)
last_first [] w v = ap (window_update w) (whole v) ∙ sym (append-nil (window_update w v))
last_first (x ∷ ws) w v =
    let bits_left : v / 2 ^ total_size (ws ++ w ∷ []) ≡ v / 2 ^ w.size / 2 ^ total_size ws = ap (λ (n : ℕ). v / 2 ^ n) (total_last ws w) ∙ sym (shr-shr v w.size (total_size ws)) in
    ap (λ (l : List Update). l ++ window_update x (v / 2 ^ total_size (ws ++ w ∷ []))) (last_first ws w v)
    ∙ ap (λ (n : ℕ). (window_update w v ++ updates_of ws (v / 2 ^ w.size)) ++ window_update x n) bits_left
    ∙ append_assoc (window_update w v) (updates_of ws (v / 2 ^ w.size)) (window_update x (v / 2 ^ w.size / 2 ^ total_size ws))

-- one piece more, from the right end
pub piece_written : (rest before : List Piece) (piece : Piece) (done added after : List Update) (v r : ℕ) (total : List Update) → before ≡ rest ++ piece ∷ [] → added ≡ window_update (window_of piece) v → after ≡ done ++ added → r ≡ v / 2 ^ piece.size → done ++ updates_of (windows_of before) v ≡ total → after ++ updates_of (windows_of rest) r ≡ total
piece_written rest before piece done added after v r total split add pushed left whole_ =
    ap (λ (l : List Update). l ++ updates_of (windows_of rest) r) (pushed ∙ ap (λ (l : List Update). done ++ l) add)
    ∙ append_assoc done (window_update (window_of piece) v) (updates_of (windows_of rest) r)
    ∙ ap (λ (n : ℕ). done ++ (window_update (window_of piece) v ++ updates_of (windows_of rest) n)) left
    ∙ ap (λ (l : List Update). done ++ l) (sym (last_first (windows_of rest) (window_of piece) v))
    ∙ ap (λ (l : List Window). done ++ updates_of l v) (sym (map-append window_of rest (piece ∷ [])))
    ∙ ap (λ (l : List Piece). done ++ updates_of (windows_of l) v) (sym split)
    ∙ whole_
