-- The processes of a bench are those of the source, by the statements of which its code is.
use Rattle.tb_reading.proofs.Common.{◌≡◌, ℕ, List, [], ◌∷◌, ◌++◌, map, refl, ap, ◌∙◌, Stmt, Event, Node, Tree, IsCode, tree_of, Adds, Holds, code_of, Waiting, Begun, bodies, events, begun_as}
use Rattle.tb_reading.specs.Processes.{begun}

abbrev numbers_in : List Waiting → List ℕ
numbers_in ws = map (λ w. w.body) ws

abbrev events_in : List Waiting → List Event
events_in ws = map (λ w. w.event) ws

one_same : (tree : Tree) (w : Waiting) (p : Begun) → tree w.body ≡ p.body → w.event ≡ p.event → begun_as tree w ≡ p
one_same tree w p body event = ap (λ (x : Stmt). begun w.event x) body ∙ ap (λ (e : Event). begun e p.body) event

head_stmt : (x y : Stmt) (xs ys : List Stmt) → x ∷ xs ≡ y ∷ ys → x ≡ y
head_stmt x y xs ys e = cc

tail_stmt : (x y : Stmt) (xs ys : List Stmt) → x ∷ xs ≡ y ∷ ys → xs ≡ ys
tail_stmt x y xs ys e = cc

head_event : (x y : Event) (xs ys : List Event) → x ∷ xs ≡ y ∷ ys → x ≡ y
head_event x y xs ys e = cc

tail_event : (x y : Event) (xs ys : List Event) → x ∷ xs ≡ y ∷ ys → xs ≡ ys
tail_event x y xs ys e = cc

joined : (tree : Tree) (w : Waiting) (ws : List Waiting) (p : Begun) (ps : List Begun) → tree w.body ≡ p.body → w.event ≡ p.event → map (begun_as tree) ws ≡ ps → map (begun_as tree) (w ∷ ws) ≡ p ∷ ps
joined tree w ws p ps body event more = ap (λ (x : Begun). x ∷ map (begun_as tree) ws) (one_same tree w p body event) ∙ ap (λ (xs : List Begun). p ∷ xs) more

last_same : (tree : Tree) (ws : List Waiting) (ps : List Begun) → map tree (numbers_in ws) ≡ bodies ps → events_in ws ≡ events ps → map (begun_as tree) ws ≡ ps
last_same tree [] [] stand told = refl
last_same tree [] (p ∷ ps) stand told = absurd cc
last_same tree (w ∷ ws) [] stand told = absurd cc
last_same tree (w ∷ ws) (p ∷ ps) stand told =
    joined tree w ws p ps
    (head_stmt (tree w.body) p.body (map tree (numbers_in ws)) (bodies ps) stand)
    (head_event w.event p.event (events_in ws) (events ps) told)
    (last_same tree ws ps (tail_stmt (tree w.body) p.body (map tree (numbers_in ws)) (bodies ps) stand) (tail_event w.event p.event (events_in ws) (events ps) told))

both_same : (tree : Tree) (always initial : List Waiting) (ps qs : List Begun) → map tree (numbers_in always ++ numbers_in initial) ≡ bodies ps ++ bodies qs → events_in always ≡ events ps → events_in initial ≡ events qs → (map (begun_as tree) always ≡ ps) × (map (begun_as tree) initial ≡ qs)
both_same tree [] initial [] qs stand told last = (refl, last_same tree initial qs stand last)
both_same tree [] initial (p ∷ ps) qs stand told last = absurd cc
both_same tree (w ∷ ws) initial [] qs stand told last = absurd cc
both_same tree (w ∷ ws) initial (p ∷ ps) qs stand told last =
    let more = both_same tree ws initial ps qs (tail_stmt (tree w.body) p.body (map tree (numbers_in ws ++ numbers_in initial)) (bodies ps ++ bodies qs) stand) (tail_event w.event p.event (events_in ws) (events ps) told) last in (
      joined tree w ws p ps
          (head_stmt (tree w.body) p.body (map tree (numbers_in ws ++ numbers_in initial)) (bodies ps ++ bodies qs) stand)
          (head_event w.event p.event (events_in ws) (events ps) told)
          more.0,
      more.1,
    )

pub processes_hold : (code : List Node) (always initial : List Waiting) (ps qs : List Begun) → Adds [] code (map (λ w. w.body) always ++ map (λ w. w.body) initial) (bodies ps ++ bodies qs) → map (λ w. w.event) always ≡ events ps → map (λ w. w.event) initial ≡ events qs → (trees : List Stmt) × IsCode code trees × (map (begun_as (tree_of trees)) always ≡ ps) × (map (begun_as (tree_of trees)) initial ≡ qs)
processes_hold code always initial ps qs adds told last =
    let held : Holds [] code (numbers_in always ++ numbers_in initial) (bodies ps ++ bodies qs) = code_of code (numbers_in always ++ numbers_in initial) (bodies ps ++ bodies qs) adds in
    let same = both_same (tree_of held.more) always initial ps qs held.stand told last in
    (held.more, held.whole.code, same.0, same.1)
