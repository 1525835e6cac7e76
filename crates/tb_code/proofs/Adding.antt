-- What is added to nodes in two steps, and in none.
use Rattle.tb_code.proofs.Common.{◌≡◌, ℕ, ◌+◌, ◌<◌, List, [], ◌∷◌, ◌++◌, map, length, get_or, take, All, None, Some, refl, ◌∙◌, arith, append_assoc, append-nil, length-append, map-append, take_more}
use Rattle.tb_code.proofs.Common.{All-nil, All-append, All-weaker, Stmt, Node, tree_of, PartsBelow, IsWhole, Holds, Adds, AreCodeOf, Tests, Passes, NodePasses}
use Rattle.tb_code.proofs.Trees.{trees-front, all-front, all-behind}

pub adds_none : (nodes : List Node) → Adds nodes nodes [] []
adds_none nodes trees whole = record {
  more = [];
  whole = rw (append-nil trees) whole;
  stand = refl;
  below = All-nil (λ k. k < length nodes);
  passing = λ t all. All-nil (Passes t);
}

pub adds_nothing : (nodes : List Node) (ks : List ℕ) (xs : List Stmt) → ks ≡ [] → xs ≡ [] → Adds nodes nodes ks xs
adds_nothing nodes ks xs no_numbers no_parts = rw (no_numbers, no_parts) (adds_none nodes)

both-hold : (b c : List Node) (trees one two : List Stmt) (ks ls : List ℕ) (xs ys : List Stmt) → IsWhole b (trees ++ one) → map (tree_of (trees ++ one)) ks ≡ xs → All (λ k. k < length b) ks → IsWhole c (trees ++ one ++ two) → map (tree_of (trees ++ one ++ two)) ls ≡ ys → All (λ k. k < length c) ls → ((t : Tests) → All (Passes t) xs → All (Passes t) one) → ((t : Tests) → All (Passes t) ys → All (Passes t) two) → Holds trees c (ks ++ ls) (xs ++ ys)
both-hold b c trees one two ks ls xs ys whole_b stand_b below_b whole_c stand_c below_c passing_b passing_c =
    let long_b : length (trees ++ one) ≡ length b = whole_b.code.long in
    let long_c : length (trees ++ one ++ two) ≡ length c = whole_c.code.long in
    let longer : length (trees ++ one ++ two) ≡ length (trees ++ one) + length two = length-append (trees ++ one) two in
    let within : All (λ k. k < length (trees ++ one)) ks = rw long_b below_b in
    let first : map (tree_of (trees ++ one ++ two)) ks ≡ xs = trees-front (trees ++ one) two ks within ∙ stand_b in
    let all : map (tree_of (trees ++ one ++ two)) (ks ++ ls) ≡ xs ++ ys = map-append (tree_of (trees ++ one ++ two)) ks ls ∙ rw (first, stand_c) refl in
    record {
      more = one ++ two;
      whole = rw (← append_assoc trees one two) whole_c;
      stand = rw (← append_assoc trees one two) all;
      below = All-append (λ k. k < length c) ks ls (All-weaker (λ k. k < length b) (λ k. k < length c) (λ k h. omega arith) ks below_b) below_c;
      passing = λ t all. All-append (Passes t) one two (passing_b t (all-front (Passes t) xs ys all)) (passing_c t (all-behind (Passes t) xs ys all));
    }

-- one part after the other
pub adds_both : (a b c : List Node) (ks ls : List ℕ) (xs ys : List Stmt) → Adds a b ks xs → Adds b c ls ys → Adds a c (ks ++ ls) (xs ++ ys)
adds_both a b c ks ls xs ys first second trees whole =
    let one = first trees whole in
    let two = second (trees ++ one.more) one.whole in
    both-hold b c trees one.more two.more ks ls xs ys one.whole one.stand one.below two.whole two.stand two.below one.passing two.passing

-- one more of a list
pub adds_next : (a b c : List Node) (ks : List ℕ) (k i : ℕ) (xs : List Stmt) (x : Stmt) → i < length xs → x ≡ get_or xs i x → Adds a b ks (take i xs) → Adds b c (k ∷ []) (x ∷ []) → Adds a c (ks ++ k ∷ []) (take (i + 1) xs)
adds_next a b c ks k i xs x within is first second = rw (take_more xs i x within, ← is) (adds_both a b c ks (k ∷ []) (take i xs) (x ∷ []) first second)

-- the same of a list of parts
pub adds_part : {A : Type 0} (f : A → Stmt) (a b c : List Node) (ks : List ℕ) (k i : ℕ) (xs : List A) (x : A) → i < length xs → x ≡ get_or xs i x → Adds a b ks (map f (take i xs)) → Adds b c (k ∷ []) (f x ∷ []) → Adds a c (ks ++ k ∷ []) (map f (take (i + 1) xs))
adds_part f a b c ks k i xs x within is first second = rw (take_more xs i x within, ← is, map-append f (take i xs) (x ∷ [])) (adds_both a b c ks (k ∷ []) (map f (take i xs)) (f x ∷ []) first second)

-- and what goes along with each part
pub along : {A B C : Type 0} (f : A → C) (h : B → C) (xs : List A) (ys : List B) (i : ℕ) (x : A) (y : B) → i < length xs → x ≡ get_or xs i x → map h ys ≡ map f (take i xs) → h y ≡ f x → map h (ys ++ y ∷ []) ≡ map f (take (i + 1) xs)
along f h xs ys i x y within is first one = rw (take_more xs i x within, ← is, map-append f (take i xs) (x ∷ []), map-append h ys (y ∷ []), first, one) refl

-- no statement has code of its own already
pub whole_nil : IsWhole [] []
whole_nil = record {
  code = record { long = refl; does = λ k node at m rest w. absurd (let wrong : None ≡ Some node = at in cc) };
  closed = All-nil (PartsBelow 0);
  passing = λ t all. All-nil (NodePasses t);
}

pub code_of : AreCodeOf
code_of nodes numbers parts adds = adds [] whole_nil
