-- The parting of tokens, one part after the other.
use Rattle.std.proofs.Common.{◌≡◌, ℕ, suc, ◌+◌, ◌<◌, ◌==◌, ◌&&◌, Bool, true, false, List, [], ◌∷◌, ◌++◌, Option, Some, None, option_map, drop, take, length, refl, sym, ap, ◌∙◌, arith, append_assoc, if◌then◌else◌}
use Rattle.std.specs.List.{onto_first}
use Rattle.std.proofs.lemmas.List.{take_all}
use Rattle.script_lines.specs.declared.token.Token.{Token}
use Rattle.tag_lines.specs.declared.expr.Expr.{Expr}
use Rattle.tag_lines.specs.declared.parting.Separator.{Separator}
use Rattle.script_lines.specs.Parting.{front_len, open_behind}
use Rattle.tag_lines.specs.Grammar.{Reader, all_of, is_separator, parts_at}

-- Parts.

last_if : (s : Separator) (t : Token) (more : List Token) (o : ℕ) (b : Bool) → (front_len (is_separator s) o more ≡ length more → parts_at s o more ≡ more ∷ []) → (if b then 0 else suc (front_len (is_separator s) o more)) ≡ suc (length more) → (if b then [] ∷ parts_at s 0 more else onto_first t (parts_at s o more)) ≡ (t ∷ more) ∷ []
last_if s t more o true ih h = absurd (omega arith)
last_if s t more o false ih h = ap (onto_first t) (ih (omega arith))

pub parts_last : (s : Separator) (o : ℕ) (ts : List Token) → front_len (is_separator s) o ts ≡ length ts → parts_at s o ts ≡ ts ∷ []
unfolding front_len parts_at
parts_last s o [] h = refl
parts_last s o (t ∷ more) h = last_if s t more (open_behind o t) (o == 0 && is_separator s t) (parts_last s (open_behind o t) more) h

more_if : (s : Separator) (t : Token) (more : List Token) (o : ℕ) (b : Bool) → (front_len (is_separator s) o more < length more → parts_at s o more ≡ take (front_len (is_separator s) o more) more ∷ parts_at s 0 (drop (suc (front_len (is_separator s) o more)) more)) → (if b then 0 else suc (front_len (is_separator s) o more)) < suc (length more) → (if b then [] ∷ parts_at s 0 more else onto_first t (parts_at s o more)) ≡ take (if b then 0 else suc (front_len (is_separator s) o more)) (t ∷ more) ∷ parts_at s 0 (drop (suc (if b then 0 else suc (front_len (is_separator s) o more))) (t ∷ more))
more_if s t more o true ih h = refl
more_if s t more o false ih h = ap (onto_first t) (ih (omega arith))

pub parts_more : (s : Separator) (o : ℕ) (ts : List Token) → front_len (is_separator s) o ts < length ts → parts_at s o ts ≡ take (front_len (is_separator s) o ts) ts ∷ parts_at s 0 (drop (suc (front_len (is_separator s) o ts)) ts)
unfolding front_len parts_at
parts_more s o [] h = absurd (omega arith)
parts_more s o (t ∷ more) h = more_if s t more (open_behind o t) (o == 0 && is_separator s t) (parts_more s (open_behind o t) more) h

-- All operands.

all_none : (r : Reader) (part : List Token) (parts : List (List Token)) → r part ≡ None → all_of r (part ∷ parts) ≡ None
unfolding all_of
all_none r part parts e = ap (λ o. elim o [ None ↦ None | Some x ↦ option_map (λ xs. x ∷ xs) (all_of r parts) ]) e

all_more : (r : Reader) (part : List Token) (parts : List (List Token)) (x : Expr) → r part ≡ Some x → all_of r (part ∷ parts) ≡ option_map (λ xs. x ∷ xs) (all_of r parts)
unfolding all_of
all_more r part parts x e = ap (λ o. elim o [ None ↦ None | Some x ↦ option_map (λ xs. x ∷ xs) (all_of r parts) ]) e

all_end : (r : Reader) → all_of r [] ≡ Some []
unfolding all_of
all_end r = refl

abbrev pub behind : List Expr → Option (List Expr) → Option (List Expr)
behind done o = option_map (λ xs. done ++ xs) o

join_more : (done : List Expr) (x : Expr) (o : Option (List Expr)) → behind (done ++ x ∷ []) o ≡ behind done (option_map (λ xs. x ∷ xs) o)
join_more done x None = refl
join_more done x (Some xs) = ap Some (append_assoc done (x ∷ []) xs)

-- the operands that were found, with those of the rest behind them, are those of all
abbrev pub Whole : Reader → Separator → List Expr → List Token → List Token → Type 0
Whole r s done rest tokens = behind done (all_of r (parts_at s 0 rest)) ≡ all_of r (parts_at s 0 tokens)

first_if : (s : Separator) (t : Token) (more : List Token) (o : ℕ) (b : Bool) → (parts : List (List Token)) × (parts_at s o more ≡ take (front_len (is_separator s) o more) more ∷ parts) → (parts : List (List Token)) × ((if b then [] ∷ parts_at s 0 more else onto_first t (parts_at s o more)) ≡ take (if b then 0 else suc (front_len (is_separator s) o more)) (t ∷ more) ∷ parts)
first_if s t more o true h = (parts_at s 0 more, refl)
first_if s t more o false h = (h.0, ap (onto_first t) h.1)

first_part : (s : Separator) (o : ℕ) (ts : List Token) → (parts : List (List Token)) × (parts_at s o ts ≡ take (front_len (is_separator s) o ts) ts ∷ parts)
unfolding front_len parts_at
first_part s o [] = ([], refl)
first_part s o (t ∷ more) = first_if s t more (open_behind o t) (o == 0 && is_separator s t) (first_part s (open_behind o t) more)

-- One step: n tokens stand before a separator, and `front` are these.

pub whole_none : (r : Reader) (s : Separator) (done : List Expr) (rest tokens front : List Token) (n : ℕ) → n ≡ front_len (is_separator s) 0 rest → front ≡ take n rest → r front ≡ None → Whole r s done rest tokens → all_of r (parts_at s 0 tokens) ≡ None
whole_none r s done rest tokens front n e f p h =
    let q = first_part s 0 rest in
    let parts : parts_at s 0 rest ≡ front ∷ q.0 = q.1 ∙ ap (λ (part : List Token). part ∷ q.0) (ap (λ (k : ℕ). take k rest) (sym e) ∙ sym f) in
    sym h ∙ ap (behind done) (ap (all_of r) parts ∙ all_none r front q.0 p)

pub whole_more : (r : Reader) (s : Separator) (done : List Expr) (rest tokens front new : List Token) (n : ℕ) (x : Expr) (more : List Expr) → n ≡ front_len (is_separator s) 0 rest → n < length rest → front ≡ take n rest → r front ≡ Some x → more ≡ done ++ x ∷ [] → new ≡ drop (n + 1) rest → Whole r s done rest tokens → Whole r s more new tokens
whole_more r s done rest tokens front new n x more e l f p m k h =
    let one : suc (front_len (is_separator s) 0 rest) ≡ n + 1 = omega arith in
    let parts : parts_at s 0 rest ≡ front ∷ parts_at s 0 new =
    parts_more s 0 rest (omega arith)
    ∙ (ap (λ (part : List Token). part ∷ parts_at s 0 (drop (suc (front_len (is_separator s) 0 rest)) rest)) (ap (λ (i : ℕ). take i rest) (sym e) ∙ sym f)
    ∙ ap (λ (ts : List Token). front ∷ parts_at s 0 ts) (ap (λ (i : ℕ). drop i rest) one ∙ sym k)) in
    ap (λ (d : List Expr). behind d (all_of r (parts_at s 0 new))) m
    ∙ (join_more done x (all_of r (parts_at s 0 new))
    ∙ (ap (behind done) (sym (ap (all_of r) parts ∙ all_more r front (parts_at s 0 new) x p)) ∙ h))

pub whole_end : (r : Reader) (s : Separator) (done : List Expr) (rest tokens front : List Token) (n : ℕ) (x : Expr) (more : List Expr) → n ≡ front_len (is_separator s) 0 rest → n ≡ length rest → front ≡ take n rest → r front ≡ Some x → more ≡ done ++ x ∷ [] → Whole r s done rest tokens → all_of r (parts_at s 0 tokens) ≡ Some more
whole_end r s done rest tokens front n x more e l f p m h =
    let parts : parts_at s 0 rest ≡ front ∷ [] = parts_last s 0 rest (sym e ∙ l) ∙ ap (λ (part : List Token). part ∷ []) (sym (take_all n rest (omega arith)) ∙ sym f) in
    sym h ∙ (ap (behind done) (ap (all_of r) parts ∙ (all_more r front [] x p ∙ ap (option_map (λ (xs : List Expr). x ∷ xs)) (all_end r))) ∙ ap Some (sym m))
