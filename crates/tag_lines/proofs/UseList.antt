-- What several expressions use, one expression more at a time.
use Rattle.std.proofs.Common.{◌≡◌, ℕ, ◌+◌, ◌<◌, Bool, true, false, ◌&&◌, List, [], ◌∷◌, ◌++◌, map, take, get_or, length, refl, sym, ap, ◌∙◌}
use Rattle.std.proofs.lemmas.List.{take_more}
use Rattle.tag_lines.specs.declared.expr.Expr.{Expr}
use Rattle.tag_lines.specs.declared.uses.Uses.{Uses}
use Rattle.tag_lines.specs.Uses.{all_uses, both_uses}

and_true : (a : Bool) → (a && true) ≡ a
and_true true = refl
and_true false = refl

and_assoc : (a b c : Bool) → (a && (b && c)) ≡ ((a && b) && c)
and_assoc true b c = refl
and_assoc false b c = refl

same_uses : (a b c d : Bool) → a ≡ b → c ≡ d → ◌≡◌ {A = Uses} (record { tests = a; names = c }) (record { tests = b; names = d })
same_uses a b c d e f = ap (λ (x : Bool). let u : Uses = record { tests = x; names = c } in u) e ∙ ap (λ (x : Bool). let u : Uses = record { tests = b; names = x } in u) f

one_more : (us : List Uses) (r : Uses) → all_uses (us ++ r ∷ []) ≡ both_uses (all_uses us) r
one_more [] r = same_uses (r.tests && true) r.tests (r.names && true) r.names (and_true r.tests) (and_true r.names)
one_more (u ∷ us) r =
    ap (both_uses u) (one_more us r)
    ∙ same_uses _ _ _ _ (and_assoc u.tests (all_uses us).tests r.tests) (and_assoc u.names (all_uses us).names r.names)

mapped_more : (f : Expr → Uses) (xs ys : List Expr) → map f (xs ++ ys) ≡ map f xs ++ map f ys
mapped_more f [] ys = refl
mapped_more f (x ∷ xs) ys = ap (λ (us : List Uses). f x ∷ us) (mapped_more f xs ys)

-- what the first expressions use, with one expression more
pub all_more : (f : Expr → Uses) (xs : List Expr) (k : ℕ) (x : Expr) (found r o : Uses) → x ≡ get_or xs k x → k < length xs → found ≡ all_uses (map f (take k xs)) → r ≡ f x → o ≡ both_uses found r → o ≡ all_uses (map f (take (k + 1) xs))
all_more f xs k x found r o is h e here both =
    both
    ∙ (ap (λ (u : Uses). both_uses u r) e
    ∙ (ap (both_uses (all_uses (map f (take k xs)))) (here ∙ ap f is)
    ∙ (sym (one_more (map f (take k xs)) (f (get_or xs k x)))
    ∙ (ap all_uses (sym (mapped_more f (take k xs) (get_or xs k x ∷ [])))
    ∙ ap (λ (ys : List Expr). all_uses (map f ys)) (sym (take_more xs k x h))))))
