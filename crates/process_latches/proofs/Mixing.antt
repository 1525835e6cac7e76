-- The first places of assignments, from the last one back.
use Rattle.process_latches.proofs.Common.{◌≡◌, zero, suc, ℕ, ◌<◌, Bool, true, false, ◌&&◌, List, [], ◌∷◌, ◌++◌, refl, sym, ap, ◌∙◌, subst, cond, nat_eq, length, get_or, take, arith, Option, Some}
use Rattle.process_latches.proofs.Common.{if◌then◌else◌, flat_map, Span, Refusal, IsFirst, flat_take, Write, same_kind, lesser, first_place, mixed_at, HasFirsts}
use Rattle.std.specs.BTreeMap.{BTreeMap, get, is_at, Updates, IsEmpty}
use Rattle.std.specs.Ordering.{nat_cmp}
use Rattle.std.proofs.lemmas.Bool.Decides.{nat_tests}
use Rattle.std.proofs.lemmas.Map.Views.{exact_unsigned_eq}

at_number : (k q : ℕ) → is_at (nat_cmp k) q ≡ nat_eq k q
at_number k q = grind (arith, nat_tests)

either_way : (a b same : Bool) (p l q r : Option Span) → a ≡ b → same ≡ true → (b ≡ true → p ≡ l) → q ≡ r → cond a p q ≡ (if b && same then l else r)
either_way true true true p l q r e s this that = this refl
either_way false false true p l q r e s this that = that
either_way true false same p l q r e s this that = cc
either_way false true same p l q r e s this that = cc
either_way true true false p l q r e s this that = cc
either_way false false false p l q r e s this that = cc

neither : (a same : Bool) (l q r : Option Span) → same ≡ false → q ≡ r → q ≡ (if a && same then l else r)
neither true false l q r s that = that
neither false false l q r s that = that
neither true true l q r s that = cc
neither false true l q r s that = cc

pub firsts_none : (is_blocking : Bool) (m : BTreeMap ℕ Span) → IsEmpty m → HasFirsts [] is_blocking m
firsts_none is_blocking m empty number = rw empty refl

-- an assignment of another kind
pub firsts_skip : (ws : List Write) (w : Write) (is_blocking : Bool) (m : BTreeMap ℕ Span) → same_kind w.is_blocking is_blocking ≡ false → HasFirsts ws is_blocking m → HasFirsts (w ∷ ws) is_blocking m
firsts_skip ws w is_blocking m other h number = neither (nat_eq w.number number) (same_kind w.is_blocking is_blocking) (lesser w.first (first_place ws number is_blocking)) (get nat_cmp m number) (first_place ws number is_blocking) other (h number)

-- one of this kind
pub firsts_more : (ws : List Write) (w : Write) (is_blocking : Bool) (m n : BTreeMap ℕ Span) (p : Span) → same_kind w.is_blocking is_blocking ≡ true → Some p ≡ lesser w.first (get nat_cmp m w.number) → Updates nat_cmp m n w.number (Some p) → HasFirsts ws is_blocking m → HasFirsts (w ∷ ws) is_blocking n
firsts_more ws w is_blocking m n p same is updates h number =
    updates.0 number ∙ either_way (is_at (nat_cmp w.number) number) (nat_eq w.number number) (same_kind w.is_blocking is_blocking) (Some p) (lesser w.first (first_place ws number is_blocking)) (get nat_cmp m number) (first_place ws number is_blocking) (at_number w.number number) same
    (λ e. is ∙ ap (λ (k : ℕ). lesser w.first (get nat_cmp m k)) (exact_unsigned_eq w.number number e) ∙ ap (lesser w.first) (h number))
    (h number)

any_default : (ws : List Write) (k : ℕ) (d e : Write) → k < length ws → get_or ws k d ≡ get_or ws k e
any_default [] k d e h = absurd (omega arith)
any_default (w ∷ ws) zero d e h = refl
any_default (w ∷ ws) (suc k) d e h = any_default ws k d e (omega arith)

-- one assignment more
pub mixed_more : (ws : List Write) (k : ℕ) (d : Write) (found one after : Option Refusal) → k < length ws → ((xs ys : List Refusal) → IsFirst xs found → IsFirst ys one → IsFirst (xs ++ ys) after) → IsFirst (flat_map (mixed_at ws) (take k ws)) found → IsFirst (mixed_at ws (get_or ws k d)) one → IsFirst (flat_map (mixed_at ws) (take (suc k) ws)) after
mixed_more ws k d found one after h both first here =
    subst (λ (l : List Refusal). IsFirst l after) (sym (flat_take (mixed_at ws) ws k (get_or ws k d) (any_default ws k d (get_or ws k d) h) h)) (both (flat_map (mixed_at ws) (take k ws)) (mixed_at ws (get_or ws k d)) first here)
