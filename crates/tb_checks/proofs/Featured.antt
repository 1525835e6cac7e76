-- What is only supported in constants, in an expression of each production.
use Rattle.tb_checks.proofs.Common.{◌≡◌, ℕ, zero, suc, ◌<◌, List, [], ◌∷◌, ◌++◌, sym, ap, ◌∙◌, take, get_or, length, arith, append_assoc, Option, None, append-nil, Expr, Fault, least, earlier, Names}
use Rattle.tb_checks.proofs.Common.{Sense, sense, senses, all_features, least_empty, pair_first}

pub none_features : (names : Names) (x : Expr) (s : Sense) → sense names x ≡ s → s.features ≡ [] → None ≡ least (sense names x).features
none_features names x s is none = least_empty ∙ ap least (sym (ap (λ (q : Sense). q.features) is ∙ none))

-- the first of two parts
pub two_features : (names : Names) (x : Expr) (these those : List Fault) (s : Sense) (r a b : Option Fault) → sense names x ≡ s → s.features ≡ these ++ those → r ≡ earlier a b → a ≡ least these → b ≡ least those → r ≡ least (sense names x).features
two_features names x these those s r a b is parts r_is a_is b_is = pair_first these those a b r r_is a_is b_is ∙ ap least (sym (ap (λ (q : Sense). q.features) is ∙ parts))

-- one part
pub one_features : (names : Names) (x : Expr) (s : Sense) (these : List Fault) (r : Option Fault) → sense names x ≡ s → s.features ≡ these → r ≡ least these → r ≡ least (sense names x).features
one_features names x s these r is part r_is = r_is ∙ ap least (sym (ap (λ (q : Sense). q.features) is ∙ part))

-- one expression more
pub features_take : (names : Names) (es : List Expr) (k : ℕ) (x : Expr) → x ≡ get_or es k x → k < length es → all_features (senses names (take (suc k) es)) ≡ all_features (senses names (take k es)) ++ (sense names x).features
features_take names [] k x is h = absurd (omega arith)
features_take names (e ∷ es) zero x is h = append-nil (sense names e).features ∙ ap (λ (y : Expr). (sense names y).features) (sym is)
features_take names (e ∷ es) (suc k) x is h = ap (λ (l : List Fault). (sense names e).features ++ l) (features_take names es k x is (omega arith)) ∙ sym (append_assoc (sense names e).features (all_features (senses names (take k es))) (sense names x).features)
