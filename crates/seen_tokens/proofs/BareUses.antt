-- What bare tokens come to, one by one, where uses of macros are replaced.
use Rattle.seen_tokens.proofs.Common.{◌≡◌, ℕ, zero, suc, List, [], ◌∷◌, map, Option, Some, None, refl, sym, ap, ◌∙◌, MacroDepth, Token, is_use, name_of, word_of, Definitions, bare}
use Rattle.std.proofs.lemmas.List.{map-append}
use Rattle.vlog_expand.specs.declared.error.ParseError.TheVariants.{Unsupported}
use Rattle.vlog_expand.specs.Uses.{Outcome, Gives, Refuses, behind, expanded, followed, in_order, token_given, use_replaced}
use Rattle.seen_tokens.proofs.BareTexts.{chosen}
use Rattle.seen_tokens.proofs.BareMoves.{bare_macros, bare_text}

abbrev pub bare_outcome : Outcome → Outcome
bare_outcome (Gives ts n) = Gives (map bare ts) n
bare_outcome (Refuses e) = Refuses e

pub behind_bare : (ts : List Token) (o : Outcome) → behind (map bare ts) (bare_outcome o) ≡ bare_outcome (behind ts o)
behind_bare ts (Gives us n) = ap (λ (xs : List Token). Gives xs n) (sym (map-append bare ts us))
behind_bare ts (Refuses e) = refl

followed_bare : (o : Outcome) (next next' : ℕ → Outcome) → ((n : ℕ) → next' n ≡ bare_outcome (next n)) → followed (bare_outcome o) next' ≡ bare_outcome (followed o next)
followed_bare (Gives ts n) next next' same = ap (behind (map bare ts)) (same n) ∙ behind_bare ts (next n)
followed_bare (Refuses e) next next' same = refl

in_order_bare : (each each' : Token → ℕ → Outcome) → ((t : Token) (n : ℕ) → each' (bare t) n ≡ bare_outcome (each t n)) → (ts : List Token) (n : ℕ) → in_order each' (map bare ts) n ≡ bare_outcome (in_order each ts n)
in_order_bare each each' same [] n = refl
in_order_bare each each' same (t ∷ ts) n =
    ap (λ (o : Outcome). followed o (in_order each' (map bare ts))) (same t n) ∙ followed_bare (each t n) (in_order each ts) (in_order each' (map bare ts)) (in_order_bare each each' same ts)

given_bare : (t : Token) (n : ℕ) → token_given (bare t) n ≡ bare_outcome (token_given t n)
given_bare t zero = refl
given_bare t (suc n) = refl

replaced_bare : (text : Option (List Token)) (each each' : Token → ℕ → Outcome) → ((t : Token) (n : ℕ) → each' (bare t) n ≡ bare_outcome (each t n)) → (t : Token) (n : ℕ) → use_replaced (bare_text text) each' (bare t) n ≡ bare_outcome (use_replaced text each t n)
replaced_bare None each each' same t n = refl
replaced_bare (Some text) each each' same t zero = refl
replaced_bare (Some text) each each' same t (suc n) = in_order_bare each each' same text n

pub expanded_bare : (depth : ℕ) (macros : Definitions) (t : Token) (n : ℕ) → expanded depth (bare_macros macros) (bare t) n ≡ bare_outcome (expanded depth macros t n)
unfolding expanded word_of
expanded_bare zero macros t n = chosen bare_outcome (is_use (word_of t)) (Refuses (Unsupported t.span MacroDepth)) (token_given t n) _ _ refl (given_bare t n)
expanded_bare (suc depth) macros t n =
    chosen bare_outcome (is_use (word_of t)) (use_replaced (macros (name_of t)) (expanded depth macros) t n) (token_given t n) _ _ (replaced_bare (macros (name_of t)) (expanded depth macros) (expanded depth (bare_macros macros)) (expanded_bare depth macros) t n) (given_bare t n)
