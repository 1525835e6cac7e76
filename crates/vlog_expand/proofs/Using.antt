-- What a token comes to, case by case.
use Rattle.vlog_expand.proofs.Common.{◌≡◌, ◌≢◌, ◌-◌, ◌<◌, ℕ, zero, suc, true, false, List, [], ◌∷◌, ◌++◌, Some, None, length, drop, refl, ap, ◌∙◌, inl, inr, arith, sub-one, ◌≤◌, get_or, drop-cons}
use Rattle.vlog_expand.proofs.Common.{append-nil, drop_all, Token, ParseError, Unsupported, UnknownMacro, TooMany, is_use, name_of, word_of, Definitions, Outcome, Gives, Refuses, behind, followed}
use Rattle.vlog_expand.proofs.Common.{in_order, token_given, use_replaced, expanded, IsRefusal}
use Rattle.mcy_base.specs.declared.kind.Kind.TheVariants.{Tokens}
use Rattle.vlog_syntax.specs.declared.feature.Feature.TheVariants.{MacroDepth}

-- a token that is no use is given
pub expanded-given : (depth : ℕ) (macros : Definitions) (t : Token) (n : ℕ) → is_use (word_of t) ≡ false → expanded depth macros t n ≡ token_given t n
unfolding expanded
expanded-given zero macros t n h = rw h refl
expanded-given (suc depth) macros t n h = rw h refl

-- a use that stands too deep
pub expanded-deep : (depth : ℕ) (macros : Definitions) (t : Token) (n : ℕ) → is_use (word_of t) ≡ true → depth ≡ 0 → expanded depth macros t n ≡ Refuses (Unsupported t.span MacroDepth)
unfolding expanded
expanded-deep zero macros t n h z = rw h refl
expanded-deep (suc depth) macros t n h z = absurd (omega (arith, z))

-- a use that may stand where it is
expanded-used : (depth : ℕ) (macros : Definitions) (t : Token) (n : ℕ) → is_use (word_of t) ≡ true → depth ≢ 0 → expanded depth macros t n ≡ use_replaced (macros (name_of t)) (expanded (depth - 1) macros) t n
unfolding expanded
expanded-used zero macros t n h z = absurd (z refl)
expanded-used (suc depth) macros t n h z = rw (h, sub-one) refl

pub expanded-unknown : (depth : ℕ) (macros : Definitions) (t : Token) (n : ℕ) → is_use (word_of t) ≡ true → depth ≢ 0 → macros (name_of t) ≡ None → expanded depth macros t n ≡ Refuses (UnknownMacro t.span)
expanded-unknown depth macros t n h z m = expanded-used depth macros t n h z ∙ ap (λ o. use_replaced o (expanded (depth - 1) macros) t n) m

pub expanded-full : (depth : ℕ) (macros : Definitions) (t : Token) (n : ℕ) (text : List Token) → is_use (word_of t) ≡ true → depth ≢ 0 → macros (name_of t) ≡ Some text → n ≡ 0 → expanded depth macros t n ≡ Refuses (TooMany Tokens)
expanded-full depth macros t zero text h z m e = expanded-used depth macros t zero h z ∙ ap (λ o. use_replaced o (expanded (depth - 1) macros) t zero) m
expanded-full depth macros t (suc n) text h z m e = absurd (omega (arith, e))

pub expanded-text : (depth : ℕ) (macros : Definitions) (t : Token) (n : ℕ) (text : List Token) → is_use (word_of t) ≡ true → depth ≢ 0 → macros (name_of t) ≡ Some text → 0 < n → expanded depth macros t n ≡ in_order (expanded (depth - 1) macros) text (n - 1)
expanded-text depth macros t zero text h z m e = absurd (omega (arith, e))
expanded-text depth macros t (suc n) text h z m e = expanded-used depth macros t (suc n) h z ∙ ap (λ o. use_replaced o (expanded (depth - 1) macros) t (suc n)) m ∙ ap (in_order (expanded (depth - 1) macros) text) (omega arith)

-- what is refused behind tokens is refused
pub refused-behind : (ts us : List Token) (o p : Outcome) (e : ParseError) → behind ts o ≡ behind us p → p ≡ Refuses e → o ≡ Refuses e
refused-behind ts us (Gives vs n) p e h r = let g : Gives (ts ++ vs) n ≡ Refuses e = h ∙ ap (behind us) r in cc
refused-behind ts us (Refuses d) p e h r = h ∙ ap (behind us) r

-- the first token of a text that is refused makes its use refused
each-refused : (each : Token → ℕ → Outcome) (before now : List Token) (o : Outcome) (t : Token) (ts : List Token) (left : ℕ) (e : ParseError) → behind before o ≡ behind now (in_order each (t ∷ ts) left) → IsRefusal (each t left) e → IsRefusal o e
each-refused each before now o t ts left e h (inl m) = inl m
each-refused each before now o t ts left e h (inr r) = inr (refused-behind before now o (in_order each (t ∷ ts) left) e h (ap (λ p. followed p (in_order each ts)) r))

pub text-refused : (depth : ℕ) (macros : Definitions) (t : Token) (n : ℕ) (text before now : List Token) (i left : ℕ) (d : Token) (e : ParseError)
    → is_use (word_of t) ≡ true → depth ≢ 0 → macros (name_of t) ≡ Some text → 0 < n
    → behind before (in_order (expanded (depth - 1) macros) text (n - 1)) ≡ behind now (in_order (expanded (depth - 1) macros) (drop i text) left)
    → i < length text → IsRefusal (expanded (depth - 1) macros (get_or text i d) left) e → IsRefusal (expanded depth macros t n) e
text-refused depth macros t n text before now i left d e h z m room same inside r =
    let whole = expanded-text depth macros t n text h z m room in
    let shown : drop i text ≡ get_or text i d ∷ drop (suc i) text = drop-cons text i d inside in
    let each = expanded (depth - 1) macros in
    each-refused each before now (expanded depth macros t n) (get_or text i d) (drop (suc i) text) left e
    (ap (behind before) whole ∙ same ∙ ap (λ ts. behind now (in_order each ts left)) shown) r

-- a use comes to its text, where that was read to its end
pub text-given : (depth : ℕ) (macros : Definitions) (t : Token) (n : ℕ) (text before now : List Token) (i left : ℕ)
    → is_use (word_of t) ≡ true → depth ≢ 0 → macros (name_of t) ≡ Some text → 0 < n
    → behind before (in_order (expanded (depth - 1) macros) text (n - 1)) ≡ behind now (in_order (expanded (depth - 1) macros) (drop i text) left)
    → length text ≤ i → behind before (expanded depth macros t n) ≡ Gives now left
text-given depth macros t n text before now i left h z m room same all =
    let whole = expanded-text depth macros t n text h z m room in
    let shown : drop i text ≡ [] = drop_all i text all in
    let each = expanded (depth - 1) macros in
    ap (behind before) whole ∙ same ∙ ap (λ ts. behind now (in_order each ts left)) shown ∙ ap (λ ts. Gives ts left) (append-nil now)
