-- What a file comes to, turn by turn.
use Rattle.vlog_expand.proofs.Common.{◌≡◌, ℕ, Bool, true, false, List, [], ◌∷◌, ◌++◌, length, refl, sym, ap, ◌∙◌, subst, inl, inr, arith, append_assoc, append-nil, Span, Token, ParseError, is_shown}
use Rattle.vlog_expand.proofs.Common.{word_of, Definitions, Outcome, Gives, Refuses, behind, expanded, IsRefusal, State, Passes, IsStop, move_by, Ends, Shows, Leads, turn, Comes, ends, stops, passes}
use Rattle.vlog_expand.proofs.Common.{refuses, shows, IsRefused, LeadsOn, ComesBehind}

module _ (end : Span) (macros : Definitions) (conditions : List Bool) where
  -- the place before these tokens
  abbrev pub place : List Token → State
  place ts = record { macros = macros; conditions = conditions; rest = ts }

  turn-end : (rest : List Token) → length rest ≡ 0 → turn end (place rest) ≡ Ends
  unfolding turn
  turn-end [] h = refl
  turn-end (t ∷ ts) h = absurd (omega (arith, h))

  turn-shown : (rest : List Token) (t : Token) (ts : List Token) → rest ≡ t ∷ ts → is_shown (word_of t) ≡ true → turn end (place rest) ≡ Shows t (place ts)
  unfolding turn
  turn-shown rest t ts e h = rw (e, h) refl

  turn-directive : (rest : List Token) (t : Token) (ts : List Token) → rest ≡ t ∷ ts → is_shown (word_of t) ≡ false → turn end (place rest) ≡ Leads (move_by (word_of t) end macros conditions t ts)
  unfolding turn
  turn-directive rest t ts e h = rw (e, h) refl

behind-behind : (before ts : List Token) (o : Outcome) → behind before (behind ts o) ≡ behind (before ++ ts) o
behind-behind before ts (Gives us n) = ap (λ vs. Gives vs n) (sym (append_assoc before ts us))
behind-behind before ts (Refuses e) = refl

leads-given : (before : List Token) (end : Span) (s next : State) (n : ℕ) (t : Token) (given : List Token) (left : ℕ) (x : Outcome) → turn end s ≡ Shows t next → expanded 16 s.macros t n ≡ x → behind before x ≡ Gives given left → LeadsOn before end s n given next left
leads-given before end s next n t given left (Gives us k) shown e h =
    let same : before ++ us ≡ given = cc in
    let rest : left ≡ k = cc in
    λ o c. (behind us o, shows shown e (subst (λ m. Comes end next m o) rest c), behind-behind before us o ∙ ap (λ ts. behind ts o) same)
leads-given before end s next n t given left (Refuses d) shown e h =
    let clash : Refuses d ≡ Gives given left = h in
    let no : ⊥ = cc in
    absurd no

-- a token or a use leads on
pub leads-shown : (before : List Token) (end : Span) (macros : Definitions) (conditions : List Bool) (rest : List Token) (t : Token) (ts : List Token) (n : ℕ) (given : List Token) (left : ℕ) → rest ≡ t ∷ ts → is_shown (word_of t) ≡ true → behind before (expanded 16 macros t n) ≡ Gives given left → LeadsOn before end (place end macros conditions rest) n given (place end macros conditions ts) left
leads-shown before end macros conditions rest t ts n given left e h g =
    leads-given before end (place end macros conditions rest) (place end macros conditions ts) n t given left _ (turn-shown end macros conditions rest t ts e h) refl g

-- a token or a use that is refused
pub shown-refused : (end : Span) (macros : Definitions) (conditions : List Bool) (rest : List Token) (t : Token) (ts : List Token) (n : ℕ) (e : ParseError) → rest ≡ t ∷ ts → is_shown (word_of t) ≡ true → IsRefusal (expanded 16 macros t n) e → IsRefused end (place end macros conditions rest) n e
shown-refused end macros conditions rest t ts n e l h (inl m) = inl m
shown-refused end macros conditions rest t ts n e l h (inr r) = inr (refuses (turn-shown end macros conditions rest t ts l h) r)

-- a directive leads on
pub leads-carried : (before : List Token) (end : Span) (macros : Definitions) (conditions : List Bool) (rest : List Token) (t : Token) (ts : List Token) (n : ℕ) (next : State) → rest ≡ t ∷ ts → is_shown (word_of t) ≡ false → move_by (word_of t) end macros conditions t ts ≡ Passes next → LeadsOn before end (place end macros conditions rest) n before next n
leads-carried before end macros conditions rest t ts n next e h m =
    λ o c. (o, passes (turn-directive end macros conditions rest t ts e h ∙ ap Leads m) c, refl)

-- a directive that is refused
pub carried-refused : (end : Span) (macros : Definitions) (conditions : List Bool) (rest : List Token) (t : Token) (ts : List Token) (n : ℕ) (e : ParseError) → rest ≡ t ∷ ts → is_shown (word_of t) ≡ false → IsStop (move_by (word_of t) end macros conditions t ts) e → IsRefused end (place end macros conditions rest) n e
carried-refused end macros conditions rest t ts n e l h (inl m) = inl m
carried-refused end macros conditions rest t ts n e l h (inr r) = inr (stops (turn-directive end macros conditions rest t ts l h ∙ ap Leads r))

-- the end of a file
pub comes-end : (before : List Token) (end : Span) (s : State) (n : ℕ) (given : List Token) (macros : Definitions) (conditions : List Bool) (rest : List Token) (left : ℕ) → LeadsOn before end s n given (place end macros conditions rest) left → length rest ≡ 0 → ComesBehind before end s n (Gives given left)
comes-end before end s n given macros conditions rest left lead h =
    let last = lead (Gives [] left) (ends (turn-end end macros conditions rest h)) in
    (last.0, last.1, last.2 ∙ ap (λ ts. Gives ts left) (append-nil given))
