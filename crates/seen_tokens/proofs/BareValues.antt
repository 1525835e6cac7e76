-- Values whose tokens are bare, and functions that see of a token only what is seen of it.
use Rattle.seen_tokens.proofs.Common.{◌≡◌, List, [], ◌∷◌, ◌++◌, map, refl, sym, ap, ◌∙◌, append_assoc, Token, Value, bare}
use Rattle.vlog_parts.specs.declared.value.Value.TheVariants as v

-- a part whose token is bare
abbrev pub bare_value : Value → Value
bare_value (v.Token t) = v.Token (bare t)
bare_value x = x

-- Of a token among the parts it sees only what is seen of it.
abbrev pub IsBlind : {A : Type 0} → (List Value → A) → Type 0
IsBlind f = (front : List Value) (t : Token) (back : List Value) → f (front ++ v.Token (bare t) ∷ back) ≡ f (front ++ v.Token t ∷ back)

one_bare : {A : Type 0} (f : List Value → A) → IsBlind f → (front : List Value) (x : Value) (back : List Value) → f (front ++ bare_value x ∷ back) ≡ f (front ++ x ∷ back)
one_bare f blind front (v.Token t) back = blind front t back
one_bare f blind front x back = refl

from_front : {A : Type 0} (f : List Value → A) → IsBlind f → (front ms : List Value) → f (front ++ map bare_value ms) ≡ f (front ++ ms)
from_front f blind front [] = refl
from_front f blind front (x ∷ ms) =
    one_bare f blind front x (map bare_value ms)
    ∙ ap f (sym (append_assoc front (x ∷ []) (map bare_value ms)))
    ∙ from_front f blind (front ++ x ∷ []) ms
    ∙ ap f (append_assoc front (x ∷ []) ms)

-- such a function is the same at bare values
pub all_bare : {A : Type 0} (f : List Value → A) → IsBlind f → (ms : List Value) → f (map bare_value ms) ≡ f ms
all_bare f blind ms = from_front f blind [] ms
