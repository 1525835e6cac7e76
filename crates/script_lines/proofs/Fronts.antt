-- How many tokens stand before a sign.
use Rattle.std.proofs.Common.{◌≡◌, ℕ, suc, ◌+◌, ◌<◌, ◌≤◌, ◌==◌, ◌&&◌, Bool, true, false, List, drop, get_or, length, sym, ap, ◌∙◌, if◌then◌else◌}
use Rattle.std.proofs.lemmas.List.{at_drop_more, at_drop_all}
use Rattle.script_lines.specs.declared.token.Token.{Token}
use Rattle.script_lines.specs.Parting.{front_len, open_behind}

front_at : (sign : Token → Bool) (o : ℕ) (ts : List Token) (n : ℕ) (t : Token) → n < length ts → t ≡ get_or ts n t → front_len sign o (drop n ts) ≡ (if o == 0 && sign t then 0 else suc (front_len sign (open_behind o t) (drop (n + 1) ts)))
unfolding front_len
front_at sign o ts n t l e = at_drop_more (front_len sign o) ts n t l ∙ ap (λ (x : Token). if o == 0 && sign x then 0 else suc (front_len sign (open_behind o x) (drop (n + 1) ts))) (sym e)

pub front_here : (sign : Token → Bool) (o : ℕ) (ts : List Token) (n : ℕ) (t : Token) → n < length ts → t ≡ get_or ts n t → (o == 0 && sign t) ≡ true → front_len sign o (drop n ts) ≡ 0
front_here sign o ts n t l e here = front_at sign o ts n t l e ∙ ap (λ (b : Bool). if b then 0 else suc (front_len sign (open_behind o t) (drop (n + 1) ts))) here

pub front_next : (sign : Token → Bool) (o : ℕ) (ts : List Token) (n : ℕ) (t : Token) → n < length ts → t ≡ get_or ts n t → (o == 0 && sign t) ≡ false → front_len sign o (drop n ts) ≡ suc (front_len sign (open_behind o t) (drop (n + 1) ts))
front_next sign o ts n t l e here = front_at sign o ts n t l e ∙ ap (λ (b : Bool). if b then 0 else suc (front_len sign (open_behind o t) (drop (n + 1) ts))) here

pub front_end : (sign : Token → Bool) (o : ℕ) (ts : List Token) (n : ℕ) → length ts ≤ n → front_len sign o (drop n ts) ≡ 0
unfolding front_len
front_end sign o ts n l = at_drop_all (front_len sign o) ts n l
