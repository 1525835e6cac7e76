-- The parting of tokens, one share after the other.
use Rattle.std.proofs.Common.{◌≡◌, ℕ, suc, ◌-◌, ◌<◌, ◌≤◌, ◌==◌, ◌&&◌, Bool, true, false, List, [], ◌∷◌, ◌++◌, Option, Some, None, option_map, drop, take, get_or, length, refl, sym, ap, ◌∙◌, arith, append_assoc, append-nil, if◌then◌else◌}
use Rattle.std.proofs.lemmas.List.{take_all}
use Rattle.script_lines.specs.declared.token.Token.{Token}
use Rattle.script_lines.specs.Parting.{front_len, open_behind}
use Rattle.report_lines.specs.declared.parting.Level.{Level}
use Rattle.report_lines.specs.Grammar.{Share, all_of, is_sign, share_of, shares_at, shares_behind}

-- Shares.

behind_if : (l : Level) (t : Token) (more : List Token) (o : ℕ) (b : Bool) → shares_behind l o more ≡ shares_at l (drop (front_len (is_sign l) o more) more) → (if b then share_of l t more ∷ shares_behind l 0 more else shares_behind l o more) ≡ shares_at l (drop (if b then 0 else suc (front_len (is_sign l) o more)) (t ∷ more))
unfolding shares_at
behind_if l t more o true h = refl
behind_if l t more o false h = h

behind_is : (l : Level) (o : ℕ) (ts : List Token) → shares_behind l o ts ≡ shares_at l (drop (front_len (is_sign l) o ts) ts)
unfolding shares_behind shares_at front_len
behind_is l o [] = refl
behind_is l o (t ∷ more) = behind_if l t more (open_behind o t) (o == 0 && is_sign l t) (behind_is l (open_behind o t) more)

share_more : (l : Level) (t : Token) (more : List Token) → shares_at l (t ∷ more) ≡ share_of l t more ∷ shares_at l (drop (front_len (is_sign l) 0 more) more)
unfolding shares_at
share_more l t more = ap (λ (shares : List Share). share_of l t more ∷ shares) (behind_is l 0 more)

cons_is : (rest more : List Token) (sign : Token) → 1 ≤ length rest → sign ≡ get_or rest 0 sign → more ≡ take (length rest - 1) (drop 1 rest) → rest ≡ sign ∷ more
cons_is [] more sign l e m = absurd (omega arith)
cons_is (x ∷ xs) more sign l e m = ap (λ (y : Token). y ∷ xs) (sym e) ∙ ap (λ (ys : List Token). sign ∷ ys) (sym (take_all (suc (length xs) - 1) xs (omega arith)) ∙ sym m)

-- a sign, with `more` behind it, of which `front` are its share and `new` are left
cut_is : (l : Level) (rest more front new : List Token) (sign : Token) (len : ℕ) → 1 ≤ length rest → sign ≡ get_or rest 0 sign → more ≡ take (length rest - 1) (drop 1 rest) → len ≡ front_len (is_sign l) 0 more → front ≡ take len more → new ≡ drop len more → shares_at l rest ≡ record { sign = sign; tokens = front } ∷ shares_at l new
cut_is l rest more front new sign len h e m n f d =
    ap (shares_at l) (cons_is rest more sign h e m)
    ∙ (share_more l sign more
    ∙ (ap (λ (k : ℕ). record { sign = sign; tokens = take k more } ∷ shares_at l (drop k more)) (sym n)
    ∙ (ap (λ (ts : List Token). record { sign = sign; tokens = ts } ∷ shares_at l (drop len more)) (sym f)
    ∙ ap (λ (ts : List Token). record { sign = sign; tokens = front } ∷ shares_at l ts) (sym d))))

pub first_same : (rest : List Token) (d : Token) → 1 ≤ length rest → get_or rest 0 d ≡ get_or rest 0 (get_or rest 0 d)
first_same [] d h = absurd (omega arith)
first_same (x ∷ xs) d h = refl

-- What all shares make.

abbrev pub behind : {A : Type 0} → List A → Option (List A) → Option (List A)
behind done o = option_map (λ xs. done ++ xs) o

join_more : {A : Type 0} (done : List A) (x : A) (o : Option (List A)) → behind (done ++ x ∷ []) o ≡ behind done (option_map (λ xs. x ∷ xs) o)
join_more done x None = refl
join_more done x (Some xs) = ap Some (append_assoc done (x ∷ []) xs)

made_is : {A : Type 0} (make : Share → Option A) (share : Share) (shares : List Share) (o : Option A) → make share ≡ o → all_of make (share ∷ shares) ≡ elim o [ None ↦ None | Some x ↦ option_map (λ xs. x ∷ xs) (all_of make shares) ]
unfolding all_of
made_is {A} make share shares o e = ap (λ (m : Option A). elim m [ None ↦ None | Some x ↦ option_map (λ xs. x ∷ xs) (all_of make shares) ]) e

all_end : {A : Type 0} (make : Share → Option A) → all_of make [] ≡ Some []
unfolding all_of
all_end make = refl

-- what was made, with what the rest makes behind it, is what all make
abbrev pub Whole : {A : Type 0} → (Share → Option A) → Level → List A → List Token → List Token → Type 0
Whole make l done rest tokens = behind done (all_of make (shares_at l rest)) ≡ all_of make (shares_at l tokens)

pub whole_end : {A : Type 0} (make : Share → Option A) (l : Level) (done : List A) (rest tokens : List Token) → length rest < 1 → Whole make l done rest tokens → all_of make (shares_at l tokens) ≡ Some done
unfolding shares_at
whole_end make l done [] tokens h w = sym w ∙ (ap (behind done) (all_end make) ∙ ap Some (append-nil done))
whole_end make l done (t ∷ more) tokens h w = absurd (omega arith)

module _ {A : Type 0} (make : Share → Option A) (l : Level) (done : List A) (tokens rest more front new : List Token) (sign : Token) (len : ℕ) (some : 1 ≤ length rest) (first : sign ≡ get_or rest 0 sign) (others : more ≡ take (length rest - 1) (drop 1 rest)) (many : len ≡ front_len (is_sign l) 0 more) (cut : front ≡ take len more) (left : new ≡ drop len more) (whole : Whole make l done rest tokens) where
  one_step : (o : Option A) → make (record { sign = sign; tokens = front }) ≡ o → behind done (elim o [ None ↦ None | Some x ↦ option_map (λ xs. x ∷ xs) (all_of make (shares_at l new)) ]) ≡ all_of make (shares_at l tokens)
  one_step o e =
      ap (behind done) (sym (ap (all_of make) (cut_is l rest more front new sign len some first others many cut left) ∙ made_is make (record { sign = sign; tokens = front }) (shares_at l new) o e))
      ∙ whole

  pub whole_none : make (record { sign = sign; tokens = front }) ≡ None → all_of make (shares_at l tokens) ≡ None
  whole_none e = sym (one_step None e)

  pub whole_more : (x : A) (longer : List A) → make (record { sign = sign; tokens = front }) ≡ Some x → longer ≡ done ++ x ∷ [] → Whole make l longer new tokens
  whole_more x longer e p = ap (λ (d : List A). behind d (all_of make (shares_at l new))) p ∙ (join_more done x (all_of make (shares_at l new)) ∙ one_step (Some x) e)
