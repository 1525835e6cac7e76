-- Where a string ends.
use Rattle.vlog_token.proofs.Common.{◌≡◌, ℕ, suc, ◌+◌, ◌≤◌, Bool, true, false, cond, not, ◌||◌, List, [], ◌∷◌, ◌++◌, length, take, refl, sym, ap, ◌∙◌, subst, arith, append_assoc, Option, Some, None}
use Rattle.vlog_token.proofs.Common.{◌==◌, option_map, AllByRecursion, concat, cond-true, cond-false, cond_both, or_parts, or_from, eqb-true, not_from_false, is_plain, is_escape, IsQuoted}
use Rattle.vlog_token.proofs.Common.{IsStringItem, FindsFront, string_end}
use Rattle.vlog_token.proofs.Runs.{one_more}

pub not_is_true : (b : Bool) → not b ≡ true → b ≡ false
not_is_true true h = let bad : false ≡ true = h in cc
not_is_true false h = refl

-- the rest of a string, behind a `\` that begins an escape or not
abbrev Ends : Bool → List ℕ → Type 0
Ends false text = IsQuoted text
Ends true [] = ⊥
Ends true (e ∷ text) = (is_escape e ≡ true) × IsQuoted text

abbrev Found : Bool → List ℕ → ℕ → Type 0
Found b bytes n = (n ≤ length bytes) × Ends b (take n bytes)

plain_from : (c : ℕ) → (c == 34) ≡ false → (c == 10) ≡ false → (c == 92) ≡ false → is_plain c ≡ true
plain_from c quote line slash = not_from_false _ (or_from (c == 10 || c == 34) (c == 92) (or_from (c == 10) (c == 34) line quote) slash)

-- one item more in front
quoted_item : (item text : List ℕ) → IsStringItem item → IsQuoted text → IsQuoted (item ++ text)
quoted_item item text h quoted = record {
  items = item ∷ quoted.items;
  are_items = (h, quoted.are_items);
  parts = ap (λ t. item ++ t) quoted.parts ∙ sym (append_assoc item (concat quoted.items) (34 ∷ []));
}

item_before : (c : ℕ) (text : List ℕ) (b : Bool) → (c == 92) ≡ b → (c == 34) ≡ false → (c == 10) ≡ false → Ends b text → IsQuoted (c ∷ text)
item_before c text false slash quote line ends = quoted_item (c ∷ []) text (plain_from c quote line slash) ends
item_before c [] true slash quote line ends = absurd ends
item_before c (e ∷ text) true slash quote line ends = quoted_item (c ∷ e ∷ []) text (eqb-true c 92 slash, ends.0) ends.1

-- what `1 + n` found came from
one_before : (o : Option ℕ) (n : ℕ) → option_map (λ m. 1 + m) o ≡ Some n → (m : ℕ) × (o ≡ Some m) × (n ≡ suc m)
one_before None n is = let bad : None ≡ Some n = is in cc
one_before (Some m) n is = (m, refl, let e : 1 + m ≡ n = cc in omega (arith, e))

nothing_found : {P : Type 0} (n : ℕ) → None ≡ Some n → P
nothing_found n is = cc

end_found : (bytes : List ℕ) (b : Bool) (n : ℕ) → string_end b bytes ≡ Some n → Found b bytes n
end_found [] true n is = nothing_found n is
end_found [] false n is = nothing_found n is
end_found (c ∷ cs) true n is =
    cond_both (is_escape c) (option_map (λ m. 1 + m) (string_end false cs)) None (λ o. o ≡ Some n → Found true (c ∷ cs) n)
    (λ yes found.
    let m = one_before (string_end false cs) n found in
    let rest = end_found cs false m.0 m.1 in
    let within : suc m.0 ≤ suc (length cs) = omega (arith, rest.0) in
    subst (Found true (c ∷ cs)) (sym m.2) (within, (yes, rest.1)))
    (λ no found. nothing_found n found)
    is
end_found (c ∷ cs) false n is =
    cond_both (c == 34) (Some 1) (cond (c == 10) None (option_map (λ m. 1 + m) (string_end (c == 92) cs))) (λ o. o ≡ Some n → Found false (c ∷ cs) n)
    (λ quote found.
    let one : 1 ≡ n = cc in
    let within : 1 ≤ suc (length cs) = omega arith in
    subst (Found false (c ∷ cs)) one (within, record { items = []; are_items = tt; parts = ap (λ q. q ∷ []) (eqb-true c 34 quote) }))
    (λ no_quote.
    cond_both (c == 10) None (option_map (λ m. 1 + m) (string_end (c == 92) cs)) (λ o. o ≡ Some n → Found false (c ∷ cs) n)
    (λ line found. nothing_found n found)
    (λ no_line found.
    let m = one_before (string_end (c == 92) cs) n found in
    let rest = end_found cs (c == 92) m.0 m.1 in
    let within : suc m.0 ≤ suc (length cs) = omega (arith, rest.0) in
    subst (Found false (c ∷ cs)) (sym m.2) (within, item_before c (take m.0 cs) (c == 92) refl no_quote no_line rest.1)))
    is

-- the bytes of a string end with it
string_is : (items : List (List ℕ)) (more : List ℕ) → AllByRecursion IsStringItem items → string_end false ((concat items ++ 34 ∷ []) ++ more) ≡ Some (length (concat items ++ 34 ∷ []))
string_is [] more h = refl
string_is ([] ∷ items) more h = absurd h.0
string_is ((c ∷ []) ∷ items) more h =
    let text = concat items ++ 34 ∷ [] in
    let slash = or_parts (c == 10 || c == 34) (c == 92) (not_is_true _ h.0) in
    let others = or_parts (c == 10) (c == 34) slash.0 in
    cond-false (c == 34) (Some 1) (cond (c == 10) None (option_map (λ m. 1 + m) (string_end (c == 92) (text ++ more)))) others.1
    ∙ cond-false (c == 10) None (option_map (λ m. 1 + m) (string_end (c == 92) (text ++ more))) others.0
    ∙ ap (λ b. option_map (λ m. 1 + m) (string_end b (text ++ more))) slash.1
    ∙ ap (option_map (λ m. 1 + m)) (string_is items more h.1)
    ∙ ap Some (one_more (length text))
string_is ((c ∷ e ∷ []) ∷ items) more h =
    let text = concat items ++ 34 ∷ [] in
    let two : 1 + (1 + length text) ≡ suc (suc (length text)) = omega arith in
    ap (λ q. string_end false (q ∷ e ∷ (text ++ more))) h.0.0
    ∙ ap (option_map (λ m. 1 + m)) (cond-true (is_escape e) (option_map (λ m. 1 + m) (string_end false (text ++ more))) None h.0.1)
    ∙ ap (λ o. option_map (λ m. 1 + m) (option_map (λ m. 1 + m) o)) (string_is items more h.1)
    ∙ ap Some two
string_is ((c ∷ e ∷ f ∷ fs) ∷ items) more h = absurd h.0

quoted_end : (bytes text more : List ℕ) → IsQuoted text → bytes ≡ text ++ more → string_end false bytes ≡ Some (length text)
quoted_end bytes text more quoted e =
    ap (string_end false) (e ∙ ap (λ t. t ++ more) quoted.parts) ∙ string_is quoted.items more quoted.are_items ∙ ap (λ t. Some (length t)) (sym quoted.parts)

found_front : (bytes : List ℕ) (o : Option ℕ) → string_end false bytes ≡ o → FindsFront IsQuoted bytes o
found_front bytes None is = λ text more quoted e. nothing_found (length text) (sym is ∙ quoted_end bytes text more quoted e)
found_front bytes (Some n) is =
    let found = end_found bytes false n is in record {
      within = found.0;
      fits = found.1;
      longest = λ text more quoted e. let same : Some n ≡ Some (length text) = sym is ∙ quoted_end bytes text more quoted e in let long : n ≡ length text = cc in omega (arith, long);
    }

pub string_front : (bytes : List ℕ) → FindsFront IsQuoted bytes (string_end false bytes)
string_front bytes = found_front bytes (string_end false bytes) refl
