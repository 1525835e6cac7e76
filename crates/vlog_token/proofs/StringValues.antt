-- The bytes of a string's items.
use Rattle.vlog_token.proofs.Common.{◌≡◌, ℕ, true, false, cond, ◌||◌, List, [], ◌∷◌, ◌++◌, map, drop, refl, ap, ◌∙◌, ◌==◌, AllByRecursion, concat, cond-false, or_parts, IsStringItem, escape_byte}
use Rattle.vlog_token.proofs.Common.{IsStringValue, item_byte, unescaped}
use Rattle.vlog_token.proofs.StringFronts.{not_is_true}

unescaped_items : (items : List (List ℕ)) → AllByRecursion IsStringItem items → unescaped false (concat items ++ 34 ∷ []) ≡ map item_byte items
unescaped_items [] h = refl
unescaped_items ([] ∷ items) h = absurd h.0
unescaped_items ((c ∷ []) ∷ items) h =
    let text = concat items ++ 34 ∷ [] in
    let slash = or_parts (c == 10 || c == 34) (c == 92) (not_is_true _ h.0) in
    let others = or_parts (c == 10) (c == 34) slash.0 in
    cond-false (c == 34) [] (cond (c == 92) (unescaped true text) (c ∷ unescaped false text)) others.1
    ∙ cond-false (c == 92) (unescaped true text) (c ∷ unescaped false text) slash.1
    ∙ ap (λ l. c ∷ l) (unescaped_items items h.1)
unescaped_items ((c ∷ e ∷ []) ∷ items) h =
    let text = concat items ++ 34 ∷ [] in
    ap (λ q. unescaped false (q ∷ e ∷ text)) h.0.0 ∙ ap (λ l. escape_byte e ∷ l) (unescaped_items items h.1)
unescaped_items ((c ∷ e ∷ f ∷ fs) ∷ items) h = absurd h.0

pub string_value_of : (text bytes : List ℕ) → bytes ≡ unescaped false (drop 1 text) → IsStringValue text bytes
string_value_of text bytes is items are e = is ∙ ap (λ t. unescaped false (drop 1 t)) e ∙ unescaped_items items are
