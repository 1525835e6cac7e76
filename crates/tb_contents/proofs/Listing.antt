-- Items and ports, one after the other.
use Rattle.std.proofs.Common.{◌≡◌, ℕ, ◌+◌, ◌<◌, List, [], ◌∷◌, ◌++◌, map, length, take, drop, get_or, sym, ap, ◌∙◌}
use Rattle.std.proofs.lemmas.List.{append_assoc, drop_more, take_more, map-append}
use Rattle.netlist_core.specs.declared.port.Port.{Port}
use Rattle.vlog_meaning.specs.Scopes.{Names, with_name}
use Rattle.tb_items.specs.declared.design.Design.{Design}
use Rattle.tb_items.specs.Designs.{hidden_name, port_sign}
use Rattle.tb_signals.specs.Tables.{hidden_decl}
use Rattle.tb_contents.specs.Hidden.{hidden_names, numbers_from}

-- the next port
pub named_next : (d : Design) (instance : List ℕ) (names : Names) (n : ℕ) (ports : List Port) (i : ℕ) (p : Port) → i < length ports → p ≡ get_or ports i p → hidden_names d instance names n (drop i ports) ≡ hidden_names d instance (with_name names (hidden_name instance p.name) (hidden_decl (length p.bits) (port_sign d p.name) n)) (n + 1) (drop (i + 1) ports)
named_next d instance names n ports i p h is =
    ap (hidden_names d instance names n) (drop_more ports i p h ∙ ap (λ x. x ∷ drop (i + 1) ports) (sym is))

pub numbered_next : (n : ℕ) (ports : List Port) (i : ℕ) (p : Port) → i < length ports → p ≡ get_or ports i p → numbers_from n (drop i ports) ≡ n ∷ numbers_from (n + 1) (drop (i + 1) ports)
numbered_next n ports i p h is = ap (numbers_from n) (drop_more ports i p h ∙ ap (λ x. x ∷ drop (i + 1) ports) (sym is))

pub port_hidden : (d : Design) (instance : List ℕ) (old new whole : Names) (n m : ℕ) (ports : List Port) (i : ℕ) (p : Port) → i < length ports → p ≡ get_or ports i p → new ≡ with_name old (hidden_name instance p.name) (hidden_decl (length p.bits) (port_sign d p.name) n) → m ≡ n + 1 → hidden_names d instance old n (drop i ports) ≡ whole → hidden_names d instance new m (drop (i + 1) ports) ≡ whole
port_hidden d instance old new whole n m ports i p h is there more before =
    ap (λ (x : Names). hidden_names d instance x m (drop (i + 1) ports)) there ∙ ap (λ (k : ℕ). hidden_names d instance (with_name old (hidden_name instance p.name) (hidden_decl (length p.bits) (port_sign d p.name) n)) k (drop (i + 1) ports)) more ∙ sym (named_next d instance old n ports i p h is) ∙ before

pub port_numbered : (numbers after whole : List ℕ) (n m k : ℕ) (ports : List Port) (i : ℕ) (p : Port) → i < length ports → p ≡ get_or ports i p → after ≡ numbers ++ k ∷ [] → k ≡ n → m ≡ n + 1 → numbers ++ numbers_from n (drop i ports) ≡ whole → after ++ numbers_from m (drop (i + 1) ports) ≡ whole
port_numbered numbers after whole n m k ports i p h is items at more before =
    ap (λ xs. xs ++ numbers_from m (drop (i + 1) ports)) items ∙ ap (λ (x : ℕ). (numbers ++ x ∷ []) ++ numbers_from m (drop (i + 1) ports)) at ∙ ap (λ (x : ℕ). (numbers ++ n ∷ []) ++ numbers_from x (drop (i + 1) ports)) more ∙ append_assoc numbers (n ∷ []) (numbers_from (n + 1) (drop (i + 1) ports)) ∙ ap (λ xs. numbers ++ xs) (sym (numbered_next n ports i p h is)) ∙ before

-- one port more of those that were hidden
pub ports_wide : (before now after : List ℕ) (f : Port → ℕ) (ports : List Port) (i : ℕ) (p : Port) (w : ℕ) → i < length ports → p ≡ get_or ports i p → w ≡ f p → now ≡ before ++ map f (take i ports) → after ≡ now ++ w ∷ [] → after ≡ before ++ map f (take (i + 1) ports)
ports_wide before now after f ports i p w h is wide so_far more =
    more ∙ ap (λ xs. xs ++ w ∷ []) so_far ∙ append_assoc before (map f (take i ports)) (w ∷ []) ∙ ap (λ (x : ℕ). before ++ (map f (take i ports) ++ x ∷ [])) wide ∙ ap (λ xs. before ++ xs) (sym (map-append f (take i ports) (p ∷ [])) ∙ ap (map f) (sym (take_more ports i p h ∙ ap (λ x. take i ports ++ x ∷ []) (sym is))))
