-- The first fault where one list of faults is looked at only if another is empty.
use Rattle.vlog_meaning.proofs.Common.{◌≡◌, List, [], ◌∷◌, ◌++◌, refl, sym, ap, ◌∙◌, subst, Option, None, Some, Expr, Fault, Shape, Names, least, earlier, Sense, sense, senses, or_else, not_constant}
use Rattle.vlog_meaning.proofs.Common.{constant_faults, constant_faults_at, all_faults, IsWhole, AreWhole}
use Rattle.vlog_meaning.proofs.Blanks.{left_nil, right_nil, these_nil}
use Rattle.vlog_meaning.proofs.Firsts.{least_none, least_append}

pub least_empty : None ≡ least []
unfolding least
least_empty = refl

pub kept : (xs ys : List Fault) (o : Option Fault) (f : Fault) → o ≡ least xs → o ≡ Some f → Some f ≡ least (or_else xs ys)
unfolding least
kept [] ys o f is some = cc
kept (x ∷ xs) ys o f is some = sym some ∙ is

pub passed : (xs ys : List Fault) (o r : Option Fault) → o ≡ least xs → o ≡ None → r ≡ least ys → r ≡ least (or_else xs ys)
passed xs ys o r is none e = let P : List Fault → Type 0 = λ zs. r ≡ least (or_else zs ys) in subst P (sym (least_none xs (sym is ∙ none))) e

-- the first of two lists in turn
pub pair_first : (xs ys : List Fault) (a b r : Option Fault) → r ≡ earlier a b → a ≡ least xs → b ≡ least ys → r ≡ least (xs ++ ys)
pair_first xs ys a b r is left right = is ∙ ap (λ (o : Option Fault). earlier o b) left ∙ ap (earlier (least xs)) right ∙ sym (least_append xs ys)

pub constant_whole : (a : Sense) → constant_faults a ≡ [] → a.faults ≡ []
constant_whole a e = right_nil _ _ (these_nil _ _ e)

pub constant_is_whole : (names : Names) (e : Expr) (o : Option Fault) → o ≡ least (constant_faults (sense names e)) → o ≡ None → IsWhole names e
constant_is_whole names e o is none = constant_whole (sense names e) (least_none _ (sym is ∙ none))

pub constant_is_whole_at : (names : Names) (e : Expr) (c : Shape) (o : Option Fault) → o ≡ least (constant_faults_at (sense names e) c) → o ≡ None → IsWhole names e
constant_is_whole_at names e c o is none = right_nil _ _ (these_nil _ _ (least_none _ (sym is ∙ none)))

pub constant_is_settled : (names : Names) (e : Expr) (o : Option Fault) → o ≡ least (constant_faults (sense names e)) → o ≡ None → (sense names e).signals ≡ []
constant_is_settled names e o is none = left_nil _ _ (these_nil _ _ (least_none _ (sym is ∙ none)))

pub constant_is_settled_at : (names : Names) (e : Expr) (c : Shape) (o : Option Fault) → o ≡ least (constant_faults_at (sense names e) c) → o ≡ None → (sense names e).signals ≡ []
constant_is_settled_at names e c o is none = left_nil _ _ (these_nil _ _ (least_none _ (sym is ∙ none)))

pub bounds_first : (names : Names) (m l : Expr) (o : Option Fault) → o ≡ least (constant_faults (sense names m) ++ constant_faults (sense names l)) → o ≡ None → IsWhole names m
bounds_first names m l o is none = constant_whole (sense names m) (left_nil _ _ (least_none _ (sym is ∙ none)))

pub bounds_second : (names : Names) (m l : Expr) (o : Option Fault) → o ≡ least (constant_faults (sense names m) ++ constant_faults (sense names l)) → o ≡ None → IsWhole names l
bounds_second names m l o is none = constant_whole (sense names l) (right_nil _ _ (least_none _ (sym is ∙ none)))

pub parts_are_whole : (names : Names) (ps : List Expr) (o : Option Fault) → o ≡ least (all_faults (senses names ps)) → o ≡ None → AreWhole names ps
parts_are_whole names ps o is none = least_none _ (sym is ∙ none)

pub times_is_whole : (names : Names) (k : Expr) (ps : List Expr) (more : List Fault) (o : Option Fault) → o ≡ least (or_else (constant_faults (sense names k)) more ++ all_faults (senses names ps)) → o ≡ None → IsWhole names k
times_is_whole names k ps more o is none = constant_whole (sense names k) (these_nil _ _ (left_nil _ _ (least_none _ (sym is ∙ none))))

pub times_parts_whole : (names : Names) (k : Expr) (ps : List Expr) (more : List Fault) (o : Option Fault) → o ≡ least (or_else (constant_faults (sense names k)) more ++ all_faults (senses names ps)) → o ≡ None → AreWhole names ps
times_parts_whole names k ps more o is none = right_nil _ _ (least_none _ (sym is ∙ none))

pub rest_is_whole : (names : Names) (e : Expr) (o : Option Fault) → o ≡ least (not_constant (sense names e)) → o ≡ None → IsWhole names e
rest_is_whole names e o is none = right_nil _ _ (least_none _ (sym is ∙ none))

-- signals, and then faults
pub not_constant_first : (a : Sense) (s f r : Option Fault) → r ≡ earlier s f → s ≡ least a.signals → f ≡ least a.faults → r ≡ least (not_constant a)
not_constant_first a s f r is left right = pair_first a.signals a.faults s f r is left right
