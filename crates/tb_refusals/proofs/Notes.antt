-- What was noted of items, one more.
use Rattle.tb_refusals.proofs.Common.{◌≡◌, Bool, true, false, ◌||◌, List, [], ◌∷◌, ◌++◌, refl, sym, ap, ◌∙◌, Names, BenchItem, written_of, Written, nothing, with_outputs, with_item, with_items}
use Rattle.tb_refusals.proofs.Common.{Context, is_generator, is_design, is_start, some_item, HasSeen}
use Rattle.tb_refusals.specs.declared.seen.Seen.{Seen}
use Rattle.flat_scopes.proofs.Labels.{or_more}

off : (a : Bool) → (a || false) ≡ a
off true = refl
off false = refl

some_more : (p : BenchItem → Bool) (xs : List BenchItem) (y : BenchItem) → some_item p (xs ++ y ∷ []) ≡ (some_item p xs || p y)
some_more p [] y = off (p y)
some_more p (x ∷ xs) y = ap (λ (b : Bool). p x || b) (some_more p xs y) ∙ or_more (p x) (some_item p xs) (p y)

pub written_more : (names : Names) (w : Written) (xs : List BenchItem) (y : BenchItem) → with_items names w (xs ++ y ∷ []) ≡ with_item names (with_items names w xs) y
written_more names w [] y = refl
written_more names w (x ∷ xs) y = written_more names (with_item names w x) xs y

pub seen_more : (c : Context) (before : List BenchItem) (x : BenchItem) (old new : Seen) → HasSeen c before old
    → new.has_generator ≡ (old.has_generator || is_generator x) → new.has_design ≡ (old.has_design || is_design x) → new.has_start ≡ (old.has_start || is_start c x)
    → written_of new.writers ≡ with_item c.names (written_of old.writers) x → HasSeen c (before ++ x ∷ []) new
seen_more c before x old new has g d s w = record {
  generator = g ∙ ap (λ (b : Bool). b || is_generator x) has.generator ∙ sym (some_more is_generator before x);
  design = d ∙ ap (λ (b : Bool). b || is_design x) has.design ∙ sym (some_more is_design before x);
  start = s ∙ ap (λ (b : Bool). b || is_start c x) has.start ∙ sym (some_more (is_start c) before x);
  writes = w ∙ ap (λ (v : Written). with_item c.names v x) has.writes ∙ sym (written_more c.names (with_outputs nothing c.outputs) before x);
}
