-- The formats of a text, one byte after the other.
use Rattle.std.proofs.Common.{◌≡◌, ℕ, ◌+◌, ◌<◌, ◌≤◌, Bool, true, false, List, [], ◌∷◌, ◌++◌, Option, Some, None, option_map, drop, get_or, length, refl, sym, ap, ◌∙◌, append_assoc, append-nil, if◌then◌else◌}
use Rattle.std.proofs.lemmas.List.{at_drop_more, at_drop_all}
use Rattle.report_lines.specs.declared.format.Begun.{Begun}
use Rattle.report_lines.specs.declared.format.Format.{Format}
use Rattle.report_lines.specs.declared.format.Step.{Step}
use Rattle.report_lines.specs.Formats.{byte_step, formats_from, is_between, with_made}
use Rattle.report_lines.proofs.ShareList.{behind}

abbrev after : Option Step → List ℕ → Option (List Format)
after o more = elim o [ None ↦ None | Some s ↦ option_map (λ fs. with_made [] s.made ++ fs) (formats_from s.begun more) ]

byte_here : (b : Begun) (text : List ℕ) (i d : ℕ) (o : Option Step) → i < length text → byte_step b (get_or text i d) ≡ o → formats_from b (drop i text) ≡ after o (drop (i + 1) text)
unfolding formats_from
byte_here b text i d o l h =
    at_drop_more (formats_from b) text i d l
    ∙ ap (λ (s : Option Step). after s (drop (i + 1) text)) h

join_made : (done : List Format) (m : Option Format) (o : Option (List Format)) → behind done (option_map (λ fs. with_made [] m ++ fs) o) ≡ behind (with_made done m) o
join_made done None None = refl
join_made done None (Some fs) = refl
join_made done (Some f) None = refl
join_made done (Some f) (Some fs) = ap Some (sym (append_assoc done (f ∷ []) fs))

pub byte_none : (done : List Format) (b : Begun) (text : List ℕ) (i d : ℕ) → i < length text → byte_step b (get_or text i d) ≡ None → behind done (formats_from b (drop i text)) ≡ None
byte_none done b text i d l h = ap (behind done) (byte_here b text i d None l h)

pub byte_more : (done : List Format) (b : Begun) (text : List ℕ) (i d : ℕ) (s : Step) → i < length text → byte_step b (get_or text i d) ≡ Some s → behind done (formats_from b (drop i text)) ≡ behind (with_made done s.made) (formats_from s.begun (drop (i + 1) text))
byte_more done b text i d s l h = ap (behind done) (byte_here b text i d (Some s) l h) ∙ join_made done s.made (formats_from s.begun (drop (i + 1) text))

end_if : (done : List Format) (c : Bool) → behind done (if c then Some [] else None) ≡ (if c then Some done else None)
end_if done true = ap Some (append-nil done)
end_if done false = refl

byte_end : (done : List Format) (b : Begun) (text : List ℕ) (i : ℕ) → length text ≤ i → behind done (formats_from b (drop i text)) ≡ (if is_between b then Some done else None)
unfolding formats_from
byte_end done b text i l = ap (behind done) (at_drop_all (formats_from b) text i l) ∙ end_if done (is_between b)

pub end_done : (done : List Format) (b : Begun) (text : List ℕ) (i : ℕ) (all : Option (List Format)) → length text ≤ i → is_between b ≡ true → behind done (formats_from b (drop i text)) ≡ all → Some done ≡ all
end_done done b text i all l t e = sym (byte_end done b text i l ∙ ap (λ (c : Bool). if c then Some done else None) t) ∙ e

pub end_open : (done : List Format) (b : Begun) (text : List ℕ) (i : ℕ) (all : Option (List Format)) → length text ≤ i → is_between b ≡ false → behind done (formats_from b (drop i text)) ≡ all → None ≡ all
end_open done b text i all l f e = sym (byte_end done b text i l ∙ ap (λ (c : Bool). if c then Some done else None) f) ∙ e
