-- What was read of a site's fields, with the part behind them.
use Rattle.site_texts.proofs.Common.{◌≡◌, ℕ, ◌<◌, Bool, true, false, List, ◌∷◌, ◌++◌, Option, Some, None, refl, sym, subst, ap, ◌∙◌, decimal, Mode, mode_text, Bits, Parts, PlaceText, SiteText, Source}
use Rattle.site_texts.proofs.Common.{IsWordOf, word_of, IsName, AreOf, AreOfBits, AreOfControl, AreOfPlace, AreOfPort, AreOfSource, HasBit, HasMode, HasPlace, IsAny, IsPart, bit_text, control_text}
use Rattle.site_texts.proofs.Common.{kind_text, name_text, place_text, port_text, reads_control, site_text, source_text, top_text}
use Rattle.site_texts.specs.declared.choice.Choice.TheVariants as field
use Rattle.site_texts.proofs.Fields.{bit_is, control_fields, control_is, name_fields, port_fields, top_fields, with_control, with_name, with_port, with_top}

pub mode_part : (mode : Mode) (word : List ℕ) → word ≡ mode_text mode → (Fields : SiteText → Type 0) (text behind : List ℕ) → text ≡ word ++ 32 ∷ behind → IsPart (HasMode mode) top_text Fields behind → IsPart IsAny site_text Fields text
mode_part mode word is Fields text behind e part =
    let s = part.rest in
    record {
      rest = record {
        site = s.site;
        fields = s.fields;
        known = tt;
        spelled = e ∙ ap (λ t. word ++ 32 ∷ t) s.spelled ∙ ap (λ w. w ++ 32 ∷ top_text s.site) (is ∙ ap mode_text (sym s.known));
      };
      fields = part.fields;
    }

pub top_part : (mode : Mode) (name : List ℕ) → IsName name → (place : PlaceText) (parts : Parts) → parts.mode ≡ mode → parts.top.now ≡ name → parts.place ≡ place → (text behind : List ℕ) → text ≡ name ++ 32 ∷ behind
    → IsPart (HasMode mode) kind_text (AreOfPlace place) behind → IsPart (HasMode mode) top_text (AreOf parts) text
top_part mode name is place parts of_mode of_top of_place text behind e part =
    let s = part.rest in
    record {
      rest = record {
        site = with_top name s.site;
        fields = top_fields name s.site is s.fields;
        known = s.known;
        spelled = e ∙ ap (λ t. name ++ 32 ∷ t) s.spelled;
      };
      fields = (of_mode ∙ sym s.known, of_top, subst (λ (p : PlaceText). AreOfPlace p s.site) (sym of_place) part.fields);
    }

pub place_part : (mode : Mode) (is_cell : Bool) (word : List ℕ) → word ≡ place_text is_cell → (Fields : SiteText → Type 0) (text behind : List ℕ) → text ≡ word ++ 32 ∷ behind
    → IsPart (HasPlace mode is_cell) name_text Fields behind → IsPart (HasMode mode) kind_text Fields text
place_part mode is_cell word is Fields text behind e part =
    let s = part.rest in
    record {
      rest = record {
        site = s.site;
        fields = s.fields;
        known = s.known.0;
        spelled = e ∙ ap (λ t. word ++ 32 ∷ t) s.spelled ∙ ap (λ w. w ++ 32 ∷ name_text s.site) (is ∙ ap place_text (sym s.known.1));
      };
      fields = part.fields;
    }

pub name_part : (mode : Mode) (is_cell : Bool) (name : List ℕ) → IsName name → (port : List ℕ) (bits : Bits) (place : PlaceText) → place.is_cell ≡ is_cell → place.name.now ≡ name → place.port.now ≡ port → place.bits ≡ bits
    → (text behind : List ℕ) → text ≡ name ++ 32 ∷ behind → IsPart (HasPlace mode is_cell) port_text (AreOfPort port bits) behind → IsPart (HasPlace mode is_cell) name_text (AreOfPlace place) text
name_part mode is_cell name is port bits place of_cell of_name of_port of_bits text behind e part =
    let s = part.rest in
    record {
      rest = record {
        site = with_name name s.site;
        fields = name_fields name s.site is s.fields;
        known = s.known;
        spelled = e ∙ ap (λ t. name ++ 32 ∷ t) s.spelled;
      };
      fields = (of_cell ∙ sym s.known.1, of_name, (of_port ∙ part.fields.0, subst (λ (b : Bits). AreOfBits b s.site) (sym of_bits) part.fields.1));
    }

pub port_part : (mode : Mode) (is_cell : Bool) (port : List ℕ) → IsWordOf (field.Port is_cell) port → (bits : Bits) (text behind : List ℕ) → text ≡ port ++ 32 ∷ behind
    → IsPart (HasMode mode) bit_text (AreOfBits bits) behind → IsPart (HasPlace mode is_cell) port_text (AreOfPort port bits) text
port_part mode is_cell port is bits text behind e part =
    let s = part.rest in
    record {
      rest = record {
        site = with_port is_cell port s.site;
        fields = port_fields is_cell port s.site is s.fields;
        known = (s.known, refl);
        spelled = e ∙ ap (λ t. port ++ 32 ∷ t) s.spelled;
      };
      fields = (refl, part.fields);
    }

pub bit_part : (mode : Mode) (bit : ℕ) (word : List ℕ) → word_of field.Bit bit ≡ Some word → (control : Option ℕ) (source : Source) (bits : Bits) → bits.bit ≡ bit → bits.control ≡ control → bits.source ≡ source
    → (text behind : List ℕ) → text ≡ word ++ 32 ∷ behind → IsPart (HasBit mode bit) control_text (AreOfControl control source) behind → IsPart (HasMode mode) bit_text (AreOfBits bits) text
bit_part mode bit word is control source bits of_bit of_control of_source text behind e part =
    let s = part.rest in
    record {
      rest = record {
        site = s.site;
        fields = s.fields;
        known = s.known.0;
        spelled = e ∙ ap (λ t. word ++ 32 ∷ t) s.spelled ∙ ap (λ w. w ++ 32 ∷ control_text s.site) (sym (bit_is bit word is).0 ∙ ap decimal (sym s.known.1));
      };
      fields = (of_bit ∙ sym s.known.1, (of_control ∙ part.fields.0, subst (λ (o : Source). AreOfSource o s.site) (sym of_source) part.fields.1));
    }

pub none_part : (mode : Mode) (bit : ℕ) → reads_control mode ≡ false → bit < 128 → (source : Source) (text : List ℕ) → IsPart IsAny source_text (AreOfSource source) text → IsPart (HasBit mode bit) control_text (AreOfControl None source) text
none_part mode bit none below source text part =
    let s = part.rest in
    record {
      rest = record {
        site = with_control mode bit None s.site;
        fields = control_fields mode bit None s.site below none s.fields;
        known = (refl, refl);
        spelled = s.spelled;
      };
      fields = (refl, part.fields);
    }

pub control_part : (mode : Mode) (bit n : ℕ) (word : List ℕ) → reads_control mode ≡ true → bit < 128 → word_of (field.Control bit) n ≡ Some word → (source : Source) (text behind : List ℕ) → text ≡ word ++ 32 ∷ behind
    → IsPart IsAny source_text (AreOfSource source) behind → IsPart (HasBit mode bit) control_text (AreOfControl (Some n) source) text
control_part mode bit n word reads below is source text behind e part =
    let s = part.rest in
    let c = control_is mode bit n word reads is in
    record {
      rest = record {
        site = with_control mode bit (Some n) s.site;
        fields = control_fields mode bit (Some n) s.site below c.0 s.fields;
        known = (refl, refl);
        spelled = e ∙ ap (λ t. word ++ 32 ∷ t) s.spelled ∙ ap (λ w. w ++ 32 ∷ source_text s.site) (sym c.1);
      };
      fields = (refl, part.fields);
    }
