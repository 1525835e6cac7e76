-- Where each field of a site text is bad, and where the text is bad behind it.
use Rattle.site_texts.proofs.Common.{◌≡◌, ℕ, ◌+◌, ◌-◌, ◌<◌, ◌^◌, Bool, true, false, cond, List, [], ◌∷◌, ◌++◌, length, Option, Some, None, refl, sym, subst, ap, ◌∙◌, arith, eqb, nat_lt, nat_tests}
use Rattle.site_texts.proofs.Common.{decimal_injective, decimal, Mode, mode_text, SiteText, IsBadField, IsWordOf, is_control, word_of, IsName, HasBit, HasMode, HasPlace, IsAny, IsStuck, HasControl}
use Rattle.site_texts.proofs.Common.{IsSite, after_bit, bit_text, control_text, kind_text, name_text, place_text, port_text, reads_control, site_text, source_text, top_text}
use Rattle.site_texts.specs.declared.choice.Choice.TheVariants as field
use Rattle.site_texts.proofs.Choosing.{word_below}
use Rattle.site_texts.proofs.Fronts.{solid_no_space}
use Rattle.site_texts.proofs.Splits.{NoSpace}
use Rattle.site_texts.proofs.Stuck.{HasField, Splits, field_stuck, rest_stuck}
use Rattle.site_texts.proofs.Words.{chosen_is, decimal_no_space, mode_at, mode_fits, mode_no_space, mode_same, place_at, place_fits, place_no_space, place_same, plain_fields, plain_site}
use Rattle.site_texts.proofs.Words.{word_no_space}

-- the mode
abbrev mode_field : SiteText → List ℕ
mode_field site = mode_text site.mode

mode_splits : Splits IsAny site_text mode_field top_text
mode_splits = record { splits = λ site f k. refl }

mode_some : (content : List ℕ) → IsWordOf field.Mode content → HasField IsAny mode_field content
mode_some content is =
    let at = mode_at is.0 content is.1 in
    record { site = plain_site at.0 true 0; fields = plain_fields at.0 true 0 (omega arith); known = tt; spelled = at.1 }

pub mode_stuck : (text : List ℕ) (at : ℕ) → IsBadField (IsWordOf field.Mode) text at → IsStuck IsAny site_text text at
mode_stuck = field_stuck IsAny site_text mode_field top_text (IsWordOf field.Mode) mode_splits (λ site f k. mode_fits site.mode) mode_some

pub mode_behind : (mode : Mode) (word : List ℕ) → NoSpace word → word ≡ mode_text mode → (text behind : List ℕ) → text ≡ word ++ 32 ∷ behind → (at : ℕ)
    → IsStuck (HasMode mode) top_text behind at → IsStuck IsAny site_text text (length text - length behind + at)
mode_behind mode word solid is = rest_stuck IsAny (HasMode mode) site_text mode_field top_text mode_splits (λ site f k. mode_no_space site.mode) word solid
    (λ site f k same. mode_same site.mode mode (same ∙ is))
    (λ site f k. record { with_field = record { site = site; fields = f; known = tt; spelled = ap mode_text k ∙ sym is }; same = refl })

-- the top module's name
abbrev pub with_top : List ℕ → SiteText → SiteText
with_top name site = record site { top = name }

pub top_fields : (name : List ℕ) (site : SiteText) → IsName name → IsSite site → IsSite (with_top name site)
top_fields name site is f = record {
  top = is;
  name = f.name;
  port = f.port;
  bit = f.bit;
  control = f.control;
  file = f.file;
  line_some = f.line_some;
  line_fits = f.line_fits;
}

abbrev top_field : SiteText → List ℕ
top_field site = site.top

top_splits : (mode : Mode) → Splits (HasMode mode) top_text top_field kind_text
top_splits mode = record { splits = λ site f k. refl }

pub top_stuck : (mode : Mode) (text : List ℕ) (at : ℕ) → IsBadField IsName text at → IsStuck (HasMode mode) top_text text at
top_stuck mode = field_stuck (HasMode mode) top_text top_field kind_text IsName (top_splits mode) (λ site f k. f.top)
    (λ content is. record { site = with_top content (plain_site mode true 0); fields = top_fields content (plain_site mode true 0) is (plain_fields mode true 0 (omega arith)); known = refl; spelled = refl })

pub top_behind : (mode : Mode) (name : List ℕ) → IsName name → (text behind : List ℕ) → text ≡ name ++ 32 ∷ behind → (at : ℕ)
    → IsStuck (HasMode mode) kind_text behind at → IsStuck (HasMode mode) top_text text (length text - length behind + at)
top_behind mode name is = rest_stuck (HasMode mode) (HasMode mode) top_text top_field kind_text (top_splits mode) (λ site f k. solid_no_space site.top f.top.text) name (solid_no_space name is.text)
    (λ site f k same. k)
    (λ site f k. record { with_field = record { site = with_top name site; fields = top_fields name site is f; known = k; spelled = refl }; same = refl })

-- `cell` or `reg`
abbrev place_field : SiteText → List ℕ
place_field site = place_text site.is_cell

place_splits : (mode : Mode) → Splits (HasMode mode) kind_text place_field name_text
place_splits mode = record { splits = λ site f k. refl }

pub place_stuck : (mode : Mode) (text : List ℕ) (at : ℕ) → IsBadField (IsWordOf field.Place) text at → IsStuck (HasMode mode) kind_text text at
place_stuck mode = field_stuck (HasMode mode) kind_text place_field name_text (IsWordOf field.Place) (place_splits mode) (λ site f k. place_fits site.is_cell)
    (λ content is. record { site = plain_site mode (eqb is.0 0) 0; fields = plain_fields mode (eqb is.0 0) 0 (omega arith); known = refl; spelled = place_at is.0 content is.1 })

pub place_behind : (mode : Mode) (is_cell : Bool) (word : List ℕ) → NoSpace word → word ≡ place_text is_cell → (text behind : List ℕ) → text ≡ word ++ 32 ∷ behind → (at : ℕ)
    → IsStuck (HasPlace mode is_cell) name_text behind at → IsStuck (HasMode mode) kind_text text (length text - length behind + at)
place_behind mode is_cell word solid is = rest_stuck (HasMode mode) (HasPlace mode is_cell) kind_text place_field name_text (place_splits mode) (λ site f k. place_no_space site.is_cell) word solid
    (λ site f k same. (k, place_same site.is_cell is_cell (same ∙ is)))
    (λ site f k. record { with_field = record { site = site; fields = f; known = k.0; spelled = ap place_text k.1 ∙ sym is }; same = refl })

-- the name of the cell or register
abbrev pub with_name : List ℕ → SiteText → SiteText
with_name name site = record site { name = name }

pub name_fields : (name : List ℕ) (site : SiteText) → IsName name → IsSite site → IsSite (with_name name site)
name_fields name site is f = record {
  top = f.top;
  name = is;
  port = f.port;
  bit = f.bit;
  control = f.control;
  file = f.file;
  line_some = f.line_some;
  line_fits = f.line_fits;
}

abbrev name_field : SiteText → List ℕ
name_field site = site.name

name_splits : (mode : Mode) (is_cell : Bool) → Splits (HasPlace mode is_cell) name_text name_field port_text
name_splits mode is_cell = record { splits = λ site f k. refl }

pub name_stuck : (mode : Mode) (is_cell : Bool) (text : List ℕ) (at : ℕ) → IsBadField IsName text at → IsStuck (HasPlace mode is_cell) name_text text at
name_stuck mode is_cell = field_stuck (HasPlace mode is_cell) name_text name_field port_text IsName (name_splits mode is_cell) (λ site f k. f.name)
    (λ content is. record { site = with_name content (plain_site mode is_cell 0); fields = name_fields content (plain_site mode is_cell 0) is (plain_fields mode is_cell 0 (omega arith)); known = (refl, refl); spelled = refl })

pub name_behind : (mode : Mode) (is_cell : Bool) (name : List ℕ) → IsName name → (text behind : List ℕ) → text ≡ name ++ 32 ∷ behind → (at : ℕ)
    → IsStuck (HasPlace mode is_cell) port_text behind at → IsStuck (HasPlace mode is_cell) name_text text (length text - length behind + at)
name_behind mode is_cell name is = rest_stuck (HasPlace mode is_cell) (HasPlace mode is_cell) name_text name_field port_text (name_splits mode is_cell) (λ site f k. solid_no_space site.name f.name.text) name (solid_no_space name is.text)
    (λ site f k same. k)
    (λ site f k. record { with_field = record { site = with_name name site; fields = name_fields name site is f; known = k; spelled = refl }; same = refl })

-- the port
abbrev pub with_port : Bool → List ℕ → SiteText → SiteText
with_port is_cell port site = record site { is_cell = is_cell; port = port }

pub port_fields : (is_cell : Bool) (port : List ℕ) (site : SiteText) → IsWordOf (field.Port is_cell) port → IsSite site → IsSite (with_port is_cell port site)
port_fields is_cell port site is f = record {
  top = f.top;
  name = f.name;
  port = is;
  bit = f.bit;
  control = f.control;
  file = f.file;
  line_some = f.line_some;
  line_fits = f.line_fits;
}

abbrev port_field : SiteText → List ℕ
port_field site = site.port

port_splits : (mode : Mode) (is_cell : Bool) → Splits (HasPlace mode is_cell) port_text port_field bit_text
port_splits mode is_cell = record { splits = λ site f k. refl }

port_word : (is_cell : Bool) (site : SiteText) → IsSite site → site.is_cell ≡ is_cell → IsWordOf (field.Port is_cell) site.port
port_word is_cell site f e = subst (λ (b : Bool). IsWordOf (field.Port b) site.port) e f.port

pub port_stuck : (mode : Mode) (is_cell : Bool) (text : List ℕ) (at : ℕ) → IsBadField (IsWordOf (field.Port is_cell)) text at → IsStuck (HasPlace mode is_cell) port_text text at
port_stuck mode is_cell = field_stuck (HasPlace mode is_cell) port_text port_field bit_text (IsWordOf (field.Port is_cell)) (port_splits mode is_cell) (λ site f k. port_word is_cell site f k.1)
    (λ content is. record {
      site = with_port is_cell content (plain_site mode is_cell 0);
      fields = port_fields is_cell content (plain_site mode is_cell 0) is (plain_fields mode is_cell 0 (omega arith));
      known = (refl, refl);
      spelled = refl;
    })

pub port_behind : (mode : Mode) (is_cell : Bool) (port : List ℕ) → IsWordOf (field.Port is_cell) port → (text behind : List ℕ) → text ≡ port ++ 32 ∷ behind → (at : ℕ)
    → IsStuck (HasMode mode) bit_text behind at → IsStuck (HasPlace mode is_cell) port_text text (length text - length behind + at)
port_behind mode is_cell port is = rest_stuck (HasPlace mode is_cell) (HasMode mode) port_text port_field bit_text (port_splits mode is_cell)
    (λ site f k. let w = port_word is_cell site f k.1 in word_no_space (field.Port is_cell) w.0 site.port w.1) port (word_no_space (field.Port is_cell) is.0 port is.1)
    (λ site f k same. k.0)
    (λ site f k. record { with_field = record { site = with_port is_cell port site; fields = port_fields is_cell port site is f; known = (k, refl); spelled = refl }; same = refl })

-- the bit
abbrev bit_field : SiteText → List ℕ
bit_field site = decimal site.bit

bit_splits : (mode : Mode) → Splits (HasMode mode) bit_text bit_field control_text
bit_splits mode = record { splits = λ site f k. refl }

pub bit_is : (n : ℕ) (word : List ℕ) → word_of field.Bit n ≡ Some word → (decimal n ≡ word) × (n < 128)
bit_is n word is = (chosen_is (nat_lt n 128) (decimal n) word is, word_below field.Bit n word is)

bit_fits : (n : ℕ) → n < 128 → IsWordOf field.Bit (decimal n)
bit_fits n below = let t : nat_lt n 128 ≡ true = grind (arith, nat_tests) in (n, ap (λ (b : Bool). cond b (Some (decimal n)) None) t)

pub bit_stuck : (mode : Mode) (text : List ℕ) (at : ℕ) → IsBadField (IsWordOf field.Bit) text at → IsStuck (HasMode mode) bit_text text at
bit_stuck mode = field_stuck (HasMode mode) bit_text bit_field control_text (IsWordOf field.Bit) (bit_splits mode) (λ site f k. bit_fits site.bit f.bit)
    (λ content is. let b = bit_is is.0 content is.1 in record { site = plain_site mode true is.0; fields = plain_fields mode true is.0 b.1; known = refl; spelled = b.0 })

pub bit_behind : (mode : Mode) (bit : ℕ) (word : List ℕ) → word_of field.Bit bit ≡ Some word → (text behind : List ℕ) → text ≡ word ++ 32 ∷ behind → (at : ℕ)
    → IsStuck (HasBit mode bit) control_text behind at → IsStuck (HasMode mode) bit_text text (length text - length behind + at)
bit_behind mode bit word is =
    let b = bit_is bit word is in
    rest_stuck (HasMode mode) (HasBit mode bit) bit_text bit_field control_text (bit_splits mode) (λ site f k. let small : site.bit < 2 ^ 64 = omega (arith, f.bit) in decimal_no_space site.bit small) word (word_no_space field.Bit bit word is)
    (λ site f k same. let below : site.bit < 2 ^ 64 = omega (arith, f.bit) in let small : bit < 2 ^ 64 = omega (arith, b.1) in (k, decimal_injective site.bit bit below small (same ∙ sym b.0)))
    (λ site f k. record { with_field = record { site = site; fields = f; known = k.0; spelled = ap decimal k.1 ∙ b.0 }; same = refl })

-- the control bit
abbrev pub with_control : Mode → ℕ → Option ℕ → SiteText → SiteText
with_control mode bit control site = record site { mode = mode; bit = bit; control = control }

pub control_fields : (mode : Mode) (bit : ℕ) (control : Option ℕ) (site : SiteText) → bit < 128 → HasControl mode bit control → IsSite site → IsSite (with_control mode bit control site)
control_fields mode bit control site below is f = record {
  top = f.top;
  name = f.name;
  port = f.port;
  bit = below;
  control = is;
  file = f.file;
  line_some = f.line_some;
  line_fits = f.line_fits;
}

-- A mode that reads no control bit has the rest at once.
no_control : (o : Option ℕ) (mode : Mode) (bit : ℕ) (rest : List ℕ) → reads_control mode ≡ false → HasControl mode bit o → after_bit o rest ≡ rest
no_control None mode bit rest none is = refl
no_control (Some c) mode bit rest none is = let bad : true ≡ false = sym is.0 ∙ none in absurd cc

reads_none : (mode : Mode) (bit : ℕ) (site : SiteText) → reads_control mode ≡ false → IsSite site → HasBit mode bit site → control_text site ≡ source_text site
reads_none mode bit site none f k = no_control site.control site.mode site.bit (source_text site) (ap reads_control k.0 ∙ none) f.control

pub none_stuck : (mode : Mode) (bit : ℕ) → reads_control mode ≡ false → bit < 128 → (text : List ℕ) (at : ℕ) → IsStuck IsAny source_text text at → IsStuck (HasBit mode bit) control_text text at
none_stuck mode bit none below text at bad =
    let s = bad.before in
    record {
      within = bad.within;
      more = bad.more;
      before = record {
        site = with_control mode bit None s.site;
        fields = control_fields mode bit None s.site below none s.fields;
        known = (refl, refl);
        spelled = s.spelled;
      };
      here = λ other less is. bad.here other less (record { site = is.site; fields = is.fields; known = tt; spelled = is.spelled ∙ reads_none mode bit is.site none is.fields is.known });
      none = λ is. bad.none (record { site = is.site; fields = is.fields; known = tt; spelled = is.spelled ∙ reads_none mode bit is.site none is.fields is.known });
    }

abbrev number_text : Option ℕ → List ℕ
number_text None = []
number_text (Some c) = decimal c

abbrev control_field : SiteText → List ℕ
control_field site = number_text site.control

a_control : (o : Option ℕ) (mode : Mode) (bit : ℕ) (rest : List ℕ) → reads_control mode ≡ true → HasControl mode bit o → after_bit o rest ≡ number_text o ++ 32 ∷ rest
a_control None mode bit rest reads is = let bad : false ≡ true = sym is ∙ reads in absurd cc
a_control (Some c) mode bit rest reads is = refl

control_splits : (mode : Mode) (bit : ℕ) → reads_control mode ≡ true → Splits (HasBit mode bit) control_text control_field source_text
control_splits mode bit reads = record { splits = λ site f k. a_control site.control site.mode site.bit (source_text site) (ap reads_control k.0 ∙ reads) f.control }

control_word : (o : Option ℕ) (mode : Mode) (bit : ℕ) → reads_control mode ≡ true → HasControl mode bit o → IsWordOf (field.Control bit) (number_text o)
control_word None mode bit reads is = let bad : false ≡ true = sym is ∙ reads in absurd cc
control_word (Some c) mode bit reads is = (c, ap (λ (b : Bool). cond b (Some (decimal c)) None) is.1)

control_fits : (mode : Mode) (bit : ℕ) → reads_control mode ≡ true → (site : SiteText) → IsSite site → HasBit mode bit site → IsWordOf (field.Control bit) (control_field site)
control_fits mode bit reads site f k = subst (λ (b : ℕ). IsWordOf (field.Control b) (control_field site)) k.1 (control_word site.control site.mode site.bit (ap reads_control k.0 ∙ reads) f.control)

chosen_true : (b : Bool) (text word : List ℕ) → cond b (Some text) None ≡ Some word → b ≡ true
chosen_true true text word is = refl
chosen_true false text word is = absurd cc

pub control_is : (mode : Mode) (bit n : ℕ) (word : List ℕ) → reads_control mode ≡ true → word_of (field.Control bit) n ≡ Some word → HasControl mode bit (Some n) × (decimal n ≡ word)
control_is mode bit n word reads is = ((reads, chosen_true (is_control bit n) (decimal n) word is), chosen_is (is_control bit n) (decimal n) word is)

pub control_stuck : (mode : Mode) (bit : ℕ) → reads_control mode ≡ true → bit < 128 → (text : List ℕ) (at : ℕ) → IsBadField (IsWordOf (field.Control bit)) text at → IsStuck (HasBit mode bit) control_text text at
control_stuck mode bit reads below = field_stuck (HasBit mode bit) control_text control_field source_text (IsWordOf (field.Control bit)) (control_splits mode bit reads) (control_fits mode bit reads)
    (λ content is. let c = control_is mode bit is.0 content reads is.1 in record {
      site = with_control mode bit (Some is.0) (plain_site mode true bit);
      fields = control_fields mode bit (Some is.0) (plain_site mode true bit) below c.0 (plain_fields mode true bit below);
      known = (refl, refl);
      spelled = c.1;
    })

pub control_behind : (mode : Mode) (bit n : ℕ) (word : List ℕ) → reads_control mode ≡ true → bit < 128 → word_of (field.Control bit) n ≡ Some word → (text behind : List ℕ) → text ≡ word ++ 32 ∷ behind → (at : ℕ)
    → IsStuck IsAny source_text behind at → IsStuck (HasBit mode bit) control_text text (length text - length behind + at)
control_behind mode bit n word reads below is =
    let c = control_is mode bit n word reads is in
    rest_stuck (HasBit mode bit) IsAny control_text control_field source_text (control_splits mode bit reads)
    (λ site f k. let w = control_fits mode bit reads site f k in word_no_space (field.Control bit) w.0 (control_field site) w.1) word (word_no_space (field.Control bit) n word is)
    (λ site f k same. tt)
    (λ site f k. record {
      with_field = record {
        site = with_control mode bit (Some n) site;
        fields = control_fields mode bit (Some n) site below c.0 f;
        known = (refl, refl);
        spelled = c.1;
      };
      same = refl;
    })
