-- The longest front of the one kind that its first byte allows is the token there.
use Rattle.vlog_token.proofs.Common.{◌≡◌, ℕ, ◌+◌, ◌<◌, ◌≤◌, false, List, [], ◌∷◌, ◌++◌, length, take, drop, refl, sym, ap, ◌∙◌, subst, arith, take-append-drop, length-take-le, Option, Some, None}
use Rattle.vlog_token.proofs.Common.{option_map, slice_index, TokenKind, Name, Escaped, System, Directive, Number, String, Symbol, Behind, Fits, IsLongest, number_of, begins_gap, HasValue}
use Rattle.vlog_token.proofs.Common.{IsBadCharacter, IsBadNumber, IsTokenHere, NoneFits, fault_without, FindsFront, IsBodyOf, IsFaultOf, IsLongestFront, kind_from, LacksValue, NoFront}
use Rattle.vlog_token.proofs.Runs.{one_more}
use Rattle.vlog_token.proofs.KindLemmas.{front_kind, kind_starts, Starts}

tail_same : (c d : ℕ) (cs ds : List ℕ) → c ∷ cs ≡ d ∷ ds → cs ≡ ds
tail_same c d cs ds e = ap (drop 1) e

behind_longest : (m : ℕ) (P : List ℕ → Type 0) (c : ℕ) (cs : List ℕ) (n : ℕ) → IsLongestFront P cs n → (text more : List ℕ) → Behind m P text → c ∷ cs ≡ text ++ more → length text ≤ 1 + n
behind_longest m P c cs n front [] more h e = absurd h
behind_longest m P c cs n front (d ∷ ds) more h e =
    let long = front.longest ds more h.1 (tail_same c d cs (ds ++ more) e) in omega (arith, long)

-- a front behind the byte that marks it
pub behind_front : (m : ℕ) (P : List ℕ → Type 0) (c : ℕ) (cs : List ℕ) (n : ℕ) → c ≡ m → IsLongestFront P cs n → IsLongestFront (Behind m P) (c ∷ cs) (1 + n)
behind_front m P c cs n is front = record {
  within = let within = front.within in omega (arith, within);
  fits = subst (λ k. Behind m P (take k (c ∷ cs))) (sym (one_more n)) (is, front.fits);
  longest = behind_longest m P c cs n front;
}

behind_none : (m : ℕ) (P : List ℕ → Type 0) (c : ℕ) (cs : List ℕ) → NoFront P cs → NoFront (Behind m P) (c ∷ cs)
behind_none m P c cs none [] more h e = absurd h
behind_none m P c cs none (d ∷ ds) more h e = none ds more h.1 (tail_same c d cs (ds ++ more) e)

behind_found : (m : ℕ) (P : List ℕ → Type 0) (c : ℕ) (cs : List ℕ) (o : Option ℕ) → c ≡ m → FindsFront P cs o → FindsFront (Behind m P) (c ∷ cs) (option_map (λ n. 1 + n) o)
behind_found m P c cs None is found = behind_none m P c cs found
behind_found m P c cs (Some n) is found = behind_front m P c cs n is found

-- the kinds that their first byte marks
abbrev pub IsMarked : TokenKind → Type 0
IsMarked Name = ⊥
IsMarked Number = ⊥
IsMarked Symbol = ⊥
IsMarked _ = Unit {0}

pub marked_if : (k : TokenKind) → (k ≡ Name → ⊥) → (k ≡ Number → ⊥) → (k ≡ Symbol → ⊥) → IsMarked k
marked_if Name name number symbol = name refl
marked_if Number name number symbol = number refl
marked_if Symbol name number symbol = symbol refl
marked_if String name number symbol = tt
marked_if Escaped name number symbol = tt
marked_if System name number symbol = tt
marked_if Directive name number symbol = tt

body_found : (k : TokenKind) (c : ℕ) (cs : List ℕ) (o : Option ℕ) → IsMarked k → Starts k c → FindsFront (IsBodyOf k) cs o → FindsFront (Fits k) (c ∷ cs) (option_map (λ n. 1 + n) o)
body_found Name c cs o marked is found = absurd marked
body_found Number c cs o marked is found = absurd marked
body_found Symbol c cs o marked is found = absurd marked
body_found String c cs o marked is found = behind_found 34 _ c cs o is found
body_found Escaped c cs o marked is found = behind_found 92 _ c cs o is found
body_found System c cs o marked is found = behind_found 36 _ c cs o is found
body_found Directive c cs o marked is found = behind_found 96 _ c cs o is found

pub marked_front : (k : TokenKind) (bytes : List ℕ) (o : Option ℕ) → IsMarked k → 0 < length bytes → kind_from (slice_index bytes 0) ≡ Some k → FindsFront (IsBodyOf k) (drop 1 bytes) o → FindsFront (Fits k) bytes (option_map (λ n. 1 + n) o)
marked_front k [] o marked some is found = absurd (omega arith)
marked_front k (c ∷ cs) o marked some is found = body_found k c cs o marked (kind_starts c k is) found

pub same_kind : (o : Option TokenKind) (j k : TokenKind) → o ≡ Some j → o ≡ Some k → j ≡ k
same_kind o j k is also = let both : Some j ≡ Some k = sym is ∙ also in cc

-- no longer front is of another kind
longest_of_all : (k : TokenKind) (bytes : List ℕ) (n : ℕ) → kind_from (slice_index bytes 0) ≡ Some k → IsLongestFront (Fits k) bytes n → IsLongest (take n bytes) (drop n bytes)
longest_of_all k bytes n is front j longer more fits e =
    let whole : bytes ≡ longer ++ more = sym (take-append-drop n bytes) ∙ e in
    let same : j ≡ k = same_kind (kind_from (slice_index bytes 0)) j k (front_kind j longer more bytes fits whole) is in
    let long = front.longest longer more (subst (λ i. Fits i longer) same fits) whole in
    omega (arith, long, length-take-le n bytes front.within)

pub token_part : (k : TokenKind) (bytes : List ℕ) (n : ℕ) → begins_gap bytes ≡ false → kind_from (slice_index bytes 0) ≡ Some k → IsLongestFront (Fits k) bytes n → HasValue k (take n bytes) → (n ≤ length bytes) × IsTokenHere k (take n bytes) (drop n bytes)
token_part k bytes n no_gap is front value = (
  front.within,
  record {
    no_gap = subst (λ b. begins_gap b ≡ false) (sym (take-append-drop n bytes)) no_gap;
    fits = front.fits;
    longest = longest_of_all k bytes n is front;
    has_value = value;
  },
)

bad_number : (bytes : List ℕ) (n : ℕ) → kind_from (slice_index bytes 0) ≡ Some Number → IsLongestFront (Fits Number) bytes n → number_of (take n bytes) ≡ None → IsBadNumber bytes
bad_number bytes n is front none = record {
  text = take n bytes;
  rest = drop n bytes;
  parts = sym (take-append-drop n bytes);
  shape = front.fits;
  longest = longest_of_all Number bytes n is front;
  no_number = none;
}

pub lacking : (k : TokenKind) (bytes : List ℕ) (n : ℕ) → kind_from (slice_index bytes 0) ≡ Some k → IsLongestFront (Fits k) bytes n → LacksValue k (take n bytes) → IsBadNumber bytes
lacking Number bytes n is front none = bad_number bytes n is front none
lacking Name bytes n is front none = absurd none
lacking Escaped bytes n is front none = absurd none
lacking System bytes n is front none = absurd none
lacking Directive bytes n is front none = absurd none
lacking String bytes n is front none = absurd none
lacking Symbol bytes n is front none = absurd none

-- where none of the one kind is, there is none
none_of_all : (k : TokenKind) (bytes : List ℕ) → kind_from (slice_index bytes 0) ≡ Some k → NoFront (Fits k) bytes → (j : TokenKind) → NoneFits j bytes
none_of_all k bytes is none j text more fits e =
    let same : j ≡ k = same_kind (kind_from (slice_index bytes 0)) j k (front_kind j text more bytes fits e) is in
    none text more (subst (λ i. Fits i text) same fits) e

bad_character : (k : TokenKind) (bytes : List ℕ) → (k ≡ String → ⊥) → 0 < length bytes → begins_gap bytes ≡ false → kind_from (slice_index bytes 0) ≡ Some k → NoFront (Fits k) bytes → IsBadCharacter bytes
bad_character k bytes other some no_gap is none = record {
  some = some;
  no_gap = no_gap;
  no_string = λ quote. other (same_kind (kind_from (slice_index bytes 0)) k String is (ap kind_from quote));
  no_token = none_of_all k bytes is none;
}

pub fault_there : (k : TokenKind) (bytes : List ℕ) → 0 < length bytes → begins_gap bytes ≡ false → kind_from (slice_index bytes 0) ≡ Some k → NoFront (Fits k) bytes → IsFaultOf bytes (fault_without k)
fault_there k [] some no_gap is none = absurd (omega arith)
fault_there String (c ∷ cs) some no_gap is none = record { body = cs; parts = ap (λ q. q ∷ cs) (kind_starts c String is); no_string = none }
fault_there Name (c ∷ cs) some no_gap is none = bad_character Name (c ∷ cs) (λ same. cc) some no_gap is none
fault_there Escaped (c ∷ cs) some no_gap is none = bad_character Escaped (c ∷ cs) (λ same. cc) some no_gap is none
fault_there System (c ∷ cs) some no_gap is none = bad_character System (c ∷ cs) (λ same. cc) some no_gap is none
fault_there Directive (c ∷ cs) some no_gap is none = bad_character Directive (c ∷ cs) (λ same. cc) some no_gap is none
fault_there Number (c ∷ cs) some no_gap is none = bad_character Number (c ∷ cs) (λ same. cc) some no_gap is none
fault_there Symbol (c ∷ cs) some no_gap is none = bad_character Symbol (c ∷ cs) (λ same. cc) some no_gap is none
