-- What is heard of one course and another behind it.
use Rattle.tag_script.proofs.Common.{◌≡◌, ℕ, List, Option, Result, Ok, Err, refl, ap, ◌∙◌, Stop, Course, ended, failed, followed, reads, heard, on_word, word_read}

abbrev then_heard : {A B : Type 0} → Result A Stop → (A → Result B Stop) → Result B Stop
then_heard (Ok a) next = next a
then_heard (Err why) next = Err why

on_then : {A B : Type 0} (r : Result ℕ Stop) (x : ℕ → Result B Stop) (y : ℕ → Result A Stop) (next : A → Result B Stop) → ((word : ℕ) → x word ≡ then_heard (y word) next) → on_word r x ≡ then_heard (on_word r y) next
on_then (Ok word) x y next h = h word
on_then (Err why) x y next h = refl

followed_is : {A B : Type 0} (expect : List ℕ) (results : List (Option ℕ)) (c : Course A) (next : A → Course B) → heard expect results (followed c next) ≡ then_heard (heard expect results c) (λ (a : A). heard expect results (next a))
unfolding heard followed
followed_is expect results (ended a) next = refl
followed_is expect results (failed line) next = refl
followed_is {A} {B} expect results (reads test goes) next =
    on_then (word_read expect results test) (λ word. heard expect results (followed (goes word) next)) (λ word. heard expect results (goes word)) (λ (a : A). heard expect results (next a)) (λ word. followed_is expect results (goes word) next)

pub followed_ok : {A B : Type 0} (expect : List ℕ) (results : List (Option ℕ)) (c : Course A) (next : A → Course B) (a : A) → heard expect results c ≡ Ok a → heard expect results (followed c next) ≡ heard expect results (next a)
followed_ok {A} {B} expect results c next a h = followed_is expect results c next ∙ ap (λ (r : Result A Stop). then_heard r (λ (a : A). heard expect results (next a))) h

pub followed_err : {A B : Type 0} (expect : List ℕ) (results : List (Option ℕ)) (c : Course A) (next : A → Course B) (why : Stop) → heard expect results c ≡ Err why → heard expect results (followed c next) ≡ Err why
followed_err {A} {B} expect results c next why h = followed_is expect results c next ∙ ap (λ (r : Result A Stop). then_heard r (λ (a : A). heard expect results (next a))) h

-- Where a course is at its end, and where it reads a word.

pub ended_is : {A : Type 0} (expect : List ℕ) (results : List (Option ℕ)) (a : A) → heard expect results (ended a) ≡ Ok a
unfolding heard
ended_is expect results a = refl

pub reads_ok : {A : Type 0} (expect : List ℕ) (results : List (Option ℕ)) (test word : ℕ) (goes : ℕ → Course A) → word_read expect results test ≡ Ok word → heard expect results (reads test goes) ≡ heard expect results (goes word)
unfolding heard
reads_ok {A} expect results test word goes h = ap (λ (r : Result ℕ Stop). on_word r (λ w. heard expect results (goes w))) h

pub reads_err : {A : Type 0} (expect : List ℕ) (results : List (Option ℕ)) (test : ℕ) (why : Stop) (goes : ℕ → Course A) → word_read expect results test ≡ Err why → heard expect results (reads test goes) ≡ Err why
unfolding heard
reads_err {A} expect results test why goes h = ap (λ (r : Result ℕ Stop). on_word r (λ w. heard expect results (goes w))) h
