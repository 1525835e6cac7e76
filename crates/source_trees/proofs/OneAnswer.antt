-- Files have one answer.
use Rattle.source_trees.proofs.Common.{◌≡◌, ◌≢◌, ℕ, ◌+◌, List, [], ◌∷◌, ◌++◌, length, map, Result, Ok, Err, inl, inr, sym, subst, ap, ◌∙◌, arith, IsUtf8, IsValidUpTo, take_all, All-head, All-tail}
use Rattle.source_trees.proofs.Common.{SourceFile, Token, place_after, ParseError, Outcome, Gives, Refuses, Comes, start, Module, AreOneFault, AreParsed, token_of, ReadError, NotUtf8, TokenFault}
use Rattle.source_trees.proofs.Common.{Parse, Memory, max_tokens, AllMeant, AreGiven, AreMeantBy, AreModules, AreRead, ComesTo, IsFileFault, IsNoText, IsTreeFault, IsUngiven, IsUnparsed, IsUnread}
use Rattle.std.proofs.Math.Path.{ap₂}
use Rattle.std.specs.List.{All}
use Rattle.std.proofs.lemmas.Str.{utf8_valid_len-IsValidUpTo}
use Rattle.vlog_token.specs.declared.token.TokenError.{TokenError}
use Rattle.vlog_token.specs.declared.token.TokenError.TheVariants as t
use Rattle.vlog_token.specs.Sources.{AreTokensOf, IsRefusal, SeenToken}
use Rattle.vlog_token.proofs.AnswerLemmas.{one_answer_only}
use Rattle.vlog_expand.specs.declared.error.ParseError.TheVariants as p
use Rattle.vlog_expand.proofs.OneOutcome.{files_come_to_one_outcome_lem}
use Rattle.vlog_parse.proofs.OneAnswer.{one_fault}
use Rattle.vlog_parse.proofs.Parses.{no_fault, one_meaning}

-- texts

abbrev is_text : SourceFile → Type 0
is_text file = IsUtf8 file.bytes

cut_is_no_text : (bytes : List ℕ) (n : ℕ) → IsValidUpTo bytes n → ¬ IsUtf8 bytes
cut_is_no_text bytes n cut whole = cut.longest (length bytes) cut.short (subst IsUtf8 (sym (take_all (length bytes) bytes (omega arith))) whole)

cut_once : (bytes : List ℕ) (n m : ℕ) → IsValidUpTo bytes n → IsValidUpTo bytes m → n ≡ m
cut_once bytes n m h k = sym (utf8_valid_len-IsValidUpTo bytes n h) ∙ utf8_valid_len-IsValidUpTo bytes m k

texts_have_none : (number : ℕ) (files : List SourceFile) (e : ReadError) → All (λ file. IsUtf8 file.bytes) files → ¬ IsNoText number files e
texts_have_none number [] e texts fault = absurd fault
texts_have_none number (file ∷ more) e texts (inl (len, cut, is)) = cut_is_no_text file.bytes len cut (All-head is_text file more texts)
texts_have_none number (file ∷ more) e texts (inr (text, later)) = texts_have_none (number + 1) more e (All-tail is_text file more texts) later

no_text_once : (number : ℕ) (files : List SourceFile) (x y : ReadError) → IsNoText number files x → IsNoText number files y → x ≡ y
no_text_once number [] x y h k = absurd h
no_text_once number (file ∷ more) x y (inl (n, cut, is)) (inl (m, other, are)) = is ∙ ap (NotUtf8 number) (cut_once file.bytes n m cut other) ∙ sym are
no_text_once number (file ∷ more) x y (inl (n, cut, is)) (inr (text, later)) = absurd (cut_is_no_text file.bytes n cut text)
no_text_once number (file ∷ more) x y (inr (text, later)) (inl (m, other, are)) = absurd (cut_is_no_text file.bytes m other text)
no_text_once number (file ∷ more) x y (inr (text, later)) (inr (_, also)) = no_text_once (number + 1) more x y later also

-- tokens

abbrev AreSame : Result (List SeenToken) TokenError → Result (List SeenToken) TokenError → Type 0
AreSame a b = a ≡ b

tokens_once : (number : ℕ) (bytes : List ℕ) (ts us : List SeenToken) → AreTokensOf number bytes ts → AreTokensOf number bytes us → ts ≡ us
tokens_once number bytes ts us h k =
    let same : AreSame (Ok ts) (Ok us) = one_answer_only number bytes (Ok ts) (Ok us) h k (λ is. cc) (λ is. cc) in
    cc

no_refusal : (number : ℕ) (bytes : List ℕ) (ts : List SeenToken) (x : TokenError) → AreTokensOf number bytes ts → x ≢ t.Memory → ¬ IsRefusal number bytes x
no_refusal number bytes ts x h some refused =
    let same : AreSame (Ok ts) (Err x) = one_answer_only number bytes (Ok ts) (Err x) h refused (λ is. cc) (λ is. some (let e : AreSame (Err x) (Err t.Memory) = is in cc)) in
    cc

refusal_once : (number : ℕ) (bytes : List ℕ) (x y : TokenError) → x ≢ t.Memory → y ≢ t.Memory → IsRefusal number bytes x → IsRefusal number bytes y → x ≡ y
refusal_once number bytes x y some also h k =
    let same : AreSame (Err x) (Err y) = one_answer_only number bytes (Err x) (Err y) h k (λ is. some (let e : AreSame (Err x) (Err t.Memory) = is in cc)) (λ is. also (let e : AreSame (Err y) (Err t.Memory) = is in cc)) in
    cc

comes_once : (number : ℕ) (bytes : List ℕ) (limit : ℕ) (o q : Outcome) → ComesTo number bytes limit o → ComesTo number bytes limit q → o ≡ q
comes_once number bytes limit o q h k =
    let same = tokens_once number bytes k.tokens h.tokens k.are h.are in
    files_come_to_one_outcome_lem (place_after number bytes) (start (map token_of h.tokens)) limit o q h.comes (subst (λ (ts : List SeenToken). Comes (place_after number bytes) (start (map token_of ts)) limit q) same k.comes)

gives_tokens : (ts us : List Token) (n m : ℕ) → Gives ts n ≡ Gives us m → ts ≡ us
gives_tokens ts us n m same = cc

gives_left : (ts us : List Token) (n m : ℕ) → Gives ts n ≡ Gives us m → n ≡ m
gives_left ts us n m same = cc

no_clash : (ts : List Token) (n : ℕ) (x : ParseError) → Gives ts n ≢ Refuses x
no_clash ts n x same = cc

given_once : (number : ℕ) (files : List SourceFile) (limit : ℕ) (given other : List (List Token)) → AreGiven number files limit given → AreGiven number files limit other → given ≡ other
given_once number [] limit given other h k = h ∙ sym k
given_once number (file ∷ more) limit given other (a, h) (b, k) =
    let same = comes_once number file.bytes limit (Gives a.tokens a.left) (Gives b.tokens b.left) a.comes b.comes in
    let left = gives_left a.tokens b.tokens a.left b.left same in
    let rest = given_once (number + 1) more a.left a.others b.others h (subst (λ (n : ℕ). AreGiven (number + 1) more n b.others) (sym left) k) in
    a.are ∙ ap₂ (λ (ts : List Token) (others : List (List Token)). ts ∷ others) (gives_tokens a.tokens b.tokens a.left b.left same) rest ∙ sym b.are

comes_without_fault : (number : ℕ) (bytes : List ℕ) (limit left : ℕ) (ts : List Token) (e : ReadError) → ComesTo number bytes limit (Gives ts left) → ¬ IsFileFault number bytes limit e
comes_without_fault number bytes limit left ts e comes (inl (x, some, refused, is)) = no_refusal number bytes comes.tokens x comes.are some refused
comes_without_fault number bytes limit left ts e comes (inr (x, some, refused, is)) = no_clash ts left x (comes_once number bytes limit (Gives ts left) (Refuses x) comes refused)

given_have_none : (number : ℕ) (files : List SourceFile) (limit : ℕ) (given : List (List Token)) (e : ReadError) → AreGiven number files limit given → ¬ IsUngiven number files limit e
given_have_none number [] limit given e h fault = absurd fault
given_have_none number (file ∷ more) limit given e (a, h) (inl fault) = comes_without_fault number file.bytes limit a.left a.tokens e a.comes fault
given_have_none number (file ∷ more) limit given e (a, h) (inr (ts, left, comes, later)) =
    let same = gives_left ts a.tokens left a.left (comes_once number file.bytes limit (Gives ts left) (Gives a.tokens a.left) comes a.comes) in
    given_have_none (number + 1) more a.left a.others e h (subst (λ (n : ℕ). IsUngiven (number + 1) more n e) same later)

file_fault_once : (number : ℕ) (bytes : List ℕ) (limit : ℕ) (x y : ReadError) → IsFileFault number bytes limit x → IsFileFault number bytes limit y → x ≡ y
file_fault_once number bytes limit x y (inl (a, some, h, is)) (inl (b, also, k, are)) = is ∙ ap TokenFault (refusal_once number bytes a b some also h k) ∙ sym are
file_fault_once number bytes limit x y (inl (a, some, h, is)) (inr (b, also, k, are)) = absurd (no_refusal number bytes k.tokens a k.are some h)
file_fault_once number bytes limit x y (inr (a, some, h, is)) (inl (b, also, k, are)) = absurd (no_refusal number bytes h.tokens b h.are also k)
file_fault_once number bytes limit x y (inr (a, some, h, is)) (inr (b, also, k, are)) =
    let same : Refuses a ≡ Refuses b = comes_once number bytes limit (Refuses a) (Refuses b) h k in
    let one : a ≡ b = cc in
    is ∙ ap Parse one ∙ sym are

ungiven_once : (number : ℕ) (files : List SourceFile) (limit : ℕ) (x y : ReadError) → IsUngiven number files limit x → IsUngiven number files limit y → x ≡ y
ungiven_once number [] limit x y h k = absurd h
ungiven_once number (file ∷ more) limit x y (inl h) (inl k) = file_fault_once number file.bytes limit x y h k
ungiven_once number (file ∷ more) limit x y (inl h) (inr (ts, left, comes, later)) = absurd (comes_without_fault number file.bytes limit left ts x comes h)
ungiven_once number (file ∷ more) limit x y (inr (ts, left, comes, later)) (inl k) = absurd (comes_without_fault number file.bytes limit left ts y comes k)
ungiven_once number (file ∷ more) limit x y (inr (ts, left, comes, later)) (inr (us, rest, also, behind)) =
    let same = gives_left us ts rest left (comes_once number file.bytes limit (Gives us rest) (Gives ts left) also comes) in
    ungiven_once (number + 1) more left x y later (subst (λ (n : ℕ). IsUngiven (number + 1) more n y) same behind)

-- trees

modules_once : (given : List (List Token)) (ms ns : List Module) → AllMeant given ms → AllMeant given ns → ms ≡ ns
modules_once [] ms ns h k = h ∙ sym k
modules_once (tokens ∷ more) ms ns (first, others, parsed, rest, is) (first', others', parsed', rest', are) =
    is ∙ ap₂ (λ (a b : List Module). a ++ b) (one_meaning tokens first first' parsed parsed') (modules_once more others others' rest rest') ∙ sym are

no_tree_fault : (number : ℕ) (bytes : List ℕ) (tokens : List Token) (ms : List Module) (e : ReadError) → AreParsed tokens ms → ¬ IsTreeFault number bytes tokens e
no_tree_fault number bytes tokens ms e parsed (x, some, fault, is) = some (no_fault tokens (place_after number bytes) ms x parsed fault)

modules_have_none : (number : ℕ) (files : List SourceFile) (given : List (List Token)) (ms : List Module) (e : ReadError) → AreModules given ms → ¬ IsUnparsed number files given e
modules_have_none number [] given ms e h fault = absurd fault
modules_have_none number (file ∷ more) [] ms e h fault = absurd fault
modules_have_none number (file ∷ more) (tokens ∷ rest) ms e (first, others, parsed, behind, is) (inl fault) = no_tree_fault number file.bytes tokens first e parsed fault
modules_have_none number (file ∷ more) (tokens ∷ rest) ms e (first, others, parsed, behind, is) (inr (some, also, later)) = modules_have_none (number + 1) more rest others e behind later

-- of two faults that are not want of memory
one_of : (x y : ParseError) → x ≢ p.Memory → y ≢ p.Memory → AreOneFault x y → x ≡ y
one_of x y some also (inl memory) = absurd (some memory)
one_of x y some also (inr (inl memory)) = absurd (also memory)
one_of x y some also (inr (inr same)) = same

tree_fault_once : (number : ℕ) (bytes : List ℕ) (tokens : List Token) (x y : ReadError) → IsTreeFault number bytes tokens x → IsTreeFault number bytes tokens y → x ≡ y
tree_fault_once number bytes tokens x y (a, some, h, is) (b, also, k, are) =
    is ∙ ap Parse (one_of a b some also (one_fault tokens (place_after number bytes) a b h k)) ∙ sym are

unparsed_once : (number : ℕ) (files : List SourceFile) (given : List (List Token)) (x y : ReadError) → IsUnparsed number files given x → IsUnparsed number files given y → x ≡ y
unparsed_once number [] given x y h k = absurd h
unparsed_once number (file ∷ more) [] x y h k = absurd h
unparsed_once number (file ∷ more) (tokens ∷ rest) x y (inl h) (inl k) = tree_fault_once number file.bytes tokens x y h k
unparsed_once number (file ∷ more) (tokens ∷ rest) x y (inl h) (inr (ms, parsed, later)) = absurd (no_tree_fault number file.bytes tokens ms x parsed h)
unparsed_once number (file ∷ more) (tokens ∷ rest) x y (inr (ms, parsed, later)) (inl k) = absurd (no_tree_fault number file.bytes tokens ms y parsed k)
unparsed_once number (file ∷ more) (tokens ∷ rest) x y (inr (ms, parsed, later)) (inr (ns, also, behind)) = unparsed_once (number + 1) more rest x y later behind

-- whole files

all_meant : (given : List (List Token)) (ms : List Module) → AreModules given ms → AllMeant given ms
all_meant [] ms h = h
all_meant (tokens ∷ more) ms (first, others, parsed, rest, is) = (first, others, parsed.are, all_meant more others rest, is)

-- the modules that are read are what the files mean
pub read_meant : (files : List SourceFile) (ms : List Module) → AreRead files ms → AreMeantBy files ms
read_meant files ms h = record { texts = h.texts; given = h.given; gives = h.gives; modules = all_meant h.given ms h.modules }

pub meanings_are_one : (files : List SourceFile) (ms ns : List Module) → AreMeantBy files ms → AreMeantBy files ns → ms ≡ ns
meanings_are_one files ms ns h k =
    let same = given_once 0 files max_tokens k.given h.given k.gives h.gives in
    modules_once h.given ms ns h.modules (subst (λ (given : List (List Token)). AllMeant given ns) same k.modules)

pub modules_are_one : (files : List SourceFile) (ms ns : List Module) → AreRead files ms → AreRead files ns → ms ≡ ns
modules_are_one files ms ns h k = meanings_are_one files ms ns (read_meant files ms h) (read_meant files ns k)

pub read_without_fault : (files : List SourceFile) (ms : List Module) (e : ReadError) → AreRead files ms → IsUnread files e → e ≡ Memory
read_without_fault files ms e read (inl memory) = memory
read_without_fault files ms e read (inr (inl fault)) = absurd (texts_have_none 0 files e read.texts fault)
read_without_fault files ms e read (inr (inr (inl (texts, fault)))) = absurd (given_have_none 0 files max_tokens read.given e read.gives fault)
read_without_fault files ms e read (inr (inr (inr (given, tokens, fault)))) =
    let same = given_once 0 files max_tokens given read.given tokens.gives read.gives in
    absurd (modules_have_none 0 files read.given ms e read.modules (subst (λ (ts : List (List Token)). IsUnparsed 0 files ts e) same fault))

pub faults_are_one : (files : List SourceFile) (x y : ReadError) → IsUnread files x → IsUnread files y → x ≢ Memory → y ≢ Memory → x ≡ y
faults_are_one files x y (inl h) k some also = absurd (some h)
faults_are_one files x y (inr h) (inl k) some also = absurd (also k)
faults_are_one files x y (inr (inl h)) (inr (inl k)) some also = no_text_once 0 files x y h k
faults_are_one files x y (inr (inl h)) (inr (inr (inl (texts, k)))) some also = absurd (texts_have_none 0 files x texts h)
faults_are_one files x y (inr (inl h)) (inr (inr (inr (given, tokens, k)))) some also = absurd (texts_have_none 0 files x tokens.texts h)
faults_are_one files x y (inr (inr (inl (texts, h)))) (inr (inl k)) some also = absurd (texts_have_none 0 files y texts k)
faults_are_one files x y (inr (inr (inr (given, tokens, h)))) (inr (inl k)) some also = absurd (texts_have_none 0 files y tokens.texts k)
faults_are_one files x y (inr (inr (inl (texts, h)))) (inr (inr (inl (others, k)))) some also = ungiven_once 0 files max_tokens x y h k
faults_are_one files x y (inr (inr (inl (texts, h)))) (inr (inr (inr (given, tokens, k)))) some also = absurd (given_have_none 0 files max_tokens given x tokens.gives h)
faults_are_one files x y (inr (inr (inr (given, tokens, h)))) (inr (inr (inl (texts, k)))) some also = absurd (given_have_none 0 files max_tokens given y tokens.gives k)
faults_are_one files x y (inr (inr (inr (given, tokens, h)))) (inr (inr (inr (others, also_tokens, k)))) some also =
    let same = given_once 0 files max_tokens others given also_tokens.gives tokens.gives in
    unparsed_once 0 files given x y h (subst (λ (ts : List (List Token)). IsUnparsed 0 files ts y) same k)
