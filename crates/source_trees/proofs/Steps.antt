-- One file more: what is known of the files behind it is known of it and those.
use Rattle.source_trees.proofs.Common.{◌≡◌, ◌≢◌, ◌⊎◌, ℕ, suc, ◌+◌, ◌<◌, List, ◌∷◌, ◌++◌, length, get_or, drop, map, append_assoc, [], inl, inr, refl, sym, ap, ◌∙◌, subst, drop_more, map_push, IsUtf8}
use Rattle.source_trees.proofs.Common.{SourceFile, Token, place_after, IsRefused, start, Gives, ParseError, Module, AreParsed, IsFault, bare, token_of, ReadError, Parse, Memory, AreGiven, AreModules}
use Rattle.source_trees.proofs.Common.{ComesTo, IsFileFault, IsNoText, IsTreeFault, IsUngiven, IsUnparsed, of_parse}
use Rattle.vlog_token.specs.Sources.{AreTokensOf, SeenToken, seen}
use Rattle.vlog_expand.specs.declared.error.ParseError.TheVariants as p

-- what is left of a list from a place on begins with what stands there
pub drop_read : {X : Type 0} (xs : List X) (i : ℕ) (x : X) → i < length xs → x ≡ get_or xs i x → drop i xs ≡ x ∷ drop (i + 1) xs
drop_read xs i x below is = drop_more xs i x below ∙ ap (λ y. y ∷ drop (i + 1) xs) (sym is)

-- one element more in front of what follows, seen by a function
pub map_joined : {X Y : Type 0} (f : X → Y) (xs : List X) (x : X) (ys : List Y) → map f (xs ++ x ∷ []) ++ ys ≡ map f xs ++ (f x ∷ ys)
map_joined f xs x ys = ap (λ l. l ++ ys) (map_push f xs x) ∙ append_assoc (map f xs) (f x ∷ []) ys

-- texts

pub text_fault_later : (number : ℕ) (files more : List SourceFile) (file : SourceFile) (e : ReadError) → files ≡ file ∷ more → IsUtf8 file.bytes → IsNoText (number + 1) more e → IsNoText number files e
text_fault_later number files more file e is text fault = subst (λ (fs : List SourceFile). IsNoText number fs e) (sym is) (inr (text, fault))

-- tokens

pub given_more : (number limit left : ℕ) (files more : List SourceFile) (file : SourceFile) (tokens : List Token) (others : List (List Token)) → files ≡ file ∷ more → ComesTo number file.bytes limit (Gives tokens left) → AreGiven (number + 1) more left others → AreGiven number files limit (tokens ∷ others)
given_more number limit left files more file tokens others is comes gives =
    subst (λ (fs : List SourceFile). AreGiven number fs limit (tokens ∷ others)) (sym is) (record { tokens = tokens; left = left; others = others; comes = comes; are = refl }, gives)

pub ungiven_here : (number limit : ℕ) (files more : List SourceFile) (file : SourceFile) (e : ReadError) → files ≡ file ∷ more → IsFileFault number file.bytes limit e → IsUngiven number files limit e
ungiven_here number limit files more file e is fault = subst (λ (fs : List SourceFile). IsUngiven number fs limit e) (sym is) (inl fault)

pub ungiven_later : (number limit left : ℕ) (files more : List SourceFile) (file : SourceFile) (tokens : List Token) (e : ReadError) → files ≡ file ∷ more → ComesTo number file.bytes limit (Gives tokens left) → IsUngiven (number + 1) more left e → IsUngiven number files limit e
ungiven_later number limit left files more file tokens e is comes fault = subst (λ (fs : List SourceFile). IsUngiven number fs limit e) (sym is) (inr (tokens, left, comes, fault))

-- trees

pub modules_more : (given more : List (List Token)) (tokens : List Token) (first others : List Module) → given ≡ tokens ∷ more → AreParsed tokens first → AreModules more others → AreModules given (first ++ others)
modules_more given more tokens first others is parsed modules = subst (λ (ts : List (List Token)). AreModules ts (first ++ others)) (sym is) (first, others, parsed, modules, refl)

pub unparsed_here : (number : ℕ) (files more : List SourceFile) (file : SourceFile) (given others : List (List Token)) (tokens : List Token) (e : ReadError) → files ≡ file ∷ more → given ≡ tokens ∷ others → IsTreeFault number file.bytes tokens e → IsUnparsed number files given e
unparsed_here number files more file given others tokens e is are fault =
    subst (λ (fs : List SourceFile). IsUnparsed number fs given e) (sym is) (subst (λ (ts : List (List Token)). IsUnparsed number (file ∷ more) ts e) (sym are) (inl fault))

pub unparsed_later : (number : ℕ) (files more : List SourceFile) (file : SourceFile) (given others : List (List Token)) (tokens : List Token) (ms : List Module) (e : ReadError) → files ≡ file ∷ more → given ≡ tokens ∷ others → AreParsed tokens ms → IsUnparsed (number + 1) more others e → IsUnparsed number files given e
unparsed_later number files more file given others tokens ms e is are parsed fault =
    subst (λ (fs : List SourceFile). IsUnparsed number fs given e) (sym is) (subst (λ (ts : List (List Token)). IsUnparsed number (file ∷ more) ts e) (sym are) (inr (ms, parsed, fault)))

-- a fault of directives or trees is want of memory, or told as it is
told_as : (x : ParseError) → (of_parse x ≡ Memory) ⊎ ((x ≢ p.Memory) × (of_parse x ≡ Parse x))
told_as p.Memory = inl refl
told_as (p.Unexpected at) = inr ((λ is. cc), refl)
told_as (p.Unsupported at feature) = inr ((λ is. cc), refl)
told_as (p.UnknownMacro at) = inr ((λ is. cc), refl)
told_as (p.OpenCondition at) = inr ((λ is. cc), refl)
told_as (p.TooDeep at) = inr ((λ is. cc), refl)
told_as (p.TooMany kind) = inr ((λ is. cc), refl)

tree_fault_as : (number : ℕ) (bytes : List ℕ) (tokens : List Token) (x : ParseError) → IsFault tokens (place_after number bytes) x → (of_parse x ≡ Memory) ⊎ ((x ≢ p.Memory) × (of_parse x ≡ Parse x)) → (of_parse x ≡ Memory) ⊎ IsTreeFault number bytes tokens (of_parse x)
tree_fault_as number bytes tokens x fault (inl memory) = inl memory
tree_fault_as number bytes tokens x fault (inr (some, is)) = inr (x, some, fault, is)

tree_fault : (number : ℕ) (bytes : List ℕ) (tokens : List Token) (x : ParseError) → IsFault tokens (place_after number bytes) x → (of_parse x ≡ Memory) ⊎ IsTreeFault number bytes tokens (of_parse x)
tree_fault number bytes tokens x fault = tree_fault_as number bytes tokens x fault (told_as x)

-- what is seen of tokens is bare
pub bare_seen : (tokens : List Token) → map token_of (map seen tokens) ≡ map bare tokens
bare_seen [] = refl
bare_seen (t ∷ more) = ap (λ (ts : List Token). bare t ∷ ts) (bare_seen more)

-- directives are refused, or there was no memory
directive_fault_as : (number : ℕ) (bytes : List ℕ) (limit : ℕ) (tokens : List SeenToken) (x : ParseError) → AreTokensOf number bytes tokens → IsRefused (place_after number bytes) (start (map token_of tokens)) limit x → (of_parse x ≡ Memory) ⊎ ((x ≢ p.Memory) × (of_parse x ≡ Parse x)) → (of_parse x ≡ Memory) ⊎ IsFileFault number bytes limit (of_parse x)
directive_fault_as number bytes limit tokens x are refused (inl memory) = inl memory
directive_fault_as number bytes limit tokens x are (inl memory) (inr (some, is)) = absurd (some memory)
directive_fault_as number bytes limit tokens x are (inr comes) (inr (some, is)) = inr (inr (x, some, record { tokens = tokens; are = are; comes = comes }, is))

pub directive_fault : (number : ℕ) (bytes : List ℕ) (limit : ℕ) (tokens : List SeenToken) (x : ParseError) → AreTokensOf number bytes tokens → IsRefused (place_after number bytes) (start (map token_of tokens)) limit x → (of_parse x ≡ Memory) ⊎ IsFileFault number bytes limit (of_parse x)
directive_fault number bytes limit tokens x are refused = directive_fault_as number bytes limit tokens x are refused (told_as x)

-- as many lists of tokens as files
pub given_length : (number : ℕ) (files : List SourceFile) (limit : ℕ) (given : List (List Token)) → AreGiven number files limit given → length given ≡ length files
given_length number [] limit given is = ap length is
given_length number (file ∷ more) limit given (first, rest) = ap length first.are ∙ ap suc (given_length (number + 1) more first.left first.others rest)

-- what is known of the first fault of these files is known of a fault of the first one of them
module _ (IsAll : ReadError → Type 0) where
  told_later : (e : ReadError) (IsHere : Type 0) → (IsHere → IsAll e) → (e ≡ Memory) ⊎ IsHere → (e ≡ Memory) ⊎ IsAll e
  told_later e IsHere on (inl memory) = inl memory
  told_later e IsHere on (inr fault) = inr (on fault)

  pub parse_refused : (number : ℕ) (files more : List SourceFile) (file : SourceFile) (given others : List (List Token)) (tokens : List Token) (x : ParseError) → files ≡ file ∷ more → given ≡ tokens ∷ others → IsFault tokens (place_after number file.bytes) x
      → ((e : ReadError) → IsUnparsed number files given e → IsAll e) → (of_parse x ≡ Memory) ⊎ IsAll (of_parse x)
  parse_refused number files more file given others tokens x is are fault on =
      told_later (of_parse x) (IsTreeFault number file.bytes tokens (of_parse x)) (λ here. on (of_parse x) (unparsed_here number files more file given others tokens (of_parse x) is are here)) (tree_fault number file.bytes tokens x fault)

  pub file_refused : (number limit : ℕ) (files more : List SourceFile) (file : SourceFile) (e : ReadError) → files ≡ file ∷ more → ((e : ReadError) → IsUngiven number files limit e → IsAll e) → (e ≡ Memory) ⊎ IsFileFault number file.bytes limit e → (e ≡ Memory) ⊎ IsAll e
  file_refused number limit files more file e is on refused = told_later e (IsFileFault number file.bytes limit e) (λ here. on e (ungiven_here number limit files more file e is here)) refused
