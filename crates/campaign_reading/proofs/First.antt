-- The modules of the first files stand first among those of all files.
use Rattle.campaign_reading.proofs.Common.{◌≡◌, ℕ, zero, suc, ◌+◌, List, [], ◌∷◌, ◌++◌, take, Bool, true, false, Option, None, Some, refl, sym, ap, subst, ◌∙◌, append_assoc, if◌then◌else◌, All}
use Rattle.campaign_reading.proofs.Common.{bytes_eq, IsUtf8, All-nil, All-cons, All-head, All-tail, SourceFile, RawNetlist, Module, max_tokens, AreGiven, AreModules, AreRead, HasNetlist}
use Rattle.std.specs.Prelude.{IfNone, IsSome}
use Rattle.vlog_token.specs.declared.token.Token.{Token}
use Rattle.source_trees.proofs.OneAnswer.{modules_are_one}
use Rattle.flat_items.specs.Flattened.{module_at, module_from}

take_texts : (n : ℕ) (files : List SourceFile) → All (λ (file : SourceFile). IsUtf8 file.bytes) files → All (λ (file : SourceFile). IsUtf8 file.bytes) (take n files)
take_texts zero files each = All-nil (λ (file : SourceFile). IsUtf8 file.bytes)
take_texts (suc n) [] each = All-nil (λ (file : SourceFile). IsUtf8 file.bytes)
take_texts (suc n) (file ∷ more) each =
    All-cons (λ (file : SourceFile). IsUtf8 file.bytes) file (take n more) (All-head (λ (file : SourceFile). IsUtf8 file.bytes) file more each) (take_texts n more (All-tail (λ (file : SourceFile). IsUtf8 file.bytes) file more each))

take_given : (n number : ℕ) (files : List SourceFile) (limit : ℕ) (given : List (List Token)) → AreGiven number files limit given → AreGiven number (take n files) limit (take n given)
take_given zero number files limit given are = refl
take_given (suc n) number [] limit given are = ap (take (suc n)) are
take_given (suc n) number (file ∷ more) limit given (first, rest) = (
  record { tokens = first.tokens; left = first.left; others = take n first.others; comes = first.comes; are = ap (take (suc n)) first.are },
  take_given n (number + 1) more first.left first.others rest,
)

-- modules, of which these are the first
record HasFirst (given : List (List Token)) (modules : List Module) : Type 0 where
  first : List Module
  others : List Module
  are : AreModules given first
  split : modules ≡ first ++ others

take_modules : (n : ℕ) (given : List (List Token)) (modules : List Module) → AreModules given modules → HasFirst (take n given) modules
take_modules zero given modules are = record { first = []; others = modules; are = refl; split = refl }
take_modules (suc n) [] modules are = record { first = []; others = modules; are = refl; split = refl }
take_modules (suc n) (tokens ∷ more) modules (first, others, parsed, rest, split) =
    let later = take_modules n more others rest in record {
      first = first ++ later.first;
      others = later.others;
      are = (first, later.first, parsed, later.are, refl);
      split = split ∙ ap (λ (ms : List Module). first ++ ms) later.split ∙ sym (append_assoc first later.first later.others);
    }

-- Of files that are read, the first ones are read too, and their modules are the first.
pub record FirstAreRead (files : List SourceFile) (n : ℕ) (modules : List Module) : Type 0 where
  pub first : List Module
  pub others : List Module
  pub read : AreRead (take n files) first
  pub split : modules ≡ first ++ others

pub first_files_are_read : (n : ℕ) (files : List SourceFile) (modules : List Module) → AreRead files modules → FirstAreRead files n modules
first_files_are_read n files modules read =
    let taken = take_modules n read.given modules read.modules in
    record { first = taken.first; others = taken.others; read = record { texts = take_texts n files read.texts; given = take n read.given; gives = take_given n 0 files max_tokens read.given read.gives; modules = taken.are }; split = taken.split }

-- A module that is among the first is among all.
named_first : (name : List ℕ) (k number : ℕ) (first others : List Module) → module_from k first name ≡ Some number → module_from k (first ++ others) name ≡ Some number
named_first name k number [] others is = let none : None ≡ Some number = is in cc
named_first name k number (m ∷ first) others is = go (bytes_eq m.name name) is (named_first name (k + 1) number first others)
  where
    go : (b : Bool) → (if b then Some k else module_from (k + 1) first name) ≡ Some number → (module_from (k + 1) first name ≡ Some number → module_from (k + 1) (first ++ others) name ≡ Some number) → (if b then Some k else module_from (k + 1) (first ++ others) name) ≡ Some number
    go true is later = is
    go false is later = later is

-- So where the first files have a netlist with a top, there is a module of that name among those of all files.
pub top_is_there : (n : ℕ) (files : List SourceFile) (modules : List Module) (top : List ℕ) (netlist : RawNetlist) → AreRead files modules → HasNetlist (take n files) top netlist → (number : ℕ) × (module_at modules top ≡ Some number)
top_is_there n files modules top netlist read has =
    let all = first_files_are_read n files modules read in
    let same : has.modules ≡ all.first = modules_are_one (take n files) has.modules all.first has.read all.read in
    let number : ℕ = has.elaborated.is_source.flattens.number in
    let named : module_at all.first top ≡ Some number = subst (λ (ms : List Module). module_at ms top ≡ Some number) same has.elaborated.is_source.flattens.named in
    (number, ap (λ (ms : List Module). module_at ms top) all.split ∙ named_first top 0 number all.first all.others named)

-- and who looks for it finds it
pub top_found : {X : Type 0} (n : ℕ) (files : List SourceFile) (modules : List Module) (top name : List ℕ) (netlist : RawNetlist) (found : Option X) → name ≡ top → AreRead files modules → HasNetlist (take n files) top netlist → IfNone found (module_at modules name ≡ None) → IsSome found
top_found n files modules top name netlist None is read has none =
    let there = top_is_there n files modules top netlist read has in
    let same : module_at modules top ≡ None = subst (λ (w : List ℕ). module_at modules w ≡ None) is none in
    let clash : None ≡ Some there.0 = sym same ∙ there.1 in
    cc
top_found n files modules top name netlist (Some x) is read has none = refl
