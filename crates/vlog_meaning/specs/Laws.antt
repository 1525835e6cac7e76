-- Laws of scopes and of what expressions say in them.
use Rattle.std.specs.Prelude.{◌≡◌, ℕ, Bool, true, List, [], Option, Some}
use Rattle.std.specs.Int.{bit_at}
use Rattle.mcy_base.specs.declared.word.Word.{Word}
use Rattle.vlog_syntax.specs.declared.expr.Expr.{Expr}
use Rattle.vlog_meaning.specs.declared.scope.Decl.{Decl}
use Rattle.vlog_meaning.specs.declared.scope.Decl.TheVariants.{Signal, Constant}
use Rattle.vlog_meaning.specs.declared.shapes.Shape.{Shape}
use Rattle.vlog_meaning.specs.Scopes.{Names, Store, nothing, with_name, store_of, FitsSignals, AreWithin}
use Rattle.vlog_meaning.specs.Senses.{Bits, Sense, sense}

-- A constant has one value, whatever the signals are.
abbrev pub IsSettled : Sense → Type 0
IsSettled a = a.signals ≡ [] → (store : Store) (c : Shape) → a.value store c ≡ a.value nothing c

abbrev pub ConstantsAreSettled : Type 0
ConstantsAreSettled = (names : Names) (e : Expr) → IsSettled (sense names e)

-- two stores have these bits in common
abbrev pub Agree : Bits → Store → Store → Type 0
Agree bits s t = (number at : ℕ) → bits number at ≡ true → bit_at (s number) at ≡ bit_at (t number) at

-- A value depends on the bits that are read, and on no other.
abbrev pub RestsOnReads : Names → Sense → Type 0
RestsOnReads names a = (s t : Store) → AreWithin names s → AreWithin names t → Agree a.reads s t → (c : Shape) → a.value s c ≡ a.value t c

abbrev pub ValuesRestOnReads : Type 0
ValuesRestOnReads = (names : Names) (e : Expr) → RestsOnReads names (sense names e)

-- Words that fit signals are numbers of their widths.
abbrev pub WordsAreWithin : Type 0
WordsAreWithin = (names : Names) (words : List Word) → FitsSignals names words → AreWithin names (store_of words)

-- Of two declarations of one name the last counts.
abbrev pub LastCounts : Type 0
LastCounts = (names : Names) (name : List ℕ) (first last : Option Decl) → with_name (with_name names name first) name last ≡ with_name names name last

-- With its own declaration put back, a name is as it was.
abbrev pub Restores : Type 0
Restores = (names : Names) (name : List ℕ) (between : Option Decl) → with_name (with_name names name between) name (names name) ≡ names

-- Where a name becomes a constant, each signal was one before.
abbrev pub SignalsStay : Type 0
SignalsStay = (names : Names) (name : List ℕ) (value : Word) (first : ℕ) (is_signed : Bool) (other : List ℕ) (width low : ℕ) (sign : Bool) (number : ℕ) → with_name names name (Some (Constant value first is_signed)) other ≡ Some (Signal width low sign number) → names other ≡ Some (Signal width low sign number)
