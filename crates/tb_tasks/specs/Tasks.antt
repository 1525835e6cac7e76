-- What the system tasks of a testbench print (IEEE 1364-2005, 17.1.1). A string that is the first argument is a format. Its
-- formats take the arguments behind it in order; the others print by themselves.
use Rattle.std.specs.Prelude.{ℕ, Bool, true, false, List, [], ◌∷◌, ◌++◌, Option, Some, None, codes, if◌then◌else◌, ⊤}
use Rattle.std.specs.Str.{bytes_eq}
use Rattle.rand_pcg.specs.Lcg.{Lcg}
use Rattle.vlog_syntax.specs.declared.expr.Expr.{Expr}
use Rattle.vlog_syntax.specs.declared.stmt.Argument.{Argument}
use Rattle.vlog_syntax.specs.declared.stmt.Argument.TheVariants as a
use Rattle.vlog_meaning.specs.Scopes.{Names, Store}
use Rattle.vlog_meaning.specs.Senses.{sense, IsWhole}
use Rattle.tb_formats.specs.declared.form.Form.TheVariants.{Decimal}
use Rattle.tb_formats.specs.declared.form.Format.{Format}
use Rattle.tb_formats.specs.declared.text.Piece.{Piece}
use Rattle.tb_formats.specs.declared.text.Piece.TheVariants.{Byte, Value, String}
use Rattle.tb_formats.specs.Pieces.{pieces}
use Rattle.tb_formats.specs.Values.{printed}
use Rattle.tb_values.specs.Values.{own_evaluated}

-- what an evaluation goes by: the names, the phase and the values of the signals
pub record Setting : Type 0 where
  pub names : Names
  pub phase : ℕ
  pub store : Store

-- the text printed so far, and the generator
abbrev pub Output : Type 0
Output = List ℕ × Lcg

abbrev pub show_text : List ℕ → Output → Output
show_text text o = (o.0 ++ text, o.1)

abbrev pub show_value : Setting → Format → Expr → Output → Output
show_value s f x o = let v = own_evaluated s.names s.phase x s.store o.1 in (o.0 ++ printed f (sense s.names x).shape v.0, v.1)

-- arguments without a format: strings as they are, values in base 10
abbrev pub unformatted : Format
unformatted = record { form = Decimal; padded = true }

abbrev pub show_rest : Setting → List Argument → Output → Output
show_rest s [] o = o
show_rest s (a.String text span ∷ more) o = show_rest s more (show_text text o)
show_rest s (a.Expr x ∷ more) o = show_rest s more (show_value s unformatted x o)

-- The pieces of a format, each with its argument, and then the other arguments. Nothing more is printed where a piece does not
-- get its argument.
abbrev pub show : Setting → List Piece → List Argument → Output → Output
show s [] arguments o = show_rest s arguments o
show s (Byte b ∷ more) arguments o = show s more arguments (show_text (b ∷ []) o)
show s (Value f ∷ more) (a.Expr x ∷ arguments) o = show s more arguments (show_value s f x o)
show s (Value f ∷ more) arguments o = o
show s (String ∷ more) (a.String text span ∷ arguments) o = show s more arguments (show_text text o)
show s (String ∷ more) arguments o = o

abbrev pub show_format : Setting → Option (List Piece) → List Argument → Output → Output
show_format s None arguments o = o
show_format s (Some ps) arguments o = show s ps arguments o

abbrev pub show_all : Setting → List Argument → Output → Output
show_all s (a.String text span ∷ more) o = show_format s (pieces text) more o
show_all s arguments o = show_rest s arguments o

abbrev pub is_display : List ℕ → Bool
is_display name = bytes_eq name (codes "$display")

abbrev pub is_write : List ℕ → Bool
is_write name = bytes_eq name (codes "$write")

-- what a task other than `$finish` prints; `$display` adds a newline, and the others print nothing
abbrev pub performed : Setting → List ℕ → List Argument → Output → Output
performed s name arguments o = if is_display name then show_text (10 ∷ []) (show_all s arguments o) else (if is_write name then show_all s arguments o else o)

-- Whether the arguments fit: each format is supported and gets an argument of its kind.

abbrev pub fits : List Piece → List Argument → Bool
fits [] arguments = true
fits (Byte b ∷ more) arguments = fits more arguments
fits (Value f ∷ more) (a.Expr x ∷ arguments) = fits more arguments
fits (Value f ∷ more) arguments = false
fits (String ∷ more) (a.String text span ∷ arguments) = fits more arguments
fits (String ∷ more) arguments = false

abbrev pub format_fits : Option (List Piece) → List Argument → Bool
format_fits None arguments = false
format_fits (Some ps) arguments = fits ps arguments

abbrev pub arguments_fit : List Argument → Bool
arguments_fit (a.String text span ∷ more) = format_fits (pieces text) more
arguments_fit arguments = true

-- each value has a shape
abbrev pub IsWholeArgument : Names → Argument → Type 0
IsWholeArgument names (a.String text span) = ⊤
IsWholeArgument names (a.Expr x) = IsWhole names x

abbrev pub AreWhole : Names → List Argument → Type 0
AreWhole names [] = ⊤
AreWhole names (x ∷ more) = IsWholeArgument names x × AreWhole names more
