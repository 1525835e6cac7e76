-- What a text means under a schema. A closed text is read once, by one `refl`, and all that is used of it is read off that.
use Rattle.keeper_sqlite.proofs.Common.{◌≡◌, ℕ, List, [], None, false, Ok, Err, Result, slice_range, refl, sym, ap, subst, ◌∙◌, Schema, understood, reads_listing, IsPlain, command_of, statement_of}
use Rattle.keeper_sqlite.proofs.Common.{Compiled, CompileError}
use Rattle.sqlite.specs.Command.{Command}
use Rattle.sqlite.specs.Listing.{misses_table}
use Rattle.sqlite_resolve.specs.Compile.{compiled}

-- It is one statement without parameters of a name, which gives no rows back, and no query on the schema's own table.
pub record Means (schema : Schema) (text : List ℕ) (meant : Command) : Type 0 where
  pub command : command_of (understood schema text) ≡ meant
  pub statement : statement_of text (understood schema text) ≡ text
  pub plain : IsPlain (understood schema text)
  pub listing : reads_listing schema text ≡ false

-- what a text compiles to, without the names of its parameters and the places in it, and the statement that it is
abbrev pub bare : Compiled → Compiled
bare c = record c { names = []; start = 0; end = 0; tail = 0 }

abbrev pub seen : List ℕ → Result Compiled CompileError → Result (Compiled × List ℕ) CompileError
seen text (Ok c) = Ok (bare c, slice_range text c.start c.end)
seen text (Err e) = Err e

abbrev pub plainly : Command → Compiled
plainly meant = record { command = meant; returning = None; names = []; formats = []; start = 0; end = 0; tail = 0 }

pub understood_by : (schema : Schema) (text : List ℕ) (c : Compiled) → compiled schema text ≡ Ok c → understood schema text ≡ Ok c
unfolding understood
understood_by schema text c h = rw h refl

module _ (schema : Schema) (text : List ℕ) (meant : Command) where
  read_so : (r : Result Compiled CompileError) → compiled schema text ≡ r → seen text r ≡ Ok (plainly meant, text) → Means schema text meant
  read_so (Ok c) is h =
      let known : understood schema text ≡ Ok c = understood_by schema text c is in
      let same : ◌≡◌ {A = Compiled × List ℕ} (bare c, slice_range text c.start c.end) (plainly meant, text) = cc in
      record {
        command = ap command_of known ∙ ap (λ (x : Compiled × List ℕ). x.0.command) same;
        statement = ap (statement_of text) known ∙ ap (λ (x : Compiled × List ℕ). x.1) same;
        plain = subst IsPlain (sym known) (ap (λ (x : Compiled × List ℕ). x.0.returning) same, ap (λ (x : Compiled × List ℕ). x.0.formats) same);
        listing = ap misses_table is;
      }
  read_so (Err e) is h = absurd (cc)

  pub means : seen text (compiled schema text) ≡ Ok (plainly meant, text) → Means schema text meant
  means h = read_so (compiled schema text) refl h
