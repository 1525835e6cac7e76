-- What the text that makes `journal2` means beside three tables of any constraints.
use Rattle.keeper_sqlite.proofs.Common.{◌≡◌, ◌==◌, ◌&&◌, if◌then◌else◌, not, length, slice_range, Bool, codes, List, [], refl, sym, ap, subst, ◌∙◌, ℕ, None, Some, true, false, Ok, Err, Schema}
use Rattle.keeper_sqlite.proofs.Common.{understood, MakeTable, Exists, Unsupported, IsPlain, command_of, statement_of, everything, CREATE_SECOND, first_schema, FirstTables}
use Rattle.sqlite.specs.Listing.{misses_table}
use Rattle.sqlite_schema.specs.Names.{index_named, same_name, table_named, view_named}
use Rattle.std.specs.Option.{option_or}
use Rattle.sqlite_ast.specs.declared.CreateTable.{CreateTable}
use Rattle.sqlite_ast.specs.declared.Statement.{Statement}
use Rattle.sqlite_ast.specs.declared.Statement.TheVariants as written
use Rattle.sqlite_syntax.specs.declared.statement.Parsed.{Parsed}
use Rattle.sqlite_schema.specs.declared.command.Command.{Command}
use Rattle.sqlite_resolve.specs.Compile as resolver
use Rattle.sqlite_resolve.specs.Compile.{compiled, create_table, first, is_attached, meaning, planned, returning, with_command}
use Rattle.sqlite_resolve.specs.Define as define
use Rattle.sqlite_resolve.specs.Scope.{Name}
use Rattle.sqlite_resolve.specs.Lowering.{Checked, and_then}
use Rattle.keeper_sqlite.proofs.Creates.{Reads}
use Rattle.keeper_sqlite.proofs.Meant.{understood_by}

-- the command of a table that is new
abbrev new_table : CreateTable → Checked Command
new_table def = and_then (define.table [] def) (λ t. if length t.computed == length t.stamps.places && not def.resolves then Ok MakeTable else Err Unsupported)

-- what the text of the fourth says
record SecondText : Type 0 where
  parsed : Parsed
  def : CreateTable
  is : first CREATE_SECOND.now ≡ Ok parsed
  statement : parsed.statement ≡ written.CreateTable def
  formats : parsed.formats ≡ []
  name : def.name ≡ codes "journal2"
  made : new_table def ≡ Ok MakeTable
  text : slice_range CREATE_SECOND.now parsed.start parsed.end ≡ CREATE_SECOND.now

-- what is read off a text, so that a closed one is read once
record Told : Type 0 where
  is_create : Bool
  formats : List Name
  name : Name
  made : Checked Command
  text : List ℕ

abbrev told_by : Parsed → Statement → Told
told_by p (written.CreateTable def) = record { is_create = true; formats = p.formats; name = def.name; made = new_table def; text = slice_range CREATE_SECOND.now p.start p.end }
told_by p _ = record { is_create = false; formats = []; name = []; made = Err Unsupported; text = [] }

abbrev told : Checked Parsed → Told
told (Ok p) = told_by p p.statement
told (Err e) = record { is_create = false; formats = []; name = []; made = Err Unsupported; text = [] }

abbrev second_told : Told
second_told = record { is_create = true; formats = []; name = codes "journal2"; made = Ok MakeTable; text = CREATE_SECOND.now }

second_is : told (first CREATE_SECOND.now) ≡ second_told
unfolding everything
second_is = refl

by_statement : (p : Parsed) (s : Statement) → first CREATE_SECOND.now ≡ Ok p → p.statement ≡ s → told_by p s ≡ second_told → SecondText
by_statement p (written.CreateTable def) is statement h = record {
  parsed = p;
  def = def;
  is = is;
  statement = statement;
  formats = ap (λ (t : Told). t.formats) h;
  name = ap (λ (t : Told). t.name) h;
  made = ap (λ (t : Told). t.made) h;
  text = ap (λ (t : Told). t.text) h;
}
by_statement p _ is statement h = absurd (let no : false ≡ true = ap (λ (t : Told). t.is_create) h in cc)

by_text : (r : Checked Parsed) → first CREATE_SECOND.now ≡ r → told r ≡ second_told → SecondText
by_text (Ok p) is h = by_statement p p.statement is refl h
by_text (Err e) is h = absurd (let no : false ≡ true = ap (λ (t : Told). t.is_create) h in cc)

second_text : SecondText
second_text = by_text (first CREATE_SECOND.now) refl second_is

-- a text that makes a table
compiled_by : (schema : Schema) (text : List ℕ) (p : Parsed) (def : CreateTable) (r : Checked Command) → first text ≡ Ok p → p.statement ≡ written.CreateTable def → p.formats ≡ [] → create_table schema [] def ≡ r
    → compiled schema text ≡ and_then r (λ k. Ok (with_command p ([], (k, None))))
unfolding compiled planned meaning resolver.command returning resolver.timed
compiled_by schema text p def (Ok k) is statement formats made = rw (is, statement, formats, made) refl
compiled_by schema text p def (Err e) is statement formats made = rw (is, statement, formats, made) refl

is_free : (t : FirstTables) (name : List ℕ) (missing : Bool) → name ≡ codes "journal2" → index_named (first_schema t) (codes "journal2") ≡ None
    → resolver.creates missing name (option_or (table_named (first_schema t) name) (view_named (first_schema t) name)) (index_named (first_schema t) name) ≡ Ok true
unfolding resolver.creates resolver.is_reserved same_name
is_free t name missing named free = rw (named, free) refl

create_free : (t : FirstTables) (def : CreateTable) → def.name ≡ codes "journal2" → index_named (first_schema t) (codes "journal2") ≡ None → new_table def ≡ Ok MakeTable → create_table (first_schema t) [] def ≡ Ok MakeTable
unfolding create_table is_attached
create_free t def name free made = rw (is_free t def.name def.if_missing name free) made

create_taken : (t : FirstTables) (def : CreateTable) (at : ℕ) → def.name ≡ codes "journal2" → index_named (first_schema t) (codes "journal2") ≡ Some at → create_table (first_schema t) [] def ≡ Err Exists
unfolding create_table resolver.creates is_attached resolver.is_reserved same_name
create_taken t def at name taken = rw (name, taken) refl

refused_by : (schema : Schema) (text : List ℕ) → compiled schema text ≡ Err Exists → understood schema text ≡ Err Exists
unfolding understood
refused_by schema text h = rw h refl

-- where no index has the name of the fourth, it is made
pub reads_second : (t : FirstTables) → index_named (first_schema t) (codes "journal2") ≡ None → Reads (first_schema t) CREATE_SECOND.now
reads_second t free =
    let it = second_text in
    let is = compiled_by (first_schema t) CREATE_SECOND.now it.parsed it.def (Ok MakeTable) it.is it.statement it.formats (create_free t it.def it.name free it.made) in
    let known = understood_by (first_schema t) CREATE_SECOND.now _ is in
    record { command = ap command_of known; statement = ap (statement_of CREATE_SECOND.now) known ∙ it.text; plain = subst IsPlain (sym known) (refl, refl); listing = ap misses_table is }

-- where one has it, the text is refused
pub taken_second : (t : FirstTables) (at : ℕ) → index_named (first_schema t) (codes "journal2") ≡ Some at → understood (first_schema t) CREATE_SECOND.now ≡ Err Exists
taken_second t at taken =
    let it = second_text in
    refused_by (first_schema t) CREATE_SECOND.now (compiled_by (first_schema t) CREATE_SECOND.now it.parsed it.def (Err Exists) it.is it.statement it.formats (create_taken t it.def at it.name taken))
