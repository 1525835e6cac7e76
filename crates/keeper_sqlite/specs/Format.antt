-- The format of the database: the four tables with all their constraints, as `sqlite` understands the statements that make them, and the
-- three of a database that was made before there was a second format.
use Rattle.std.specs.Prelude.{ℕ, pos, true, [], ◌∷◌, codes}
use Rattle.sqlite.specs.Collation.TheVariants.{Binary}
use Rattle.sqlite.specs.declared.types.Value.TheVariants.{Int}
use Rattle.sqlite.specs.Schema.{Schema}
use Rattle.sqlite.specs.Term.{Term, col, lit, op2}
use Rattle.sqlite_sql.specs.declared.ops.BinaryOp.TheVariants.{And, Compare}
use Rattle.sqlite_sql.specs.declared.ops.CompareOp.TheVariants.{Ge, Le}
use Rattle.sqlite_schema.specs.declared.schema.Index.{Index}
use Rattle.keeper_sqlite.specs.Tables.{Constraints, FirstTables, BookTables, first_schema, book_schema}

-- For proofs alone.

-- CHECK(c BETWEEN 0 AND 4294967295), where c has this place in the row: 0 is the key, and the columns have the places from 1 on
abbrev pub is_u32 : ℕ → Term
is_u32 place = op2 And (op2 (Compare Ge Binary) (col 1 place) (lit (Int (pos 0)))) (op2 (Compare Le Binary) (col 1 place) (lit (Int (pos 4294967295))))

-- of `meta` and `mutations`: the key is a u32
abbrev pub of_items : Constraints
of_items = record { primary = 0 ∷ []; uniques = []; orders = []; checks = is_u32 0 ∷ [] }

-- of `journal`: each number is a u32, and UNIQUE(mutation, test)
abbrev pub of_journal : Constraints
of_journal = record {
  primary = 0 ∷ [];
  uniques = (2 ∷ 3 ∷ []) ∷ [];
  orders = record { digits = 0 } ∷ [];
  checks = is_u32 0 ∷ is_u32 2 ∷ is_u32 3 ∷ is_u32 4 ∷ is_u32 5 ∷ is_u32 6 ∷ [];
}

-- the index that SQLite makes for the UNIQUE
abbrev pub pair_index : Index
pair_index = record { name = codes "sqlite_autoindex_journal_1"; tree = 3; table = 2; columns = 2 ∷ 3 ∷ []; order = record { digits = 0 }; is_unique = true }

-- of `journal2`: each number is a u32, and UNIQUE(mutation, test, bound)
abbrev pub of_second : Constraints
of_second = record {
  primary = 0 ∷ [];
  uniques = (2 ∷ 3 ∷ 7 ∷ []) ∷ [];
  orders = record { digits = 0 } ∷ [];
  checks = is_u32 0 ∷ is_u32 2 ∷ is_u32 3 ∷ is_u32 4 ∷ is_u32 5 ∷ is_u32 6 ∷ is_u32 7 ∷ [];
}

-- the index that SQLite makes for its UNIQUE
abbrev pub bound_index : Index
bound_index = record { name = codes "sqlite_autoindex_journal2_1"; tree = 5; table = 4; columns = 2 ∷ 3 ∷ 7 ∷ []; order = record { digits = 0 }; is_unique = true }

-- the three tables that the first format has, and nothing else
abbrev pub first_tables : FirstTables
first_tables = record { meta = of_items; mutations = of_items; journal = of_journal; index = pair_index }

abbrev pub first_format : Schema
first_format = first_schema first_tables

-- the four tables, and nothing else
abbrev pub tables : BookTables
tables = record { meta = of_items; mutations = of_items; journal = of_journal; second = of_second; indexes = pair_index ∷ bound_index ∷ [] }

abbrev pub format : Schema
format = book_schema tables
