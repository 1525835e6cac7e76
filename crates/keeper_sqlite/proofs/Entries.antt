-- The entry of a row, column by column.
use Rattle.keeper_sqlite.proofs.Common.{◌≡◌, pos, length, refl, Int, Row, column, Entry, JournalTable, First, Second, shown_entry, FitsTable}
use Rattle.keeper_sqlite.proofs.Lists.{six_columns, seven_columns}

-- a row of the table's width, whose columns are these numbers
pub entry_found : (table : JournalTable) (row : Row) (e : Entry) → length row ≡ length (shown_entry table e)
    → column row 0 ≡ Int (pos e.seq) → column row 1 ≡ Int (pos e.mutation) → column row 2 ≡ Int (pos e.test) → column row 3 ≡ Int (pos e.word) → column row 4 ≡ Int (pos e.mark) → column row 5 ≡ Int (pos e.tags)
    → (table ≡ First → e.bound ≡ 0) → (table ≡ Second → column row 6 ≡ Int (pos e.bound)) → (row ≡ shown_entry table e) × FitsTable table e
entry_found First row e len p q r s t o first second = (six_columns row _ _ _ _ _ _ len p q r s t o, first refl)
entry_found Second row e len p q r s t o first second = (seven_columns row _ _ _ _ _ _ _ len p q r s t o (second refl), tt)
