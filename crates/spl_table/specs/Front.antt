-- A table that is read, with the extent of its text.
use Rattle.std.specs.Prelude.{◌≡◌, ℕ, List, length}
use Rattle.spl_table.specs.TableText.{TableText, spelling, line_of_end}
use Rattle.spl_table.specs.Table.{IsTableOf}
use Rattle.spl_table.specs.Refusal.{Extent, IsTableText}
use Rattle.spl_table.specs.declared.reader.Front.{Front}

-- the bytes are, or begin with, a table text that says this: the table is the one that the text stands for, and its
-- bytes and lines are so many
pub record IsFrontOf (extent : Extent) (bytes : List ℕ) (f : Front) : Type 0 where
  pub text : TableText
  pub rest : List ℕ
  pub is_text : IsTableText extent bytes text rest
  pub is_table : IsTableOf text f.table
  pub used : f.used ≡ length (spelling text)
  pub lines : f.lines ≡ line_of_end text
