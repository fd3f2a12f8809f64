-- What a clause sees of a run list.
use Rattle.std.specs.Prelude.{ℕ}
use Rattle.runs.specs.declared.rows.Run.{Run}
use Rattle.runs.specs.declared.lent.LentVec.{LentVec}
use Rattle.runs.specs.Rows.{RunListOk}

-- its records, its size and its count, and that they agree
pub record ListParts : Type 0 where
  pub rows : LentVec Run
  pub size : ℕ
  pub count : ℕ
  pub ok : RunListOk rows.places.now rows.len size count
