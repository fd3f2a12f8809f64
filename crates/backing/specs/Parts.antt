-- What a clause sees of a mask.
use Rattle.std.specs.Prelude.{ℕ, List}
use Rattle.std.specs.Borrow.{MutBor}
use Rattle.backing.specs.Bits.{MaskOk}

-- its bytes, its size and its count, and that they agree
pub record MaskParts : Type 0 where
  pub bytes : MutBor (List ℕ)
  pub size : ℕ
  pub count : ℕ
  pub ok : MaskOk bytes.now size count
