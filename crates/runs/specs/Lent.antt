-- A vector in lent places.
use Rattle.std.specs.Prelude.{List, take}
use Rattle.runs.specs.declared.lent.LentVec.{LentVec}

-- its items, in the first of the places
abbrev pub items_of : {T : Type 0} → LentVec T → List T
items_of v = take v.len v.places.now
