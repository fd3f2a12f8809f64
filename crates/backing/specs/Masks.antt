-- What a mask means: a bit for each granule, and nothing past the last one.
use Rattle.std.specs.Prelude.{ℕ, List, drop}
use Rattle.backing.specs.declared.masks.Mask.{Mask}
use Rattle.backing.specs.Bits.{bytes_for, marked}
use Rattle.backing.specs.Meaning.{Meaning}

-- a mask as a backing: all of it is allowed
abbrev pub mask_means : Mask → Meaning
mask_means m = record { size = m.size; allowance = m.size; held = marked m.bytes.now m.size }

-- the bytes past those that hold a mask's bits
abbrev pub spare_bytes : ℕ → List ℕ → List ℕ
spare_bytes size bytes = drop (bytes_for size) bytes
