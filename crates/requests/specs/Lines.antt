-- The lines that granules reads. Assumes nothing.
use Rattle.std.specs.Prelude.{ℕ, ◌+◌, ◌-◌, ◌*◌, Bool, if◌then◌else◌, ◌&&◌, List, [], ◌∷◌, length, Some, None, codes, option_and_then, Option, ◌==◌, nat_le, nat_lt}
use Prim.Native.String.{String}
use Rattle.std.specs.List.{slice_split}
use Rattle.std.specs.Str.{all_ascii_digits, bytes_eq}
use Rattle.backing.specs.declared.stretches.Stretch.{Stretch}
use Rattle.requests.specs.declared.Request.{Request}
use Rattle.requests.specs.declared.Request.TheVariants.{Mask, Limit, Commit, Release, Held, Size, Allowance, Count}

-- the value of the digits, after those of n; the digit 0 is the byte 48
abbrev pub value_after : ℕ → List ℕ → ℕ
value_after n [] = n
value_after n (b ∷ bs) = value_after (10 * n + (b - 48)) bs

-- one or more digits, with a value of at most 2^32 − 1
abbrev pub is_number : List ℕ → Bool
is_number bs = nat_lt 0 (length bs) && (all_ascii_digits bs && nat_le (value_after 0 bs) 4294967295)

-- the number that the bytes spell
abbrev pub number_of : List ℕ → Option ℕ
number_of bs = if is_number bs then Some (value_after 0 bs) else None

-- the line cut at each space, the byte 32
abbrev pub words_of : List ℕ → List (List ℕ)
words_of line = slice_split (λ b. b == 32) line

-- the word is the text
abbrev pub is : List ℕ → String → Bool
is word text = bytes_eq word (codes text)

-- the words that stand alone
abbrev pub alone : List ℕ → Option Request
alone word =
    if is word "size" then Some Size
    else if is word "allowance" then Some Allowance
    else if is word "count" then Some Count
    else None

-- the words that take one number
abbrev pub with_one : List ℕ → ℕ → Option Request
with_one word n =
    if is word "mask" then Some (Mask n)
    else if is word "limit" then Some (Limit n)
    else if is word "held" then Some (Held n)
    else None

-- the words that take two numbers
abbrev pub with_two : List ℕ → ℕ → ℕ → Option Request
with_two word first count =
    let stretch : Stretch = record { first = first; count = count } in
    if is word "commit" then Some (Commit stretch)
    else if is word "release" then Some (Release stretch)
    else None

-- the request that the words spell
abbrev pub spelled : List (List ℕ) → Option Request
spelled [] = None
spelled (word ∷ []) = alone word
spelled (word ∷ n ∷ []) = option_and_then (with_one word) (number_of n)
spelled (word ∷ m ∷ n ∷ []) = option_and_then (λ first. option_and_then (with_two word first) (number_of n)) (number_of m)
spelled (word ∷ m ∷ n ∷ extra ∷ more) = None

-- the request that the line spells
abbrev pub request_of : List ℕ → Option Request
request_of line = spelled (words_of line)
