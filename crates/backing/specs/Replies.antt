-- Answers as their reader sees them: a number, or a refusal's number with the values that it carries.
use Rattle.std.specs.Prelude.{ℕ, ◌+◌, if◌then◌else◌, List, [], ◌∷◌, ◌++◌, Ok, Err, codes, decimal, Result}
use Rattle.backing.specs.declared.refusals.Refusal.{Refusal}
use Rattle.backing.specs.declared.refusals.Refusal.TheVariants.{LimitBelowCount, BadMaking, OutsideBacking, OverAllowance}
use Rattle.backing.specs.declared.stretches.Span.{Span}
use Rattle.backing.specs.Meaning.{Meaning, present, missing, room, inside, affordable}

pub data Reply : Type 0 where
  accepted : ℕ → Reply
  refused : ℕ → List ℕ → Reply

-- each refusal: its number, and what it carries
abbrev pub told : Refusal → Reply
told LimitBelowCount = refused 5 []
told BadMaking = refused 6 []
told OutsideBacking = refused 20 []
told (OverAllowance wanted left) = refused 21 (wanted ∷ left ∷ [])

-- a refusal's number
abbrev pub number_of : Reply → ℕ
number_of (accepted k) = 0
number_of (refused number values) = number

-- numbers, each after a space
abbrev pub spaced : List ℕ → List ℕ
spaced [] = []
spaced (n ∷ ns) = codes " " ++ (decimal n ++ spaced ns)

-- a reply in writing: its number, or "no", the refusal's number and what it carries
abbrev pub written : Reply → List ℕ
written (accepted k) = decimal k
written (refused number values) = codes "no " ++ (decimal number ++ spaced values)

-- the reply that a call's result stands for
abbrev pub reply : Result ℕ Refusal → Reply
reply (Ok k) = accepted k
reply (Err e) = told e

-- where the span ends that a call answers, or its refusal
abbrev pub span_end : Result Span Refusal → Result ℕ Refusal
span_end (Ok span) = Ok span.end
span_end (Err e) = Err e

-- where a stretch of a backing ends
abbrev pub stretch_end : ℕ → ℕ → ℕ → Result ℕ Refusal
stretch_end size first n = if inside size first n then Ok (first + n) else Err OutsideBacking

-- how many granules of a stretch are not committed
unfoldable pub missing_reply : Meaning → ℕ → ℕ → Reply
missing_reply m first n = if inside m.size first n then accepted (missing m first n) else told OutsideBacking

-- a commit answers how many granules it added
unfoldable pub commit_reply : Meaning → ℕ → ℕ → Reply
commit_reply m first n =
    if inside m.size first n
    then (if affordable m first n then accepted (missing m first n) else told (OverAllowance (missing m first n) (room m)))
    else told OutsideBacking

-- a release answers how many granules it removed
unfoldable pub release_reply : Meaning → ℕ → ℕ → Reply
release_reply m first n = if inside m.size first n then accepted (present m first n) else told OutsideBacking
