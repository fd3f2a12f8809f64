-- A limit over a backing's meaning, as calls leave it.
use Rattle.std.proofs.Common.{◌≡◌, ℕ, ◌+◌, ◌-◌, ◌≤◌, min, sym, ap, ◌∙◌, arith}
use Rattle.std.proofs.lemmas.Bool.Decides.{nat_tests}
use Rattle.backing.specs.Meaning.{Meaning, Sound, count, missing, limited, commit_after, release_after}
use Rattle.backing.specs.Replies.{accepted, commit_reply, release_reply}
use Rattle.backing.proofs.Lawful.{commit_counted, release_counted}

-- where the limit does not stand in the way, a commit is as below
pub limited_committed : (limit : ℕ) (m : Meaning) (first n : ℕ) → count m + missing m first n ≤ limit → limited limit (commit_after m first n) ≡ commit_after (limited limit m) first n
unfolding commit_after
limited_committed limit m first n under = grind (arith, nat_tests)

pub limited_released : (limit : ℕ) (m : Meaning) (first n : ℕ) → limited limit (release_after m first n) ≡ release_after (limited limit m) first n
unfolding release_after
limited_released limit m first n = grind (arith, nat_tests)

kept_allowance : (m : Meaning) (first n : ℕ) → (release_after m first n).allowance ≡ m.allowance
unfolding release_after
kept_allowance m first n = grind (arith, nat_tests)

-- only what a limit allows of the backing below counts
same_limit : (x y : ℕ) (m : Meaning) → min x m.allowance ≡ min y m.allowance → limited x m ≡ limited y m
same_limit x y m e = ap (λ a. record { size = m.size; allowance = a; held = m.held }) e

-- the limit stays where what it leaves goes down by what was added, and up by what was removed
pub left_committed : (m after : Meaning) (left first n k : ℕ) → after ≡ commit_after m first n → accepted k ≡ commit_reply m first n → count m + missing m first n ≤ count m + left
    → limited (count after + (left - k)) after ≡ commit_after (limited (count m + left) m) first n
unfolding commit_reply
left_committed m after left first n k is e under =
    let all : k ≡ missing m first n = grind (arith, nat_tests) in
    let same : count (commit_after m first n) + (left - k) ≡ count m + left = omega (arith, commit_counted m first n k (sym e), all, under) in
    ap (λ x. limited (count x + (left - k)) x) is ∙ ap (λ limit. limited limit (commit_after m first n)) same ∙ limited_committed (count m + left) m first n under

pub left_released : (m after : Meaning) (left first n k sum : ℕ) → Sound m → after ≡ release_after m first n → accepted k ≡ release_reply m first n → sum ≡ min (left + k) 4294967295
    → limited (count after + sum) after ≡ release_after (limited (count m + left) m) first n
left_released m after left first n k sum s is e adds =
    let same : min (count (release_after m first n) + sum) (release_after m first n).allowance ≡ min (count m + left) (release_after m first n).allowance =
    omega (arith, release_counted m first n k (sym e), adds, kept_allowance m first n, s.allowed, s.bounded) in
    ap (λ x. limited (count x + sum) x) is ∙ same_limit _ _ (release_after m first n) same ∙ limited_released (count m + left) m first n
