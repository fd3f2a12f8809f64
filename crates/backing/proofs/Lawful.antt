-- The laws of every backing.
use Rattle.std.proofs.Common.{◌≡◌, ℕ, ◌+◌, ◌≤◌, Bool, true, false, ◌&&◌, [], ◌∷◌, Ok, refl, ap, ◌∙◌, arith}
use mathlib.Core.Path.{fun_ext}
use Rattle.std.proofs.lemmas.Bool.{le-leb, cond_both}
use Rattle.std.proofs.lemmas.Bool.Decides.{nat_tests}
use Rattle.backing.specs.Meaning.{Meaning, Sound, count, tally, inside, affordable, turn, turned, commit_after, release_after, missing}
use Rattle.backing.specs.Replies.{accepted, commit_reply, release_reply, stretch_end}
use Rattle.backing.specs.Laws.{Call, commit, release, call_after, CallsKeepBackingsSound}
use Rattle.backing.proofs.Lent.{full}
use Rattle.backing.proofs.Tallies.{tally_added, tally_removed, tally_room}

-- an accepted call answers by how much the count changed
pub commit_counted : (m : Meaning) (first n k : ℕ) → commit_reply m first n ≡ accepted k → count (commit_after m first n) ≡ count m + k
unfolding commit_reply commit_after
commit_counted m first n k e = let more = tally_added m.held first n m.size in grind (arith, nat_tests, more)

pub release_counted : (m : Meaning) (first n k : ℕ) → release_reply m first n ≡ accepted k → count (release_after m first n) + k ≡ count m
unfolding release_reply release_after
release_counted m first n k e = let fewer = tally_removed m.held first n m.size in grind (arith, nat_tests, fewer)

-- a commit adds what is missing at most, and a release does not add
pub commit_adds : (m : Meaning) (first n : ℕ) → count (commit_after m first n) ≤ count m + missing m first n
unfolding commit_after
commit_adds m first n = let more = tally_added m.held first n m.size in grind (arith, nat_tests, more)

pub release_fewer : (m : Meaning) (first n : ℕ) → count (release_after m first n) ≤ count m
unfolding release_after
release_fewer m first n = let fewer = tally_removed m.held first n m.size in grind (arith, nat_tests, fewer)

-- past the size nothing is turned
module _ (m : Meaning) (s : Sound m) (first n : ℕ) (fits : first + n ≤ m.size) where
  still_none : (on : Bool) (g : ℕ) → m.size ≤ g → turn m.held first (first + n) on g ≡ false
  still_none on g past =
      let beyond : first + n ≤ g = omega arith in
      let none = s.none_past g past in
      grind (arith, nat_tests)

  still_sound : (on : Bool) → tally (turn m.held first (first + n) on) 0 m.size ≤ m.allowance → Sound (turned m first n on)
  still_sound on within = record { some = s.some; bounded = s.bounded; allowed = s.allowed; within = within; none_past = still_none on }

-- what a call keeps
abbrev Keeps : Meaning → Meaning → Type 0
Keeps m x = (Sound m → Sound x) × (x.size ≡ m.size) × (x.allowance ≡ m.allowance)

call_keeps : (m : Meaning) (call : Call) → Keeps m (call_after m call)
unfolding commit_after release_after
call_keeps m (commit first n) =
    cond_both (inside m.size first n && affordable m first n) (turned m first n true) m (Keeps m)
    (λ t. let more = tally_added m.held first n m.size in (λ s. still_sound m s first n (grind (arith, nat_tests)) true (grind (arith, nat_tests, more)), refl, refl))
    (λ t. (λ s. s, refl, refl))
call_keeps m (release first n) =
    cond_both (inside m.size first n) (turned m first n false) m (Keeps m)
    (λ t. let fewer = tally_removed m.held first n m.size in (λ s. still_sound m s first n (grind (arith, nat_tests)) false (grind (arith, nat_tests, s.within, fewer)), refl, refl))
    (λ t. (λ s. s, refl, refl))

pub calls_keep_backings_sound_lem : CallsKeepBackingsSound
calls_keep_backings_sound_lem m [] = (λ s. s, refl, refl)
calls_keep_backings_sound_lem m (call ∷ calls) =
    let one = call_keeps m call in
    let rest = calls_keep_backings_sound_lem (call_after m call) calls in
    (λ s. rest.0 (one.0 s), rest.1 ∙ one.1, rest.2 ∙ one.2)

-- where all is allowed, no stretch inside is over the allowance
pub all_affordable : (m : Meaning) (first n : ℕ) → m.allowance ≡ m.size → first + n ≤ m.size → affordable m first n ≡ true
all_affordable m first n all fits = le-leb _ _ (omega (arith, tally_room m.held first n m.size fits))

-- what a call leaves of a backing that allows all: a stretch that ends inside it is turned, from its first granule up to its end
module _ (set after : ℕ → Bool) (size first n from end : ℕ) (starts : from ≡ first) (ends : Ok end ≡ stretch_end size first n) where
  pub all_committed : ((g : ℕ) → after g ≡ turn set from end true g) → full after size ≡ commit_after (full set size) first n
  unfolding commit_after
  all_committed turns =
      let room = all_affordable (full set size) first n refl (grind (arith, nat_tests)) in
      ap (λ h. full h size) (fun_ext turns) ∙ (grind (arith, nat_tests, room))

  pub all_released : ((g : ℕ) → after g ≡ turn set from end false g) → full after size ≡ release_after (full set size) first n
  unfolding release_after
  all_released turns = ap (λ h. full h size) (fun_ext turns) ∙ (grind (arith, nat_tests))
