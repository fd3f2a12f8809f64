-- Both kinds of backing are sound: the proofs that the interface's member `sound` asks of them.
use Rattle.std.specs.Prelude.{ℕ, zero, suc, ◌+◌, ◌≤◌, Bool, true, false, nat_lt}
use Rattle.std.proofs.Common.{arith}
use Rattle.std.proofs.lemmas.Bool.{and_left, le-ltb}
use Rattle.backing.specs.declared.limits.Limiter.{Limiter}
use Rattle.backing.specs.declared.masks.Mask.{Mask}
use Rattle.backing.specs.Bits.{bit_at, marked}
use Rattle.backing.specs.Limits.{limit_of, limiter_means}
use Rattle.backing.specs.Masks.{mask_means}
use Rattle.backing.specs.Meaning.{Meaning, Sound, count, one, tally}

one_le : (b : Bool) → one b ≤ 1
one_le true = omega arith
one_le false = omega arith

pub tally_le : (set : ℕ → Bool) (first n : ℕ) → tally set first n ≤ n
unfolding tally
tally_le set first zero = omega arith
tally_le set first (suc n) = omega (arith, tally_le set first n, one_le (set (first + n)))

pub mask_sound : (m : Mask) → Sound (mask_means m)
mask_sound m = record {
  some = m.ok.some;
  bounded = m.ok.bounded;
  allowed = omega arith;
  within = tally_le (marked m.bytes.now m.size) 0 m.size;
  none_past = λ g past. and_left (nat_lt g m.size) (bit_at m.bytes.now g) (le-ltb g m.size past);
}

-- no more is committed than a limiter's limit
pub kept_to : {B : Type 0} (means : B → Meaning) (l : Limiter B) → count (means l.below) ≤ limit_of means l
kept_to means l = omega arith

pub limiter_sound : {B : Type 0} (means : B → Meaning) (l : Limiter B) → Sound (means l.below) → Sound (limiter_means means l)
limiter_sound means l s = record {
  some = s.some;
  bounded = s.bounded;
  allowed = omega arith;
  within = omega (arith, kept_to means l, s.within);
  none_past = s.none_past;
}
