-- What a limiter means: the backing below it, with no more allowed than its limit.
use Rattle.std.specs.Prelude.{ℕ, ◌+◌}
use Rattle.backing.specs.declared.limits.Limiter.{Limiter}
use Rattle.backing.specs.Meaning.{Meaning, count, limited}

-- a limiter's own limit: what is committed below, and what it still allows
abbrev pub limit_of : {B : Type 0} → (B → Meaning) → Limiter B → ℕ
limit_of means l = count (means l.below) + l.left

abbrev pub limiter_means : {B : Type 0} → (B → Meaning) → Limiter B → Meaning
limiter_means means l = limited (limit_of means l) (means l.below)
