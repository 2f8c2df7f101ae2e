-- What the private functions ask and give, and nothing that another crate cites.
use Rattle.std.specs.Prelude.{◌≡◌, ℕ, ◌+◌, ◌-◌, ◌*◌, ◌^◌, ◌<◌, ◌≤◌, ℤ, pos, nat_abs, ◌-ℤ◌, ◌*ℤ◌}
use Rattle.std.specs.Int.Signed.{shr_z}
use Rattle.standard.specs.Residual.{sign_of, limited, residual}
use Rattle.plan.specs.declared.Nlq.{Nlq}
use Rattle.plan.specs.Parameters.{quantization}
use Rattle.residual.specs.declared.depths.Depths.{Depths}
use Rattle.residual.specs.inner.Raising.{raised}

-- slack bounds, the same for every depth
pub record NlqRanges (d : ℕ) (q : Nlq) : Type 0 where
  pub maximum : q.maximum ≤ 2 ^ (d + 1)
  pub slope : q.slope ≤ 2 ^ (d + 1)
  pub threshold : q.threshold ≤ 2 ^ (d + 1)

-- how much a scaled distance grows from code to code: the distance was doubled
abbrev pub growth : ℕ → ℕ → ℤ
growth el S = pos 2 *ℤ pos (2 ^ (10 - el)) *ℤ pos S

-- what a scaled distance comes to
abbrev pub limited_by : ℕ → ℤ → ℤ → ℤ
limited_by shift most dq = shr_z (limited most dq) (2 ^ shift)

unfoldable pub raised_by : ℕ → ℕ → ℤ → ℤ → ℕ
raised_by out shift most dq = raised out (limited_by shift most dq)

-- 2 ^ 29 after the division: more than any scaled distance, so that one raised by it is not below 0
abbrev pub far_of : ℕ → ℕ
far_of shift = 2 ^ 29 * 2 ^ shift

pub record CodeGiven (out shift most : ℕ) (dq : ℤ) : Type 0 where
  pub out_depth : out ≤ 12
  pub divided : shift ≤ 27
  pub limit : most ≤ 2 ^ 17 * 2 ^ shift
  pub near : nat_abs dq ≤ far_of shift

-- what a code comes to
unfoldable pub raised_code : ℕ → ℕ → ℕ → Nlq → ℕ → ℕ
raised_code out el d q e = raised out (residual el d (quantization q) e)

-- a distance that is not 0, and its sign
pub record Beside (rr sign : ℤ) : Type 0 where
  pub apart : rr ≡ pos 0 → ⊥
  pub is : sign ≡ sign_of rr

-- codes on one side of the offset
pub record OneSide (depths : Depths) (from to : ℕ) (q : Nlq) (sign : ℤ) : Type 0 where
  pub ranges : NlqRanges depths.d q
  pub ordered : from ≤ to
  pub codes : to ≤ 1024
  pub offset : q.offset ≤ 1024
  pub unit : nat_abs sign ≤ 1
  pub side : (e : ℕ) → from ≤ e → e < to → Beside (pos e -ℤ pos q.offset) sign
