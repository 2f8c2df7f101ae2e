-- `raw` meets its contract: a field that runs past the bytes, and one that is there. Assumes nothing.
use mathlib.Core.Path.{refl, subst, ◌∙◌}
use Prim.Native.Nat.{ℕ, ◌<◌, ◌^◌}
use Rattle.fields.proofs.Stepping.{too_few, enough}
use Rattle.fields.proofs.raw.Goals as goal

pub returns-then-rest-w : goal.returns-then-rest-w
returns-then-rest-w c = record { value = too_few _ _ _ _ (rw c.bytes-w.ensures.0 at c.if-rest-w.true); small = tt }

pub returns : goal.returns
returns c = record {
  value = enough _ _ _ _ c.bytes-w.ensures.0 c.if-rest-w.false c.split_at.ensures.front c.split_at.ensures.back c.number.ensures.0 refl;
  small = subst (λ (n : ℕ). c.number.result < 256 ^ n) (c.split_at.ensures.front_len ∙ c.bytes-w.ensures.0) c.number.ensures.1;
}
