-- How many of the marks a call without residual sees: where the flag is 1 its row pairs are full, and none is kept.
use Rattle.std.specs.Prelude.{cond, ℕ, eqb}
use Rattle.plan.specs.declared.Header.{Header}

unfoldable pub marks_seen : Header → ℕ → ℕ
marks_seen h n = cond (eqb h.disabled 1) 0 n
