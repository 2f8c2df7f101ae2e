use mathlib.Core.Path.{ap, ◌∙◌}
use Prim.Native.Nat.{ℕ, ◌-◌, min}
use Rattle.sums.specs.inner.Sums.{lower_by}
use Rattle.sums.proofs.Cut.lower.Goals as goal

-- `sums::Cut::lower` meets its contract. Assumes nothing.
pub returns : goal.returns
unfolding lower_by
returns c =
    let cut = c.args.self in
    c.min.ensures
    ∙ ap (λ (n : ℕ). min n cut.most) (c.saturating_sub.ensures ∙ ap (λ (n : ℕ). n - cut.low) c.shifted.ensures)
