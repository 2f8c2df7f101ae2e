-- `spans::apart::look_up_in_step` meets its contract. Assumes nothing.
use mathlib.Core.Path.{◌≡◌, sym, ap, ◌∙◌}
use mathlib.Core.Bool.{Bool, ◌&&◌}
use Prim.Native.Nat.{ℕ, ◌%◌}
use lib.Dec.{eqb}
use Rattle.spans.specs.inner.Spans.{four_lie}
use Rattle.spans.proofs.InStep.{whole-within, all_in_step, none_in_step}
use Rattle.spans.proofs.apart.look_up_in_step.Goals as goal

-- what was tested
tested : (a b c d n l m : ℕ) (r : Bool) → r ≡ four_lie a b c d n l → l ≡ m → (eqb (n % 32) 0 && r) ≡ (eqb (n % 32) 0 && four_lie a b c d n m)
tested a b c d n l m r e k = ap (λ (u : Bool). eqb (n % 32) 0 && u) (e ∙ ap (four_lie a b c d n) k)

pub returns-then-s-lie_within : goal.returns-then-s-lie_within
returns-then-s-lie_within c =
    let t = tested _ _ _ _ c.args.s.n _ _ _ c.lie_within.ensures c.min.ensures in
    let p = whole-within _ _ _ _ _ _ (sym t ∙ c.if-s-lie_within.true) in
    c.look_up_four_stretches.ensures ∙ sym (all_in_step _ _ _ _ _ _ _ _ p.0 p.1)

pub returns-else-s-lie_within : goal.returns-else-s-lie_within
returns-else-s-lie_within c =
    let t = tested _ _ _ _ c.args.s.n _ _ _ c.lie_within.ensures c.min.ensures in
    none_in_step _ _ _ _ _ _ _ _ (sym t ∙ c.if-s-lie_within.false)

pub look_up_four_stretches-requires : goal.look_up_four_stretches-requires
look_up_four_stretches-requires c =
    let t = tested _ _ _ _ c.args.s.n _ _ _ c.lie_within.ensures c.min.ensures in
    whole-within _ _ _ _ _ _ (sym t ∙ c.if-s-lie_within.true)
