-- the tests so far are joined
use mathlib.Core.Path.{◌≡◌}
use Rattle.plan.specs.Rule7.{every}
use Rattle.mapping.specs.inner.Copies.{polynomial_of}
use Rattle.mapping.specs.inner.Mapped.{polynomial_maps}
use Rattle.mapping.proofs.limits.pieces_map.Given as goal

abbrev pub invariant-loop-q : goal.invariant-loop-q
invariant-loop-q l = l.fit ≡ every l.q-index (λ p. let q = polynomial_of l.used p in polynomial_maps q.order q.row)
