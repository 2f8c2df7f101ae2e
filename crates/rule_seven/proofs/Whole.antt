-- A plan by its components, with each of which the header is tested, and a component with too many pieces. Assumes nothing.
use mathlib.Core.Path.{◌≡◌, refl}
use mathlib.Core.Bool.{Bool, true, false, ◌&&◌, cond}
use Prim.Native.Nat.{ℕ, ◌+◌, ◌<◌, ◌≤◌}
use lib.Dec.{ltb, eqb}
use lib.ListN.{get_or}
use borrow.Author.Tests.{lt-leb, le-leb}
use Rattle.plan.specs.declared.Header.{Header}
use Rattle.plan.specs.declared.Component.{Component}
use Rattle.plan.specs.declared.Plan.{Plan}
use Rattle.plan.specs.Ranges.{most_n, header_fits, pivot_fits}
use Rattle.plan.specs.Rule7.{every, pivot_places, piece_places, no_piece, piece_fits, piece_empty, pivots_fit, pieces_fit, nlq_fits, usable, component_fits, fitting}

pub each : (p : Plan) → let h = p.header in (usable 0 h p.y && (usable 1 h p.cb && usable 2 h p.cr)) ≡ fitting p
unfolding fitting
each p = once (header_fits p.header) (component_fits 0 p.header p.y) (component_fits 1 p.header p.cb) (component_fits 2 p.header p.cr)
  where
    once : (h y cb cr : Bool) → ((h && y) && ((h && cb) && (h && cr))) ≡ (h && (y && (cb && cr)))
    once true y cb cr = refl
    once false y cb cr = refl

pub too_many : (k : ℕ) (h : Header) (c : Component) → header_fits h ≡ true → most_n < c.n → usable k h c ≡ false
unfolding component_fits
too_many k h c passed more = rw (passed, lt-leb c.n most_n more)

-- what its parts say together
pub joined : (k : ℕ) (h : Header) (c : Component) {n : ℕ} {pivots pieces residual : Bool} → header_fits h ≡ true → c.n ≤ most_n → n ≡ c.n → pivots ≡ every pivot_places (λ i. cond (ltb i (n + 2)) (pivot_fits h (get_or c.preds i 0)) (eqb (get_or c.preds i 0) 0)) → pieces ≡ every piece_places (λ p. cond (ltb p (n + 2)) (piece_fits k h (get_or c.pieces p no_piece)) (piece_empty h (get_or c.pieces p no_piece))) → residual ≡ nlq_fits h c.nlq → (pivots && (pieces && residual)) ≡ usable k h c
unfolding component_fits pivots_fit pieces_fit
joined k h c passed few same v p q = rw (passed, le-leb c.n most_n few, ← same, v, p, q)
