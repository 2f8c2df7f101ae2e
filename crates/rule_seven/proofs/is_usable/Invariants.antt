use mathlib.Core.Bool.{Bool, cond}
use mathlib.Core.Path.{◌≡◌}
use Prim.Native.Nat.{ℕ}
use lib.Dec.{ltb}
use lib.ListN.{get_or}
use Rattle.plan.specs.declared.Header.{Header}
use Rattle.plan.specs.declared.Component.{Component}
use Rattle.plan.specs.Rule7.{every, no_piece, piece_fits, piece_empty}
use Rattle.rule_seven.proofs.is_usable.Given as goal

-- the test of place p
abbrev place : ℕ → Header → Component → ℕ → ℕ → Bool
place k h c used p = cond (ltb p used) (piece_fits k h (get_or c.pieces p no_piece)) (piece_empty h (get_or c.pieces p no_piece))

abbrev pub invariant-loop-p : goal.invariant-loop-p
invariant-loop-p l = l.fit ≡ every l.p (place l.k l.h.header l.c l.used)

abbrev pub invariant-loop-p-2 : goal.invariant-loop-p-2
invariant-loop-p-2 l = l.fit ≡ every l.p (place l.k l.h.header l.c l.used)
