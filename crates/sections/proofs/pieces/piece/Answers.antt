-- `piece` meets its contract: its parts follow each other. Assumes nothing.
use mathlib.Core.Path.{refl}
use mathlib.Core.List.{List}
use Prim.Native.Nat.{ℕ}
use lib.IntN.{ℤ, pos}
use Rattle.plan.specs.Rule7.{row_places}
use Rattle.fields.specs.Fields.{got, padded}
use Rattle.fields.proofs.Following.{goes_on, stops, goes_on_as, stops_as}
use Rattle.sections.specs.Sections.{piece}
use Rattle.sections.proofs.pieces.piece.Goals as goal

pub returns-in_err-idc : goal.returns-in_err-idc
unfolding piece
returns-in_err-idc c = stops _ _ _ c.from_residual.ensures c.in_err-idc.ensures.value

pub returns-in_err-order : goal.returns-in_err-order
unfolding piece
returns-in_err-order c = goes_on _ c.in_ok-idc.ensures.value (stops _ _ _ c.from_residual-in_err-order.ensures c.in_err-order.ensures.value)

pub returns-in_err-row : goal.returns-in_err-row
unfolding piece
returns-in_err-row c =
    goes_on _ c.in_ok-idc.ensures.value
    (goes_on _ c.in_ok-order.ensures.value
    (stops_as _ (padded row_places (pos 0)) (λ (row : List ℤ) (rest : List ℕ). got (record { idc = c.in_ok-idc.idc; order = c.in_ok-order.order; row = row }) rest) _ _ c.from_residual-in_err-row.ensures
    (rw c.coefficients_used.ensures.is at c.in_err-row.ensures)))

pub returns : goal.returns
unfolding piece
returns c =
    goes_on _ c.in_ok-idc.ensures.value
    (goes_on _ c.in_ok-order.ensures.value
    (goes_on_as _ (padded row_places (pos 0)) (λ (row : List ℤ) (rest : List ℕ). got (record { idc = c.in_ok-idc.idc; order = c.in_ok-order.order; row = row }) rest)
    (rw c.coefficients_used.ensures.is at c.in_ok-row.ensures) refl))
