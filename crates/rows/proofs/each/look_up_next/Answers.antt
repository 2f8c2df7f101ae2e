use mathlib.Core.Path.{sym, ◌∙◌}
use native.Mathlib.Omega.{arith}
use borrow.Author.Tests.{eqb-true}
use Rattle.rows.proofs.Lending.{row_of, both}
use Rattle.rows.proofs.Standing.{four_stand, kept_next, one_next, four_next}
use Rattle.rows.proofs.each.look_up_next.Goals as goal

-- `rows::each::look_up_next` meets its contract: of the row pairs that are passed, those that are not full are painted. Assumes nothing.
pub returns-then-is_full : goal.returns-then-is_full
returns-then-is_full c = record { on = (omega arith, omega arith); paints = kept_next _ _ _ _ _ (sym c.is_full.ensures ∙ c.if-is_full.true) }

pub look_up_apart-requires : goal.look_up_apart-requires
look_up_apart-requires c =
    let last = c.if-d-last.true in
    (four_stand _ _ _ _ _ c.requires.in_plane.0 c.requires.in_plane.1 _ _ _ _ c.requires.k_lt_last (omega (arith, c.next_open-c.ensures.from, c.next_open-d.ensures.from)) (omega (arith, c.next_open-d.ensures.from)) last, eqb-true _ 0 (both c.is_full-2.result _ c.if-is_full-p.true).1)

pub returns-then-d-last : goal.returns-then-d-last
returns-then-d-last c =
    record { on = (omega (arith, c.next_open-b.ensures.from, c.next_open-c.ensures.from, c.next_open-d.ensures.from), omega arith); paints = four_next _ _ _ _ _ c.requires.in_plane.0.some_columns (sym c.is_full.ensures ∙ c.if-is_full.false) _ _ _ _ c.next_open-b.ensures c.next_open-c.ensures c.next_open-d.ensures c.if-d-last.true _ c.look_up_apart.ensures }

pub look_up_row-requires : goal.look_up_row-requires
look_up_row-requires c =
    (row_of _ _ _ _ c.requires.in_plane.0 _ c.requires.k_lt_last, row_of _ _ _ _ c.requires.in_plane.1 _ c.requires.k_lt_last)

pub returns : goal.returns
returns c =
    record { on = (omega arith, omega arith); paints = one_next _ _ _ _ _ c.requires.in_plane.0.some_columns (sym c.is_full.ensures ∙ c.if-is_full.false) _ c.look_up_row.ensures }
