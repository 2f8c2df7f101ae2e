-- Pieces are compared as `==` compares them, field by field. Assumes nothing.
use Rattle.std.proofs.Common.{◌≡◌, ℕ, ◌+◌, ◌≤◌, ◌<◌, Bool, ◌&&◌, length, get_or, sym, ap, ◌∙◌, arith}
use Rattle.std.specs.Ordering.{int_eq}
use Rattle.std.specs.Cmp.Rules.{signed_items}
use Rattle.std.proofs.lemmas.Bool.Decides.{Decides-eqb, Decides-and, Decides-like, same_from_decides}
use lib.Dec.{eqb}
use lib.Pointwise.{pointwise}
use Rattle.plan.specs.declared.Piece.{Piece}
use Rattle.plan.specs.declared.Component.{Component}
use Rattle.plan.specs.Ranges.{most_n}
use Rattle.plan.specs.Rule7.{row_places, piece_places, no_piece}
use Rattle.plan.specs.Versions.{same_piece, can_carry}
use Rattle.plan.proofs.Carrying.{is_piece, piece_itself}

pub same_pieces : (a b : Piece) → length a.row ≡ row_places → length b.row ≡ row_places → (eqb a.idc b.idc && (eqb a.order b.order && pointwise int_eq a.row b.row)) ≡ same_piece a b
same_pieces a b la lb =
    same_from_decides {P = a ≡ b} _ _
    (Decides-like _ (λ p. made a b p.0 p.1.0 p.1.1) (λ e. (ap (λ (q : Piece). q.idc) e, (ap (λ (q : Piece). q.order) e, ap (λ (q : Piece). q.row) e)))
    (Decides-and _ _ (Decides-eqb a.idc b.idc) (Decides-and _ _ (Decides-eqb a.order b.order) (signed_items a.row b.row))))
    (is_piece a b la lb, λ e. ap (same_piece a) (sym e) ∙ piece_itself a)
  where
    made : (a b : Piece) → a.idc ≡ b.idc → a.order ≡ b.order → a.row ≡ b.row → a ≡ b
    made a b i o r = rw (i, o, r)

-- version 1 carries all where the last two are the same
pub carried_by_one : (version : ℕ) (c : Component) {n : ℕ} {r : Bool} → n ≡ c.n → n ≤ most_n → ((p : ℕ) → p < piece_places → length (get_or c.pieces p no_piece).row ≡ row_places) → version ≡ 1
    → let a = get_or c.pieces n no_piece in let b = get_or c.pieces (n + 1) no_piece in r ≡ (eqb a.idc b.idc && (eqb a.order b.order && pointwise int_eq a.row b.row)) → r ≡ can_carry version c
carried_by_one version c {n} few h rows one e =
    e ∙ same_pieces (get_or c.pieces n no_piece) (get_or c.pieces (n + 1) no_piece) (rows n (omega arith)) (rows (n + 1) (omega arith)) ∙ rw (few, one)
