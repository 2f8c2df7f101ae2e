-- What a version of a block carries of a component: how many pieces, and when it is all of them. Assumes nothing.
use mathlib.Core.Path.{◌≡◌, refl, sym, ap, ◌∙◌}
use mathlib.Core.Bool.{Bool, true, false, cond, ◌||◌, false≢true}
use Prim.Native.Nat.{ℕ, ◌+◌, ◌≤◌}
use native.Mathlib.Omega.{arith}
use lib.Dec.{eqb}
use lib.IntN.{ℤ, pos, negsuc}
use lib.ListN.{length, get_or}
use lib.Seq.{ext_get_or}
use mir.Facts.{to_z-of_z}
use mir.Syntax.{w64}
use mir.Val.{SFits, to_z, of_z}
use borrow.Author.Tests.{eqb-true, eq-eqb, ne_eqb}
use Rattle.plan.specs.declared.Piece.{Piece}
use Rattle.plan.specs.declared.Component.{Component}
use Rattle.plan.specs.Rule7.{row_places, pieces_used, no_piece}
use Rattle.plan.specs.Versions.{pieces_carried, same_number, same_piece, can_carry}
use Rattle.plan.proofs.Truths.{both, every-at, every_true}

-- ---- numbers and pieces that are the same
pub number_itself : (z : ℤ) → same_number z z ≡ true
number_itself (pos n) = eq-eqb n n refl
number_itself (negsuc n) = eq-eqb n n refl

is_number : (a b : ℤ) → same_number a b ≡ true → a ≡ b
is_number (pos m) (pos n) e = ap pos (eqb-true m n e)
is_number (pos m) (negsuc n) e = absurd (false≢true e)
is_number (negsuc m) (pos n) e = absurd (false≢true e)
is_number (negsuc m) (negsuc n) e = ap negsuc (eqb-true m n e)

-- two words are the same where the integers are that they hold
pub same_words : (a b : ℤ) → SFits w64 a → SFits w64 b → eqb (of_z w64 a) (of_z w64 b) ≡ same_number a b
same_words a b f g = go (same_number a b) refl
  where
    go : (t : Bool) → same_number a b ≡ t → eqb (of_z w64 a) (of_z w64 b) ≡ same_number a b
    go true e = eq-eqb (of_z w64 a) (of_z w64 b) (ap (of_z w64) (is_number a b e)) ∙ sym e
    go false e = ne_eqb (of_z w64 a) (of_z w64 b) (λ p. false≢true (sym e ∙ ap (same_number a) (sym (sym (to_z-of_z f) ∙ ap (to_z w64) p ∙ to_z-of_z g)) ∙ number_itself a)) ∙ sym e

pub piece_itself : (q : Piece) → same_piece q q ≡ true
unfolding same_piece
piece_itself q = rw (eq-eqb q.idc q.idc refl, eq-eqb q.order q.order refl, every_true _ row_places (λ i h. number_itself (get_or q.row i (pos 0))))

pub is_piece : (a b : Piece) → length a.row ≡ row_places → length b.row ≡ row_places → same_piece a b ≡ true → a ≡ b
unfolding same_piece
is_piece a b la lb e =
    let i = both (eqb a.idc b.idc) _ e in
    let o = both (eqb a.order b.order) _ i.1 in
    made a b (eqb-true _ _ i.0) (eqb-true _ _ o.0) (ext_get_or (pos 0) a.row b.row (la ∙ sym lb) (λ j h. is_number _ _ (every-at _ row_places o.1 j (omega (arith, la)))))
  where
    made : (a b : Piece) → a.idc ≡ b.idc → a.order ≡ b.order → a.row ≡ b.row → a ≡ b
    made a b i o r = rw (i, o, r)

-- ---- how many pieces are carried
module _ (version n : ℕ) where
  pub carried_le : pieces_carried version n ≤ pieces_used n
  carried_le = go (eqb version 1)
    where
      go : (t : Bool) → cond t (n + 1) (n + 2) ≤ n + 2
      go true = omega arith
      go false = omega arith

-- ---- when it is all of them
module _ (c : Component) where
  abbrev pub piece_n : Piece
  piece_n = get_or c.pieces c.n no_piece

  abbrev pub piece_above : Piece
  piece_above = get_or c.pieces (c.n + 1) no_piece

  pub carried_twice : (version : ℕ) → can_carry version c ≡ true → eqb version 1 ≡ true → same_piece piece_n piece_above ≡ true
  carried_twice version e one = rw (eqb-true version 1 one) at e

  pub carried_known : (version : ℕ) → can_carry version c ≡ true → (eqb version 1 ≡ false) → version ≡ 2
  carried_known version e other = go (eqb version 2) refl (rw other at e)
    where
      go : (t : Bool) → eqb version 2 ≡ t → (t || false) ≡ true → version ≡ 2
      go true p q = eqb-true version 2 p
      go false p q = absurd (false≢true q)
