-- What a version carries of a component: all of it, where it is written, and so of what was read. Assumes nothing.
use mathlib.Core.Path.{◌≡◌, refl, sym, ap, ◌∙◌}
use mathlib.Core.Bool.{Bool, true, false, cond}
use mathlib.Core.List.{List, [], ◌∷◌, ◌++◌}
use Prim.Native.Nat.{ℕ, suc, ◌+◌, ◌≤◌, ◌<◌}
use native.Mathlib.Omega.{arith}
use lib.Dec.{eqb}
use lib.ListN.{length, get_or, take}
use lib.Seq.{get_or-take, take-suc}
use borrow.Author.Tests.{eqb-true, eqb-false}
use Rattle.plan.specs.declared.Piece.{Piece}
use Rattle.plan.specs.declared.Component.{Component}
use Rattle.plan.specs.Ranges.{most_n}
use Rattle.plan.specs.Rule7.{pieces_used, piece_places, no_piece, zero_piece}
use Rattle.plan.specs.Versions.{known_version, pieces_carried, pieces_read, can_carry}
use Rattle.plan.specs.inner.Facts.{Arrays}
use Rattle.plan.proofs.Truths.{inside}
use Rattle.plan.proofs.Carrying.{piece_n, piece_above, carried_twice, carried_known, piece_itself, is_piece}
use Rattle.fields.specs.Fields.{padded}
use Rattle.round_trips.proofs.Places.{cut, cut_more}

module _ (version : ℕ) (c : Component) where
  pub known : can_carry version c ≡ true → known_version version ≡ true
  known e = go (eqb version 1) refl
    where
      go : (t : Bool) → eqb version 1 ≡ t → known_version version ≡ true
      go true p = rw (eqb-true version 1 p)
      go false p = rw (carried_known c version e p)

  -- a version that there is carries all of a component, version 1 where piece n stands twice
  pub all_carried : known_version version ≡ true → (version ≡ 1 → piece_above c ≡ piece_n c) → can_carry version c ≡ true
  all_carried k f = go (eqb version 1) refl
    where
      go : (t : Bool) → eqb version 1 ≡ t → can_carry version c ≡ true
      go true p = let one = eqb-true version 1 p in rw (one, f one) (piece_itself (piece_n c))
      go false p =
          let b = inside 1 2 version k in
          let two : version ≡ 2 = omega (arith, b.0, b.1, ne p) in
          rw two
        where
          ne : eqb version 1 ≡ false → version ≡ 1 → ⊥
          ne = eqb-false version 1

-- what is read of the pieces that were carried, and what was carried of those that are read
module _ (version n : ℕ) (few : n ≤ most_n) where
  pub cut-read : (m : List Piece) → length m ≡ pieces_carried version n → take (pieces_carried version n) (padded piece_places zero_piece (pieces_read version n m)) ≡ m
  cut-read m e = go (eqb version 1) e
    where
      go : (t : Bool) → length m ≡ cond t (n + 1) (n + 2) → take (cond t (n + 1) (n + 2)) (padded piece_places zero_piece (cond t (m ++ (get_or m n no_piece ∷ [])) m)) ≡ m
      go true f = cut_more zero_piece piece_places m (get_or m n no_piece ∷ []) (n + 1) f (omega arith)
      go false f = cut zero_piece piece_places m (n + 2) f (omega arith)

  pub read_all : (c : Component) → c.n ≡ n → Arrays c → can_carry version c ≡ true → pieces_read version n (take (pieces_carried version n) c.pieces) ≡ take (pieces_used n) c.pieces
  read_all c e a carry = go (eqb version 1) refl
    where
      twice : eqb version 1 ≡ true → get_or c.pieces n no_piece ≡ get_or c.pieces (n + 1) no_piece
      twice p = rw e at (is_piece (piece_n c) (piece_above c) (a.row c.n (omega (arith, e))) (a.row (c.n + 1) (omega (arith, e))) (carried_twice c version carry p))

      go : (t : Bool) → eqb version 1 ≡ t → let l = take (cond t (n + 1) (n + 2)) c.pieces in cond t (l ++ (get_or l n no_piece ∷ [])) l ≡ take (n + 2) c.pieces
      go true p =
          let longer : n + 1 < length c.pieces = omega (arith, a.pieces) in
          let more : suc (n + 1) ≡ n + 2 = omega arith in
          rw (get_or-take (n + 1) c.pieces n no_piece (omega arith), twice p) (sym (take-suc c.pieces (n + 1) no_piece longer) ∙ ap (λ (k : ℕ). take k c.pieces) more)
      go false p = refl
