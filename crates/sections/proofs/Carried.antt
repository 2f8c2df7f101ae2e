-- The pieces that a version carries, and those that are read of them: as a list, and in their places. Assumes nothing.
use mathlib.Core.Path.{◌≡◌, refl, sym, ap, ◌∙◌}
use mathlib.Core.Bool.{Bool, true, false, cond}
use mathlib.Core.List.{List, [], ◌∷◌, ◌++◌}
use Prim.Native.Nat.{ℕ, zero, suc, ◌+◌, ◌≤◌, ◌<◌}
use native.Mathlib.Nat.{le_of_suc-le-suc, not-suc-le-zero}
use native.Mathlib.Omega.{arith}
use lib.Dec.{eqb}
use lib.ListN.{length, get_or, set, length-append, get_or-append}
use lib.Seq.{get_or-append_seam}
use Rattle.plan.specs.declared.Piece.{Piece}
use Rattle.plan.specs.Ranges.{most_n}
use Rattle.plan.specs.Rule7.{pieces_used, piece_places, no_piece, zero_piece}
use Rattle.plan.specs.Versions.{pieces_carried, pieces_read}
use Rattle.fields.specs.Fields.{padded}
use Rattle.fields.proofs.Giving.{Each}

module _ {A : Type 0} where
  module _ (P : A → Type 0) (d : A) where
    each_at : (l : List A) (i : ℕ) → i < length l → Each P l → P (get_or l i d)
    each_at [] i h p = absurd (not-suc-le-zero h)
    each_at (x ∷ l) zero h p = p.0
    each_at (x ∷ l) (suc i) h p = each_at l i (le_of_suc-le-suc h) p.1

    each_more : (l : List A) (a : A) → Each P l → P a → Each P (l ++ (a ∷ []))
    each_more [] a p q = (q, tt)
    each_more (x ∷ l) a p q = (p.0, each_more l a p.1 q)

  -- a list filled up to m places: one element more, and what stands in a place
  padded_more : (m : ℕ) (z : A) (l : List A) (a : A) → length l < m → set (padded m z l) (length l) a ≡ padded m z (l ++ (a ∷ []))
  unfolding padded
  padded_more zero z l a h = absurd (not-suc-le-zero h)
  padded_more (suc m) z [] a h = refl
  padded_more (suc m) z (x ∷ l) a h = ap (λ (r : List A). x ∷ r) (padded_more m z l a (le_of_suc-le-suc h))

  pub padded-at : (m : ℕ) (z d : A) (l : List A) (i : ℕ) → i < length l → i < m → get_or (padded m z l) i d ≡ get_or l i d
  unfolding padded
  padded-at zero z d l i h k = absurd (not-suc-le-zero k)
  padded-at (suc m) z d [] i h k = absurd (not-suc-le-zero h)
  padded-at (suc m) z d (x ∷ l) zero h k = refl
  padded-at (suc m) z d (x ∷ l) (suc i) h k = padded-at m z d l i (le_of_suc-le-suc h) (le_of_suc-le-suc k)

-- all that are used are read, and each is one that was carried
module _ (P : Piece → Type 0) (version n : ℕ) where
  pub all_read : (l : List Piece) → length l ≡ pieces_carried version n → Each P l → (length (pieces_read version n l) ≡ pieces_used n) × Each P (pieces_read version n l)
  all_read l e p = go (eqb version 1) e
    where
      go : (t : Bool) → length l ≡ cond t (n + 1) (n + 2) → let r = cond t (l ++ (get_or l n no_piece ∷ [])) l in (length r ≡ n + 2) × Each P r
      go true f = (omega (arith, length-append l (get_or l n no_piece ∷ [])), each_more P no_piece l (get_or l n no_piece) p (each_at P no_piece l n (omega arith) p))
      go false f = (f, p)

-- piece n stands twice
module _ (n : ℕ) (few : n ≤ most_n) (l : List Piece) (long : length l ≡ n + 1) where
  abbrev twice : List Piece
  twice = l ++ (get_or l n no_piece ∷ [])

  longer : length twice ≡ n + 2
  longer = omega (arith, long, length-append l (get_or l n no_piece ∷ []))

  pub stands_twice : get_or (padded piece_places zero_piece twice) (n + 1) no_piece ≡ get_or (padded piece_places zero_piece twice) n no_piece
  stands_twice =
      padded-at piece_places zero_piece no_piece twice (n + 1) (omega (arith, longer)) (omega arith)
      ∙ ap (λ (i : ℕ). get_or twice i no_piece) (sym long) ∙ get_or-append_seam l (get_or l n no_piece) [] no_piece
      ∙ sym (padded-at piece_places zero_piece no_piece twice n (omega (arith, longer)) (omega arith) ∙ get_or-append l (get_or l n no_piece ∷ []) no_piece n (omega arith))

  -- so the copy leaves it
  pub copy_leaves : let places = padded piece_places zero_piece l in set places (n + 1) (get_or places n no_piece) ≡ padded piece_places zero_piece twice
  copy_leaves =
      rw (padded-at piece_places zero_piece no_piece l n (omega (arith, long)) (omega arith), ← long)
      (padded_more piece_places zero_piece l (get_or l n no_piece) (omega (arith, long)))
