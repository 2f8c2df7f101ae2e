-- Numbers, pieces and sections are made of their parts, read one after the other. Assumes nothing.
use mathlib.Core.Path.{◌≡◌, sym, ap, ◌∙◌, subst}
use mathlib.Core.Bool.{Bool, true, false, cond, ◌&&◌}
use mathlib.Core.List.{List, [], ◌∷◌, ◌++◌}
use Prim.Native.Nat.{ℕ, ◌+◌, ◌^◌, ◌≤◌}
use native.Mathlib.Omega.{arith}
use lib.Dec.{eqb}
use lib.ListN.{length, get_or, set}
use lib.IntN.{ℤ, pos, nat_abs, ◌+ℤ◌, ◌*ℤ◌}
use borrow.Author.Tests.{le-leb}
use lib.Pow.{pow_mono}
use mir.Syntax.{w64}
use mir.Val.{SFits, to_z, of_z}
use Rattle.words.proofs.Holding.{Holds, number, result, mul, add_asked}
use Rattle.section_fields.proofs.Bytes.{signed_le}
use Rattle.plan.specs.declared.Header.{Header}
use Rattle.plan.specs.declared.Piece.{Piece}
use Rattle.plan.specs.declared.Nlq.{Nlq}
use Rattle.plan.specs.declared.Component.{Component}
use Rattle.plan.specs.Ranges.{most_n, count_fits}
use Rattle.plan.specs.Rule7.{piece_places, no_piece, zero_piece, piece_fits}
use Rattle.plan.specs.Versions.{pieces_carried, pieces_read}
use Rattle.plan.specs.inner.Copying.{copied}
use Rattle.fields.specs.declared.kinds.Kind.TheVariants.{LeftOver}
use Rattle.fields.specs.declared.Width.TheVariants.{One}
use Rattle.fields.specs.Fields.{Read, refused, got, ◌then◌, repeated, padded, ended}
use Rattle.fields.specs.inner.Readers.{filled}
use Rattle.fields.proofs.Giving.{Each, Gives, repeated_gives}
use Rattle.section_fields.specs.Fields.{asked, integer_width, signed, integer_fits}
use Rattle.sections.specs.Sections.{piece, nlq}
use Rattle.sections.specs.inner.Holding.{held}
use Rattle.sections.proofs.Carried.{copy_leaves}
use Rattle.sections.proofs.Fitting.{piece_gives}

-- what is carried of the pieces, and of version 1 piece n again
module _ (h : Header) (k version n : ℕ) (bytes : List ℕ) where
  pub made_held : {carried pieces : List Piece} {rest : List ℕ} → n ≤ most_n → got carried rest ≡ filled piece_places zero_piece (pieces_carried version n) (piece h k) bytes → pieces ≡ copied version n carried → got pieces rest ≡ held version h k n bytes
  made_held {carried} {pieces} {rest} few r e = go (eqb version 1) r e
    where
      after : (b : Read (List Piece)) → Gives (λ l. (length l ≡ n + 1) × Each (λ q. piece_fits k h q ≡ true) l) b → got carried rest ≡ (b then λ l rest. got (padded piece_places zero_piece l) rest)
          → got (set carried (n + 1) (get_or carried n no_piece)) rest ≡ (b then λ l rest. got (padded piece_places zero_piece (l ++ (get_or l n no_piece ∷ []))) rest)
      after (refused i name over) g r = cc
      after (got l over) g r =
          ap (λ (x : Read (List Piece)). x then λ c rest. got (set c (n + 1) (get_or c n no_piece)) rest) r ∙ ap (λ (x : List Piece). got x over) (copy_leaves n few l g.0)

      go : (t : Bool) → got carried rest ≡ filled piece_places zero_piece (cond t (n + 1) (n + 2)) (piece h k) bytes → pieces ≡ cond (t && count_fits n) (set carried (n + 1) (get_or carried n no_piece)) carried
          → got pieces rest ≡ (repeated 0 (cond t (n + 1) (n + 2)) (piece h k) bytes then λ l rest. got (padded piece_places zero_piece (cond t (l ++ (get_or l n no_piece ∷ [])) l)) rest)
      go true r e = rw (e, le-leb n most_n few) (after (repeated 0 (n + 1) (piece h k) bytes) (repeated_gives _ 0 (n + 1) (piece h k) (piece_gives h k) bytes) r)
      go false r e = rw e r

-- what follows in a section after its pivots, its pieces and the residual's numbers
module _ (h : Header) (k version n : ℕ) where
  abbrev pub made_of : List ℕ → List Piece → Nlq → Component
  made_of l p q = record { n = n; preds = l; pieces = p; nlq = q }

  abbrev pub pieces_of : List Piece → List Piece
  pieces_of p = padded piece_places zero_piece (pieces_read version n p)

  abbrev pub after_pieces : List ℕ → List Piece → List ℕ → Read Component
  after_pieces l p rest = nlq h k rest then λ q rest. ended (asked LeftOver k 0 0 One).name 3 (made_of l p q) rest

  abbrev pub after_pivots : List ℕ → List ℕ → Read Component
  after_pivots l rest = repeated 0 (pieces_carried version n) (piece h k) rest then λ p rest. after_pieces l (pieces_of p) rest

-- a coefficient's sum fits
pub sum_fits : (idc n one f d : ℕ) {z : ℤ} → SFits w64 z → z ≡ signed (integer_width idc) n → integer_fits idc n ≡ true → one ≤ 2 ^ 32 → d ≤ 32 → f ≤ 2 ^ d
    → SFits w64 (to_z w64 (of_z w64 (to_z w64 (of_z w64 z) *ℤ to_z w64 one)) +ℤ to_z w64 f)
sum_fits idc n one f d {z} s e i o h l =
    let whole : Holds (of_z w64 z) z 65536 = result s.sfits (subst (λ (z : ℤ). nat_abs z ≤ 65536) (sym e) (signed_le idc n i)) in
    let scale : Holds one (pos one) (2 ^ 32) = number o tt in
    let rest : Holds f (pos f) (2 ^ 32) = number (omega (arith, l, pow_mono {i = d} {j = 32} h)) tt in
    add_asked (mul whole scale tt) rest tt
