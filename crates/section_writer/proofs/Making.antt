-- Numbers, pieces and sections are written part by part, one after the other. Assumes nothing.
use mathlib.Core.Path.{◌≡◌, refl, ◌∙◌}
use mathlib.Core.Bool.{false}
use mathlib.Core.List.{List, [], ◌∷◌, ◌++◌}
use Prim.Native.Nat.{ℕ, ◌+◌, ◌≤◌, ◌<◌}
use native.Mathlib.Omega.{arith}
use lib.Dec.{eqb}
use lib.IntN.{ℤ, pos}
use lib.ListN.{length}
use borrow.Author.Tests.{le-leb}
use Rattle.plan.specs.declared.Piece.{Piece}
use Rattle.plan.specs.declared.Nlq.{Nlq}
use Rattle.plan.specs.declared.Component.{Component}
use Rattle.plan.specs.Ranges.{most_n}
use Rattle.plan.specs.Rule7.{coefficients_used}
use Rattle.pen.specs.Bytes.{bytes_of, number_bytes}
use Rattle.pen.specs.inner.Putting.{put_at, put_number, Inked}
use Rattle.pen.proofs.Putting.{one_byte, put_none, put_all}
use Rattle.pen.proofs.Inking.{on, inked, one_inked, two_inked, number_inked, same_length}
use Rattle.section_writer.specs.Section.{piece_bytes, nlq_bytes, section_bytes}
use Rattle.section_writer.specs.inner.Writing.{row_bytes, put_section}
use Rattle.section_writer.proofs.Sizes.{piece_parts, any_denominator, pivots_of, pivots_size, pieces_of, section_parts}

-- a number that follows what was put
then_number : {s s' s'' : List ℕ} {at next : ℕ} {a : List ℕ} (d : ℕ) (z : ℤ) (m : ℕ) → Inked s at a s' next → next ≡ m → d ≤ 32 → m + 5 ≤ length s → s'' ≡ put_number s' m false d z → Inked s at (a ++ number_bytes 1 d z) s'' (m + 5)
then_number d z m p e h r f = on (rw e at p) (number_inked false d z h (rw (same_length p) r) f)

module _ {s s1 s2 s3 s4 : List ℕ} (at d : ℕ) (q : Nlq) (h : d ≤ 32) (r : at + 17 ≤ length s) where
  pub made_nlq : s1 ≡ put_at s at (bytes_of 2 q.offset) → s2 ≡ put_number s1 (at + 2) false d (pos q.maximum) → s3 ≡ put_number s2 (at + 7) false d (pos q.slope) → s4 ≡ put_number s3 (at + 12) false d (pos q.threshold)
      → Inked s at (nlq_bytes d q) s4 (at + 17)
  unfolding nlq_bytes number_bytes bytes_of
  made_nlq e1 e2 e3 e4 =
      let last : at + 12 + 5 ≡ at + 17 = omega arith in
      rw (← last)
      (then_number d (pos q.threshold) (at + 12)
      (then_number d (pos q.slope) (at + 7)
      (then_number d (pos q.maximum) (at + 2) (two_inked q.offset (omega arith) e1) refl h (omega arith) e2)
      (omega arith) h (omega arith) e3) (omega arith) h (omega arith) e4)

module _ (s : List ℕ) (at d : ℕ) (q : Piece) {count : ℕ} (used : count ≡ coefficients_used q.idc q.order) (r : at + length (piece_bytes d q) ≤ length s) where
  abbrev coefficients : List ℕ
  coefficients = row_bytes (eqb q.idc 1) d q.row count

  -- there is room for each
  pub piece_room : (at + 2 ≤ length s) × (at + 2 + length coefficients ≤ length s)
  piece_room = rw used (omega (arith, piece_parts d q), omega (arith, piece_parts d q))

  pub made_piece : {s1 s2 : List ℕ} {next : ℕ} → s1 ≡ put_at s at (q.idc ∷ q.order ∷ []) → Inked s1 (at + 2) coefficients s2 next → Inked s at (piece_bytes d q) s2 next
  unfolding piece_bytes
  made_piece e p = rw (← one_byte q.idc, ← one_byte q.order) (on (inked (q.idc ∷ q.order ∷ []) piece_room.0 e) (rw used at p))

-- ---- a section
module _ (s : List ℕ) (at version d : ℕ) (c : Component) (h : d ≤ 32) (few : c.n ≤ most_n) where
  pub no_room : {size : ℕ} → size ≡ length (section_bytes version 0 c) → length s < at + size → s ≡ put_section s at version d c
  no_room e r = rw (le-leb d 32 h, le-leb c.n most_n few) (put_none s at refl (rw (any_denominator version d c, ← e) r))

  module _ {size : ℕ} (e : size ≡ length (section_bytes version 0 c)) (r : at + size ≤ length s) where
    all_room : at + length (section_bytes version d c) ≤ length s
    all_room = omega (arith, r, e, any_denominator version d c)

    module _ {s1 : List ℕ} (f : s1 ≡ put_at s at (c.n ∷ [])) where
      numbered : Inked s at (bytes_of 1 c.n) s1 (at + 1)
      numbered = one_inked c.n (omega (arith, all_room, section_parts d version c)) (rw one_byte at f)

      pub pivots_room : at + 1 + length (pivots_of d c) ≤ length s1
      pivots_room = omega (arith, all_room, section_parts d version c, pivots_size d c, same_length numbered)

      module _ {s2 : List ℕ} {first : ℕ} (p : Inked s1 (at + 1) (pivots_of d c) s2 first) where
        pub pieces_room : first + length (pieces_of d version c) ≤ length s2
        pieces_room = omega (arith, all_room, section_parts d version c, pivots_size d c, p.place, same_length p, same_length numbered)

        module _ {s3 : List ℕ} {second : ℕ} (q : Inked s2 first (pieces_of d version c) s3 second) where
          pub nlq_room : second + 17 ≤ length s3
          nlq_room = omega (arith, all_room, section_parts d version c, pivots_size d c, p.place, q.place, same_length p, same_length numbered, same_length q)

          pub made_section : {s4 : List ℕ} → Inked s3 second (nlq_bytes d c.nlq) s4 (second + 17) → s4 ≡ put_section s at version d c
          unfolding section_bytes
          made_section t = (on numbered (on p (on q t))).is ∙ rw (le-leb d 32 h, le-leb c.n most_n few) (put_all s at refl all_room)
