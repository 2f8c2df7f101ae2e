-- How long a section is, whatever the denominator. Assumes nothing.
use mathlib.Core.Path.{◌≡◌, refl, sym, ap, ◌∙◌}
use mathlib.Core.Bool.{Bool, true, false}
use mathlib.Core.List.{List, ◌++◌}
use Prim.Native.Nat.{ℕ, ◌+◌, ◌*◌, ◌≤◌, ◌<◌}
use native.Mathlib.Omega.{arith}
use lib.Dec.{eqb}
use lib.IntN.{pos}
use lib.ListN.{length, take, get_or, length-append}
use Rattle.std.proofs.lemmas.List.{get_or-take, length-take-le}
use Rattle.std.specs.Prelude.{Some, None}
use borrow.Author.Tests.{lt-leb, le-leb}
use Rattle.plan.specs.declared.Piece.{Piece}
use Rattle.plan.specs.declared.Nlq.{Nlq}
use Rattle.plan.specs.declared.Component.{Component}
use Rattle.plan.specs.Ranges.{most_n}
use Rattle.plan.specs.Rule7.{pivots_used, coefficients_used, no_piece}
use Rattle.plan.specs.Versions.{pieces_carried, can_carry}
use Rattle.pen.specs.Bytes.{bytes_of, number_bytes, in_turn}
use Rattle.pen.proofs.Putting.{number-length}
use Rattle.pen.proofs.Inking.{two_length, no_turn, turn_length, turns_length, turns_alike, turns_same}
use Rattle.section_writer.specs.Section.{integer_width, piece_bytes, nlq_bytes, section_bytes}
use Rattle.section_writer.specs.inner.Writing.{row_bytes, piece_length, most_length, has_section, section_length}

in_all : (n a b c : List ℕ) {x y z : ℕ} → length n ≡ 1 → length a ≡ x → length b ≡ y → length c ≡ z → length (n ++ (a ++ (b ++ c))) ≡ 1 + x + y + z
in_all n a b c h e f g = omega (arith, length-append n (a ++ (b ++ c)), length-append a (b ++ c), length-append b c, h, e, f, g)

module _ (d : ℕ) where
  -- a piece: mapping_idc and the order, and then the coefficients
  pub piece_parts : (q : Piece) → length (piece_bytes d q) ≡ 2 + length (row_bytes (eqb q.idc 1) d q.row (coefficients_used q.idc q.order))
  unfolding piece_bytes bytes_of
  piece_parts q = omega arith

  pub piece_size : (q : Piece) → length (piece_bytes d q) ≡ piece_length q.idc q.order
  piece_size q =
      let w = integer_width q.idc in
      let e = turns_length (λ i. number_bytes w d (get_or q.row i (pos 0))) (w + 4) (λ i. number-length w d (get_or q.row i (pos 0))) (coefficients_used q.idc q.order) in
      piece_parts q ∙ ap (λ (n : ℕ). 2 + n) e

  nlq_size : (q : Nlq) → length (nlq_bytes d q) ≡ 17
  unfolding nlq_bytes number_bytes bytes_of
  nlq_size q = refl

  abbrev pub pieces_of : ℕ → Component → List ℕ
  pieces_of version c = in_turn (pieces_carried version c.n) (λ p. piece_bytes d (get_or c.pieces p no_piece))

  abbrev pub pivots_of : Component → List ℕ
  pivots_of c = in_turn (pivots_used c.n) (λ i. bytes_of 2 (get_or c.preds i 0))

  pub pivots_size : (c : Component) → length (pivots_of c) ≡ pivots_used c.n * 2
  pivots_size c = turns_length (λ i. bytes_of 2 (get_or c.preds i 0)) 2 (λ i. two_length (get_or c.preds i 0)) (pivots_used c.n)

  pub section_parts : (version : ℕ) (c : Component) → length (section_bytes version d c) ≡ 1 + pivots_used c.n * 2 + length (pieces_of version c) + 17
  unfolding section_bytes bytes_of
  section_parts version c = in_all (bytes_of 1 c.n) (pivots_of c) (pieces_of version c) (nlq_bytes d c.nlq) refl (pivots_size c) refl (nlq_size c.nlq)

-- the denominator does not matter
pub any_denominator : (version d : ℕ) (c : Component) → length (section_bytes version d c) ≡ length (section_bytes version 0 c)
any_denominator version d c =
    let e = turns_alike (λ p. piece_bytes d (get_or c.pieces p no_piece)) (λ p. piece_bytes 0 (get_or c.pieces p no_piece)) (λ p. piece_size d (get_or c.pieces p no_piece) ∙ sym (piece_size 0 (get_or c.pieces p no_piece))) (pieces_carried version c.n) in
    section_parts d version c ∙ rw e (sym (section_parts 0 version c))

-- the pieces that are carried, and the pivots, as lists
pub taken_pieces : (version : ℕ) (c : Component) (d : ℕ) {l : List Piece} → l ≡ take (pieces_carried version c.n) c.pieces → length l ≡ pieces_carried version c.n → in_turn (length l) (λ p. piece_bytes d (get_or l p no_piece)) ≡ pieces_of d version c
taken_pieces version c d e g =
    rw (g, e) (turns_same (λ p. piece_bytes d (get_or (take (pieces_carried version c.n) c.pieces) p no_piece)) (λ p. piece_bytes d (get_or c.pieces p no_piece)) (pieces_carried version c.n) (λ p h. ap (piece_bytes d) (get_or-take (pieces_carried version c.n) c.pieces p no_piece h)))

pub taken_pivots : (c : Component) (d : ℕ) {k : ℕ} → k ≡ c.n → k + 2 ≤ length c.preds → in_turn (length (take (k + 2) c.preds)) (λ i. bytes_of 2 (get_or (take (k + 2) c.preds) i 0)) ≡ pivots_of d c
taken_pivots c d {k} e h =
    rw (length-take-le (k + 2) c.preds h) (turns_same (λ i. bytes_of 2 (get_or (take (k + 2) c.preds) i 0)) (λ i. bytes_of 2 (get_or c.preds i 0)) (k + 2) (λ i h. ap (bytes_of 2) (get_or-take (k + 2) c.preds i 0 h)))
    ∙ ap (λ (j : ℕ). in_turn (j + 2) (λ i. bytes_of 2 (get_or c.preds i 0))) e

-- a loop that adds up a section's length: p of its pieces are counted
pub record Counted (n : ℕ) (carried : List Piece) (size p : ℕ) : Type 0 where
  pub is : size ≡ 1 + pivots_used n * 2 + 17 + length (in_turn p (λ p. piece_bytes 0 (get_or carried p no_piece)))
  pub small : size ≤ 532 + p * most_length

module _ {n : ℕ} (carried : List Piece) where
  pub none_counted : n < 256 → Counted n carried (1 + (n + 2) * 2 + 17) 0
  none_counted h = let none = no_turn (λ p. piece_bytes 0 (get_or carried p no_piece)) in record { is = omega (arith, none); small = omega arith }

  pub one_counted : {size p more : ℕ} → Counted n carried size p → (more ≡ piece_length (get_or carried p no_piece).idc (get_or carried p no_piece).order) × (more ≤ most_length) → Counted n carried (size + more) (p + 1)
  one_counted {p = p} h f =
      record {
        is = omega (arith, h.is, f.0, piece_size 0 (get_or carried p no_piece), turn_length (λ p. piece_bytes 0 (get_or carried p no_piece)) p);
        small = omega (arith, h.small, f.1);
      }

-- what the code works out
module _ (version : ℕ) (c : Component) where
  pub too_many : most_n < c.n → None ≡ section_length version c
  too_many h = rw (lt-leb c.n most_n h)

  pub not_all : c.n ≤ most_n → can_carry version c ≡ false → None ≡ section_length version c
  not_all h e = rw (le-leb c.n most_n h, e)

  -- the length with those of its pieces that are carried
  pub with_pieces : {l : List Piece} {k m : ℕ} → l ≡ take (pieces_carried version c.n) c.pieces → length l ≡ pieces_carried version c.n → k ≡ length l
      → m ≡ 1 + pivots_used c.n * 2 + 17 + length (in_turn k (λ p. piece_bytes 0 (get_or l p no_piece))) → m ≡ length (section_bytes version 0 c)
  with_pieces {l} {k} {m} e g h f =
      f ∙ rw (h, taken_pieces version c 0 e g) (omega (arith, section_parts 0 version c))

  pub worked_out : {m : ℕ} → c.n ≤ most_n → can_carry version c ≡ true → m ≡ length (section_bytes version 0 c) → Some m ≡ section_length version c
  worked_out h k e = rw (le-leb c.n most_n h, k, e)

  -- a length says that there is a section, and is its
  pub is_length : (d : ℕ) {m : ℕ} → Some m ≡ section_length version c → (has_section version c ≡ true) × (length (section_bytes version d c) ≡ m)
  is_length d {m} e = go (has_section version c) refl
    where
      go : (t : Bool) → has_section version c ≡ t → (has_section version c ≡ true) × (length (section_bytes version d c) ≡ m)
      go true p = let f = rw p at e in (p, any_denominator version d c ∙ sym cc)
      go false p = let f = rw p at e in absurd cc
