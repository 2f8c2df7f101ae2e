-- A section of a component that passes rule 7: how long it can be, and that it is written where there is room. Assumes nothing.
use mathlib.Core.Path.{◌≡◌, refl}
use mathlib.Core.Bool.{Bool, true, false, cond}
use mathlib.Core.List.{List}
use Prim.Native.Nat.{ℕ, ◌+◌, ◌*◌, ◌≤◌, ◌<◌}
use native.Mathlib.Nat.{lt_of_lt_of_le}
use native.Mathlib.Omega.{arith}
use lib.Dec.{eqb, leb}
use lib.ListN.{length, get_or}
use Rattle.std.specs.Prelude.{Some}
use borrow.Author.Tests.{eqb-true, leb-true, lt-ltb, le-leb}
use Rattle.plan.specs.declared.Header.{Header}
use Rattle.plan.specs.declared.Component.{Component}
use Rattle.plan.specs.Ranges.{most_n, count_fits, idc_fits, order_fits}
use Rattle.plan.specs.Rule7.{piece_places, pieces_used, no_piece, piece_fits, pivots_fit, pieces_fit, nlq_fits, component_fits}
use Rattle.plan.specs.Versions.{pieces_carried}
use Rattle.plan.proofs.Truths.{both, every-at}
use Rattle.plan.proofs.Carrying.{carried_le}
use Rattle.pen.specs.inner.Putting.{Inked}
use Rattle.pen.proofs.Inking.{inked, turns_between}
use Rattle.section_writer.specs.Section.{piece_bytes, section_bytes}
use Rattle.section_writer.specs.inner.Writing.{piece_length, put_section, section_length}
use Rattle.section_writer.proofs.Sizes.{piece_size, section_parts, is_length}

-- the smallest section of a version, and the largest of component k
abbrev pub least : ℕ → ℕ
least version = cond (eqb version 1) 34 46

abbrev pub most : ℕ → ℕ → ℕ
most k version = cond (eqb version 1) (cond (eqb k 0) 324 2900) (cond (eqb k 0) 341 3078)

pub least_le : (version : ℕ) → 34 ≤ least version
least_le version = go (eqb version 1)
  where
    go : (t : Bool) → 34 ≤ cond t 34 46
    go true = omega arith
    go false = omega arith

pub most_le : (k version : ℕ) → most k version ≤ 3078
most_le k version = go (eqb k 0) (eqb version 1)
  where
    go : (s t : Bool) → cond t (cond s 324 2900) (cond s 341 3078) ≤ 3078
    go true true = omega arith
    go true false = omega arith
    go false true = omega arith
    go false false = omega arith

-- a piece that fits has 12 or 17 bytes, or of MMR up to 178
length-between : (k idc order : ℕ) → idc_fits k idc ≡ true → order_fits idc order ≡ true → (12 ≤ piece_length idc order) × (piece_length idc order ≤ cond (eqb k 0) 17 178)
length-between k idc order = go (eqb k 0) (eqb idc 1) refl
  where
    go : (s t : Bool) → eqb idc 1 ≡ t → leb idc (cond s 0 1) ≡ true → leb order (cond t 2 1) ≡ true
        → let m = 2 + cond t (7 * (order + 1) + 1) (order + 2) * (cond t 4 1 + 4) in (12 ≤ m) × (m ≤ cond s 17 178)
    go true true e p q = absurd (omega (arith, eqb-true idc 1 e, leb-true idc 0 p))
    go true false e p q = (omega arith, omega (arith, leb-true order 1 q))
    go false true e p q = (omega arith, omega (arith, leb-true order 2 q))
    go false false e p q = (omega arith, omega (arith, leb-true order 1 q))

module _ (k : ℕ) (h : Header) (c : Component) (e : component_fits k h c ≡ true) where
  pub few : c.n ≤ most_n
  unfolding component_fits
  few = leb-true c.n most_n (both (count_fits c.n) _ e).0

  piece-between : (d p : ℕ) → p < pieces_used c.n → (12 ≤ length (piece_bytes d (get_or c.pieces p no_piece))) × (length (piece_bytes d (get_or c.pieces p no_piece)) ≤ cond (eqb k 0) 17 178)
  unfolding component_fits pieces_fit piece_fits
  piece-between d p b =
      let v = both (pivots_fit h c) _ (both (count_fits c.n) _ e).1 in
      let f = both (pieces_fit k h c) (nlq_fits h c.nlq) v.1 in
      let t : p < piece_places = omega (arith, few) in
      let q = get_or c.pieces p no_piece in
      let i = both (idc_fits k q.idc) _ (rw (lt-ltb p (pieces_used c.n) b) at (every-at _ piece_places f.0 p t)) in
      rw (piece_size d q) (length-between k q.idc q.order i.0 (both (order_fits q.idc q.order) _ i.1).0)

  pub section-between : (version d : ℕ) → (least version ≤ length (section_bytes version d c)) × (length (section_bytes version d c) ≤ most k version)
  section-between version d =
      let t = turns_between (λ p. piece_bytes d (get_or c.pieces p no_piece)) 12 (cond (eqb k 0) 17 178) (pieces_carried version c.n) (λ p b. piece-between d p (lt_of_lt_of_le b (carried_le version c.n))) in
      go (eqb k 0) (eqb version 1) c.n few t.0 t.1 (section_parts d version c)
    where
      go : (s t : Bool) (n : ℕ) {pieces all : ℕ} → n ≤ most_n → cond t (n + 1) (n + 2) * 12 ≤ pieces → pieces ≤ cond t (n + 1) (n + 2) * cond s 17 178 → all ≡ 1 + (n + 2) * 2 + pieces + 17
          → (cond t 34 46 ≤ all) × (all ≤ cond t (cond s 324 2900) (cond s 341 3078))
      go true true n h a b e = (omega arith, omega arith)
      go true false n h a b e = (omega arith, omega arith)
      go false true n h a b e = (omega arith, omega arith)
      go false false n h a b e = (omega arith, omega arith)

  pub section_inked : {s s' : List ℕ} (at version d : ℕ) {r : ℕ} → d ≤ 32 → at + length (section_bytes version d c) ≤ length s → s' ≡ put_section s at version d c → Some r ≡ section_length version c → Inked s at (section_bytes version d c) s' (at + r)
  section_inked at version d deep room f g =
      rw (← (is_length version c d g).1) (inked (section_bytes version d c) room (rw (le-leb d 32 deep, le-leb c.n most_n few) at f))
