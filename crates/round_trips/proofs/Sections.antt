-- The one walk of a section's grammar that says both: what was written is read, and what is read was written so. Assumes nothing.
use mathlib.Core.Path.{◌≡◌, refl, sym, ap, ap₂}
use mathlib.Core.Bool.{Bool, true, false, cond}
use mathlib.Core.List.{List, [], ◌∷◌, ◌++◌}
use Prim.Native.Nat.{ℕ, ◌+◌, ◌*◌, ◌^◌, ◌≤◌, ◌<◌}
use native.Mathlib.Nat.{lt_of_lt_of_le}
use native.Mathlib.Omega.{arith}
use lib.Dec.{leb, ltb, eqb}
use lib.IntN.{ℤ, pos}
use lib.ListN.{length, get_or, take}
use lib.Pow.{pow_mono}
use lib.Seq.{length-take-le}
use borrow.Author.Tests.{eqb-true, leb-true, ltb-true, lt-ltb, le-ltb}
use Rattle.standard.specs.Parameters.{fp}
use Rattle.plan.specs.declared.Header.{Header}
use Rattle.plan.specs.declared.Piece.{Piece}
use Rattle.plan.specs.declared.Nlq.{Nlq}
use Rattle.plan.specs.declared.Component.{Component}
use Rattle.plan.specs.Ranges.{most_n, count_fits, pivot_fits, idc_fits, order_fits, offset_fits, fraction_fits, coefficient_fits, unsigned_fits}
use Rattle.plan.specs.Rule7.{pivot_places, piece_places, row_places, pivots_used, pieces_used, coefficients_used, no_piece, zero_piece, row_fits, piece_fits, piece_empty, pivots_fit, pieces_fit, nlq_tests, nlq_fits, component_fits}
use Rattle.plan.specs.Versions.{pieces_carried, pieces_read, can_carry}
use Rattle.plan.specs.inner.Facts.{HeaderFacts, Arrays}
use Rattle.plan.proofs.Truths.{both, each, every-at}
use Rattle.plan.proofs.Coefficients.{zero_abs}
use Rattle.plan.proofs.Carrying.{carried_le}
use Rattle.fields.specs.declared.kinds.Kind.{Kind}
use Rattle.fields.specs.declared.kinds.Kind.TheVariants.{HdrInMaxInt, LeftOver, MappingIdc, NlqOffset, NumPivotsMinus2, PredPivotValue, SlopeInt, ThresholdInt}
use Rattle.fields.specs.declared.Width.TheVariants.{One, Two, Four}
use Rattle.fields.specs.Fields.{wide, padded}
use Rattle.fields.proofs.Giving.{Each}
use Rattle.pen.specs.Bytes.{bytes_of, signed_number, integer_part, fraction_part, number_bytes, in_turn}
use Rattle.section_fields.specs.Fields.{asked, order_kind, integer_kind, fraction_kind, integer_width, signed, integer_fits}
use Rattle.section_fields.proofs.Bytes.{integer_small}
use Rattle.sections.specs.Sections.{coefficient, unsigned, piece, pivot, nlq, section}
use Rattle.sections.proofs.Places.{used_few}
use Rattle.section_writer.specs.Section.{integer_width as integer_bytes, piece_bytes, nlq_bytes, section_bytes}
use Rattle.round_trips.proofs.Mirrors.{Any, End, Mirrors, field_mirrors, then_mirrors, last_mirrors, done, over, mirrors_as, each_of, repeated_mirrors}
use Rattle.round_trips.proofs.Places.{cut, filled, each_taken, in_turns, length-padded}
use Rattle.round_trips.proofs.Carrying.{cut-read, read_all}
use Rattle.round_trips.proofs.Parts.{parted, coefficient_parts, unsigned_parts, unsigned_parted}

module _ (h : Header) (facts : HeaderFacts h) (k : ℕ) where
  -- values in their ranges have bytes enough
  one_byte : (v : ℕ) → leb v most_n ≡ true → v < 256
  one_byte v p = omega (arith, leb-true v most_n p)

  fraction_small : (v : ℕ) → fraction_fits h v ≡ true → v < 256 ^ 4
  fraction_small v p = omega (arith, ltb-true v (2 ^ h.d) p, pow_mono {i = h.d} {j = 32} facts.shallow)

  sample_small : (b v : ℕ) → b ≤ 2 → ltb v (2 ^ (b + 8)) ≡ true → v < 256 ^ 2
  sample_small b v l p = omega (arith, ltb-true v (2 ^ (b + 8)) p, pow_mono {i = b + 8} {j = 10} (omega arith))

  -- the writer's bytes of an integer part are as many as the reader's
  same_width : (idc : ℕ) → wide (integer_width idc) ≡ integer_bytes idc
  same_width idc = go (eqb idc 1)
    where
      go : (t : Bool) → wide (cond t Four One) ≡ cond t 4 1
      go true = refl
      go false = refl

  coefficient_mirrors : (p idc i : ℕ) → Mirrors Any (coefficient h k p idc i) (number_bytes (integer_bytes idc) h.d) (λ z. coefficient_fits h idc z ≡ true) (λ z. Unit {0})
  unfolding coefficient number_bytes
  coefficient_mirrors p idc i =
      rw (← same_width idc)
      (then_mirrors (field_mirrors (asked (integer_kind idc i) k p i (integer_width idc)) (integer_fits idc) (λ v. 5) (integer_small idc))
      (λ z. signed_number (wide (integer_width idc)) (integer_part h.d z)) _ _
      (λ n q.
      last_mirrors (field_mirrors (asked (fraction_kind (integer_kind idc i)) k p i Four) (fraction_fits h) (λ v. 5) fraction_small) done
      (λ f. fp h.d (signed (integer_width idc) n) f) (fraction_part h.d) _ _
      (λ z t. let s = coefficient_parts h idc z t.1 in (s.1.0, rw (← t.0) s.1.1))
      (λ f t. let s = parted h.d f (ltb-true f (2 ^ h.d) t) idc n q in (s.1, (s.0, tt))))
      (λ z t. let s = coefficient_parts h idc z t in (s.0, s.0)))

  unsigned_mirrors : (kind : Kind) → Mirrors Any (unsigned h k kind) (λ v. number_bytes 1 h.d (pos v)) (λ v. unsigned_fits h v ≡ true) (λ v. Unit {0})
  unfolding unsigned number_bytes
  unsigned_mirrors kind =
      then_mirrors (field_mirrors (asked kind k 0 0 One) (λ n. leb n 1) (λ v. 5) (λ v p. omega (arith, leb-true v 1 p)))
      (λ v. signed_number 1 (integer_part h.d (pos v))) _ _
      (λ n q.
      last_mirrors (field_mirrors (asked (fraction_kind kind) k 0 0 Four) (fraction_fits h) (λ v. 5) fraction_small) done
      (λ f. n * 2 ^ h.d + f) (λ v. fraction_part h.d (pos v)) _ _
      (λ v t. let s = unsigned_parts h v t.1 in (s.1.0, rw (← t.0) s.1.1))
      (λ f t. let s = unsigned_parted h n f q t in (s.1, (s.0, tt))))
      (λ v t. let s = unsigned_parts h v t in (s.0, s.0))

  nlq_mirrors : Mirrors Any (nlq h k) (nlq_bytes h.d) (λ q. nlq_fits h q ≡ true) (λ q. Unit {0})
  unfolding nlq nlq_bytes nlq_fits
  nlq_mirrors =
      then_mirrors (field_mirrors (asked NlqOffset k 0 0 Two) (offset_fits h) (λ v. 5) (λ v. sample_small h.el v (omega (arith, facts.same_depth, facts.base_depth)))) (λ q. q.offset) _ _
      (λ o _. then_mirrors (unsigned_mirrors HdrInMaxInt) (λ q. q.maximum) _ _
      (λ m _. then_mirrors (unsigned_mirrors SlopeInt) (λ q. q.slope) _ _
      (λ s _. last_mirrors (unsigned_mirrors ThresholdInt) done (λ t. record { offset = o; maximum = m; slope = s; threshold = t }) (λ q. q.threshold) _ _
      (λ q t. ((each (nlq_tests h q) t.1.1.1).1.1.1.0, made q t.1.1.0 t.1.0 t.0))
      (λ t _. (refl, (refl, (refl, (refl, tt))))))
      (λ q t. ((each (nlq_tests h q) t.1.1).1.1.0, tt)))
      (λ q t. ((each (nlq_tests h q) t.1).1.0, tt)))
      (λ q t. let s = (each (nlq_tests h q) t).0 in (s, s))
    where
      made : (q : Nlq) {o m s : ℕ} → q.offset ≡ o → q.maximum ≡ m → q.slope ≡ s → record { offset = o; maximum = m; slope = s; threshold = q.threshold } ≡ q
      made q a b c = rw (← a, ← b, ← c)

  -- ---- pieces
  -- what rule 7 says of a piece that is used, place by place
  module _ (q : Piece) (long : length q.row ≡ row_places) (e : piece_fits k h q ≡ true) where
    abbrev used : ℕ
    used = coefficients_used q.idc q.order

    abbrev tests : (idc_fits k q.idc ≡ true) × ((order_fits q.idc q.order ≡ true) × (row_fits h q.idc used q.row ≡ true))
    unfolding piece_fits
    tests = let a = both (idc_fits k q.idc) _ e in (a.0, both (order_fits q.idc q.order) _ a.1)

    few_used : used ≤ row_places
    few_used = (used_few q.idc q.order tests.1.0).1

    coefficients_fit : Each (λ z. coefficient_fits h q.idc z ≡ true) (take used q.row)
    unfolding row_fits
    coefficients_fit =
        each_taken (λ z. coefficient_fits h q.idc z ≡ true) (pos 0) used q.row (rw long few_used)
        (λ i b. rw (lt-ltb i used b) at (every-at _ row_places tests.1.1 i (omega (arith, few_used))))

    row-filled : padded row_places (pos 0) (take used q.row) ≡ q.row
    unfolding row_fits
    row-filled =
        filled (pos 0) (pos 0) row_places used q.row long few_used
        (λ i p b. zero_abs _ (eqb-true _ 0 (rw (le-ltb i used p) at (every-at _ row_places tests.1.1 i b))))

  abbrev Whole : Piece → Type 0
  Whole q = length q.row ≡ row_places

  piece_mirrors : (p : ℕ) → Mirrors Any (piece h k p) (piece_bytes h.d) (λ q. (piece_fits k h q ≡ true) × Whole q) Whole
  unfolding piece piece_bytes
  piece_mirrors p =
      then_mirrors (field_mirrors (asked MappingIdc k p 0 One) (idc_fits k) (λ v. 5) idc_small) (λ q. q.idc) _ _
      (λ m _.
      then_mirrors (field_mirrors (asked (order_kind m) k p 0 One) (order_fits m) (λ v. 5) (λ v t. omega (arith, (used_few m v t).0))) (λ q. q.order) _ _
      (λ o t.
      let few = (used_few m o t).1 in
      mirrors_as
      (last_mirrors (repeated_mirrors (coefficient h k p m) (number_bytes (integer_bytes m) h.d) _ _ (coefficient_mirrors p m) 0 (coefficients_used m o)) done
      (λ row. record { idc = m; order = o; row = padded row_places (pos 0) row }) (λ q. take (coefficients_used m o) q.row) _ _
      (λ q s. read_whole q o m s.0 s.1.0 s.1.1.1 s.1.1.0)
      (λ row s. (cut (pos 0) row_places row (coefficients_used m o) s.0 few, (refl, (refl, length-padded row_places (pos 0) row)))))
      (λ q s. turned q o m s.0 s.1.0 few s.1.1.1)
      (λ q s. turned q o m s.0 s.1.0 few s.1.1))
      (λ q s. let t = tests q s.1.1 s.1.0 in rw (← s.0) (t.1.0, t.1.0)))
      (λ q s. let t = tests q s.1 s.0 in (t.0, t.0))
    where
      idc_small : (v : ℕ) → idc_fits k v ≡ true → v < 256 ^ 1
      idc_small v = go (eqb k 0)
        where
          go : (t : Bool) → leb v (cond t 0 1) ≡ true → v < 256
          go true e = omega (arith, leb-true v 0 e)
          go false e = omega (arith, leb-true v 1 e)

      turned : (q : Piece) (o m : ℕ) → q.order ≡ o → q.idc ≡ m → coefficients_used m o ≤ row_places → Whole q
          → each_of (number_bytes (integer_bytes m) h.d) (take (coefficients_used m o) q.row) ≡ in_turn (coefficients_used q.idc q.order) (λ i. number_bytes (integer_bytes q.idc) h.d (get_or q.row i (pos 0)))
      turned q o m e f few long = rw (e, f) (in_turns (number_bytes (integer_bytes m) h.d) (pos 0) (coefficients_used m o) q.row (rw long few))

      read_whole : (q : Piece) (o m : ℕ) → q.order ≡ o → q.idc ≡ m → Whole q → piece_fits k h q ≡ true
          → ((length (take (coefficients_used m o) q.row) ≡ coefficients_used m o) × Each (λ z. coefficient_fits h m z ≡ true) (take (coefficients_used m o) q.row))
          × (record { idc = m; order = o; row = padded row_places (pos 0) (take (coefficients_used m o) q.row) } ≡ q)
      read_whole q o m e f long fits =
          rw (← e, ← f) (
            (length-take-le (used q long fits) q.row (rw long (few_used q long fits)), coefficients_fit q long fits),
            ap (λ (row : List ℤ). record { idc = q.idc; order = q.order; row = row }) (row-filled q long fits),
          )

  -- a place for a piece that is not used
  empty_is : (q : Piece) → Whole q → piece_empty h q ≡ true → q ≡ zero_piece
  unfolding piece_empty row_fits padded
  empty_is q long e =
      let a = both (eqb q.idc 0) _ e in
      let b = both (eqb q.order 0) _ a.1 in
      let row : padded row_places (pos 0) (take 0 q.row) ≡ q.row = filled (pos 0) (pos 0) row_places 0 q.row long (omega arith) (λ i p t. zero_abs _ (eqb-true _ 0 (rw (le-ltb i 0 p) at (every-at _ row_places b.1 i t)))) in
      made q (eqb-true _ 0 a.0) (eqb-true _ 0 b.0) (sym row)
    where
      made : (q : Piece) {i o : ℕ} {r : List ℤ} → q.idc ≡ i → q.order ≡ o → q.row ≡ r → q ≡ record { idc = i; order = o; row = r }
      made q a b c = rw (← a, ← b, ← c)

  -- ---- a section
  module _ (c : Component) (a : Arrays c) (e : component_fits k h c ≡ true) where
    abbrev rules : (count_fits c.n ≡ true) × ((pivots_fit h c ≡ true) × ((pieces_fit k h c ≡ true) × (nlq_fits h c.nlq ≡ true)))
    unfolding component_fits
    rules =
        let n = both (count_fits c.n) _ e in
        let v = both (pivots_fit h c) _ n.1 in
        (n.0, (v.0, both (pieces_fit k h c) (nlq_fits h c.nlq) v.1))

    few : c.n ≤ most_n
    few = leb-true c.n most_n rules.0

    pivots_each : Each (λ v. pivot_fits h v ≡ true) (take (pivots_used c.n) c.preds)
    unfolding pivots_fit
    pivots_each =
        each_taken (λ v. pivot_fits h v ≡ true) 0 (pivots_used c.n) c.preds (rw a.preds (omega (arith, few)))
        (λ i b. rw (lt-ltb i (pivots_used c.n) b) at (every-at _ pivot_places rules.1.0 i (omega (arith, few))))

    pivots_filled : padded pivot_places 0 (take (pivots_used c.n) c.preds) ≡ c.preds
    unfolding pivots_fit
    pivots_filled =
        filled 0 0 pivot_places (pivots_used c.n) c.preds a.preds (omega (arith, few))
        (λ i p b. eqb-true _ 0 (rw (le-ltb i (pivots_used c.n) p) at (every-at _ pivot_places rules.1.0 i b)))

    pieces_each : (m : ℕ) → m ≤ pieces_used c.n → Each (λ q. (piece_fits k h q ≡ true) × Whole q) (take m c.pieces)
    unfolding pieces_fit
    pieces_each m l =
        each_taken (λ q. (piece_fits k h q ≡ true) × Whole q) no_piece m c.pieces (rw a.pieces (omega (arith, few)))
        (λ i b. let t : i < piece_places = omega (arith, few) in (rw (lt-ltb i (pieces_used c.n) (lt_of_lt_of_le b l)) at (every-at _ piece_places rules.1.1.0 i t), a.row i t))

    pieces-filled : padded piece_places zero_piece (take (pieces_used c.n) c.pieces) ≡ c.pieces
    unfolding pieces_fit
    pieces-filled =
        filled zero_piece no_piece piece_places (pieces_used c.n) c.pieces a.pieces (omega (arith, few))
        (λ i p b. empty_is _ (a.row i b) (rw (le-ltb i (pieces_used c.n) p) at (every-at _ piece_places rules.1.1.0 i b)))

  abbrev pub Placed : Component → Type 0
  Placed c = (length c.preds ≡ pivot_places) × (length c.pieces ≡ piece_places)

  -- what is written of a component: it passes rule 7, its arrays have their lengths, and the version carries all of it
  pub record Writable (version : ℕ) (c : Component) : Type 0 where
    pub fits : component_fits k h c ≡ true
    pub arrays : Arrays c
    pub carries : can_carry version c ≡ true

  pub section_mirrors : (version : ℕ) → Mirrors End (section version h k) (section_bytes version h.d) (Writable version) Placed
  unfolding section section_bytes
  section_mirrors version =
      then_mirrors (field_mirrors (asked NumPivotsMinus2 k 0 0 One) count_fits (λ v. 5) one_byte) (λ c. c.n) _ _
      (λ n t.
      let few : n ≤ most_n = leb-true n most_n t in
      mirrors_as
      (then_mirrors (repeated_mirrors (pivot h k) (bytes_of 2) _ _ (λ i. field_mirrors (asked PredPivotValue k i 0 Two) (pivot_fits h) (λ v. 5) (λ v. sample_small h.bl v facts.base_depth)) 0 (pivots_used n)) (λ c. take (pivots_used n) c.preds) _ _
      (λ l s.
      then_mirrors (repeated_mirrors (piece h k) (piece_bytes h.d) _ _ piece_mirrors 0 (pieces_carried version n)) (λ c. take (pieces_carried version n) c.pieces) _ _
      (λ m u.
      last_mirrors nlq_mirrors (over (asked LeftOver k 0 0 One).name 3)
      (λ q. record { n = n; preds = padded pivot_places 0 l; pieces = padded piece_places zero_piece (pieces_read version n m); nlq = q }) (λ c. c.nlq) _ _
      (λ c x. let w = x.1.1.1 in ((rules c w.arrays w.fits).1.1.1, made c n l m few x.1.1.0 x.1.0 x.0 w))
      (λ q _. (
        refl,
        (
          cut-read version n few m u.0,
          (
            cut 0 pivot_places l (pivots_used n) s.0 (omega arith),
            (refl, (length-padded pivot_places 0 l, length-padded piece_places zero_piece (pieces_read version n m))),
          ),
        ),
      )))
      (λ c x. let p = of_pieces c n x.1.0 x.1.1 in (p, (p.0, whole (take (pieces_carried version n) c.pieces) p.1))))
      (λ c x. let p = of_pivots c n x.0 x.1 in (p, p)))
      (λ c x. turned c n x.0 few (x.1.arrays.preds, x.1.arrays.pieces))
      (λ c x. turned c n x.0 few x.1))
      (λ c x. let t = (rules c x.arrays x.fits).0 in (t, t))
    where
      of_pivots : (c : Component) (n : ℕ) → c.n ≡ n → Writable version c → (length (take (pivots_used n) c.preds) ≡ pivots_used n) × Each (λ v. pivot_fits h v ≡ true) (take (pivots_used n) c.preds)
      of_pivots c n f w = rw (← f) (length-take-le (pivots_used c.n) c.preds (rw w.arrays.preds (omega (arith, few c w.arrays w.fits))), pivots_each c w.arrays w.fits)

      of_pieces : (c : Component) (n : ℕ) → c.n ≡ n → Writable version c → (length (take (pieces_carried version n) c.pieces) ≡ pieces_carried version n) × Each (λ q. (piece_fits k h q ≡ true) × Whole q) (take (pieces_carried version n) c.pieces)
      of_pieces c n f w =
          let l = carried_le version c.n in
          rw (← f) (length-take-le (pieces_carried version c.n) c.pieces (rw w.arrays.pieces (omega (arith, l, few c w.arrays w.fits))), pieces_each c w.arrays w.fits (pieces_carried version c.n) l)

      whole : (l : List Piece) → Each (λ q. (piece_fits k h q ≡ true) × Whole q) l → Each Whole l
      whole [] t = tt
      whole (q ∷ l) t = (t.0.1, whole l t.1)

      turned : (c : Component) (n : ℕ) → c.n ≡ n → n ≤ most_n → Placed c
          → each_of (bytes_of 2) (take (pivots_used n) c.preds) ++ (each_of (piece_bytes h.d) (take (pieces_carried version n) c.pieces) ++ nlq_bytes h.d c.nlq)
          ≡ in_turn (pivots_used c.n) (λ i. bytes_of 2 (get_or c.preds i 0)) ++ (in_turn (pieces_carried version c.n) (λ p. piece_bytes h.d (get_or c.pieces p no_piece)) ++ nlq_bytes h.d c.nlq)
      turned c n e few long =
          rw (e, in_turns (bytes_of 2) 0 (pivots_used n) c.preds (rw long.0 (omega arith)), in_turns (piece_bytes h.d) no_piece (pieces_carried version n) c.pieces (rw long.1 (omega (arith, carried_le version n))))

      made : (c : Component) (n : ℕ) (l : List ℕ) (m : List Piece) → n ≤ most_n → c.n ≡ n → take (pivots_used n) c.preds ≡ l → take (pieces_carried version n) c.pieces ≡ m → Writable version c
          → record { n = n; preds = padded pivot_places 0 l; pieces = padded piece_places zero_piece (pieces_read version n m); nlq = c.nlq } ≡ c
      made c n l m few f g i w =
          rw (← g, ← i, read_all version n few c f w.arrays w.carries, ← f)
          (ap₂ (λ (v : List ℕ) (q : List Piece). record { n = c.n; preds = v; pieces = q; nlq = c.nlq }) (pivots_filled c w.arrays w.fits) (pieces-filled c w.arrays w.fits))
