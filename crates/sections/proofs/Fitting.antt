-- The one walk of a section's grammar: whatever it reads passes rule 7, and what it refuses has a number. Assumes nothing.
use mathlib.Core.Path.{◌≡◌, refl}
use mathlib.Core.Bool.{Bool, true}
use mathlib.Core.List.{List}
use Prim.Native.Nat.{ℕ, ◌+◌}
use native.Mathlib.Omega.{arith}
use lib.Dec.{leb, eqb}
use lib.IntN.{pos}
use lib.ListN.{length, get_or}
use borrow.Author.Tests.{leb-true}
use Rattle.plan.specs.declared.Header.{Header}
use Rattle.plan.specs.declared.Piece.{Piece}
use Rattle.plan.specs.declared.Component.{Component}
use Rattle.plan.specs.Ranges.{most_n, count_fits, pivot_fits, idc_fits, order_fits, offset_fits, fraction_fits, coefficient_fits, unsigned_fits}
use Rattle.plan.specs.Rule7.{every, pivot_places, piece_places, row_places, pivots_used, pieces_used, coefficients_used, no_piece, zero_piece, is_zero, row_fits, piece_fits, piece_empty, pivots_fit, pieces_fit, nlq_fits, component_fits}
use Rattle.plan.specs.Versions.{pieces_carried, pieces_read}
use Rattle.plan.proofs.Carrying.{piece_n, piece_above}
use Rattle.fields.specs.declared.kinds.Kind.{Kind}
use Rattle.fields.specs.declared.kinds.Kind.TheVariants.{HdrInMaxInt, MappingIdc, NlqOffset, NumPivotsMinus2, PredPivotValue, SlopeInt, ThresholdInt}
use Rattle.fields.specs.declared.Width.{Width}
use Rattle.fields.specs.declared.Width.TheVariants.{One, Two, Four}
use Rattle.fields.specs.Fields.{repeated, padded}
use Rattle.fields.proofs.Giving.{Each, Gives, then_gives, field_gives, repeated_gives, ended_gives}
use Rattle.section_fields.specs.Fields.{asked, ranged, order_kind, integer_kind, fraction_kind, integer_width, integer_fits}
use Rattle.sections.specs.Sections.{coefficient, unsigned, piece, pivot, nlq, section}
use Rattle.sections.proofs.Places.{and, places}
use Rattle.sections.proofs.Carried.{all_read, stands_twice}
use Rattle.sections.proofs.Ranged.{unsigned_in, coefficient_in}

-- a field that has a range
in_range : (kind : Kind) (k i j : ℕ) (w : Width) (fits : ℕ → Bool) (bytes : List ℕ) → Gives (λ v. fits v ≡ true) (ranged (asked kind k i j w) fits bytes)
in_range kind k i j w fits bytes = field_gives (asked kind k i j w) fits (λ v. 5) (λ v z. omega arith) bytes

module _ (h : Header) (k : ℕ) where
  coefficient_gives : (p idc i : ℕ) (bytes : List ℕ) → Gives (λ z. coefficient_fits h idc z ≡ true) (coefficient h k p idc i bytes)
  unfolding coefficient
  coefficient_gives p idc i bytes =
      let kind = integer_kind idc i in
      let w = integer_width idc in
      then_gives (λ v. integer_fits idc v ≡ true) _ (ranged (asked kind k p i w) (integer_fits idc) bytes) _ (in_range kind k p i w (integer_fits idc) bytes)
      (λ n a rest. then_gives (λ v. fraction_fits h v ≡ true) _ (ranged (asked (fraction_kind kind) k p i Four) (fraction_fits h) rest) _ (in_range (fraction_kind kind) k p i Four (fraction_fits h) rest)
      (λ f b rest. coefficient_in h idc n f a b))

  unsigned_gives : (kind : Kind) (bytes : List ℕ) → Gives (λ v. unsigned_fits h v ≡ true) (unsigned h k kind bytes)
  unfolding unsigned
  unsigned_gives kind bytes =
      then_gives (λ v. leb v 1 ≡ true) _ (ranged (asked kind k 0 0 One) (λ v. leb v 1) bytes) _ (in_range kind k 0 0 One (λ v. leb v 1) bytes)
      (λ n a rest. then_gives (λ v. fraction_fits h v ≡ true) _ (ranged (asked (fraction_kind kind) k 0 0 Four) (fraction_fits h) rest) _ (in_range (fraction_kind kind) k 0 0 Four (fraction_fits h) rest)
      (λ f b rest. unsigned_in h n f a b))

  pub piece_gives : (p : ℕ) (bytes : List ℕ) → Gives (λ q. piece_fits k h q ≡ true) (piece h k p bytes)
  unfolding piece piece_fits row_fits
  piece_gives p bytes =
      then_gives (λ v. idc_fits k v ≡ true) _ (ranged (asked MappingIdc k p 0 One) (idc_fits k) bytes) _ (in_range MappingIdc k p 0 One (idc_fits k) bytes)
      (λ m a rest. then_gives (λ v. order_fits m v ≡ true) _ (ranged (asked (order_kind m) k p 0 One) (order_fits m) rest) _ (in_range (order_kind m) k p 0 One (order_fits m) rest)
      (λ o b rest. let used = coefficients_used m o in
      then_gives (λ l. (length l ≡ used) × Each (λ z. coefficient_fits h m z ≡ true) l) _ (repeated 0 used (coefficient h k p m) rest) _ (repeated_gives _ 0 used (coefficient h k p m) (coefficient_gives p m) rest)
      (λ row t rest. and a (and b (places (coefficient_fits h m) is_zero (pos 0) (pos 0) refl row_places used row t.0 t.1)))))

  nlq_gives : (bytes : List ℕ) → Gives (λ q. nlq_fits h q ≡ true) (nlq h k bytes)
  unfolding nlq nlq_fits
  nlq_gives bytes =
      then_gives (λ v. offset_fits h v ≡ true) _ (ranged (asked NlqOffset k 0 0 Two) (offset_fits h) bytes) _ (in_range NlqOffset k 0 0 Two (offset_fits h) bytes)
      (λ o a rest. then_gives (λ v. unsigned_fits h v ≡ true) _ (unsigned h k HdrInMaxInt rest) _ (unsigned_gives HdrInMaxInt rest)
      (λ m b rest. then_gives (λ v. unsigned_fits h v ≡ true) _ (unsigned h k SlopeInt rest) _ (unsigned_gives SlopeInt rest)
      (λ s d rest. then_gives (λ v. unsigned_fits h v ≡ true) _ (unsigned h k ThresholdInt rest) _ (unsigned_gives ThresholdInt rest)
      (λ t e rest. and a (and b (and d (and e refl)))))))

  empty_piece : piece_empty h zero_piece ≡ true
  unfolding piece_empty row_fits every
  empty_piece = refl

  -- what rule 7 asks, and of version 1 that piece n stands twice
  abbrev pub Fits : ℕ → Component → Type 0
  Fits version c = (component_fits k h c ≡ true) × (version ≡ 1 → piece_above c ≡ piece_n c)

  twice : (version n : ℕ) (l : List Piece) → count_fits n ≡ true → length l ≡ pieces_carried version n → version ≡ 1
      → let places = padded piece_places zero_piece (pieces_read version n l) in get_or places (n + 1) no_piece ≡ get_or places n no_piece
  twice version n l few long one = rw one (stands_twice n (leb-true n most_n few) l (rw one at long))

  -- for whoever reads a section
  pub section_gives : (version : ℕ) (bytes : List ℕ) → Gives (Fits version) (section version h k bytes)
  unfolding section component_fits pivots_fit pieces_fit
  section_gives version bytes =
      then_gives (λ v. count_fits v ≡ true) _ (ranged (asked NumPivotsMinus2 k 0 0 One) count_fits bytes) _ (in_range NumPivotsMinus2 k 0 0 One count_fits bytes)
      (λ n a rest. let several = pivots_used n in
      then_gives (λ l. (length l ≡ several) × Each (λ v. pivot_fits h v ≡ true) l) _ (repeated 0 several (pivot h k) rest) _ (repeated_gives _ 0 several (pivot h k) (λ i. in_range PredPivotValue k i 0 Two (pivot_fits h)) rest)
      (λ l b rest. let carried = pieces_carried version n in
      then_gives (λ l. (length l ≡ carried) × Each (λ q. piece_fits k h q ≡ true) l) _ (repeated 0 carried (piece h k) rest) _ (repeated_gives _ 0 carried (piece h k) piece_gives rest)
      (λ m d rest. let r = all_read (λ q. piece_fits k h q ≡ true) version n m d.0 d.1 in
      then_gives (λ q. nlq_fits h q ≡ true) _ (nlq h k rest) _ (nlq_gives rest)
      (λ q e rest. ended_gives (Fits version) _ 3 _ (λ z. omega arith) (
        and a (and (places (pivot_fits h) (λ v. eqb v 0) 0 0 refl pivot_places several l b.0 b.1)
            (and (places (piece_fits k h) (piece_empty h) zero_piece no_piece empty_piece piece_places (pieces_used n) (pieces_read version n m) r.0 r.1) e)),
        twice version n m a d.0,
      ) rest))))
