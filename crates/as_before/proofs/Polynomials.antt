-- A section is read as before R-3, unless it was refused 6. Assumes nothing.
use mathlib.Core.Path.{◌≡◌, refl, sym, ap, ◌∙◌}
use mathlib.Core.Bool.{Bool, true, false, cond}
use mathlib.Core.List.{List, [], ◌∷◌, ◌++◌, map}
use Prim.Native.Nat.{ℕ, zero, suc, ◌+◌, ◌≤◌, ◌<◌}
use native.Mathlib.Nat.{le_of_suc-le-suc, not-suc-le-zero}
use native.Mathlib.Omega.{arith}
use lib.Dec.{leb, ltb, eqb}
use lib.IntN.{ℤ, pos}
use lib.ListN.{length, take, drop, get_or}
use borrow.Author.Tests.{eqb-true, eqb-false, leb-true, le-leb, lt-leb}
use Rattle.plan.specs.declared.Header.{Header}
use Rattle.plan.specs.declared.Piece.{Piece}
use Rattle.plan.specs.Ranges.{count_fits, idc_fits}
use Rattle.plan.specs.Rule7.{pivot_places, piece_places, row_places, pivots_used, no_piece, zero_piece}
use Rattle.plan.specs.Versions.{pieces_carried, pieces_read}
use Rattle.fields.specs.declared.kinds.Kind.TheVariants.{LeftOver, MappingIdc, NumPivotsMinus2, PolyOrderMinus1}
use Rattle.fields.specs.declared.Ask.{Ask}
use Rattle.fields.specs.declared.Width.TheVariants.{One}
use Rattle.refusals.specs.Refusals.{number_of}
use Rattle.fields.specs.Fields.{Read, refused, got, ◌then◌, wide, number, field, repeated, padded, ended}
use Rattle.section_fields.specs.Fields.{asked, ranged}
use Rattle.sections.specs.Sections.{coefficient, piece, pivot, nlq, section}
use Rattle.as_before.specs.Polynomials.{coefficient_before_r3, idc_before_r3, piece_before_r3, zero_before_r3, section_before_r3, longer_row, longer_rows, refusal_of, PolynomialsAsBefore}
use Rattle.as_before.proofs.Reading.{at_end}

-- ---- readings
-- what was read has a property
abbrev Has : {A : Type 0} → (A → Type 0) → Read A → Type 0
Has P (refused k name rest) = Unit {0}
Has P (got a rest) = P a

field-has : (a : Ask) (fits : ℕ → Bool) (rule : ℕ → ℕ) (bytes : List ℕ) → Has (λ v. fits v ≡ true) (field a fits rule bytes)
unfolding field
field-has a fits rule bytes = go (ltb (length bytes) (wide a.width)) (fits (number (take (wide a.width) bytes))) refl
  where
    go : (s t : Bool) → let w = wide a.width in let v = number (take w bytes) in fits v ≡ t → Has (λ v. fits v ≡ true) (cond s (refused (number_of a.past) a.name bytes) (cond t (got v (drop w bytes)) (refused (rule v) a.name bytes)))
    go true t e = tt
    go false true e = e
    go false false e = tt

repeated_has : {A : Type 0} (one : ℕ → List ℕ → Read A) (i n : ℕ) (bytes : List ℕ) → Has (λ l. length l ≡ n) (repeated i n one bytes)
unfolding repeated
repeated_has one i zero bytes = refl
repeated_has {A} one i (suc n) bytes = first (repeated_has one (suc i) n) (one i bytes)
  where
    second : (a : A) (r : Read (List A)) → Has (λ l. length l ≡ n) r → Has (λ l. length l ≡ suc n) (r then λ l rest. got (a ∷ l) rest)
    second a (refused k name rest) e = tt
    second a (got l rest) e = ap suc e

    first : ((rest : List ℕ) → Has (λ l. length l ≡ n) (repeated (suc i) n one rest)) → (r : Read A) → Has (λ l. length l ≡ suc n) (r then λ a rest. repeated (suc i) n one rest then λ l rest. got (a ∷ l) rest)
    first f (refused k name rest) = tt
    first f (got a rest) = second a (repeated (suc i) n one rest) (f rest)

any : {A : Type 0} (r : Read A) → Has (λ a. Unit {0}) r
any (refused k name rest) = tt
any (got a rest) = tt

-- what is read now is made of what was read before, unless that was refused 6
abbrev Now : {A B : Type 0} → (A → B) → Read A → Read B → Type 0
Now make before now = (refusal_of before ≡ 6 → ⊥) → now ≡ (before then λ a rest. got (make a) rest)

-- the same reading
as_read : {A : Type 0} (r : Read A) → Now (λ a. a) r r
as_read (refused k name rest) six = refl
as_read (got a rest) six = refl

-- a reading, and another that follows it
module _ {A B C D : Type 0} (make : A → B) (last : C → D) (P : A → Type 0) (next : A → List ℕ → Read C) (next' : B → List ℕ → Read D) where
  then_now : (r : Read A) (r' : Read B) → Has P r → Now make r r' → ((a : A) → P a → (rest : List ℕ) → Now last (next a rest) (next' (make a) rest)) → Now last (r then next) (r' then next')
  then_now (refused k name rest) r' g e f six = rw (e six)
  then_now (got a rest) r' g e f six = rw (e (λ z. omega arith)) (f a g rest six)

same_now : {A C D : Type 0} (last : C → D) (next : A → List ℕ → Read C) (next' : A → List ℕ → Read D) (r : Read A) → ((a : A) (rest : List ℕ) → Now last (next a rest) (next' a rest)) → Now last (r then next) (r then next')
same_now last next next' (refused k name rest) f six = refl
same_now last next next' (got a rest) f six = f a rest six

-- the same reading several times
repeated_now : {A B : Type 0} (make : A → B) (one : ℕ → List ℕ → Read A) (one' : ℕ → List ℕ → Read B) → ((i : ℕ) (bytes : List ℕ) → Now make (one i bytes) (one' i bytes))
    → (i n : ℕ) (bytes : List ℕ) → Now (map make) (repeated i n one bytes) (repeated i n one' bytes)
unfolding repeated
repeated_now make one one' f i zero bytes = λ six. refl
repeated_now make one one' f i (suc n) bytes =
    then_now make (map make) (λ a. Unit {0}) _ _ (one i bytes) (one' i bytes) (any (one i bytes)) (f i bytes)
    (λ a _ rest. then_now (map make) (map make) (λ l. Unit {0}) _ _ (repeated (suc i) n one rest) (repeated (suc i) n one' rest) (any (repeated (suc i) n one rest)) (repeated_now make one one' f (suc i) n rest)
    (λ l _ rest six. refl))

-- ---- places
module _ {A B : Type 0} (make : A → B) where
  map-padded : (m : ℕ) (z : A) (l : List A) → map make (padded m z l) ≡ padded m (make z) (map make l)
  unfolding padded
  map-padded zero z l = refl
  map-padded (suc m) z [] = ap (λ (r : List B). make z ∷ r) (map-padded m z [])
  map-padded (suc m) z (x ∷ l) = ap (λ (r : List B). make x ∷ r) (map-padded m z l)

  map_more : (l : List A) (a : A) → map make (l ++ (a ∷ [])) ≡ map make l ++ (make a ∷ [])
  map_more [] a = refl
  map_more (x ∷ l) a = ap (λ (r : List B). make x ∷ r) (map_more l a)

  at_map : (l : List A) (d : A) (e : B) (i : ℕ) → i < length l → get_or (map make l) i e ≡ make (get_or l i d)
  at_map [] d e i h = absurd (not-suc-le-zero h)
  at_map (x ∷ l) d e zero h = refl
  at_map (x ∷ l) d e (suc i) h = at_map l d e i (le_of_suc-le-suc h)

-- filled up twice
padded_again : {A : Type 0} (n m : ℕ) (z : A) (l : List A) → length l ≤ m → padded n z (padded m z l) ≡ padded n z l
unfolding padded
padded_again zero m z l h = refl
padded_again (suc n) zero z [] h = refl
padded_again (suc n) zero z (x ∷ l) h = absurd (not-suc-le-zero h)
padded_again {A} (suc n) (suc m) z [] h = ap (λ (r : List A). z ∷ r) (padded_again n m z [] (omega arith))
padded_again {A} (suc n) (suc m) z (x ∷ l) h = ap (λ (r : List A). x ∷ r) (padded_again n m z l (le_of_suc-le-suc h))

-- ---- a section
idc_now : (k p : ℕ) (bytes : List ℕ) → Now (λ v. v) (idc_before_r3 k p bytes) (ranged (asked MappingIdc k p 0 One) (idc_fits k) bytes)
unfolding field
idc_now k p bytes = go (ltb (length bytes) 1) (eqb v 0) (eqb v 1) (eqb k 0) refl refl
  where
    v : ℕ
    v = number (take 1 bytes)

    go : (s z o t : Bool) → let v = number (take 1 bytes) in eqb v 0 ≡ z → eqb v 1 ≡ o
        → let name = (asked MappingIdc k p 0 One).name in
        Now (λ v. v) (cond s (refused 3 name bytes) (cond z (got v (drop 1 bytes)) (refused (cond o (cond t 5 6) 5) name bytes)))
        (cond s (refused 3 name bytes) (cond (leb v (cond t 0 1)) (got v (drop 1 bytes)) (refused 5 name bytes)))
    go true z o t e f six = refl
    go false true o t e f six =
        let l : number (take 1 bytes) ≤ cond t 0 1 = omega (arith, eqb-true (number (take 1 bytes)) 0 e) in
        rw (le-leb (number (take 1 bytes)) (cond t 0 1) l)
    go false false true true e f six =
        let l : 0 < number (take 1 bytes) = omega (arith, eqb-true (number (take 1 bytes)) 1 f) in
        rw (lt-leb (number (take 1 bytes)) 0 l)
    go false false true false e f six = absurd (six refl)
    go false false false true e f six =
        let l : 0 < number (take 1 bytes) = omega (arith, eqb-false (number (take 1 bytes)) 0 e) in
        rw (lt-leb (number (take 1 bytes)) 0 l)
    go false false false false e f six =
        let l : 1 < number (take 1 bytes) = omega (arith, eqb-false (number (take 1 bytes)) 0 e, eqb-false (number (take 1 bytes)) 1 f) in
        rw (lt-leb (number (take 1 bytes)) 1 l)

module _ (h : Header) (k : ℕ) where
  same_coefficients : (p n : ℕ) (bytes : List ℕ) → Now (λ l. l) (repeated 0 n (coefficient_before_r3 h k p) bytes) (repeated 0 n (coefficient h k p 0) bytes)
  unfolding coefficient coefficient_before_r3
  same_coefficients p n bytes = as_read (repeated 0 n (coefficient_before_r3 h k p) bytes)

  piece_now : (p : ℕ) (bytes : List ℕ) → Now longer_row (piece_before_r3 h k p bytes) (piece h k p bytes)
  unfolding piece piece_before_r3
  piece_now p bytes =
      then_now (λ v. v) longer_row (λ v. eqb v 0 ≡ true) _ _ (idc_before_r3 k p bytes) (ranged (asked MappingIdc k p 0 One) (idc_fits k) bytes) (field-has _ _ _ bytes) (idc_now k p bytes)
      (λ m a rest. rw (eqb-true m 0 a)
      (then_now (λ v. v) longer_row (λ v. leb v 1 ≡ true) _ _ (ranged (asked PolyOrderMinus1 k p 0 One) (λ v. leb v 1) rest) (ranged (asked PolyOrderMinus1 k p 0 One) (λ v. leb v 1) rest) (field-has _ _ _ rest) (as_read _)
      (λ o b rest. then_now (λ l. l) longer_row (λ l. length l ≡ o + 2) _ _ (repeated 0 (o + 2) (coefficient_before_r3 h k p) rest) (repeated 0 (o + 2) (coefficient h k p 0) rest) (repeated_has _ 0 (o + 2) rest) (same_coefficients p (o + 2) rest)
      (λ row e rest six. ap (λ (r : List ℤ). got (record { idc = 0; order = o; row = r }) rest) (sym (padded_again row_places 3 (pos 0) row (omega (arith, e, leb-true o 1 b))))))))

  -- which are read of those that a version carries
  read_now : (version n : ℕ) (l : List Piece) → length l ≡ pieces_carried version n → map longer_row (pieces_read version n l) ≡ pieces_read version n (map longer_row l)
  read_now version n l e = go (eqb version 1) e
    where
      go : (t : Bool) → length l ≡ cond t (n + 1) (n + 2) → map longer_row (cond t (l ++ (get_or l n no_piece ∷ [])) l) ≡ cond t (map longer_row l ++ (get_or (map longer_row l) n no_piece ∷ [])) (map longer_row l)
      go true f = rw (at_map longer_row l no_piece no_piece n (omega arith)) (map_more longer_row l (get_or l n no_piece))
      go false f = refl

  zero_now : longer_row zero_before_r3 ≡ zero_piece
  unfolding padded
  zero_now = refl

  places_now : (version n : ℕ) (l : List Piece) → length l ≡ pieces_carried version n
      → padded piece_places zero_piece (pieces_read version n (map longer_row l)) ≡ map longer_row (padded piece_places zero_before_r3 (pieces_read version n l))
  places_now version n l e = rw (← zero_now, ← read_now version n l e) (sym (map-padded longer_row piece_places zero_before_r3 (pieces_read version n l)))

  section_now : (version : ℕ) (bytes : List ℕ) → Now longer_rows (section_before_r3 version h k bytes) (section version h k bytes)
  unfolding section section_before_r3
  section_now version bytes =
      same_now longer_rows _ _ (ranged (asked NumPivotsMinus2 k 0 0 One) count_fits bytes) (λ n rest.
      same_now longer_rows _ _ (repeated 0 (pivots_used n) (pivot h k) rest) (λ pivots rest.
      then_now (map longer_row) longer_rows (λ l. length l ≡ pieces_carried version n) _ _ (repeated 0 (pieces_carried version n) (piece_before_r3 h k) rest) (repeated 0 (pieces_carried version n) (piece h k) rest)
      (repeated_has _ 0 (pieces_carried version n) rest) (repeated_now longer_row (piece_before_r3 h k) (piece h k) piece_now 0 (pieces_carried version n) rest) (λ pieces e rest.
      same_now longer_rows _ _ (nlq h k rest) (λ q rest six.
      ap (λ (l : List Piece). ended (asked LeftOver k 0 0 One).name 3 (record { n = n; preds = padded pivot_places 0 pivots; pieces = l; nlq = q }) rest) (places_now version n pieces e)
      ∙ at_end (asked LeftOver k 0 0 One).name 3 _ longer_rows rest))))

pub polynomials_as_before : PolynomialsAsBefore
polynomials_as_before = record { sections = λ version h k bytes. section_now h k version bytes }
