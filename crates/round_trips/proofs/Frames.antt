-- The header and the trailer, both ways. Assumes nothing.
use mathlib.Core.Path.{◌≡◌, refl, sym, ap, ◌∙◌}
use mathlib.Core.Bool.{true}
use mathlib.Core.List.{List, [], ◌∷◌, ◌++◌}
use Prim.Native.Nat.{ℕ, ◌+◌, ◌≤◌}
use native.Mathlib.Omega.{arith}
use lib.Dec.{eqb}
use lib.ListN.{length, take, drop, length-drop, take-append-drop}
use lib.Pow.{are_bytes}
use lib.Seq.{length-take-le, take_all, drop-drop}
use borrow.Author.Tests.{eqb-true, le-leb}
use Rattle.plan.specs.declared.Header.{Header}
use Rattle.plan.proofs.Truths.{each}
use Rattle.fields.specs.Fields.{number_after, number, number_at}
use Rattle.frame.specs.Frame.{trailer, header, zeros_fit}
use Rattle.pen.specs.Bytes.{bytes_of}
use Rattle.header_writer.specs.Header.{header_bytes}
use Rattle.writer.specs.Writing.{trailer_bytes}
use Rattle.round_trips.proofs.Digits.{read_as}
use Rattle.round_trips.proofs.Mirrors.{take_bytes, drop_bytes}

pub header-length : (h : Header) → length (header_bytes h) ≡ 24
unfolding header_bytes bytes_of
header-length h = refl

pub trailer-length : (a d0 d1 d2 version : ℕ) → length (trailer_bytes a d0 d1 d2 version) ≡ 12
unfolding trailer_bytes bytes_of
trailer-length a d0 d1 d2 version = refl

-- ---- written, and read
module _ (v : ℕ) where
  one : number (bytes_of 1 v) ≡ v
  unfolding bytes_of number_after
  one = omega arith

  two : number (bytes_of 2 v) ≡ v
  unfolding bytes_of number_after
  two = omega arith

  four : number (bytes_of 4 v) ≡ v
  unfolding bytes_of number_after
  four = omega arith

pub header_back : (h : Header) → header (header_bytes h) ≡ h
unfolding header header_bytes bytes_of
header_back h = same h (one h.profile) (one h.level) (one h.d) (one h.bl) (one h.el) (one h.hdr) (one h.disabled) (two h.columns) (two h.pairs) (two h.brightest) (four h.darkest)
  where
    same : (h : Header) {p l d b e r f c q x n : ℕ} → p ≡ h.profile → l ≡ h.level → d ≡ h.d → b ≡ h.bl → e ≡ h.el → r ≡ h.hdr → f ≡ h.disabled → c ≡ h.columns → q ≡ h.pairs → x ≡ h.brightest → n ≡ h.darkest
        → record { profile = p; level = l; d = d; bl = b; el = e; hdr = r; disabled = f; columns = c; pairs = q; brightest = x; darkest = n } ≡ h
    same h e0 e1 e2 e3 e4 e5 e6 e7 e8 e9 e10 = rw (e0, e1, e2, e3, e4, e5, e6, e7, e8, e9, e10)

pub zeros_back : (h : Header) → zeros_fit (header_bytes h) ≡ true
unfolding zeros_fit header_bytes bytes_of number_after
zeros_back h = refl

pub trailer_back : (a d0 d1 d2 version : ℕ) → trailer (trailer_bytes a d0 d1 d2 version) ≡ record { a = a; d0 = d0; d1 = d1; d2 = d2; version = version; last = 0 }
unfolding trailer trailer_bytes bytes_of
trailer_back a d0 d1 d2 version = rw (two a, two d0, two d1, two d2, two version, two 0)

-- ---- read, and written
module _ (l : List ℕ) (small : are_bytes l ≡ true) where
  -- the number that stands at a place
  at_place : (at w : ℕ) → at + w ≤ length l → bytes_of w (number_at l at w) ≡ take w (drop at l)
  at_place at w h =
      let e : w ≤ length (drop at l) = rw (length-drop at l) (omega arith) in
      rw (le-leb (at + w) (length l) h) (read_as w (take w (drop at l)) (length-take-le w (drop at l) e) (take_bytes w (drop at l) (drop_bytes at l small)))

  -- and what follows it
  next : (at w : ℕ) {x : List ℕ} → at + w ≤ length l → x ≡ drop (at + w) l → bytes_of w (number_at l at w) ++ x ≡ drop at l
  next at w h e = rw (e, at_place at w h, ← drop-drop w at l) (take-append-drop w (drop at l))

  last : (at w : ℕ) → length l ≡ at + w → bytes_of w (number_at l at w) ≡ drop at l
  last at w h =
      let e : length (drop at l) ≤ w = rw (length-drop at l) (omega arith) in
      at_place at w (omega arith) ∙ take_all w (drop at l) e

  -- a number that is 0
  next_zero : (at w : ℕ) {x : List ℕ} → at + w ≤ length l → number_at l at w ≡ 0 → x ≡ drop (at + w) l → bytes_of w 0 ++ x ≡ drop at l
  next_zero at w {x} h z e = ap (λ (v : ℕ). bytes_of w v ++ x) (sym z) ∙ next at w h e

  last_zero : (at w : ℕ) → length l ≡ at + w → number_at l at w ≡ 0 → bytes_of w 0 ≡ drop at l
  last_zero at w h z = ap (bytes_of w) (sym z) ∙ last at w h

  pub header_forth : length l ≡ 24 → zeros_fit l ≡ true → header_bytes (header l) ≡ l
  unfolding header zeros_fit header_bytes
  header_forth h z =
      let t = each (eqb (number_at l 7 1) 0 ∷ eqb (number_at l 14 2) 0 ∷ eqb (number_at l 20 4) 0 ∷ []) z in
      next 0 1 (omega arith) (next 1 1 (omega arith) (next 2 1 (omega arith) (next 3 1 (omega arith) (next 4 1 (omega arith) (next 5 1 (omega arith) (next 6 1 (omega arith)
      (next_zero 7 1 (omega arith) (eqb-true (number_at l 7 1) 0 t.0) (next 8 2 (omega arith) (next 10 2 (omega arith) (next 12 2 (omega arith)
      (next_zero 14 2 (omega arith) (eqb-true (number_at l 14 2) 0 t.1.0) (next 16 4 (omega arith) (last_zero 20 4 h (eqb-true (number_at l 20 4) 0 t.1.1.0))))))))))))))

  pub trailer_forth : length l ≡ 12 → (trailer l).last ≡ 0 → let x = trailer l in trailer_bytes x.a x.d0 x.d1 x.d2 x.version ≡ l
  unfolding trailer trailer_bytes
  trailer_forth h z =
      next 0 2 (omega arith) (next 2 2 (omega arith) (next 4 2 (omega arith) (next 6 2 (omega arith) (next 8 2 (omega arith) (last_zero 10 2 h z)))))
