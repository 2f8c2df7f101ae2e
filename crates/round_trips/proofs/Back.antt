-- A whole block as it is written is read, and gives the plan. Assumes nothing.
use mathlib.Core.Path.{◌≡◌, refl, sym, ap, ◌∙◌}
use mathlib.Core.Bool.{true, ◌&&◌}
use mathlib.Core.List.{List, [], ◌∷◌, ◌++◌}
use Prim.Native.Nat.{ℕ, ◌+◌, ◌-◌, ◌≤◌, ◌<◌}
use native.Mathlib.Nat.{add_comm}
use native.Mathlib.Omega.{arith}
use lib.Dec.{eqb}
use lib.ListN.{length, length-append}
use lib.Seq.{drop-append_seam, take-append_seam}
use borrow.Author.Tests.{eq-eqb, lt-ltb}
use Rattle.std.specs.Prelude.{None}
use Rattle.plan.specs.declared.Component.{Component}
use Rattle.plan.specs.declared.Plan.{Plan}
use Rattle.plan.specs.Ranges.{header_fits}
use Rattle.plan.specs.inner.Facts.{HeaderFacts, Arrays, Sized}
use Rattle.plan.proofs.Truths.{both}
use Rattle.plan.proofs.Facts.{header-kept, y_usable}
use Rattle.fields.specs.Fields.{got}
use Rattle.sections.specs.Sections.{section}
use Rattle.frame.specs.declared.Trailer.{Trailer}
use Rattle.frame.specs.Frame.{trailer, trailer_fits, header, zeros_fit}
use Rattle.block.specs.declared.Reading.{Reading}
use Rattle.block.specs.Reading.{part, tail, met, sections, body, read}
use Rattle.block.proofs.Cascade.{goes_on, good_header}
use Rattle.section_writer.specs.Section.{section_bytes}
use Rattle.header_writer.specs.Header.{header_bytes}
use Rattle.writer.specs.Writing.{block, writable}
use Rattle.writer.proofs.Blocks.{s0, s1, s2, trailer_of, block_size, Carried, some_bytes, is_fitting, y_carried, cb_carried, cr_carried}
use Rattle.round_trips.proofs.Mirrors.{assoc}
use Rattle.round_trips.proofs.Carrying.{known}
use Rattle.round_trips.proofs.Sections.{section_mirrors}
use Rattle.round_trips.proofs.Frames.{header_back, zeros_back, trailer_back, header-length, trailer-length}

-- what reading answers of a block that it accepts
abbrev pub accepted : Plan → Reading
accepted p = record { number = 0; place = 0; field = None; plan = p }

-- a part that stands between two others
part_at : (a b c : List ℕ) (x y : ℕ) → x ≡ length a → y ≡ length a + length b → part (a ++ (b ++ c)) x y ≡ b
part_at a b c x y e f =
    let g : length a + length b - length a ≡ length b = omega arith in
    rw (e, f, g, drop-append_seam a (b ++ c)) (take-append_seam b c)

pub no_more : (a : List ℕ) → a ++ [] ≡ a
no_more [] = refl
no_more (x ∷ a) = ap (λ (l : List ℕ). x ∷ l) (no_more a)

module _ (p : Plan) (version : ℕ) (writes : writable p version ≡ true) (sized : Sized p) where
  head_fits : header_fits p.header ≡ true
  head_fits = (both (header_fits p.header) _ (y_usable p (is_fitting p version writes))).0

  facts : HeaderFacts p.header
  facts = header-kept p.header head_fits

  -- a section as it is written is read
  section_back : (k : ℕ) (c : Component) → Carried p version k c → Arrays c → section version p.header k (section_bytes version p.header.d c) ≡ got c []
  section_back k c e a =
      ap (section version p.header k) (sym (no_more (section_bytes version p.header.d c)))
      ∙ (section_mirrors p.header facts k version).back c (record { fits = e.fits; arrays = a; carries = e.carries }) [] refl

  abbrev bytes : List ℕ
  bytes = block p version

  abbrev l0 : ℕ
  l0 = length (s0 p version)

  abbrev l1 : ℕ
  l1 = length (s1 p version)

  abbrev l2 : ℕ
  l2 = length (s2 p version)

  abbrev t : ℕ
  t = length bytes - 12

  abbrev x : Trailer
  x = record { a = 24 + (l0 + (l1 + l2)); d0 = l0 + (l1 + l2); d1 = l1 + l2; d2 = l2; version = version; last = 0 }

  some : (0 < l0) × ((0 < l1) × (0 < l2))
  some = (omega (arith, some_bytes p version 0 (y_carried p version writes)), (omega (arith, some_bytes p version 1 (cb_carried p version writes)), omega (arith, some_bytes p version 2 (cr_carried p version writes))))

  size : length bytes ≡ 24 + l0 + l1 + l2 + 12
  size = block_size p version

  -- the parts
  head_part : part bytes (t - x.a) (t - x.d0) ≡ header_bytes p.header
  unfolding block
  head_part = part_at [] (header_bytes p.header) _ (t - x.a) (t - x.d0) (omega (arith, size)) (omega (arith, size, header-length p.header))

  y_part : part bytes (t - x.d0) (t - x.d1) ≡ s0 p version
  unfolding block
  y_part = part_at (header_bytes p.header) (s0 p version) _ (t - x.d0) (t - x.d1) (omega (arith, size, header-length p.header)) (omega (arith, size, header-length p.header))

  cb_part : part bytes (t - x.d1) (t - x.d2) ≡ s1 p version
  unfolding block
  cb_part =
      let l = length-append (header_bytes p.header) (s0 p version) in
      ap (λ (b : List ℕ). part b (t - x.d1) (t - x.d2)) (sym (assoc (header_bytes p.header) (s0 p version) (s1 p version ++ (s2 p version ++ trailer_of p version))))
      ∙ part_at (header_bytes p.header ++ s0 p version) (s1 p version) _ (t - x.d1) (t - x.d2) (omega (arith, size, header-length p.header, l)) (omega (arith, size, header-length p.header, l))

  before : List ℕ
  before = header_bytes p.header ++ (s0 p version ++ s1 p version)

  before_length : length before ≡ 24 + l0 + l1
  unfolding before
  before_length = omega (arith, length-append (header_bytes p.header) (s0 p version ++ s1 p version), length-append (s0 p version) (s1 p version), header-length p.header)

  is_before : bytes ≡ before ++ (s2 p version ++ trailer_of p version)
  unfolding block before
  is_before =
      ap (λ (b : List ℕ). header_bytes p.header ++ b) (sym (assoc (s0 p version) (s1 p version) (s2 p version ++ trailer_of p version)))
      ∙ sym (assoc (header_bytes p.header) (s0 p version ++ s1 p version) (s2 p version ++ trailer_of p version))

  cr_part : part bytes (t - x.d2) t ≡ s2 p version
  cr_part =
      ap (λ (b : List ℕ). part b (t - x.d2) t) is_before
      ∙ part_at before (s2 p version) (trailer_of p version) (t - x.d2) t (omega (arith, size, before_length)) (omega (arith, size, before_length))

  tail-part : tail bytes ≡ trailer_of p version
  tail-part =
      ap (λ (b : List ℕ). part b t (length bytes)) (is_before ∙ sym (assoc before (s2 p version) (trailer_of p version)) ∙ ap (λ (b : List ℕ). (before ++ s2 p version) ++ b) (sym (no_more (trailer_of p version))))
      ∙ part_at (before ++ s2 p version) (trailer_of p version) [] t (length bytes) (omega (arith, size, before_length, length-append before (s2 p version)))
      (omega (arith, size, before_length, length-append before (s2 p version), trailer-length (24 + (l0 + (l1 + l2))) (l0 + (l1 + l2)) (l1 + l2) l2 version))

  is_trailer : trailer (tail bytes) ≡ x
  is_trailer = ap trailer tail-part ∙ trailer_back (24 + (l0 + (l1 + l2))) (l0 + (l1 + l2)) (l1 + l2) l2 version

  points : trailer_fits x ≡ true
  unfolding trailer_fits
  points =
      let a : l1 + l2 < l0 + (l1 + l2) = omega (arith, some.0) in
      let b : l2 < l1 + l2 = omega (arith, some.1.0) in
      rw (known version p.y (y_carried p version writes).carries, add_comm 24 (l0 + (l1 + l2)), lt-ltb _ _ a, lt-ltb _ _ b, lt-ltb 0 l2 some.1.1) (same (l0 + (l1 + l2) + 24))
    where
      same : (n : ℕ) → (eqb n n && true) ≡ true
      same n = rw (eq-eqb n n refl)

  read_head : header (part bytes (t - x.a) (t - x.d0)) ≡ p.header
  read_head = ap header head_part ∙ header_back p.header

  good_head : header_fits (header (part bytes (t - x.a) (t - x.d0))) ≡ true
  good_head = rw read_head head_fits

  good_zeros : zeros_fit (part bytes (t - x.a) (t - x.d0)) ≡ true
  good_zeros = rw head_part (zeros_back p.header)

  all_read : sections bytes t x p.header ≡ accepted p
  unfolding sections met
  all_read = rw (y_part, section_back 0 p.y (y_carried p version writes) sized.y, cb_part, section_back 1 p.cb (cb_carried p version writes) sized.cb, cr_part, section_back 2 p.cr (cr_carried p version writes) sized.cr)

  pub reads_back : read bytes ≡ accepted p
  reads_back =
      let long : 12 ≤ length bytes = omega (arith, size) in
      let near : (trailer (tail bytes)).a ≤ t = rw is_trailer (omega (arith, size)) in
      sym (goes_on bytes long (ap trailer_fits is_trailer ∙ points) near) ∙ ap (body bytes t) is_trailer
      ∙ sym (good_header bytes t x good_head good_zeros) ∙ ap (sections bytes t x) read_head ∙ all_read
