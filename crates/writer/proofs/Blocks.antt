-- The block of a plan that has one: how long it is, and that it is written part by part. Assumes nothing.
use mathlib.Core.Path.{◌≡◌, refl, sym}
use mathlib.Core.Bool.{Bool, true, false, cond}
use mathlib.Core.List.{List, ◌++◌}
use Prim.Native.Nat.{ℕ, ◌+◌, ◌≤◌}
use native.Mathlib.Nat.{le_trans}
use native.Mathlib.Omega.{arith}
use lib.Dec.{eqb}
use lib.ListN.{length, drop, length-append}
use Rattle.std.specs.Prelude.{Some, None}
use borrow.Author.Tests.{le-leb}
use Rattle.plan.specs.declared.Component.{Component}
use Rattle.plan.specs.declared.Plan.{Plan}
use Rattle.plan.specs.Ranges.{most_n, header_fits}
use Rattle.plan.specs.Rule7.{component_fits, fitting}
use Rattle.plan.specs.Versions.{can_carry}
use Rattle.plan.proofs.Truths.{both}
use Rattle.plan.proofs.Facts.{header_facts, y_usable, cb_usable, cr_usable}
use Rattle.pen.specs.Bytes.{bytes_of}
use Rattle.pen.specs.inner.Putting.{put_at, Inked}
use Rattle.pen.proofs.Inking.{on, same_length, from_front}
use Rattle.header_writer.specs.Header.{header_bytes}
use Rattle.header_writer.proofs.Framing.{header_inked}
use Rattle.section_writer.specs.Section.{section_bytes}
use Rattle.section_writer.specs.inner.Writing.{has_section, put_section, section_length}
use Rattle.section_writer.proofs.Sizes.{is_length}
use Rattle.section_writer.proofs.Bounds.{least, most, least_le, most_le, few, section-between, section_inked}
use Rattle.writer.specs.Writing.{trailer_bytes, block, writable}
use Rattle.writer.specs.inner.Lengths.{AreLengths}

-- the parts of a block
module _ (p : Plan) (version : ℕ) where
  abbrev pub s0 : List ℕ
  s0 = section_bytes version p.header.d p.y

  abbrev pub s1 : List ℕ
  s1 = section_bytes version p.header.d p.cb

  abbrev pub s2 : List ℕ
  s2 = section_bytes version p.header.d p.cr

  abbrev pub trailer_of : List ℕ
  trailer_of =
      let d2 = length s2 in
      let d1 = length s1 + d2 in
      let d0 = length s0 + d1 in
      trailer_bytes (24 + d0) d0 d1 d2 version

  trailer_size : (a d0 d1 d2 : ℕ) → length (trailer_bytes a d0 d1 d2 version) ≡ 12
  unfolding trailer_bytes bytes_of
  trailer_size a d0 d1 d2 = refl

  summed : (a b c d e : List ℕ) → length a ≡ 24 → length e ≡ 12 → length (a ++ (b ++ (c ++ (d ++ e)))) ≡ 24 + length b + length c + length d + 12
  summed a b c d e u v = omega (arith, u, v, length-append a (b ++ (c ++ (d ++ e))), length-append b (c ++ (d ++ e)), length-append c (d ++ e), length-append d e)

  pub block_size : length (block p version) ≡ 24 + length s0 + length s1 + length s2 + 12
  unfolding block header_bytes bytes_of
  block_size = summed (header_bytes p.header) s0 s1 s2 trailer_of refl (trailer_size _ _ _ _)

  -- what component k gives of which the plan's block of this version is made
  pub record Carried (k : ℕ) (c : Component) : Type 0 where
    pub fits : component_fits k p.header c ≡ true
    pub carries : can_carry version c ≡ true

  module _ (k : ℕ) {c : Component} (q : Carried k c) where
    between : (least version ≤ length (section_bytes version p.header.d c)) × (length (section_bytes version p.header.d c) ≤ most k version)
    between = section-between k p.header c q.fits version p.header.d

    pub some_bytes : 34 ≤ length (section_bytes version p.header.d c)
    some_bytes = le_trans (least_le version) between.0

    -- a section's length, as it is answered
    pub its_length : {a : ℕ} → Some a ≡ section_length version c → (length (section_bytes version p.header.d c) ≡ a) × (a ≤ 3078)
    its_length f = let l = (is_length version c p.header.d f).1 in (l, rw (← l) (le_trans between.1 (most_le k version)))

    -- there is one
    pub some_length : None ≡ section_length version c → ⊥
    some_length f = let has : has_section version c ≡ true = rw (le-leb c.n most_n (few k p.header c q.fits), q.carries) in let g = rw has at f in absurd cc

  module _ (e : writable p version ≡ true) where
    parts : (fitting p ≡ true) × ((can_carry version p.y ≡ true) × ((can_carry version p.cb ≡ true) × (can_carry version p.cr ≡ true)))
    unfolding writable
    parts =
        let f = both (fitting p) _ e in
        let y = both (can_carry version p.y) _ f.1 in
        (f.0, (y.0, both (can_carry version p.cb) (can_carry version p.cr) y.1))

    pub is_fitting : fitting p ≡ true
    is_fitting = parts.0

    pub y_carried : Carried 0 p.y
    y_carried = record { fits = (both (header_fits p.header) _ (y_usable p is_fitting)).1; carries = parts.1.0 }

    pub cb_carried : Carried 1 p.cb
    cb_carried = record { fits = (both (header_fits p.header) _ (cb_usable p is_fitting)).1; carries = parts.1.1.0 }

    pub cr_carried : Carried 2 p.cr
    cr_carried = record { fits = (both (header_fits p.header) _ (cr_usable p is_fitting)).1; carries = parts.1.1.1 }

    deep : p.header.d ≤ 32
    deep = (header_facts p is_fitting).shallow

    pub block-between : (cond (eqb version 1) 138 174 ≤ length (block p version)) × (length (block p version) ≤ cond (eqb version 1) 6160 6533)
    block-between = go (eqb version 1) (between 0 y_carried) (between 1 cb_carried) (between 2 cr_carried) block_size
      where
        go : (t : Bool) {a b c n : ℕ} → (cond t 34 46 ≤ a) × (a ≤ cond t 324 341) → (cond t 34 46 ≤ b) × (b ≤ cond t 2900 3078) → (cond t 34 46 ≤ c) × (c ≤ cond t 2900 3078)
            → n ≡ 24 + a + b + c + 12 → (cond t 138 174 ≤ n) × (n ≤ cond t 6160 6533)
        go true x y z f = (omega (arith, x.0, y.0, z.0), omega (arith, x.1, y.1, z.1))
        go false x y z f = (omega (arith, x.0, y.0, z.0), omega (arith, x.1, y.1, z.1))

  -- all three
  module _ {a b c : ℕ} (l : AreLengths p version a b c) where
    y_carries : Carried 0 p.y
    y_carries = y_carried l.writes

    cb_carries : Carried 1 p.cb
    cb_carries = cb_carried l.writes

    cr_carries : Carried 2 p.cr
    cr_carries = cr_carried l.writes

    pub small : (a ≤ 3078) × ((b ≤ 3078) × (c ≤ 3078))
    small = ((its_length 0 y_carries l.of_y).1, ((its_length 1 cb_carries l.of_cb).1, (its_length 2 cr_carries l.of_cr).1))

    lengths : (length s0 ≡ a) × ((length s1 ≡ b) × (length s2 ≡ c))
    lengths = ((its_length 0 y_carries l.of_y).0, ((its_length 1 cb_carries l.of_cb).0, (its_length 2 cr_carries l.of_cr).0))

    pub added_up : 24 + a + b + c + 12 ≡ length (block p version)
    added_up = rw (← lengths.0, ← lengths.1.0, ← lengths.1.1) (sym block_size)

    behind : trailer_bytes (24 + (a + (b + c))) (a + (b + c)) (b + c) c version ≡ trailer_of
    behind = rw (lengths.0, lengths.1.0, lengths.1.1)

    module _ (s : List ℕ) {t0 t1 t2 t3 : List ℕ} (room : 24 + a + b + c + 12 ≤ length s) (h : t0 ≡ put_at s 0 (header_bytes p.header))
        (u : t1 ≡ put_section t0 24 version p.header.d p.y) (v : t2 ≡ put_section t1 (24 + a) version p.header.d p.cb) (w : t3 ≡ put_section t2 (24 + a + b) version p.header.d p.cr) where
      all : 24 + length s0 + length s1 + length s2 + 12 ≤ length s
      all = omega (arith, added_up, block_size)

      shallow : p.header.d ≤ 32
      shallow = deep l.writes

      headed : Inked s 0 (header_bytes p.header) t0 24
      headed = header_inked p.header (omega (arith, room)) h

      y_inked : Inked t0 24 s0 t1 (24 + a)
      y_inked = section_inked 0 p.header p.y y_carries.fits 24 version p.header.d shallow (omega (arith, all, same_length headed)) u l.of_y

      cb_inked : Inked t1 (24 + a) s1 t2 (24 + a + b)
      cb_inked = section_inked 1 p.header p.cb cb_carries.fits (24 + a) version p.header.d shallow (omega (arith, all, same_length headed, same_length y_inked, lengths.0)) v l.of_cb

      cr_inked : Inked t2 (24 + a + b) s2 t3 (24 + a + b + c)
      cr_inked = section_inked 2 p.header p.cr cr_carries.fits (24 + a + b) version p.header.d shallow (omega (arith, all, same_length headed, same_length y_inked, same_length cb_inked, lengths.0, lengths.1.0)) w l.of_cr

      pub trailer_room : 24 + a + b + c + 12 ≤ length t3
      trailer_room = omega (arith, all, same_length headed, same_length y_inked, same_length cb_inked, same_length cr_inked, lengths.0, lengths.1.0, lengths.1.1)

      pub made_block : {t4 : List ℕ} → Inked t3 (24 + a + b + c) (trailer_bytes (24 + (a + (b + c))) (a + (b + c)) (b + c) c version) t4 (24 + a + b + c + 12) → t4 ≡ block p version ++ drop (length (block p version)) s
      unfolding block
      made_block t = from_front {bytes = block p version} (on headed (on y_inked (on cb_inked (on cr_inked (rw behind at t))))) (omega (arith, room, added_up))
