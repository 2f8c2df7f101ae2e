-- A whole block that is read was written so, from its header on. Assumes nothing.
use mathlib.Core.Path.{◌≡◌, refl, sym, ap, ap₂, ◌∙◌}
use mathlib.Core.Bool.{Bool, true, false, cond, not, ◌&&◌}
use mathlib.Core.List.{List, ◌++◌}
use Prim.Native.Nat.{ℕ, ◌+◌, ◌-◌, ◌≤◌, ◌<◌}
use native.Mathlib.Omega.{arith}
use lib.Dec.{ltb}
use lib.ListN.{length, take, drop, length-drop, take-append-drop}
use lib.Pow.{are_bytes}
use lib.Seq.{drop-drop, take_all, length-take-le}
use borrow.Author.Tests.{eqb-true, ltb-true, ltb-false, not-false}
use Rattle.std.specs.Prelude.{Option, Some}
use Rattle.plan.specs.declared.Header.{Header}
use Rattle.plan.specs.declared.Component.{Component}
use Rattle.plan.specs.declared.Plan.{Plan}
use Rattle.plan.specs.Ranges.{header_fits}
use Rattle.plan.specs.Versions.{known_version}
use Rattle.plan.proofs.Truths.{both, each}
use Rattle.plan.proofs.Facts.{header-kept}
use Rattle.fields.specs.declared.Name.{Name}
use Rattle.fields.specs.Fields.{Read, refused, got}
use Rattle.fields.proofs.Giving.{Gives}
use Rattle.sections.specs.Sections.{section}
use Rattle.sections.proofs.Fitting.{Fits, section_gives}
use Rattle.frame.specs.declared.Trailer.{Trailer}
use Rattle.frame.specs.Frame.{trailer, trailer_tests, trailer_fits, header, zeros_fit}
use Rattle.block.specs.declared.Reading.{Reading}
use Rattle.block.specs.Reading.{part, tail, refusal, met, sections, body, read}
use Rattle.section_writer.specs.Section.{section_bytes}
use Rattle.header_writer.specs.Header.{header_bytes}
use Rattle.writer.specs.Writing.{trailer_bytes, block}
use Rattle.round_trips.proofs.Mirrors.{End, Spelled, take_bytes, drop_bytes}
use Rattle.round_trips.proofs.Sections.{Placed, section_mirrors}
use Rattle.round_trips.proofs.Back.{no_more}
use Rattle.round_trips.proofs.Frames.{header_forth, trailer_forth}

-- a part, and all that follows it
part_on : (bytes : List ℕ) (a b : ℕ) → a ≤ b → part bytes a b ++ drop b bytes ≡ drop a bytes
part_on bytes a b h =
    let e : a + (b - a) ≡ b = omega arith in
    rw (← e) (rw (e) (ap (λ (l : List ℕ). take (b - a) (drop a bytes) ++ l) (sym (drop-drop (b - a) a bytes ∙ ap (λ (n : ℕ). drop n bytes) e)) ∙ take-append-drop (b - a) (drop a bytes)))

part_small : (bytes : List ℕ) (a b : ℕ) → are_bytes bytes ≡ true → are_bytes (part bytes a b) ≡ true
part_small bytes a b h = take_bytes (b - a) (drop a bytes) (drop_bytes a bytes h)

part_length : (bytes : List ℕ) (a b : ℕ) → b ≤ length bytes → length (part bytes a b) ≡ b - a
part_length bytes a b h = length-take-le (b - a) (drop a bytes) (rw (length-drop a bytes) (omega arith))

-- what holds of every answer that accepts
record Where (C : Plan → Type 0) (r : Reading) : Type 0 where
  plan : r.number ≡ 0 → C r.plan

module _ (C : Plan → Type 0) where
  refuses : (k place : ℕ) (name : Option Name) → (k ≡ 0 → ⊥) → Where C (refusal k place name)
  refuses k place name f = record { plan = λ e. absurd (f e) }

  either : (t : Bool) {a b : Reading} → Where C a → (t ≡ false → Where C b) → Where C (cond t a b)
  either true p q = p
  either false p q = q refl

  -- a section that was read was written so
  through : (version : ℕ) (h : Header) → header_fits h ≡ true → (k a : ℕ) (s : List ℕ) → are_bytes s ≡ true → (next : Component → Reading)
      → ((c : Component) → s ≡ section_bytes version h.d c → Where C (next c)) → Where C (met a s (section version h k s) next)
  unfolding met
  through version h e k a s small next f = go (section version h k s) (section_gives h k version s) ((section_mirrors h (header-kept h e) k version).forth s small)
    where
      go : (r : Read Component) → Gives (Fits h k version) r → Spelled End (section_bytes version h.d) (Placed h (header-kept h e) k) s r → Where C (met a s r next)
      go (refused n name rest) some t = refuses n _ (Some name) some
      go (got c rest) some t = f c (t.1.0 ∙ ap (λ (l : List ℕ). section_bytes version h.d c ++ l) t.1.1.1 ∙ no_more (section_bytes version h.d c))

module _ (bytes : List ℕ) (small : are_bytes bytes ≡ true) where
  -- from the header on
  abbrev pub From : Plan → Type 0
  From p =
      let x = trailer (tail bytes) in
      (known_version x.version ≡ true) × ((x.a + 12 ≤ length bytes) × (block p x.version ≡ drop (length bytes - (x.a + 12)) bytes))

  module _ (x : Trailer) (is : trailer (tail bytes) ≡ x) (long : 12 ≤ length bytes) (points : trailer_fits x ≡ true) (inside : x.a ≤ length bytes - 12) where
    abbrev t : ℕ
    t = length bytes - 12

    told : (known_version x.version ≡ true) × ((x.last ≡ 0) × ((x.a ≡ x.d0 + 24) × ((x.d1 < x.d0) × (x.d2 < x.d1))))
    unfolding trailer_fits
    told =
        let q = each (trailer_tests x) points in
        (q.0, (eqb-true _ _ q.1.0, (eqb-true _ _ q.1.1.0, (ltb-true _ _ q.1.1.1.0, ltb-true _ _ q.1.1.1.1.0))))

    -- the trailer that stands there is the one that the sections' lengths make
    behind : (y cb cr : List ℕ) → part bytes (t - x.d0) (t - x.d1) ≡ y → part bytes (t - x.d1) (t - x.d2) ≡ cb → part bytes (t - x.d2) t ≡ cr
        → let d2 = length cr in let d1 = length cb + d2 in let d0 = length y + d1 in trailer_bytes (24 + d0) d0 d1 d2 x.version ≡ tail bytes
    behind y cb cr e1 e2 e3 =
        let l2 : length cr ≡ x.d2 = sym (ap length e3) ∙ part_length bytes (t - x.d2) t (omega arith) ∙ omega (arith, told.1.1) in
        let l1 : length cb + x.d2 ≡ x.d1 = ap (λ (n : ℕ). n + x.d2) (sym (ap length e2) ∙ part_length bytes (t - x.d1) (t - x.d2) (omega arith)) ∙ omega (arith, told.1.1) in
        let l0 : length y + x.d1 ≡ x.d0 = ap (λ (n : ℕ). n + x.d1) (sym (ap length e1) ∙ part_length bytes (t - x.d0) (t - x.d1) (omega arith)) ∙ omega (arith, told.1.1) in
        let a : 24 + x.d0 ≡ x.a = omega (arith, told.1.1.0) in
        let f = trailer_forth (tail bytes) (part_small bytes (length bytes - 12) (length bytes) small) (part_length bytes (length bytes - 12) (length bytes) (omega arith) ∙ omega arith) (ap (λ (y : Trailer). y.last) is ∙ told.1.0) in
        rw (l2, l1, l0, a) (rw is at f)

    put_together : (h : Header) (y cb cr : Component) → part bytes (t - x.a) (t - x.d0) ≡ header_bytes h → part bytes (t - x.d0) (t - x.d1) ≡ section_bytes x.version h.d y
        → part bytes (t - x.d1) (t - x.d2) ≡ section_bytes x.version h.d cb → part bytes (t - x.d2) t ≡ section_bytes x.version h.d cr → From (record { header = h; y = y; cb = cb; cr = cr })
    unfolding block
    put_together h y cb cr e0 e1 e2 e3 =
        let n : length bytes - (x.a + 12) ≡ t - x.a = omega arith in
        let rest : length (drop t bytes) ≤ length bytes - t = rw (length-drop t bytes) (omega arith) in
        let end : tail bytes ≡ drop t bytes = take_all (length bytes - t) (drop t bytes) rest in
        let last = behind (section_bytes x.version h.d y) (section_bytes x.version h.d cb) (section_bytes x.version h.d cr) e1 e2 e3 ∙ end in
        rw (is, n) (
          told.0,
          (
            omega arith,
            ap₂ ◌++◌ (sym e0)
                (ap₂ ◌++◌ (sym e1)
                (ap₂ ◌++◌ (sym e2)
                (ap₂ ◌++◌ (sym e3) last ∙ part_on bytes (t - x.d2) t (omega arith))
                ∙ part_on bytes (t - x.d1) (t - x.d2) (omega (arith, told.1.1)))
                ∙ part_on bytes (t - x.d0) (t - x.d1) (omega (arith, told.1.1)))
                ∙ part_on bytes (t - x.a) (t - x.d0) (omega (arith, told.1.1)),
          ),
        )

    sections_forth : (h : Header) → header_fits h ≡ true → part bytes (t - x.a) (t - x.d0) ≡ header_bytes h → Where From (sections bytes t x h)
    unfolding sections
    sections_forth h e e0 =
        through From x.version h e 0 (t - x.d0) (part bytes (t - x.d0) (t - x.d1)) (part_small bytes (t - x.d0) (t - x.d1) small) _
        (λ y e1. through From x.version h e 1 (t - x.d1) (part bytes (t - x.d1) (t - x.d2)) (part_small bytes (t - x.d1) (t - x.d2) small) _
        (λ cb e2. through From x.version h e 2 (t - x.d2) (part bytes (t - x.d2) t) (part_small bytes (t - x.d2) t small) _
        (λ cr e3. record { plan = λ _. put_together h y cb cr e0 e1 e2 e3 })))

    body_forth : Where From (body bytes t x)
    unfolding body
    body_forth =
        let head = part bytes (t - x.a) (t - x.d0) in
        either From (not (header_fits (header head) && zeros_fit head)) (refuses From 4 (t - x.a) _ (λ z. omega arith))
        (λ e. let q = both (header_fits (header head)) (zeros_fit head) (not-false _ e) in
        sections_forth (header head) q.0
        (sym (header_forth head (part_small bytes (t - x.a) (t - x.d0) small) (part_length bytes (t - x.a) (t - x.d0) (omega arith) ∙ omega (arith, told.1.1)) q.1)))

  read_forth : Where From (read bytes)
  unfolding read
  read_forth =
      let x = trailer (tail bytes) in
      either From (ltb (length bytes) 12) (refuses From 1 0 _ (λ z. omega arith)) (λ e1.
      either From (not (trailer_fits x)) (refuses From 2 (length bytes - 12) _ (λ z. omega arith)) (λ e2.
      either From (ltb (length bytes - 12) x.a) (refuses From 1 0 _ (λ z. omega arith)) (λ e3.
      body_forth x refl (ltb-false (length bytes) 12 e1) (not-false _ e2) (ltb-false (length bytes - 12) x.a e3))))

  pub writes_again : (read bytes).number ≡ 0 → From (read bytes).plan
  writes_again e = read_forth.plan e
