-- What is read depends on the last A + 12 bytes only: bytes put before them change no number and no plan, and a failure is
-- met as many bytes later as were put before. Assumes nothing.
use mathlib.Core.Path.{◌≡◌, refl, sym, ap, ap₂, ◌∙◌}
use mathlib.Core.Bool.{Bool, true, false, cond, not, ◌&&◌}
use mathlib.Core.List.{List, ◌++◌}
use Rattle.std.specs.Prelude.{Option, None}
use Prim.Native.Nat.{ℕ, ◌+◌, ◌-◌, ◌≤◌}
use native.Mathlib.Omega.{arith}
use lib.ListN.{length, length-append}
use lib.Seq.{drop-append-add}
use borrow.Author.Tests.{ne_eqb}
use Rattle.plan.specs.declared.Header.{Header}
use Rattle.plan.specs.declared.Component.{Component}
use Rattle.plan.specs.Ranges.{header_fits}
use Rattle.fields.specs.declared.Name.{Name}
use Rattle.fields.specs.Fields.{Read, refused, got}
use Rattle.fields.proofs.Giving.{Gives}
use Rattle.sections.specs.Sections.{section}
use Rattle.sections.proofs.Fitting.{Fits, section_gives}
use Rattle.block.specs.declared.Reading.{Reading}
use Rattle.frame.specs.declared.Trailer.{Trailer}
use Rattle.frame.specs.Frame.{trailer, trailer_fits, header, zeros_fit, wrong_column}
use Rattle.block.specs.Reading.{tail, part, refusal, met, with_section, sections, body, read}
use Rattle.block.specs.Facts.{moved}
use Rattle.block.specs.inner.Placed.{Placed}
use Rattle.block.proofs.Cascade.{bad_trailer, goes_on, placed}

module _ (p s : List ℕ) where
  abbrev n : ℕ
  n = length p

  part_moved : (a b : ℕ) → part (p ++ s) (n + a) (n + b) ≡ part s a b
  part_moved a b =
      let e : n + b - (n + a) ≡ b - a = omega arith in
      rw (e, drop-append-add p s a)

  tail-moved : 12 ≤ length s → (length (p ++ s) - 12 ≡ n + (length s - 12)) × (trailer (tail (p ++ s)) ≡ trailer (tail s))
  tail-moved h =
      let e : length (p ++ s) - 12 ≡ n + (length s - 12) = omega (arith, length-append p s) in
      (e, rw (e, length-append p s, part_moved (length s - 12) (length s)))

  section-moved : (version k a b : ℕ) (h : Header) (next next' : Component → Reading) → ((c : Component) → next' c ≡ moved n (next c))
      → with_section (p ++ s) version h k (n + a) (n + b) next' ≡ moved n (with_section s version h k a b next)
  unfolding met
  section-moved version k a b h next next' f = rw (part_moved a b) (by (section version h k x) (section_gives h k version x))
    where
      x : List ℕ
      x = part s a b

      by : (r : Read Component) → Gives (Fits h k version) r → met (n + a) x r next' ≡ moved n (met a x r next)
      by (refused m name rest) some =
          let l : n + a + (length x - length rest) ≡ n + (a + (length x - length rest)) = omega arith in
          rw (ne_eqb m 0 some, l)
      by (got c rest) fits = f c

  module _ (h : Header) where
    sections-moved : (t : ℕ) (x : Trailer) → Placed (length s) t x → sections (p ++ s) (n + t) x h ≡ moved n (sections s t x h)
    unfolding sections
    sections-moved t x w =
        let e0 : n + t - x.d0 ≡ n + (t - x.d0) = omega (arith, w) in
        let e1 : n + t - x.d1 ≡ n + (t - x.d1) = omega (arith, w) in
        let e2 : n + t - x.d2 ≡ n + (t - x.d2) = omega (arith, w) in
        rw (e0, e1, e2)
        (section-moved x.version 0 (t - x.d0) (t - x.d1) h _ _ (λ y.
        section-moved x.version 1 (t - x.d1) (t - x.d2) h _ _ (λ cb.
        section-moved x.version 2 (t - x.d2) t h _ _ (λ cr. refl))))

  body-moved : (t : ℕ) (x : Trailer) → Placed (length s) t x → body (p ++ s) (n + t) x ≡ moved n (body s t x)
  unfolding body
  body-moved t x w =
      let ea : n + t - x.a ≡ n + (t - x.a) = omega (arith, w) in
      let e0 : n + t - x.d0 ≡ n + (t - x.d0) = omega (arith, w) in
      let head = part s (t - x.a) (t - x.d0) in
      rw (ea, e0, part_moved (t - x.a) (t - x.d0), sections-moved (header head) t x w) (either (not (header_fits (header head) && zeros_fit head)) (t - x.a) (wrong_column head (header head)) (sections s t x (header head)))
    where
      either : (q : Bool) (a : ℕ) (name : Option Name) (r : Reading) → cond q (refusal 4 (n + a) name) (moved n r) ≡ moved n (cond q (refusal 4 a name) r)
      either true a name r = refl
      either false a name r = refl

  -- 12 bytes or more, in which the trailer does not point before the first
  pub suffix : 12 ≤ length s → (trailer (tail s)).a ≤ length s - 12 → read (p ++ s) ≡ moved n (read s)
  suffix h l = go (trailer_fits (trailer (tail s))) refl
    where
      m : (length (p ++ s) - 12 ≡ n + (length s - 12)) × (trailer (tail (p ++ s)) ≡ trailer (tail s))
      m = tail-moved h

      long : 12 ≤ length (p ++ s)
      long = omega (arith, length-append p s)

      near : (trailer (tail (p ++ s))).a ≤ length (p ++ s) - 12
      near = rw (m.1, m.0) (omega arith)

      go : (q : Bool) → trailer_fits (trailer (tail s)) ≡ q → read (p ++ s) ≡ moved n (read s)
      go true e =
          sym (goes_on (p ++ s) long (ap trailer_fits m.1 ∙ e) near) ∙ ap₂ (body (p ++ s)) m.0 m.1
          ∙ body-moved (length s - 12) (trailer (tail s)) (placed (trailer (tail s)) (omega arith) e l) ∙ ap (moved n) (goes_on s h e l)
      go false e = sym (bad_trailer (p ++ s) long (ap trailer_fits m.1 ∙ e)) ∙ ap (λ (k : ℕ). refusal 2 k None) m.0 ∙ ap (moved n) (bad_trailer s h e)
