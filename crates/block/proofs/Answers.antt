-- What the sections come to: a failure is the answer, or else what follows; and an accepted plan passes rule 7. Assumes nothing.
use mathlib.Core.Path.{◌≡◌, refl}
use mathlib.Core.Bool.{Bool, true, false, cond, not, ◌&&◌}
use mathlib.Core.List.{List}
use Rattle.std.specs.Prelude.{Option, Some}
use Prim.Native.Nat.{ℕ, ◌+◌, ◌-◌, ◌≤◌}
use native.Mathlib.Omega.{arith}
use lib.Dec.{ltb}
use lib.ListN.{length, drop, length-drop}
use lib.Seq.{length-take-le}
use borrow.Author.Tests.{not-false}
use Rattle.plan.specs.declared.Header.{Header}
use Rattle.plan.specs.declared.Component.{Component}
use Rattle.plan.specs.Ranges.{header_fits}
use Rattle.plan.specs.Rule7.{fitting}
use Rattle.plan.proofs.Truths.{both}
use Rattle.plan.proofs.Carrying.{piece_n, piece_above}
use Rattle.fields.specs.declared.Name.{Name}
use Rattle.fields.specs.Fields.{Read, refused, got}
use Rattle.fields.proofs.Giving.{Gives}
use Rattle.sections.proofs.Places.{and}
use Rattle.sections.specs.Sections.{section}
use Rattle.sections.proofs.Fitting.{Fits, section_gives}
use Rattle.block.specs.declared.Reading.{Reading}
use Rattle.frame.specs.declared.Trailer.{Trailer}
use Rattle.frame.specs.Frame.{trailer, trailer_fits, header, zeros_fit}
use Rattle.block.specs.Reading.{tail, part, refusal, met, with_section, sections, body, read}
use Rattle.block.specs.Facts.{Sound}

pub part_length : (bytes : List ℕ) (a b : ℕ) → b ≤ length bytes → length (part bytes a b) ≡ b - a
part_length bytes a b h =
    let e : b - a ≤ length bytes - a = omega arith in
    length-take-le (b - a) (drop a bytes) (rw (length-drop a bytes) e)

-- a section, by what its reader answered
module _ (a : ℕ) (s : List ℕ) (version : ℕ) (h : Header) (k : ℕ) (next : Component → Reading) where
  -- a failure is the answer
  pub stop : {i p : ℕ} {name : Name} {rest : List ℕ} → p ≡ a + (length s - length rest) → refused i name rest ≡ section version h k s → refusal i p (Some name) ≡ met a s (section version h k s) next
  unfolding met
  stop e r = rw (e, ← r)

  -- else what follows
  pub go : {c : Component} {rest : List ℕ} → got c rest ≡ section version h k s → next c ≡ met a s (section version h k s) next
  unfolding met
  go r = rw (← r)

-- what an answer keeps: a plan that is accepted passes rule 7 and, of version 1, holds piece n twice; a refused block gives the plan of zeros
abbrev pub Twice : ℕ → Component → Type 0
Twice version c = version ≡ 1 → piece_above c ≡ piece_n c

pub record Kept (version : ℕ) (r : Reading) : Type 0 where
  pub sound : Sound r
  pub twice : r.number ≡ 0 → Twice version r.plan.y × (Twice version r.plan.cb × Twice version r.plan.cr)

module _ (version : ℕ) where
  either : (t : Bool) {a b : Reading} → Kept version a → (t ≡ false → Kept version b) → Kept version (cond t a b)
  either true p q = p
  either false p q = q refl

  refusing : (k place : ℕ) (name : Option Name) → (k ≡ 0 → ⊥) → Kept version (refusal k place name)
  refusing k place name f = record { sound = record { passes = λ e. absurd (f e); empty = λ _. refl }; twice = λ e. absurd (f e) }

  module _ (bytes : List ℕ) (h : Header) where
    with_section-kept : (k a b : ℕ) (next : Component → Reading) → ((c : Component) → Fits h k version c → Kept version (next c)) → Kept version (with_section bytes version h k a b next)
    unfolding met
    with_section-kept k a b next f = by (section version h k (part bytes a b)) (section_gives h k version (part bytes a b))
      where
        by : (r : Read Component) → Gives (Fits h k version) r → Kept version (met a (part bytes a b) r next)
        by (refused n name rest) some = refusing n _ (Some name) some
        by (got c rest) fits = f c fits

sections-kept : (bytes : List ℕ) (h : Header) (t : ℕ) (x : Trailer) → header_fits h ≡ true → Kept x.version (sections bytes t x h)
unfolding sections fitting
sections-kept bytes h t x e =
    with_section-kept x.version bytes h 0 (t - x.d0) (t - x.d1) _ (λ y p.
    with_section-kept x.version bytes h 1 (t - x.d1) (t - x.d2) _ (λ cb q.
    with_section-kept x.version bytes h 2 (t - x.d2) t _ (λ cr r.
    record { sound = record { passes = λ z. and e (and p.0 (and q.0 r.0)); empty = λ z. absurd (z refl) }; twice = λ _. (p.1, (q.1, r.1)) })))

pub kept : (bytes : List ℕ) → Kept (trailer (tail bytes)).version (read bytes)
unfolding read body
kept bytes =
    let t = length bytes - 12 in
    let x = trailer (tail bytes) in
    let v = x.version in
    let head = part bytes (t - x.a) (t - x.d0) in
    either v (ltb (length bytes) 12) (refusing v 1 0 _ (λ z. omega arith)) (λ _.
    either v (not (trailer_fits x)) (refusing v 2 t _ (λ z. omega arith)) (λ _.
    either v (ltb t x.a) (refusing v 1 0 _ (λ z. omega arith)) (λ _.
    either v (not (header_fits (header head) && zeros_fit head)) (refusing v 4 (t - x.a) _ (λ z. omega arith)) (λ e.
    sections-kept bytes (header head) t x (both (header_fits (header head)) _ (not-false _ e)).0))))

pub sound : (bytes : List ℕ) → Sound (read bytes)
sound bytes = (kept bytes).sound
