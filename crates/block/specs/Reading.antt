-- Reading a composing block: the house rules' trailer, header and sections, its table of refusals and their order.
use Rattle.std.specs.Prelude.{cond, not, ◌&&◌, List, ℕ, ◌+◌, ◌-◌, ltb, length, take, drop, Option, None, Some}
use Rattle.plan.specs.declared.Header.{Header}
use Rattle.plan.specs.declared.Component.{Component}
use Rattle.plan.specs.Ranges.{header_fits}
use Rattle.plan.specs.Rule7.{no_plan}
use Rattle.fields.specs.declared.Name.{Name}
use Rattle.fields.specs.Fields.{Read, refused, got}
use Rattle.frame.specs.declared.Trailer.{Trailer}
use Rattle.frame.specs.Frame.{trailer, trailer_fits, header, zeros_fit, wrong_column}
use Rattle.sections.specs.Sections.{section}
use Rattle.block.specs.declared.Reading.{Reading}

-- the bytes from a up to, but not including, b
abbrev pub part : List ℕ → ℕ → ℕ → List ℕ
part bytes a b = take (b - a) (drop a bytes)

-- the trailer of a block, its last 12 bytes
abbrev pub tail : List ℕ → List ℕ
tail bytes = part bytes (length bytes - 12) (length bytes)

-- a refused block gives the number, where the failure was met and in which field, and a plan of zeros
abbrev pub refusal : ℕ → ℕ → Option Name → Reading
refusal k place name = record { number = k; place = place; field = name; plan = no_plan }

-- a section s that begins at byte a: its failure is the answer, at the byte where it was met, or else what follows
unfoldable pub met : ℕ → List ℕ → Read Component → (Component → Reading) → Reading
met a s (refused k name rest) next = refusal k (a + (length s - length rest)) (Some name)
met a s (got c rest) next = next c

-- section k of a version, the bytes from a up to b
abbrev pub with_section : List ℕ → ℕ → Header → ℕ → ℕ → ℕ → (Component → Reading) → Reading
with_section bytes version h k a b next = met a (part bytes a b) (section version h k (part bytes a b)) next

-- the sections from first byte to last
unfoldable pub sections : List ℕ → ℕ → Trailer → Header → Reading
sections bytes t x h =
    with_section bytes x.version h 0 (t - x.d0) (t - x.d1) (λ y.
    with_section bytes x.version h 1 (t - x.d1) (t - x.d2) (λ cb.
    with_section bytes x.version h 2 (t - x.d2) t (λ cr.
    record { number = 0; place = 0; field = None; plan = record { header = h; y = y; cb = cb; cr = cr } })))

-- the header (4), and then the sections
unfoldable pub body : List ℕ → ℕ → Trailer → Reading
body bytes t x =
    let head = part bytes (t - x.a) (t - x.d0) in
    cond (not (header_fits (header head) && zeros_fit head)) (refusal 4 (t - x.a) (wrong_column head (header head)))
    (sections bytes t x (header head))

-- reading: under 12 bytes (1), then 2, then the rest of 1, then what the trailer points to
unfoldable pub read : List ℕ → Reading
read bytes =
    let t = length bytes - 12 in
    let x = trailer (tail bytes) in
    cond (ltb (length bytes) 12) (refusal 1 0 None)
    (cond (not (trailer_fits x)) (refusal 2 t None)
    (cond (ltb t x.a) (refusal 1 0 None)
    (body bytes t x)))
