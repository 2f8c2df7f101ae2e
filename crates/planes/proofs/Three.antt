-- Planes written one after the other, at the places that a call gave. Assumes nothing.
use mathlib.Core.Path.{◌≡◌, refl, ap, ap₂, ◌∙◌}
use mathlib.Core.Bool.{Bool, true, false, ◌&&◌}
use mathlib.Core.List.{List}
use Prim.Native.Nat.{ℕ}
use Rattle.sums.specs.declared.Cut.{Cut}
use Rattle.rows.specs.declared.Rows.{Rows}
use Rattle.rows.specs.inner.Rows.{looked_up_rows, added_up_rows}
use Rattle.picture.specs.declared.Plane.{Plane}
use Rattle.picture.specs.declared.Planes.{Planes}
use Rattle.picture.specs.inner.Planes.{planes}
use Rattle.plan.specs.declared.Header.{Header}
use Rattle.plan.specs.declared.Component.{Component}
use Rattle.plan.specs.declared.Plan.{Plan}
use Rattle.rules.specs.Rules.{extent}
use Rattle.std.specs.Prelude.{None}
use Rattle.mapping.specs.inner.Mapped.{can_map, mapped_table, answer}
use Rattle.mapping.proofs.Meaning.{is_unmapped}
use Rattle.residual.specs.inner.Tables.{residual_table, finished_table, cut_numbers}
use Rattle.planes.specs.inner.ByTables.{plain_plane, enhanced_plane, three, by_tables, plain_chroma, enhanced_chroma, plain_mixed, enhanced_mixed}

pub in_order : (p : Plan) (plane : Component → Plane → List ℕ → List ℕ) (q : Planes) (output a b c : List ℕ) → q ≡ planes (extent p.header) → a ≡ plane p.y q.y output → b ≡ plane p.cb q.cb a → c ≡ plane p.cr q.cr b → c ≡ three p plane output
in_order p plane q output a b c e x y z =
    z ∙ ap₂ (plane p.cr) (ap (λ (s : Planes). s.cr) e)
    (y ∙ ap₂ (plane p.cb) (ap (λ (s : Planes). s.cb) e)
    (x ∙ ap (λ (s : Planes). plane p.y s.y output) e))

-- a plane by tables that calls gave
pub looked_by : (h : Header) (c : Component) (r : Rows) (p : Plane) (marks base output after mapped : List ℕ) → after ≡ looked_up_rows (finished_table h mapped) p r marks base output → mapped ≡ mapped_table h c → after ≡ plain_plane h r marks base c p output
looked_by h c r p marks base output after mapped e f = e ∙ ap (λ (m : List ℕ). looked_up_rows (finished_table h m) p r marks base output) f

pub added_by : (h : Header) (c : Component) (r : Rows) (p : Plane) (base enhancement output after mapped : List ℕ) (cut : Cut) → after ≡ added_up_rows mapped (residual_table h c.nlq) cut p r base enhancement output → mapped ≡ mapped_table h c → cut ≡ cut_numbers h → after ≡ enhanced_plane h r base enhancement c p output
added_by h c r p base enhancement output after mapped cut e f g = e ∙ ap₂ (λ (m : List ℕ) (k : Cut). added_up_rows m (residual_table h c.nlq) k p r base enhancement output) f g

-- chroma as a call gave it, and luma by its table
pub plain_over : (p : Plan) (r : Rows) (q : Planes) (marks base output chroma after : List ℕ) → q ≡ planes (extent p.header) → chroma ≡ plain_chroma p r marks base output → after ≡ plain_plane p.header r marks base p.y q.y chroma → after ≡ plain_mixed p r marks base output
plain_over p r q marks base output chroma after e c a = a ∙ ap₂ (λ (s : Planes) (o : List ℕ). plain_plane p.header r marks base p.y s.y o) e c

pub enhanced-over : (p : Plan) (r : Rows) (q : Planes) (base enhancement output chroma after : List ℕ) (cut : Cut) → q ≡ planes (extent p.header) → cut ≡ cut_numbers p.header → chroma ≡ enhanced_chroma p cut r base enhancement output → after ≡ enhanced_plane p.header r base enhancement p.y q.y chroma → after ≡ enhanced_mixed p r base enhancement output
enhanced-over p r q base enhancement output chroma after cut e k c a =
    a ∙ ap₂ (λ (s : Planes) (o : List ℕ). enhanced_plane p.header r base enhancement p.y s.y o) e (c ∙ ap (λ (x : Cut). enhanced_chroma p x r base enhancement output) k)

-- whether both go by tables
pub both-map : (p : Plan) → can_map p.header p.cb ≡ true → can_map p.header p.cr ≡ true → by_tables p ≡ true
both-map p b r = rw (b, r) refl

pub no_blue : (p : Plan) → answer p.header p.cb ≡ None → by_tables p ≡ false
no_blue p e = rw (is_unmapped p.header p.cb e) refl

pub no_red : (p : Plan) → answer p.header p.cr ≡ None → by_tables p ≡ false
no_red p e = rw (is_unmapped p.header p.cr e) (neither (can_map p.header p.cb))
  where
    neither : (a : Bool) → (a && false) ≡ false
    neither true = refl
    neither false = refl
