-- What the functions over the row pairs of a plane ask and give: the row pairs by tables, where they lie within every run.
use Rattle.std.specs.Prelude.{◌≡◌, Bool, true, false, ◌&&◌, cond, List, ℕ, ◌<◌, ◌≤◌, length}
use Rattle.runs.specs.Runs.{painted, between}
use Rattle.marks.specs.Marks.{full_at}
use Rattle.marks.specs.inner.Marks.{not_full}
use Rattle.sums.specs.declared.Cut.{Cut}
use Rattle.spans.specs.inner.Spans.{looked_up}
use Rattle.sums.specs.inner.Sums.{added_up}
use Rattle.picture.specs.declared.Plane.{Plane}
use Rattle.picture.specs.inner.Planes.{in_rows, lies, InPlane}
use Rattle.rows.specs.declared.Rows.{Rows}

-- how many sums are kept from the first pass to the second: PART in the code
abbrev pub part_places : ℕ
part_places = 128

-- row pairs of a plane that lie in a run
abbrev pub RowsIn : Plane → Rows → List ℕ → Type 0
RowsIn p r run = InPlane p r.first r.last (length run)

abbrev pub lie : Plane → Rows → List ℕ → Bool
lie p r run = lies p r.first r.last (length run)

-- the next row pair after k that is not full by the marks, or `last` where there is none before it
pub record Next (marks : List ℕ) (k last next : ℕ) : Type 0 where
  pub from : k ≤ next
  pub ahead : k < last → k < next
  pub upto : next ≤ last
  pub full_between : (j : ℕ) → k < j → j < next → full_at marks j ≡ true
  pub kept_not : next < last → full_at marks next ≡ false

-- those that are full by the marks are kept
unfoldable pub looked_up_rows : List ℕ → Plane → Rows → List ℕ → List ℕ → List ℕ → List ℕ
looked_up_rows table p r marks base output =
    cond (lie p r base && lie p r output)
    (painted (in_rows p (not_full r.first r.last marks)) (looked_up table base) output)
    output

unfoldable pub added_up_rows : List ℕ → List ℕ → Cut → Plane → Rows → List ℕ → List ℕ → List ℕ → List ℕ
added_up_rows mapped raised cut p r base enhancement output =
    cond (lie p r base && (lie p r enhancement && lie p r output))
    (painted (in_rows p (between r.first r.last)) (added_up mapped raised cut base enhancement) output)
    output
