-- What the functions over marks say: the composer writes 1 where a row pair is full, and 2 where it is base only.
use Rattle.std.specs.Prelude.{Bool, true, not, ◌&&◌, ◌||◌, cond, List, ℕ, leb, eqb, length}
use Rattle.runs.specs.Runs.{painted, between}
use Rattle.marks.specs.Marks.{full_at}

abbrev pub every_pair : ℕ → Bool
every_pair k = true

abbrev pub waiting : ℕ → ℕ
waiting k = 0

abbrev pub has : ℕ → ℕ → Bool
has value mark = eqb mark value

-- what a job writes, full or base only
abbrev pub done : Bool → ℕ → ℕ
done full k = cond full 1 2

-- a mark after base only was composed: a full one stays as it is
unfoldable pub based : ℕ → ℕ
based mark = cond (eqb mark 0) 2 mark

-- the row pairs from `first` up to `last` that are not full
unfoldable pub not_full : ℕ → ℕ → List ℕ → ℕ → Bool
not_full first last marks k = between first last k && not (full_at marks k)

-- those of them that a job composes: a full one all of them, one of base only those that are not full
unfoldable pub composed_pairs : Bool → ℕ → ℕ → List ℕ → ℕ → Bool
composed_pairs full first last marks k = between first last k && (full || not (full_at marks k))

-- their marks are set; none is where the row pairs do not all have a mark
unfoldable pub marked : Bool → ℕ → ℕ → List ℕ → List ℕ
marked full first last marks =
    cond (leb first last && leb last (length marks)) (painted (composed_pairs full first last marks) (done full) marks) marks
