-- Jobs of two pictures in turn: each picture has what its own jobs leave. Assumes nothing.
use mathlib.Core.Path.{◌≡◌, refl}
use mathlib.Core.List.{List, [], ◌∷◌}
use Prim.Native.Nat.{ℕ}
use Rattle.plan.specs.declared.Plan.{Plan}
use Rattle.filling.specs.Filling.{filled}
use Rattle.jobs.specs.Jobs.{Job}
use Rattle.calls.specs.Calls.{Memory}
use Rattle.night.specs.Sequence.{step, run, opened}
use Rattle.night.specs.Night.{Asked}
use Rattle.night.specs.TwoPictures.{Turn, first, second, of_first, of_second, run_both, Sharing, TwoPictures}
use Rattle.night.proofs.Night.{any_night}

each_alone : (ts : List Turn) (m n : Memory) → ((run_both ts m n).0 ≡ run (of_first ts) m) × ((run_both ts m n).1 ≡ run (of_second ts) n)
unfolding run_both of_first of_second run
each_alone [] m n = (refl, refl)
each_alone (first j ∷ ts) m n = each_alone ts (step j m) n
each_alone (second j ∷ ts) m n = each_alone ts m (step j n)

-- the table that is shared was filled from the plan
sharing_asked : (p : Plan) (base enhancement : List ℕ) (a b : ℕ) (j : Job) → Sharing (filled p) p base enhancement a b j → Asked p base enhancement a b j
sharing_asked p base enhancement a b j (k, shared) = (k, record { same_table = λ h t e. shared t e })

pub two_pictures : TwoPictures
two_pictures p base enhancement output marks base' enhancement' output' marks' ts opens opens' ks ks' =
    let alone = each_alone ts (opened p output marks) (opened p output' marks') in (
      record { memory_is = alone.0; finished = any_night _ p base enhancement output marks (of_first ts) (sharing_asked p base enhancement _ _) opens ks },
      record { memory_is = alone.1; finished = any_night _ p base' enhancement' output' marks' (of_second ts) (sharing_asked p base' enhancement' _ _) opens' ks' },
    )
