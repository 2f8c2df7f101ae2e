-- The arrays of a plan that a function is handed, or that a call gives, have the lengths of its type. Assumes nothing.
use mathlib.Core.Path.{◌≡◌, sym, subst}
use mathlib.Core.List.{List, [], ◌∷◌}
use Prim.Native.Nat.{ℕ, zero, suc, ◌<◌}
use native.Mathlib.Nat.{le_of_suc-le-suc, not-suc-le-zero}
use lib.ListN.{length, get_or}
use mir.Val.{Val}
use denote.Laws.{Is}
use denote.Array.{each}
use denote.Shadow.{shadow}
use Rattle.plan.specs.declared.Piece.{Piece}
use Rattle.plan.specs.declared.Component.{Component}
use Rattle.plan.specs.declared.Plan.{Plan}
use Rattle.plan.specs.Rule7.{piece_places, row_places, no_piece}
use Rattle.plan.specs.inner.Facts.{Arrays, Sized}
use Rattle.plan.specs.contracts.Piece as piece
use Rattle.plan.specs.contracts.Component as component
use Rattle.plan.specs.contracts.Plan as plan

pub rows : (l : List Piece) (us : List Val) → shadow (each _ (piece.the_row).own_val l us) → (p : ℕ) → p < length l → length (get_or l p no_piece).row ≡ row_places
rows [] us s p h = absurd (not-suc-le-zero h)
rows (q ∷ l) [] s p h = absurd s
rows (q ∷ l) (u ∷ us) s zero h = s.0.1.1.1.1.0.1.0.1
rows (q ∷ l) (u ∷ us) s (suc p) h = rows l us s.1 p (le_of_suc-le-suc h)

pub arrays : (c : Component) (vs : List Val) → Is component.the_row c vs → Arrays c
arrays c vs s =
    let e : length c.pieces ≡ piece_places = s.1.1.1.1.0.1.0.1 in
    record {
      preds = s.1.1.1.0.1.0.1;
      pieces = e;
      row = λ p h. rows c.pieces _ s.1.1.1.1.0.1.1 p (subst (λ (n : ℕ). p < n) (sym e) h);
    }

pub sized : (p : Plan) (vs : List Val) → Is plan.the_row p vs → Sized p
sized p vs s =
    record {
      y = arrays p.y _ s.1.1.1.0;
      cb = arrays p.cb _ s.1.1.1.1.0;
      cr = arrays p.cr _ s.1.1.1.1.1.0;
    }
