-- The rules in their order, as ways through the definition of reading. Assumes nothing.
use mathlib.Core.Path.{◌≡◌}
use mathlib.Core.Bool.{true, false}
use mathlib.Core.List.{List}
use Prim.Native.Nat.{ℕ, ◌+◌, ◌-◌, ◌≤◌, ◌<◌}
use lib.ListN.{length}
use borrow.Author.Tests.{eqb-true, ltb-true, lt-ltb, le-ltb}
use Rattle.std.specs.Prelude.{None, Result, IsErr, IsErrAnd}
use Rattle.std.proofs.lemmas.Result.{err_from_is_err_and}
use Rattle.plan.specs.declared.Plan.{Plan}
use Rattle.plan.specs.Ranges.{header_fits}
use Rattle.plan.proofs.Truths.{each}
use Rattle.frame.specs.declared.Trailer.{Trailer}
use Rattle.frame.specs.Frame.{trailer, trailer_fits, trailer_tests, header, zeros_fit, wrong_column}
use Rattle.block.specs.Reading.{tail, part, refusal, sections, body, read}
use Rattle.block.specs.declared.Fault.{Fault}
use Rattle.block.specs.inner.Placed.{Placed}
use Rattle.block.specs.inner.Answering.{said, denied}

module _ (bytes : List ℕ) where
  pub too_short : length bytes < 12 → refusal 1 0 None ≡ read bytes
  unfolding read
  too_short h = rw (lt-ltb _ _ h)

  module _ (h : 12 ≤ length bytes) where
    pub bad_trailer : trailer_fits (trailer (tail bytes)) ≡ false → refusal 2 (length bytes - 12) None ≡ read bytes
    unfolding read
    bad_trailer e = rw (le-ltb _ _ h, e)

    module _ (e : trailer_fits (trailer (tail bytes)) ≡ true) where
      pub cut_off : length bytes - 12 < (trailer (tail bytes)).a → refusal 1 0 None ≡ read bytes
      unfolding read
      cut_off l = rw (le-ltb _ _ h, e, lt-ltb _ _ l)

      pub goes_on : (trailer (tail bytes)).a ≤ length bytes - 12 → body bytes (length bytes - 12) (trailer (tail bytes)) ≡ read bytes
      unfolding read
      goes_on l = rw (le-ltb _ _ h, e, le-ltb _ _ l)

module _ (bytes : List ℕ) (t : ℕ) (x : Trailer) where
  abbrev pub head : List ℕ
  head = part bytes (t - x.a) (t - x.d0)

  pub unfit_header : header_fits (header head) ≡ false → refusal 4 (t - x.a) (wrong_column head (header head)) ≡ body bytes t x
  unfolding body
  unfit_header e = rw e

  pub bad_zeros : header_fits (header head) ≡ true → zeros_fit head ≡ false → refusal 4 (t - x.a) (wrong_column head (header head)) ≡ body bytes t x
  unfolding body
  bad_zeros e f = rw (e, f)

  pub good_header : header_fits (header head) ≡ true → zeros_fit head ≡ true → sections bytes t x (header head) ≡ body bytes t x
  unfolding body
  good_header e f = rw (e, f)

-- where a trailer that rule 2 passes points
pub placed : {n t : ℕ} (x : Trailer) → t + 12 ≡ n → trailer_fits x ≡ true → x.a ≤ t → Placed n t x
unfolding trailer_fits
placed x e p i =
    let q = each (trailer_tests x) p in
    record { whole = e; header = eqb-true _ _ q.1.1.0; inside = i; first = ltb-true _ _ q.1.1.1.0; second = ltb-true _ _ q.1.1.1.1.0 }

-- the failure that a `?` answers is the one that it met
pub handed_on : (r : Result Plan Fault) (f : Fault) → IsErr r × IsErrAnd r (λ g. g ≡ f) → said r ≡ denied f
handed_on r f h = let p = err_from_is_err_and r h.1 in rw (p.1, p.2)
