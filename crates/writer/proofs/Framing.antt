-- The trailer is written field by field. Assumes nothing.
use mathlib.Core.Path.{◌≡◌}
use mathlib.Core.List.{List}
use Prim.Native.Nat.{ℕ, ◌+◌, ◌≤◌}
use native.Mathlib.Omega.{arith}
use lib.ListN.{length}
use Rattle.pen.specs.Bytes.{bytes_of}
use Rattle.pen.specs.inner.Putting.{put_at, Inked}
use Rattle.pen.proofs.Inking.{two_inked, then_put}
use Rattle.writer.specs.Writing.{trailer_bytes}

module _ {s s1 s2 s3 s4 s5 s6 : List ℕ} where
  pub made_trailer : (at a d0 d1 d2 version : ℕ) → at + 12 ≤ length s → s1 ≡ put_at s at (bytes_of 2 a) → s2 ≡ put_at s1 (at + 2) (bytes_of 2 d0) → s3 ≡ put_at s2 (at + 4) (bytes_of 2 d1)
      → s4 ≡ put_at s3 (at + 6) (bytes_of 2 d2) → s5 ≡ put_at s4 (at + 8) (bytes_of 2 version) → s6 ≡ put_at s5 (at + 10) (bytes_of 2 0) → Inked s at (trailer_bytes a d0 d1 d2 version) s6 (at + 12)
  unfolding trailer_bytes bytes_of
  made_trailer at a d0 d1 d2 version r e1 e2 e3 e4 e5 e6 =
      let last : at + 10 + 2 ≡ at + 12 = omega arith in
      rw (← last)
      (then_put (bytes_of 2 0) (at + 10)
      (then_put (bytes_of 2 version) (at + 8)
      (then_put (bytes_of 2 d2) (at + 6)
      (then_put (bytes_of 2 d1) (at + 4)
      (then_put (bytes_of 2 d0) (at + 2)
      (two_inked a (omega arith) e1)
      (omega arith) (omega arith) e2) (omega arith) (omega arith) e3) (omega arith) (omega arith) e4) (omega arith) (omega arith) e5) (omega arith) (omega arith) e6)
