-- Reading and writing undo each other: theorems over calls of `read` and of `write` that have ended as their promises say.
use Rattle.std.specs.Prelude.{true, ◌≡◌, List, [], ◌∷◌, ◌++◌, ℕ, ◌+◌, ◌-◌, ◌≤◌, length, take, drop}
use Rattle.std.proofs.Math.Pow.{are_bytes}
use Rattle.refusals.specs.Refusals.{Outcome, granted}
use Rattle.plan.specs.declared.Plan.{Plan}
use Rattle.frame.specs.Frame.{trailer}
use Rattle.block.specs.declared.Reading.{Reading}
use Rattle.block.specs.Reading.{tail}
use Rattle.calls.specs.promises.read as reading
use Rattle.writer.specs.Writing.{block_length, says}
use Rattle.calls.specs.promises.write as writing
use Rattle.calls.specs.Calls.{Ended}

-- read(bytes)
abbrev pub ReadCall : Type 0
ReadCall = Ended reading.Post

module _ (c : ReadCall) where
  abbrev pub bytes_read : List ℕ
  bytes_read = c.handed.0.now

  abbrev pub read_answer : Reading
  read_answer = c.answered

-- write(plan, version, out)
abbrev pub WriteCall : Type 0
WriteCall = Ended writing.Post

module _ (c : WriteCall) where
  abbrev pub plan_written : Plan
  plan_written = c.handed.0

  abbrev pub version_written : ℕ
  version_written = c.handed.1.0

  abbrev pub slice_before : List ℕ
  slice_before = c.handed.1.1.0.now

  abbrev pub slice_after : List ℕ
  slice_after = c.left.1.1.0.now

  abbrev pub write_said : Outcome
  write_said = says c.answered

-- of a plan that was written, the first n bytes, n being the length that the call reports, are accepted and give that very plan
pub record WrittenIsRead : Type 0 where
  pub gives_back : (w : WriteCall) (n : ℕ) (r : ReadCall) → write_said w ≡ granted (n ∷ []) → bytes_read r ≡ take n (slice_after w)
      → ((read_answer r).number ≡ 0) × ((read_answer r).plan ≡ plan_written w)

-- how many bytes a block has from its header on: A + 12
abbrev pub from_header : List ℕ → ℕ
from_header bytes = (trailer (tail bytes)).a + 12

-- of bytes that were accepted the plan, written as the version that they are to a slice that is long enough, puts their last A + 12 into it,
-- and what stood after them stays
pub record ReadIsWritten : Type 0 where
  pub puts_back : (r : ReadCall) (w : WriteCall) → are_bytes (bytes_read r) ≡ true → (read_answer r).number ≡ 0
      → plan_written w ≡ (read_answer r).plan → version_written w ≡ (trailer (tail (bytes_read r))).version
      → let n = from_header (bytes_read r) in
      n ≤ length (slice_before w)
      → (n ≤ length (bytes_read r)) × ((write_said w ≡ granted (n ∷ [])) × (slice_after w ≡ drop (length (bytes_read r) - n) (bytes_read r) ++ drop n (slice_before w)))

-- of bytes that were accepted, of whichever version, the plan can be written as version 2 to a slice that is long enough, and what was
-- written reads back to the same plan
pub record RaisedIsRead : Type 0 where
  pub raises : (r : ReadCall) (w : WriteCall) (again : ReadCall) → (read_answer r).number ≡ 0 → plan_written w ≡ (read_answer r).plan → version_written w ≡ 2
      → let n = block_length (plan_written w) 2 in
      n ≤ length (slice_before w) → bytes_read again ≡ take n (slice_after w)
      → (write_said w ≡ granted (n ∷ [])) × (((read_answer again).number ≡ 0) × ((read_answer again).plan ≡ (read_answer r).plan))
