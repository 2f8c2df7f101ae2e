use Rattle.std.proofs.Common.{arith}
use Rattle.header_writer.proofs.Framing.{listed}
use Rattle.header_writer.proofs.put_header.Goals as goal

-- `put_header` meets its contract. Assumes nothing.
pub returns : goal.returns
returns c = rw (c.put.ensures, listed c.args.h c.to_be_bytes.ensures c.to_be_bytes-2.ensures c.to_be_bytes-3.ensures c.to_be_bytes-4.ensures (omega arith) (omega arith) (omega arith) (omega arith))
