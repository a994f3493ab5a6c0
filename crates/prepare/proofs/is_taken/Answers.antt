use Rattle.std.proofs.Common.{arith}
use Rattle.record.proofs.Fields.{num_byte}
use Rattle.prepare.proofs.is_taken.Goals as goal

pub returns : goal.returns
returns c = rw (num_byte 16 c.args.row.now (omega arith))
