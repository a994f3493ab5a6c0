-- `lowered`: what is borrowed is within 62 bits.
use Rattle.std.proofs.Common.{arith}
use Rattle.account.proofs.Positions.{lowered_is}
use Rattle.account.proofs.Position.lowered.Goals as goal

pub returns : goal.returns
returns c =
    lowered_is c.args.self c.args.a c.cast_signed.result _ _ c.cast_signed.ensures c.requires.0.units (omega arith) (omega arith) (omega arith)
