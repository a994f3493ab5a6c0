-- `sha256::hash` meets its contract: the whole blocks of the message and then its padded end are the blocks of the padded message.
use Rattle.sha256.proofs.Padding.{parts_hashed}
use Rattle.sha256.proofs.hash.Goals as goal

pub returns : goal.returns
returns c =
    let m = c.args.message.now in
    parts_hashed m c.made-end.result c.size-size.result c.start.ensures c.absorbed-whole.ensures
    c.made-end.ensures c.absorbed.ensures c.bytes_of.ensures
