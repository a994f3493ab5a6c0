-- `account_of`: each field is read from its place.
use Rattle.std.proofs.Common.{refl, ◌∙◌, ap, arith, to_z}
use Rattle.std.proofs.Math.Facts.{to_z-of_z}
use Rattle.std.specs.Int.{w64}
use Rattle.head_form.proofs.Bytes.{read_two, read_eight}
use Rattle.head_form.proofs.Fields.{account_is}
use Rattle.head_form.proofs.account_of.Goals as goal

pub returns : goal.returns
returns c =
    let b = c.args.place.now in
    account_is b 0 c.bytes_at.ensures refl
    (read_eight b 32 (omega arith) c.bytes_at-2.ensures c.from_be_bytes.ensures)
    (read_two b 48 (omega arith) c.bytes_at-3.ensures c.from_be_bytes-2.ensures)
    (to_z-of_z {w = w64} (record { sfits = c.from_be_bytes-3.type_inv }) ∙ c.from_be_bytes-3.ensures ∙ ap (to_z w64) (read_eight b 40 (omega arith) c.bytes_at-4.ensures refl))
    (read_two b 50 (omega arith) c.bytes_at-5.ensures c.from_be_bytes-4.ensures)
