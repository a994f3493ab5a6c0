-- `account_place`: the fields one behind the other.
use Rattle.std.proofs.Common.{◌≡◌, ℤ, length, ap, ◌∙◌, of_z, rules}
use Rattle.std.proofs.lemmas.List.Edits.{sets}
use Rattle.std.proofs.Math.Facts.{to_z-of_z}
use Rattle.std.specs.Int.{w64}
use Rattle.octets.specs.Numbers.{big_endian}
use Rattle.octets.specs.Parts.{zeros}
use Rattle.head_form.proofs.Bytes.{high_first}
use Rattle.head_form.proofs.Stores.{account_stored}
use Rattle.head_form.proofs.account_place.Goals as goal

pub returns : goal.returns
unfolding zeros
returns c =
    let a = c.args.a in
    let n : length a.name ≡ 32 = search rules in
    let name : c.put.new.out ≡ sets (zeros 64) 0 a.name = c.put.ensures in
    let cap : c.to_be_bytes.result ≡ big_endian 8 a.cap.units = c.to_be_bytes.ensures ∙ high_first 8 _ in
    let units : c.to_be_bytes-2.result ≡ big_endian 8 (of_z w64 a.position.units) = c.to_be_bytes-2.ensures ∙ high_first 8 _
    ∙ ap (λ (z : ℤ). big_endian 8 (of_z w64 z)) (to_z-of_z {w = w64} {z = a.position.units} (search rules)) in
    let rest : c.to_be_bytes-3.result ≡ big_endian 2 a.cap.remainder = c.to_be_bytes-3.ensures ∙ high_first 2 _ in
    let more : c.to_be_bytes-4.result ≡ big_endian 2 a.position.remainder = c.to_be_bytes-4.ensures ∙ high_first 2 _ in
    let stored = account_stored a n in
    cc
