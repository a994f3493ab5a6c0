-- `front`: the fields one behind the other.
use Rattle.std.proofs.Common.{◌≡◌, ℤ, length, ap, ◌∙◌, of_z, rules}
use Rattle.std.proofs.lemmas.List.Edits.{sets}
use Rattle.std.proofs.Math.Facts.{to_z-of_z}
use Rattle.std.specs.Int.{w64}
use Rattle.octets.specs.Numbers.{big_endian}
use Rattle.octets.specs.Parts.{zeros}
use Rattle.head_form.proofs.Bytes.{high_first}
use Rattle.head_form.proofs.Stores.{front_stored}
use Rattle.head_form.proofs.front.Goals as goal

pub returns : goal.returns
unfolding zeros
returns c =
    let h = c.args.h in
    let n : length h.currency ≡ 3 = search rules in
    let time : c.put.new.out ≡ sets (zeros 32) 0 c.to_be_bytes.result = c.put.ensures in
    let first : c.to_be_bytes.result ≡ big_endian 8 (of_z w64 h.time) = c.to_be_bytes.ensures ∙ high_first 8 _
    ∙ ap (λ (z : ℤ). big_endian 8 (of_z w64 z)) (to_z-of_z {w = w64} {z = h.time} (search rules)) in
    let slots : c.to_be_bytes-2.result ≡ big_endian 2 h.slots = c.to_be_bytes-2.ensures ∙ high_first 2 _ in
    let places : c.to_be_bytes-3.result ≡ big_endian 2 h.places = c.to_be_bytes-3.ensures ∙ high_first 2 _ in
    let finished : c.to_be_bytes-4.result ≡ big_endian 2 h.finished = c.to_be_bytes-4.ensures ∙ high_first 2 _ in
    let stored = front_stored h n in
    cc
