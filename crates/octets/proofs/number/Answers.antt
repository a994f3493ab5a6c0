-- `number`: the bytes before the last are at most seven, so that their number has room for one more.
use Rattle.std.proofs.Common.{◌≡◌, ℕ, ◌+◌, ◌-◌, ◌≤◌, List, length, get_or, Fits, w8, refl, arith, take_all}
use Rattle.octets.specs.Bytes.{Bytes}
use Rattle.octets.specs.Numbers.{number as number_in, number_from}
use Rattle.octets.specs.Parts.{part}
use Rattle.octets.proofs.Lists.{bytes, byte-at}
use Rattle.octets.proofs.Numbers.{number_more, number_room}
use Rattle.octets.proofs.Parts.{bytes-part, length_part}
use Rattle.octets.proofs.Round.{number_fits}
use Rattle.octets.proofs.number.Goals as goal

taken : (s : List ℕ) (at w : ℕ) → ((k : ℕ) → Fits w8 (get_or s k 0)) → Bytes (part s at w)
taken s at w f = bytes-part s at w (bytes s (λ k. (f k).fits))

pub loop-b-init : goal.loop-b-init
unfolding number_from
loop-b-init c = refl

pub overflow_mul-n : goal.overflow_mul-n
overflow_mul-n c =
    let a = c.args in
    let w = a.at + a.width - a.at in
    let b = taken a.s.now a.at w c.type_inv.s in
    omega (arith, number_room (part a.s.now a.at w) c.loop-b.b-index b (omega arith) (omega (arith, length_part a.s.now a.at w)))

pub overflow_add-n : goal.overflow_add-n
overflow_add-n c =
    let a = c.args in
    let w = a.at + a.width - a.at in
    let b = taken a.s.now a.at w c.type_inv.s in
    let room = number_room (part a.s.now a.at w) c.loop-b.b-index b (omega arith) (omega (arith, length_part a.s.now a.at w)) in
    omega (arith, byte-at _ b c.loop-b.b-index, room)

pub loop-b-preserved : goal.loop-b-preserved
loop-b-preserved c = let more = number_more _ c.loop-b.b-index c.loop-b-test.true in cc

pub returns : goal.returns
returns c =
    let a = c.args in
    let w : a.at + a.width - a.at ≡ a.width = omega arith in
    let s = part a.s.now a.at a.width in
    let all : length s ≤ c.loop-b.b-index = rw w at c.loop-b-test.false in
    let n : c.loop-b.n ≡ number_in s = rw (w, take_all c.loop-b.b-index s all) at c.loop-b.invariant in
    let b = taken a.s.now a.at a.width c.type_inv.s in
    (n, rw n (number_fits s a.width b (length_part a.s.now a.at a.width (omega arith))))
