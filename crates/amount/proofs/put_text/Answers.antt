-- `amount::put_text` meets its contract: the stores of its parts are the stores of the text.
use native.Mathlib.Omega.{arith}
use lib.ListN.{length-set}
use Rattle.amount.proofs.Digits.{length_some, text-whole, text-pointed}
use Rattle.amount.proofs.put_text.Goals as goal

pub returns-then-count-eq0 : goal.returns-then-count-eq0
returns-then-count-eq0 c =
    let a = c.args in
    let p = c.put_whole in
    text-whole a.out.now p.new.out a.whole a.units a.places.count a.places.number p.ensures c.if-count-eq0.true

pub bounds-out-whole : goal.bounds-out-whole
bounds-out-whole c =
    let a = c.args in
    omega (arith, length_some a.places.count a.places.number c.if-count-eq0.false, c.put_whole.auto.out)

pub overflow_add-to : goal.overflow_add-to
overflow_add-to c =
    let a = c.args in
    omega (arith, length_some a.places.count a.places.number c.if-count-eq0.false)

pub put_digits-requires : goal.put_digits-requires
put_digits-requires c =
    let a = c.args in
    let l = length_some a.places.count a.places.number c.if-count-eq0.false in
    let k = c.put_whole.auto.out in
    simp length-set (omega arith)

pub returns : goal.returns
returns c =
    let a = c.args in
    let p = c.put_whole in
    let q = c.put_digits in
    text-pointed a.out.now p.new.out a.whole a.units a.places.count a.places.number p.ensures q.new.out
    c.if-count-eq0.false q.ensures
