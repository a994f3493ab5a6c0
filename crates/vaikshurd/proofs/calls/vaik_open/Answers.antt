-- `vaik_open`: 1 or 20 on a head of another length, and else what an open leaves.
use Rattle.vaikshurd.proofs.Called.{other_length_lem, opens}
use Rattle.vaikshurd.proofs.calls.vaik_open.Goals as goal

pub returns-then-head-ne2080 : goal.returns-then-head-ne2080
returns-then-head-ne2080 c =
    let s = c.args in
    rw c.open_refused.ensures
    (other_length_lem s.head.now s.opened.now s.ended.now s.currency.now s.time.now c.if-head-ne2080.true)

pub returns : goal.returns
returns c =
    let s = c.args in
    opens s.head.now s.opened.now s.ended.now _ c.decode-h.ensures c.open_book-r.result
    c.done.ensures s.currency.now s.time.now c.if-head-ne2080.false c.open_book-r.ensures
