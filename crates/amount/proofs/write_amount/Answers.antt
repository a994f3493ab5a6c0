-- `amount::write_amount` meets its contract, case by case.
use mathlib.Core.Path.{refl}
use native.Mathlib.Omega.{arith}
use lib.ListN.{length}
use Rattle.amount.specs.Amount.{write_amount}
use Rattle.amount.proofs.Writing.{no_room, written}
use Rattle.amount.proofs.write_amount.Goals as goal

pub returns-then-units-remainder : goal.returns-then-units-remainder
unfolding write_amount
returns-then-units-remainder c = (simp c.if-units-remainder.true, refl)

pub returns-then-out-length : goal.returns-then-out-length
returns-then-out-length c =
    let places = c.trimmed-places in (
      no_room (record {
        fits = c.if-units-remainder.false;
        digits = c.digit_count-whole.ensures.1;
        fraction = places.ensures.1;
        sum = c.text_length-length.ensures places.result.number;
      })
          (length c.args.out.now) c.if-out-length.true,
      refl,
    )

pub returns : goal.returns
returns c =
    let places = c.trimmed-places in
    written (record {
      fits = c.if-units-remainder.false;
      digits = c.digit_count-whole.ensures.1;
      fraction = places.ensures.1;
      sum = c.text_length-length.ensures places.result.number;
    })
    c.args.out.now c.put_text.new.out (omega arith) c.put_text.ensures
