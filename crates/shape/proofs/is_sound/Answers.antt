-- `is_sound`: each part of the pass may count on those before it.
use Rattle.std.proofs.Common.{◌∙◌, sym, arith}
use Rattle.shape.proofs.Facts.{lengths_sound}
use Rattle.shape.proofs.Together.{judged, open_room}
use Rattle.shape.proofs.is_sound.Goals as goal

pub open_ok-requires : goal.open_ok-requires
open_ok-requires c =
    let lengths = lengths_sound (record { head = c.args.h; opened = c.args.opened.now; ended = c.args.ended.now })
    (sym c.lengths_ok.ensures ∙ c.if-lengths_ok.true) in
    (record { long = lengths.opened; few = lengths.few_slots }, judged c.args.h (sym c.all_ok.ensures ∙ c.if-all_ok.true))

pub ended_book_ok-requires : goal.ended_book_ok-requires
ended_book_ok-requires c =
    let lengths = lengths_sound (record { head = c.args.h; opened = c.args.opened.now; ended = c.args.ended.now })
    (sym c.lengths_ok.ensures ∙ c.if-lengths_ok.true) in
    omega (arith, lengths.ended, open_room c.args.h c.args.opened.now (sym c.open_ok.ensures ∙ c.if-open_ok.true))
