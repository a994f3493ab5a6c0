-- `byte_at` meets its contract: the digits of byte k stand at its place, in the text.
use Rattle.std.proofs.Common.{arith, ◌∙◌}
use Rattle.uuid_text.proofs.Walk.{place_in, pair_is}
use Rattle.uuid_text.proofs.byte_at.Goals as goal

pub bounds-s-at : goal.bounds-s-at
bounds-s-at c = omega (arith, place_in c.args.s.now c.requires.formed c.args.k c.requires.byte)

pub bounds-s-at-2 : goal.bounds-s-at-2
bounds-s-at-2 c = place_in c.args.s.now c.requires.formed c.args.k c.requires.byte

pub returns : goal.returns
returns c = c.pair_of.ensures ∙ pair_is c.args.s.now c.requires.formed c.args.k c.requires.byte
