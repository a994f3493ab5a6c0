-- `part`: a place that is found lies in its book.
use mathlib.Core.Path.{◌≡◌, sym, ◌∙◌}
use lib.ListN.{length}
use Rattle.std.proofs.Common.{rules}
use Rattle.octets.proofs.Walk.{length_unmap}
use Rattle.book.specs.Step.{book_of}
use Rattle.lookup.proofs.Found.{inside}
use Rattle.lookup.proofs.part.Goals as goal

pub record_at-requires : goal.record_at-requires
record_at-requires c =
    let a = c.args in
    let accounts : length a.h.accounts ≡ 32 = search (rules, length_unmap) depth 8 in
    inside (book_of a.h a.opened.now a.ended.now) a.id.now accounts _ (sym c.place.ensures ∙ c.in-Some.is)
