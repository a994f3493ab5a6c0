-- `vaik_lookup_place`: 0 on a head not of the form, and else the place that the lookup finds.
use mathlib.Core.Path.{◌≡◌, sym, ◌∙◌}
use lib.ListN.{length}
use Rattle.head_form.proofs.Encoded.{formed_facts}
use Rattle.octets.proofs.Walk.{length_unmap}
use Rattle.book.specs.Step.{book_of}
use Rattle.vaikshurd.proofs.Places.{place_formless, place_found, place_low}
use borrow.Author.Rules.{rules}
use Rattle.vaikshurd.proofs.lookups.vaik_lookup_place.Goals as goal

pub decode-h-requires : goal.decode-h-requires
decode-h-requires c = (formed_facts _ (sym c.is_formed.ensures ∙ c.if-is_formed.true)).0

pub place_word-requires : goal.place_word-requires
place_word-requires c =
    let s = c.args in
    let accounts : length c.decode-h.result.accounts ≡ 32 = search (rules, length_unmap) depth 8 in
    place_low (book_of c.decode-h.result s.opened.now s.ended.now) s.id.now accounts _ c.place.ensures

pub returns-then-is_formed : goal.returns-then-is_formed
returns-then-is_formed c =
    let s = c.args in
    rw c.place_word.ensures
    (place_found s.head.now s.opened.now s.ended.now s.id.now _ c.is_formed.ensures c.if-is_formed.true
    _ c.decode-h.ensures _ c.place.ensures)

pub returns : goal.returns
returns c =
    let s = c.args in
    place_formless s.head.now s.opened.now s.ended.now s.id.now _ c.is_formed.ensures c.if-is_formed.false
