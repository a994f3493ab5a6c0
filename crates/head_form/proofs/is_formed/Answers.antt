-- `is_formed`: the length, the zeros of the front, and each account place.
use Rattle.std.proofs.Common.{◌≡◌, ℕ, List, true, false, refl, ◌∙◌, sym, ap, rules}
use Rattle.std.proofs.lemmas.Bool.{eq-eqb, ne_eqb}
use borrow.Author.Tests.{tests}
use Rattle.std.proofs.lemmas.Iterator.{YieldsList-from_slice}
use Rattle.std.proofs.lemmas.Iterator.Consumers.{YieldsList-from_enumerate}
use Rattle.std.proofs.lemmas.Iterator.Search.{all_from_yields_List}
use Rattle.std.specs.List.{enumerate_from, list_all}
use Rattle.octets.specs.Parts.{all_zero, part}
use Rattle.head_form.specs.Form.{is_formed, places_formed}
use Rattle.head_form.proofs.Places.{place_test, places_cut, places_tested}
use Rattle.head_form.proofs.is_formed.Goals as goal

pub returns-then-b-ne2080 : goal.returns-then-b-ne2080
unfolding is_formed
returns-then-b-ne2080 c = rw (ne_eqb _ _ c.if-b-ne2080.true)

pub returns-then-all_zero : goal.returns-then-all_zero
unfolding is_formed
returns-then-all_zero c =
    let b = c.args.b.now in
    let chain = YieldsList-from_enumerate (YieldsList-from_slice c.as_chunks.result.0.now (cc)) (cc) in
    let all = all_from_yields_List (place_test c.from-count.result) _ _ c.all.result c.all.ensures.ran chain (λ x r q k. search (rules, tests)) in
    let count = c.from-count.result in
    let front : all_zero (part b 18 14) ≡ true = sym c.all_zero.ensures ∙ c.if-all_zero.true in
    rw (eq-eqb _ _ c.if-b-ne2080.false, front) (
    all ∙ ap (λ (ps : List (List ℕ)). list_all (place_test count) (enumerate_from 0 ps)) (places_cut b _ _ c.if-b-ne2080.false refl c.as_chunks.ensures.front)
    ∙ places_tested b count ∙ ap (λ (n : ℕ). places_formed b n 32) c.from-count.ensures)

pub returns-else-all_zero : goal.returns-else-all_zero
unfolding is_formed
returns-else-all_zero c =
    let front : all_zero (part c.args.b.now 18 14) ≡ false = sym c.all_zero.ensures ∙ c.if-all_zero.false in
    rw (eq-eqb _ _ c.if-b-ne2080.false, front) c.if-all_zero.false
