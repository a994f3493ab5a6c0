-- `count`: every turn takes one piece more.
use Rattle.std.proofs.Common.{inl, inr, eqb, rules, arith, sym, ◌∙◌}
use borrow.Author.Tests.{tests}
use Rattle.std.proofs.lemmas.List.{length_push}
use Rattle.std.proofs.lemmas.Iterator.Consumers.{YieldsList-turn, YieldsList-end, YieldsList-at}
use Rattle.std.proofs.lemmas.Iterator.Splits.{YieldsList-from_slice_split}
use Rattle.lines.proofs.Cut.{one_more, an_empty, a_tenth, all_counted}
use Rattle.lines.proofs.count.Goals as goal

pub returns-then-is_empty : goal.returns-then-is_empty
returns-then-is_empty c =
    let line = c.args.line.now in
    let l = c.loop-piece in
    let here = YieldsList-turn (YieldsList-at c.into_iter-piece-iterator.ensures.into_iter_gives
    (YieldsList-from_slice_split _ (λ b. eqb b 32) line c.split-piece-items.ensures.rest c.split-piece-items.ensures.done
    c.split-piece-items.ensures.closure (λ x b q k. search (rules, tests)))) l.yielded _ l.yielded_by _ _ c.in-Some.piece c.in-Some.is
    c.next.ensures.steps in
    elim c.then-is_empty.either [
      | inl e ↦ an_empty line l.words _ l.invariant.0 _ here (sym c.is_empty.ensures ∙ e)
      | inr e ↦ a_tenth line l.words _ l.invariant.0 _ here e.1
    ]

pub loop-piece-preserved : goal.loop-piece-preserved
loop-piece-preserved c =
    let line = c.args.line.now in
    let l = c.loop-piece in
    let here = YieldsList-turn (YieldsList-at c.into_iter-piece-iterator.ensures.into_iter_gives
    (YieldsList-from_slice_split _ (λ b. eqb b 32) line c.split-piece-items.ensures.rest c.split-piece-items.ensures.done
    c.split-piece-items.ensures.closure (λ x b q k. search (rules, tests)))) l.yielded _ l.yielded_by _ _ c.in-Some.piece c.in-Some.is
    c.next.ensures.steps in (
      omega (arith, length_push l.yielded c.in-Some.piece, l.invariant.0),
      omega (arith, l.invariant.1, c.if-words-eq-MOST_WORDS.false),
      one_more line l.words _ l.invariant.0 _ here l.invariant.2 (sym c.is_empty.ensures ∙ c.if-is_empty.false),
    )

pub returns : goal.returns
returns c =
    let line = c.args.line.now in
    let l = c.loop-piece in
    let all = YieldsList-end (YieldsList-at c.into_iter-piece-iterator.ensures.into_iter_gives
    (YieldsList-from_slice_split _ (λ b. eqb b 32) line c.split-piece-items.ensures.rest c.split-piece-items.ensures.done
    c.split-piece-items.ensures.closure (λ x b q k. search (rules, tests)))) l.yielded _ l.yielded_by _ _ c.in-None.is
    c.next.ensures.steps in
    all_counted line l.words _ l.invariant.0 all.1 l.invariant.1 l.invariant.2
