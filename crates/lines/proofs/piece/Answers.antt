-- `piece`: the k-th of the parts that the line is cut into.
use Rattle.std.proofs.Common.{◌≡◌, ℕ, List, Option, Some, None, unwrap_or, eqb, refl, ap, ◌∙◌, rules}
use borrow.Author.Tests.{tests}
use denote.Ref.{Bor}
use Rattle.std.specs.Option.{option_map}
use Rattle.std.proofs.lemmas.Option.{unwrap_or-slice_get}
use Rattle.std.proofs.lemmas.Iterator.Consumers.{nth_from_yields_List}
use Rattle.std.proofs.lemmas.Iterator.Splits.{YieldsList-from_slice_split}
use Rattle.lines.proofs.Cut.{cut_parts}
use Rattle.lines.proofs.piece.Goals as goal

or_none : (r : Option (Bor (List ℕ))) (d : Bor (List ℕ)) → (unwrap_or r d).now ≡ unwrap_or (option_map (λ x. x.now) r) d.now
or_none (Some x) d = refl
or_none None d = refl

pub returns : goal.returns
returns c =
    let line = c.args.line.now in
    let found = nth_from_yields_List c.nth.result _ c.args.k c.nth.ensures.ran (YieldsList-from_slice_split _ (λ b. eqb b 32) line
    c.split.ensures.rest c.split.ensures.done c.split.ensures.closure (λ x b q k. search (rules, tests))) in
    ap (λ (p : Bor (List ℕ)). p.now) c.unwrap_or.ensures ∙ or_none c.nth.result _
    ∙ rw (found, unwrap_or-slice_get, cut_parts 32 line)
