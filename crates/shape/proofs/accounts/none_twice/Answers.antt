-- `none_twice`: the library's `all` over the account numbers.
use Rattle.std.proofs.Common.{◌≡◌, ◌∙◌, length, rules, arith}
use Rattle.std.proofs.lemmas.Iterator.{YieldsList-from_range}
use Rattle.std.proofs.lemmas.Iterator.Search.{all_from_yields_List}
use borrow.Author.Tests.{tests}
use Rattle.shape.proofs.Names.{new_at, none_by_list}
use Rattle.shape.proofs.accounts.none_twice.Goals as goal

pub returns : goal.returns
returns c =
    let h = c.args.h in
    let long : length h.accounts ≡ 32 = search rules in
    all_from_yields_List (new_at h long c.requires.few) _ _ c.all.result c.all.ensures.ran
    (YieldsList-from_range 0 h.count h.count (search rules) (omega arith)) (λ x b q j. search (rules, tests))
    ∙ none_by_list h long c.requires.few
