-- `is_new`: the library's `all` over the accounts before, whose names lie within their places.
use Rattle.std.proofs.Common.{◌≡◌, ◌∙◌, length, take, not, rules, arith}
use Rattle.std.proofs.lemmas.Iterator.{YieldsList-from_slice}
use Rattle.std.proofs.lemmas.Iterator.Adapters.{serves_from_places}
use Rattle.std.proofs.lemmas.Iterator.Search.{all_from_yields_List}
use borrow.Author.Tests.{tests}
use Rattle.octets.specs.Parts.{same}
use Rattle.account.specs.Head.{name_of, account_at}
use Rattle.account.proofs.Places.{short_front}
use Rattle.shape.proofs.Names.{new_by_list}
use Rattle.shape.proofs.accounts.is_new.Goals as goal

pub all-requires-clause-callable : goal.all-requires-clause-callable
all-requires-clause-callable c =
    let h = c.args.h in
    let k = c.args.k in
    let long : length h.accounts ≡ 32 = search rules in
    let front = YieldsList-from_slice (take k h.accounts) (search rules) in
    serves_from_places front (λ x q j. search rules)
    (λ x j i e. search (rules, c.requires.1.short k c.requires.0, short_front h k x.now j c.requires.1 long (omega arith) i e))

pub returns : goal.returns
returns c =
    let h = c.args.h in
    let k = c.args.k in
    let name = name_of (account_at h k) in
    all_from_yields_List (λ b. not (same name (name_of b))) _ _ c.all.result c.all.ensures.ran
    (YieldsList-from_slice (take k h.accounts) (search rules)) (λ x b q j. search (rules, tests))
    ∙ new_by_list h k (omega arith) name
