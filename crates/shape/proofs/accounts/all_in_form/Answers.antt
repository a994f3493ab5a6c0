-- `all_in_form`: the library's `all` over the accounts in use.
use Rattle.std.proofs.Common.{◌∙◌, sym, rules}
use Rattle.std.proofs.lemmas.Iterator.{YieldsList-from_slice}
use Rattle.std.proofs.lemmas.Iterator.Search.{all_from_yields_List}
use borrow.Author.Tests.{tests}
use Rattle.account.specs.Head.{accounts_of}
use Rattle.shape.specs.Shape.{account_ok}
use Rattle.shape.proofs.Slots.{all_by_list}
use Rattle.shape.proofs.accounts.all_in_form.Goals as goal

pub returns : goal.returns
returns c =
    all_from_yields_List account_ok _ _ _ c.all.ensures.ran (YieldsList-from_slice (accounts_of c.args.h) (search rules))
    (λ x b q k. search (rules, tests))
    ∙ sym (all_by_list account_ok (accounts_of c.args.h))
