-- `read_packet` meets its contract: the verdict is that of the count of letters, and of what follows them.
use Prim.Native.Nat.{ℕ}
use Rattle.octets.proofs.Lists.{bytes}
use Rattle.base64url.proofs.Read.{no_letter, more_follows, nothing_follows}
use Rattle.base64url.proofs.read_packet.Goals as goal

pub returns-then-letters-eq0 : goal.returns-then-letters-eq0
returns-then-letters-eq0 c =
    let n = c.letters_first-letters in
    no_letter _ n.result (n.ensures, bytes c.args.s.now (λ (i : ℕ). (c.type_inv.s i).fits)) c.if-letters-eq0.true

pub returns-then-end-s : goal.returns-then-end-s
returns-then-end-s c =
    let n = c.letters_first-letters in
    more_follows _ n.result (n.ensures, bytes c.args.s.now (λ (i : ℕ). (c.type_inv.s i).fits)) c.if-letters-eq0.false _ _
    c.past_pad-padded.ensures c.past_pad-end.ensures c.if-end-s.true

pub returns : goal.returns
returns c =
    let n = c.letters_first-letters in
    nothing_follows _ n.result (n.ensures, bytes c.args.s.now (λ (i : ℕ). (c.type_inv.s i).fits)) c.if-letters-eq0.false _ _
    c.past_pad-padded.ensures c.past_pad-end.ensures c.if-end-s.false
