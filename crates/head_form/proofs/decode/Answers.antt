use Rattle.std.proofs.Common.{refl, ◌∙◌, ap, arith, rules, get_or, to_z, ◌≡◌, []}
use Rattle.std.proofs.Math.Facts.{to_z-of_z}
use Rattle.std.specs.Int.{w64}
use Rattle.account.specs.Head.{no_account}
use Rattle.head_form.specs.Form.{account_from, place_at}
use Rattle.head_form.proofs.Bytes.{read_two, read_eight}
use Rattle.head_form.proofs.Fields.{head-is}
use Rattle.head_form.proofs.Places.{account_in, made, place_cut}
use Rattle.head_form.proofs.decode.Goals as goal

pub returns : goal.returns
returns c =
    let b = c.args.b.now in
    head-is b (made _ _ (λ k. account_from b (place_at k)) no_account 32 (λ i y q h k. (search rules, (let e : y ≡ account_from (get_or c.as_chunks.result.0.now i []) 0 = search rules in e ∙ rw (place_cut b _ _ c.requires refl c.as_chunks.ensures.front i h) (account_in b (place_at i))))) c.from_fn.result c.from_fn.ensures.items.long c.from_fn.ensures.items.each)
    refl c.bytes_at.ensures (to_z-of_z {w = w64} (record { sfits = c.from_be_bytes.type_inv }) ∙ c.from_be_bytes.ensures ∙ ap (to_z w64) (read_eight b 0 (omega (arith, c.requires)) c.bytes_at-2.ensures refl))
    (read_two b 12 (omega (arith, c.requires)) c.bytes_at-3.ensures c.from_be_bytes-2.ensures)
    (read_two b 14 (omega (arith, c.requires)) c.bytes_at-4.ensures c.from_be_bytes-3.ensures)
    (read_two b 16 (omega (arith, c.requires)) c.bytes_at-5.ensures c.from_be_bytes-4.ensures)
