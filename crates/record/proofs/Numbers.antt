-- Numbers in a record's bytes: the library reads them as the layout does.
use Rattle.std.proofs.Common.{◌≡◌, ℕ, suc, ◌+◌, ◌*◌, ◌<◌, ◌≤◌, List, length, get_or, drop, ap, ◌∙◌, arith}
use Rattle.std.proofs.Math.Seq.{drop-cons}
use Rattle.std.proofs.Math.ListN.{drop_of_length-le}
use Rattle.std.specs.Int.{w16, w32, w64, from_be_bytes}
use Rattle.octets.specs.Numbers.{number, number_from}

module _ (xs : List ℕ) where
  next : (k n : ℕ) → k < length xs → number_from n (drop k xs) ≡ number_from (n * 256 + get_or xs k 0) (drop (suc k) xs)
  unfolding number_from
  next k n h = ap (number_from n) (drop-cons xs k 0 h)

  last : (k n : ℕ) → length xs ≤ k → number_from n (drop k xs) ≡ n
  unfolding number_from
  last k n h = ap (number_from n) (drop_of_length-le xs h)

  pub number_two : length xs ≡ 2 → number xs ≡ from_be_bytes w16 xs
  number_two h = next 0 0 (omega arith) ∙ next 1 _ (omega arith) ∙ last 2 _ (omega arith) ∙ omega arith

  pub number_four : length xs ≡ 4 → number xs ≡ from_be_bytes w32 xs
  number_four h =
      next 0 0 (omega arith) ∙ next 1 _ (omega arith) ∙ next 2 _ (omega arith) ∙ next 3 _ (omega arith)
      ∙ last 4 _ (omega arith) ∙ omega arith

  pub number_eight : length xs ≡ 8 → number xs ≡ from_be_bytes w64 xs
  number_eight h =
      next 0 0 (omega arith) ∙ next 1 _ (omega arith) ∙ next 2 _ (omega arith) ∙ next 3 _ (omega arith)
      ∙ next 4 _ (omega arith) ∙ next 5 _ (omega arith) ∙ next 6 _ (omega arith) ∙ next 7 _ (omega arith)
      ∙ last 8 _ (omega arith) ∙ omega arith
