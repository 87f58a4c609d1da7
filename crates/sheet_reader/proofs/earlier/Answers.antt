-- `sheet_reader::earlier` meets its contract. Assumes nothing.
use Rattle.std.proofs.Common.{◌≡◌, List, ℕ, ◌+◌, ◌*◌, ◌-◌, ◌/◌, ◌<◌, ◌≤◌, [], length, take, drop, get_or, get_or-take, length-take-le, length-drop, ap, ◌∙◌, arith}
use Rattle.std.proofs.lemmas.List.{get_or-drop}
use Rattle.std.specs.Simd.{first_chunks}
use Rattle.sheet_reader.proofs.Laws.{chunk-byte}
use Rattle.sheet_reader.proofs.earlier.Goals as goal

module _ (s : List ℕ) (n m : ℕ) (e : m ≡ n) (there : 10 + 6 * n ≤ length s) where
  count : length (take (10 + 6 * m - 10) (drop 10 s)) / 6 ≡ n
  count = omega (arith, length-take-le (10 + 6 * m - 10) (drop 10 s) (omega (arith, length-drop 10 s)))

  bytes : (j k : ℕ) → j < n → k < 6
      → get_or (get_or (first_chunks 6 (length (take (10 + 6 * m - 10) (drop 10 s)) / 6) (take (10 + 6 * m - 10) (drop 10 s))) j []) k 0
      ≡ get_or s (10 + 6 * j + k) 0
  bytes j k l r =
      rw count
      (chunk-byte n (take (10 + 6 * m - 10) (drop 10 s)) j k l r
      ∙ get_or-take (10 + 6 * m - 10) (drop 10 s) (6 * j + k) 0 (omega arith)
      ∙ get_or-drop 10 s (6 * j + k) 0
      ∙ ap (λ i. get_or s i 0) (omega arith))

pub returns-clause-count : goal.returns-clause-count
returns-clause-count c = c.as_chunks.ensures.front_len ∙ count c.args.sheet.now c.args.position c.from.result c.from.ensures c.requires

pub returns-clause-bytes : goal.returns-clause-bytes
returns-clause-bytes c j k l r =
    ap (λ (p : List (List ℕ)). get_or (get_or p j []) k 0) c.as_chunks.ensures.front
    ∙ bytes c.args.sheet.now c.args.position c.from.result c.from.ensures c.requires j k l r
