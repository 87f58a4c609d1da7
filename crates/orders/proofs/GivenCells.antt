-- The theorems on the definitions of specs/GivenCells.antt. Assumes nothing.
use Rattle.std.specs.Prelude.{◌≡◌, refl, List, ℕ, suc, ◌+◌, ◌*◌, ◌≤◌, ◌<◌, length, get_or, set}
use Rattle.std.proofs.Common.{sym, ◌∙◌, arith, length-set, get_or-set_same, get_or-set_other}
use Rattle.labeling.proofs.Decide.{same}
use Rattle.orders.specs.Layout.{field_cells, weight_field, array_cells, first_weight, first_allowed, first_position}
use Rattle.orders.specs.Words.{value_at, with_value, FourSmall}
use Rattle.orders.proofs.Words.{length-with, value-with, value-other, with-other, with-small}
use Rattle.orders.specs.Given.{weight_of, permitted, permission}
use Rattle.orders.proofs.GivenLaws.{weight-most}
use Rattle.orders.specs.GivenCells.{GivenCells}

-- At first nothing is written.
pub given-none : (rank : ℕ → ℕ) (sheet s : List ℕ) → GivenCells rank sheet 0 s s
given-none rank sheet s = record {
  long = refl;
  weight_is = λ k l. absurd (omega arith);
  weight-small = λ k l. absurd (omega arith);
  allowed-is = λ k l. absurd (omega arith);
  other = λ c a b. refl;
}

-- One more: the weight x and the permission v of the point m + 1.
module _ {rank : ℕ → ℕ} {sheet s r : List ℕ} {m : ℕ} (G : GivenCells rank sheet m s r) (long : length s ≡ array_cells) (few : m < 32)
    (light : rank (get_or s (first_position + m) 0) ≤ 9) (x v : ℕ) where
  abbrev weighted : List ℕ
  weighted = with_value r (first_weight + m) x

  abbrev given : List ℕ
  given = set weighted (first_allowed + m) v

  weighted-long : length weighted ≡ array_cells
  weighted-long = length-with r (first_weight + m) x ∙ (G.long ∙ long)

  -- The permission stands beside the weights.
  cell : (c : ℕ) → c < first_allowed → get_or given c 0 ≡ get_or weighted c 0
  cell c l = get_or-set_other weighted (first_allowed + m) c v 0 (λ e. omega arith)

  four : (k : ℕ) → k + 3 < first_allowed → FourSmall weighted k → FourSmall given k
  four k l f =
      let a = cell k (omega arith) in
      let b = cell (k + 1) (omega arith) in
      let c = cell (k + 2) (omega arith) in
      let d = cell (k + 3) l in
      record {
        first = omega (arith, f.first);
        second = omega (arith, f.second);
        third = omega (arith, f.third);
        fourth = omega (arith, f.fourth);
      }

  number : (i : ℕ) → i < weight_field + field_cells → value_at given i ≡ value_at weighted i
  unfolding value_at
  number i l =
      omega (
        arith,
        cell (i * 4) (omega arith),
        cell (i * 4 + 1) (omega arith),
        cell (i * 4 + 2) (omega arith),
        cell (i * 4 + 3) (omega arith),
      )

  -- A weight that was written before.
  four-kept : (k : ℕ) → k < m → FourSmall weighted ((first_weight + k) * 4)
  four-kept k l =
      let f = G.weight-small k l in
      let at : (j : ℕ) → j < 4 → get_or weighted ((first_weight + k) * 4 + j) 0 ≡ get_or r ((first_weight + k) * 4 + j) 0 =
      λ j u. with-other r (first_weight + m) x ((first_weight + k) * 4 + j) (λ p q. omega arith) in
      let z : (first_weight + k) * 4 + 0 ≡ (first_weight + k) * 4 = omega arith in
      let a = rw z at (at 0 (omega arith)) in
      record {
        first = omega (arith, f.first);
        second = omega (arith, f.second, at 1 (omega arith));
        third = omega (arith, f.third, at 2 (omega arith));
        fourth = omega (arith, f.fourth, at 3 (omega arith));
      }

  pub given-more : x ≡ weight_of rank (get_or s (first_position + m) 0) → v ≡ permission (permitted sheet (get_or s (first_position + m) 0))
      → GivenCells rank sheet (m + 1) s given
  given-more e f =
      record {
        long = length-set weighted (first_allowed + m) v ∙ (weighted-long ∙ sym long);
        weight_is = λ k l. number (weight_field + suc k) (omega arith) ∙ same k m
            (λ z.
            let p : weight_field + suc k ≡ first_weight + m = omega arith in
            rw (p, z) (value-with r (first_weight + m) x (omega (arith, G.long, long)) ∙ e))
            (λ ne. value-other r (first_weight + m) (weight_field + suc k) x (λ z. ne (omega arith)) ∙ G.weight_is k (omega arith));
        weight-small = λ k l. four ((first_weight + k) * 4) (omega arith) (same k m
            (λ z. rw z (with-small r (first_weight + m) x (omega (arith, G.long, long))
            (omega (arith, weight-most rank (get_or s (first_position + m) 0) light))))
            (λ ne. four-kept k (omega arith)));
        allowed-is = λ k l. same k m
            (λ z. rw z (get_or-set_same weighted (first_allowed + m) v 0 (omega (arith, weighted-long)) ∙ f))
            (λ ne. get_or-set_other weighted (first_allowed + m) (first_allowed + k) v 0 (λ z. ne (omega arith))
            ∙ (with-other r (first_weight + m) x (first_allowed + k) (λ p q. omega arith) ∙ G.allowed-is k (omega arith)));
        other = λ c a b.
            get_or-set_other weighted (first_allowed + m) c v 0 (λ z. b (omega arith) (omega arith))
            ∙ (with-other r (first_weight + m) x c (λ p q. a (omega arith) (omega arith))
            ∙ G.other c (λ p q. a p (omega arith)) (λ p q. b p (omega arith)));
      }
