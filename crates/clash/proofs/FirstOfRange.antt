-- `find_map` over a range of positions finds the first clash of them. Assumes nothing.
use Rattle.std.specs.Prelude.{◌≡◌, ℕ, ◌+◌, ◌-◌, ◌≤◌, ◌<◌, Option, None, Some, IsTrue, IfSome, IsSomeAnd, MatchOption}
use Rattle.std.specs.Option.{option_map}
use Rattle.std.proofs.lemmas.Option.{none-some}
use Rattle.std.proofs.Common.{sym, ap, ◌∙◌, subst, arith}
use Rattle.std.proofs.iter.Yields.{nat_range_steps}
use Rattle.std.proofs.iter.runs.Sources.{range_runs}
use Rattle.std.specs.Iterator.Runs.{Run, SomeRun, ItemsCountUp, CallKeepsClosure, AllItemsGive, IsFirstToGive}
use Rattle.std.specs.declared.ops.Range.{Range}
use denote.Param.Members.{Mut, Called}
use Rattle.labeling.proofs.Decide.{less}
use Rattle.clash.specs.declared.Clash.{Clash}
use Rattle.clash.specs.FirstClash.{is_clash, first_of}
use Rattle.clash.proofs.ClashPixels.{first-none, none_first}
use Rattle.clash.proofs.Laws.{first_found}

module _ {F : Type 0} (g : Mut F (ℕ × Unit {0}) (Option Clash)) (clash : ℕ → Option Clash) (f : F) (s : Range ℕ)
    (keeps : CallKeepsClosure g f) (gives : (x : ℕ) (r : Option Clash) → s.start ≤ x → Called g f (x, tt) r f → r ≡ clash x) where
  -- what a place of the run says of the position there
  place : (p : Run nat_range_steps) (k : ℕ) (r : Option Clash) (o : Option ℕ) → IfSome o (λ x. (x ≡ s.start + k) × (x < s.end))
      → IsSomeAnd o (λ x. Called g f (x, tt) r f) → (s.start + k < s.end) × (r ≡ clash (s.start + k))
  place p k r None a c = absurd c
  place p k r (Some x) a c = (omega (arith, a), gives x r (omega (arith, a)) c ∙ ap clash a.0)

  some : (o : Option ℕ) (n : ℕ) (P : ℕ → Type 0) → option_map (λ y. y) o ≡ Some n → IfSome o P → IsSomeAnd o P
  some None n P e h = absurd (none-some n e)
  some (Some x) n P e h = h

  none_below : (m : ℕ) → first_of clash s.start ≡ None → ((i : ℕ) → s.start ≤ i → i < m → None ≡ clash i) → first_of clash m ≡ None
  none_below m n e = first-none clash m (λ i l. less i s.start (λ a. none_first clash s.start n i a) (λ b. sym (e i b l)))

  first_given : (r : Option Clash)
      → SomeRun nat_range_steps s (λ p. MatchOption r (IsTrue p.whole × AllItemsGive p g f None)
      (λ y. (i : ℕ) × (i < p.len) × (p.len ≡ i + 1) × IsFirstToGive p g f (Some y) None i))
      → first_of clash s.start ≡ None → r ≡ first_of clash s.end
  first_given None h n = sym (none_below s.end n at)
    where
      up : ItemsCountUp h.0 s.start s.end
      up = subst (λ (t : Range ℕ). ItemsCountUp h.0 t.start t.end) h.1 (range_runs h.0 h.0.seen)

      at : (i : ℕ) → s.start ≤ i → i < s.end → None ≡ clash i
      at i a b =
          let k = i - s.start in
          let e : s.start + k ≡ i = omega arith in
          rw e at (place h.0 k None (h.0.at k) (up.2 k) (some (h.0.at k) (s.start + k) _ (up.3 k (omega (arith, up.1 h.2.0))) (h.2.1 keeps k))).1
  first_given (Some y) h n =
      found.1 ∙ first_found clash (s.start + i) s.end (none_below (s.start + i) n at) (ap is_clash (sym found.1)) found.0
    where
      up : ItemsCountUp h.0 s.start s.end
      up = subst (λ (t : Range ℕ). ItemsCountUp h.0 t.start t.end) h.1 (range_runs h.0 h.0.seen)

      i : ℕ
      i = h.2.0

      found : (s.start + i < s.end) × (Some y ≡ clash (s.start + i))
      found = place h.0 i (Some y) (h.0.at i) (up.2 i) (h.2.3 keeps).0

      at : (j : ℕ) → s.start ≤ j → j < s.start + i → None ≡ clash j
      at j a b =
          let k = j - s.start in
          let e : s.start + k ≡ j = omega arith in
          rw e at (place h.0 k None (h.0.at k) (up.2 k) ((h.2.3 keeps).1 k (omega arith))).1

-- `find_map` gives the first clash below the range's end, where each call answers with its position's clash and none is below the range's
-- start
pub first_from_find_map : {F : Type 0} {g : Mut F (ℕ × Unit {0}) (Option Clash)} {f : F} {s : Range ℕ} (clash : ℕ → Option Clash) (r : Option Clash)
    → SomeRun nat_range_steps s (λ p. MatchOption r (IsTrue p.whole × AllItemsGive p g f None)
    (λ y. (i : ℕ) × (i < p.len) × (p.len ≡ i + 1) × IsFirstToGive p g f (Some y) None i))
    → CallKeepsClosure g f → ((x : ℕ) (r : Option Clash) → s.start ≤ x → Called g f (x, tt) r f → r ≡ clash x)
    → first_of clash s.start ≡ None → r ≡ first_of clash s.end
first_from_find_map {g = g} {f = f} {s = s} clash r h keeps gives n = first_given g clash f s keeps gives r h n
