-- On an accepted sheet the first clash is none exactly if the choice is valid, and otherwise it is the first, in the documents' order, of
-- the labels that leave the map and the pairs of points that mark one pixel, with the kind that the documents give it. Assumes nothing.
use Rattle.std.specs.Prelude.{◌≡◌, refl, Bool, false, ◌⊎◌, ◌↔◌, List, ℕ, zero, suc, ◌≤◌, ◌<◌, Option, None, Some}
use Rattle.std.proofs.Common.{sym, ap, ◌∙◌, inl, inr, lt-ltb, le-ltb}
use Rattle.std.proofs.lemmas.Option.{same_Some}
use native.Mathlib.Omega.{arith}
use Rattle.labeling.specs.Points.{Points, Choice, DistinctRows}
use Rattle.labeling.specs.Marks.{LabelOnMap, Valid, label_on_map_b}
use Rattle.labeling.specs.Conflicts.{Conflict}
use Rattle.labeling.proofs.Decide.{not-both, decide, same, less, Decides, dec-eq, dec-not, dec-map}
use Rattle.labeling.proofs.Tests.{dec-overlap, dec-hits, dec-label-on-map}
use Rattle.labeling.proofs.Pixels.{outside-apart, shared-conflict, conflict-shared}
use Rattle.format.specs.Sheet.{points_of}
use Rattle.format.specs.Accepted.{Accepted}
use Rattle.clash.specs.declared.ClashKind.{ClashKind}
use Rattle.clash.specs.declared.ClashKind.TheVariants.{Labels, LabelAndLeader, Overhang, TwoLeaders}
use Rattle.clash.specs.declared.Clash.{Clash}
use Rattle.clash.specs.FirstClash.{is_clash, or_else, between, clash_if, pair_clash, own_clash, first_of, ordered_clash}
use Rattle.clash.specs.FirstClash.{later_clash, clash_of, first_clash}
use Rattle.clash.specs.ClashPixels.{FirstAt, Clashing, KindOf, Named, ClashIs, apart, met, FirstClashRight}

-- none is no clash
none_between : {c : Option Clash} {i j : ℕ} {k : ClashKind} → c ≡ None → c ≡ between i j k → ⊥
none_between e q = not-both (ap is_clash q) (ap is_clash e)

pub no-clash : (c : Option Clash) → is_clash c ≡ false → c ≡ None
no-clash None e = refl
no-clash (Some c) e = absurd (not-both refl e)

-- two clashes that are the same have the same positions and kind
same-between : {i j a b : ℕ} {k m : ClashKind} → between i j k ≡ between a b m → (i ≡ a) × (j ≡ b) × (k ≡ m)
same-between e = let h = same_Some _ _ e in (ap (λ (c : Clash). c.first) h, ap (λ (c : Clash). c.second) h, ap (λ (c : Clash). c.kind) h)

-- THE FIRST OF SEVERAL

or-none : (c d : Option Clash) → or_else c d ≡ None → (c ≡ None) × (d ≡ None)
or-none None d e = (refl, e)
or-none (Some c) d e = absurd (not-both refl (ap is_clash e))

or-between : (c d : Option Clash) {i j : ℕ} {k : ClashKind} → or_else c d ≡ between i j k → (c ≡ between i j k) ⊎ ((c ≡ None) × (d ≡ between i j k))
or-between None d e = inr (refl, e)
or-between (Some c) d e = inl e

-- none, if each is none
pub first-none : (f : ℕ → Option Clash) (m : ℕ) → ((i : ℕ) → i < m → f i ≡ None) → first_of f m ≡ None
unfolding first_of
first-none f zero n = refl
first-none f (suc m) n = rw (first-none f m (λ i l. n i (omega arith))) (n m (omega arith))

-- each is none, if the first is
pub none_first : (f : ℕ → Option Clash) (m : ℕ) → first_of f m ≡ None → (i : ℕ) → i < m → f i ≡ None
unfolding first_of
none_first f zero e i l = absurd (omega arith)
none_first f (suc m) e i l =
    let o = or-none (first_of f m) (f m) e in
    same i m (λ q. rw q o.1) (λ ne. none_first f m o.0 i (omega arith))

first-at : (f : ℕ → Option Clash) (m : ℕ) {i j : ℕ} {k : ClashKind} → first_of f m ≡ between i j k → FirstAt f m (between i j k)
unfolding first_of
first-at f zero e = absurd (none_between refl e)
first-at f (suc m) {i} {j} {k} e = which (or-between (first_of f m) (f m) e) (first-at f m)
  where
    which : (first_of f m ≡ between i j k) ⊎ ((first_of f m ≡ None) × (f m ≡ between i j k))
        → (first_of f m ≡ between i j k → FirstAt f m (between i j k)) → FirstAt f (suc m) (between i j k)
    which (inl q) ih = let r = ih q in record { at = r.at; below = omega (arith, r.below); is = r.is; earlier = r.earlier }
    which (inr q) ih = record { at = m; below = omega arith; is = q.1; earlier = none_first f m q.0 }

-- two positions have one kind
kind-once : (k m : ClashKind) (S : Choice) (i j : ℕ) → KindOf k S i j → KindOf m S i j → k ≡ m
kind-once Labels Labels S i j x y = refl
kind-once Labels LabelAndLeader S i j x (inl y) = absurd (not-both x.2 y.1)
kind-once Labels LabelAndLeader S i j x (inr y) = absurd (not-both x.1 y.0)
kind-once Labels Overhang S i j x y = absurd (x.0 y)
kind-once Labels TwoLeaders S i j x y = absurd (not-both x.1 y.1)
kind-once LabelAndLeader Labels S i j (inl x) y = absurd (not-both y.2 x.1)
kind-once LabelAndLeader Labels S i j (inr x) y = absurd (not-both y.1 x.0)
kind-once LabelAndLeader LabelAndLeader S i j x y = refl
kind-once LabelAndLeader Overhang S i j (inl x) y = absurd (not-both x.0 (ap S y ∙ x.1))
kind-once LabelAndLeader Overhang S i j (inr x) y = absurd (not-both x.1 (ap S (sym y) ∙ x.0))
kind-once LabelAndLeader TwoLeaders S i j (inl x) y = absurd (not-both x.0 y.1)
kind-once LabelAndLeader TwoLeaders S i j (inr x) y = absurd (not-both x.1 y.2)
kind-once Overhang Labels S i j x y = absurd (y.0 x)
kind-once Overhang LabelAndLeader S i j x (inl y) = absurd (not-both y.0 (ap S x ∙ y.1))
kind-once Overhang LabelAndLeader S i j x (inr y) = absurd (not-both y.1 (ap S (sym x) ∙ y.0))
kind-once Overhang Overhang S i j x y = refl
kind-once Overhang TwoLeaders S i j x y = absurd (y.0 x)
kind-once TwoLeaders Labels S i j x y = absurd (not-both y.1 x.1)
kind-once TwoLeaders LabelAndLeader S i j x (inl y) = absurd (not-both y.0 x.1)
kind-once TwoLeaders LabelAndLeader S i j x (inr y) = absurd (not-both y.1 x.2)
kind-once TwoLeaders Overhang S i j x y = absurd (x.0 y)
kind-once TwoLeaders TwoLeaders S i j x y = refl

-- by the test that decides whether they clash
clash-if : (P : Points) (S : Choice) (i j : ℕ) (k : ClashKind) {b : Bool}
    → Decides b (Clashing P S i j) → KindOf k S i j → ClashIs P S i j (clash_if b i j k)
clash-if P S i j k {b} d kind =
    decide b
    (λ e. rw e (met (d.is e) kind))
    (λ e. rw e (apart (λ c. not-both (d.of c) e)))

is_none : {P : Points} {S : Choice} {i j : ℕ} {c : Option Clash} → ClashIs P S i j c → c ≡ None → Clashing P S i j → ⊥
is_none (apart not) e = not
is_none (met c kind) e = absurd (none_between e refl)

none_is : {P : Points} {S : Choice} {i j : ℕ} {c : Option Clash} → ClashIs P S i j c → (Clashing P S i j → ⊥) → c ≡ None
none_is (apart not) y = refl
none_is (met c kind) y = absurd (y c)

is-met : {P : Points} {S : Choice} {i j a b : ℕ} {k : ClashKind} {c : Option Clash} → ClashIs P S i j c → c ≡ between a b k
    → (i ≡ a) × (j ≡ b) × Clashing P S i j × KindOf k S i j
is-met (apart not) e = absurd (none_between refl e)
is-met {P} {S} {i} {j} {a} {b} {k} (met {k = m} c kind) e =
    let h = same-between e in
    (h.0, h.1, c, rw h.2 at kind)

-- of a position with itself
own_is : (P : Points) (S : Choice) (i : ℕ) → ClashIs P S i i (own_clash P S i)
unfolding own_clash
own_is P S i =
    decide (S i)
    (λ a. rw a (clash-if P S i i Overhang (dec-map (λ f. inl (refl, (a, f))) off (dec-not (dec-label-on-map P i))) refl))
    (λ a. rw a (apart (none a)))
  where
    off : Clashing P S i i → LabelOnMap P i → ⊥
    off (inl x) = x.1.1
    off (inr x) = absurd (x.0 refl)

    none : S i ≡ false → Clashing P S i i → ⊥
    none a (inl x) = not-both x.1.0 a
    none a (inr x) = x.0 refl

module _ (P : Points) (S : Choice) (wide : 1 ≤ P.w) where
  -- of two positions, which clash exactly if they conflict
  pair_is : (i j : ℕ) → i < j → j < P.n → ClashIs P S i j (pair_clash P S i j)
  unfolding pair_clash Conflict
  pair_is i j l m =
      decide (S i)
      (λ a. decide (S j)
      (λ b. rw (a, b) (pair-if Labels (dec-overlap P i j) (λ o. rw (a, b) o) (λ c. rw (a, b) at c) (differ, a, b)))
      (λ b. rw (a, b) (pair-if LabelAndLeader (dec-hits P i j) (λ o. rw (a, b) o) (λ c. rw (a, b) at c) (inl (a, b)))))
      (λ a. decide (S j)
      (λ b. rw (a, b) (pair-if LabelAndLeader (dec-hits P j i) (λ o. rw (a, b) o) (λ c. rw (a, b) at c) (inr (a, b))))
      (λ b. rw (a, b) (pair-if TwoLeaders (dec-eq _ _) (λ o. rw (a, b) o) (λ c. rw (a, b) at c) (differ, a, b))))
    where
      differ : i ≡ j → ⊥
      differ e = omega arith

      to : Conflict P S i j → Clashing P S i j
      to c = inr (differ, conflict-shared P S i j wide c)

      of : Clashing P S i j → Conflict P S i j
      of (inl x) = absurd (differ x.0)
      of (inr x) = shared-conflict P S x.1.0 i j (omega arith) m x.1.1 x.1.2

      -- by the test that decides whether they conflict
      pair-if : (k : ClashKind) {b : Bool} {A : Type 0}
          → Decides b A → (A → Conflict P S i j) → (Conflict P S i j → A) → KindOf k S i j → ClashIs P S i j (clash_if b i j k)
      pair-if k t f g kind = clash-if P S i j k (dec-map (λ x. to (f x)) (λ x. g (of x)) t) kind

  ordered-is : (i j : ℕ) → i < j → j < P.n → ClashIs P S i j (ordered_clash P S i j)
  ordered-is i j l m = rw (lt-ltb i j l) (pair_is i j l m)

  -- a clash of i that is none leaves it apart from itself and every later position
  none_from : (i : ℕ) → clash_of P S i ≡ None → (j : ℕ) → i ≤ j → j < P.n → Clashing P S i j → ⊥
  unfolding clash_of later_clash
  none_from i e j l m =
      let o = or-none (own_clash P S i) (later_clash P S i) e in
      less i j
      (λ u. is_none (ordered-is i j u m) (none_first (ordered_clash P S i) P.n o.1 j m))
      (λ g. let q : i ≡ j = omega arith in rw (← q) (is_none (own_is P S i) o.0))

  none-clashing : first_clash P S ≡ None → (i j : ℕ) → i ≤ j → j < P.n → Clashing P S i j → ⊥
  unfolding first_clash
  none-clashing e i j l m = none_from i (none_first (clash_of P S) P.n e i (omega arith)) j l m

  -- a choice in which nothing clashes is valid
  apart-valid : ((i j : ℕ) → i ≤ j → j < P.n → Clashing P S i j → ⊥) → Valid P S
  apart-valid f = record {
    apart = λ p i j l m ne x y.
        less i j (λ u. f i j (omega arith) m (inr (ne, (p, x, y)))) (λ g. f j i g l (inr (λ q. ne (sym q), (p, y, x))));
    within = λ i l t.
        decide (label_on_map_b P i) (dec-label-on-map P i).is
        (λ e. absurd (f i i (omega arith) l (inl (refl, (t, λ o. not-both ((dec-label-on-map P i).of o) e)))));
  }

  -- and the other way
  valid-apart : Valid P S → (i j : ℕ) → i ≤ j → j < P.n → Clashing P S i j → ⊥
  valid-apart v i j l m (inl x) = x.1.1 (v.within i (omega arith) x.1.0)
  valid-apart v i j l m (inr x) = v.apart x.1.0 i j (omega arith) m x.0 x.1.1 x.1.2

  valid-none : Valid P S → first_clash P S ≡ None
  unfolding first_clash clash_of later_clash
  valid-none v = first-none (clash_of P S) P.n (λ i l. rw (own i l) (first-none (ordered_clash P S i) P.n (ordered i)))
    where
      own : (i : ℕ) → i < P.n → own_clash P S i ≡ None
      own i l = none_is (own_is P S i) (valid-apart v i i (omega arith) l)

      ordered : (i j : ℕ) → j < P.n → ordered_clash P S i j ≡ None
      ordered i j m =
          less i j
          (λ u. none_is (ordered-is i j u m) (valid-apart v i j (omega arith) m))
          (λ g. rw (le-ltb i j g))

  -- NONE EXACTLY IF THE CHOICE IS VALID
  pub none-valid : (first_clash P S ≡ None) ↔ Valid P S
  none-valid = (λ e. apart-valid (none-clashing e), valid-none)

  -- a clash with its kind is named, if nothing clashes before it
  named : {a b i j : ℕ} {k : ClashKind} {c : Option Clash} → ClashIs P S a b c → c ≡ between i j k → a ≤ b → b < P.n
      → ((c : ℕ) → c < a → clash_of P S c ≡ None) → ((d : ℕ) → a ≤ d → d < b → Clashing P S a d → ⊥) → Named P S i j k
  named {a} {b} {i} {j} {k} x e l m f g =
      let p = is-met x e in
      let r : Named P S a b k = record {
        ordered = l;
        below = m;
        clashing = p.2;
        kind = λ z. (λ q. (rw q at p).3, kind-once k z S a b p.3);
        earlier = earlier;
      } in rw (p.0, p.1) at r
    where
      earlier : (c d : ℕ) → c ≤ d → d < P.n → (c < a) ⊎ ((c ≡ a) × (d < b)) → Clashing P S c d → ⊥
      earlier c d u v (inl y) = none_from c (f c y) d u v
      earlier c d u v (inr y) = rw y.0 (g d (omega arith) y.1)

  between-named : {i j : ℕ} {k : ClashKind} → first_clash P S ≡ between i j k → Named P S i j k
  unfolding first_clash clash_of later_clash
  between-named {i} {j} {k} e =
      let x = first-at (clash_of P S) P.n e in
      which x.at x.below x.earlier (or-between (own_clash P S x.at) (later_clash P S x.at) x.is)
    where
      -- the pair of a and the first later position
      later : (a : ℕ) → ((c : ℕ) → c < a → clash_of P S c ≡ None) → own_clash P S a ≡ None
          → (y : FirstAt (ordered_clash P S a) P.n (between i j k)) → Named P S i j k
      later a f o y =
          less a y.at
          (λ u. named (ordered-is a y.at u y.below) y.is (omega arith) y.below f before)
          (λ g. absurd (none_between (rw (le-ltb a y.at g)) y.is))
        where
          before : (d : ℕ) → a ≤ d → d < y.at → Clashing P S a d → ⊥
          before d l v =
              less a d
              (λ t. is_none (ordered-is a d t (omega (arith, y.below))) (y.earlier d v))
              (λ g. let q : a ≡ d = omega arith in rw (← q) (is_none (own_is P S a) o))

      which : (a : ℕ) → a < P.n → ((c : ℕ) → c < a → clash_of P S c ≡ None)
          → (own_clash P S a ≡ between i j k) ⊎ ((own_clash P S a ≡ None) × (later_clash P S a ≡ between i j k)) → Named P S i j k
      which a m f (inl q) = named (own_is P S a) q (omega arith) m f (λ d l v. absurd (omega arith))
      which a m f (inr q) = later a f q.0 (first-at (ordered_clash P S a) P.n q.1)

  -- no clash that is named comes before another
  named-least : {i j a b : ℕ} {k m : ClashKind} → Named P S i j k → Named P S a b m → (a < i) ⊎ ((a ≡ i) × (b < j)) → ⊥
  named-least {i} {j} {a} {b} x y o = x.earlier a b y.ordered y.below o y.clashing

  -- ONE CLASH IS NAMED: two that are named are the same.
  pub named-once : {i j a b : ℕ} {k m : ClashKind} → Named P S i j k → Named P S a b m → between i j k ≡ between a b m
  named-once {i} {j} {a} {b} {k} {m} x y =
      same i a
      (λ p. same j b
      (λ q. let r : k ≡ m = (x.kind m).1 (rw (p, q) ((y.kind m).0 refl)) in cc)
      (λ ne. less j b
      (λ l. absurd (named-least y x (inr (p, l))))
      (λ g. absurd (named-least x y (inr (sym p, omega arith))))))
      (λ ne. less i a
      (λ l. absurd (named-least y x (inl l)))
      (λ g. absurd (named-least x y (inl (omega arith)))))

  named-between : {i j : ℕ} {k : ClashKind} → Named P S i j k → first_clash P S ≡ between i j k
  named-between {i} {j} {k} x = which (first_clash P S) refl
    where
      which : (c : Option Clash) → first_clash P S ≡ c → first_clash P S ≡ between i j k
      which None e = absurd (none-clashing e i j x.ordered x.below x.clashing)
      which (Some c) e = e ∙ named-once (between-named e) x

  -- A CLASH EXACTLY IF THE DOCUMENTS NAME IT
  pub between-iff : (i j : ℕ) (k : ClashKind) → (first_clash P S ≡ between i j k) ↔ Named P S i j k
  between-iff i j k = (between-named, named-between)

pub first-clash-right : (s : List ℕ) (S : Choice) → Accepted s → FirstClashRight (points_of s) S
first-clash-right s S a = record {
  none = none-valid (points_of s) S a.proper.label-width.0;
  between = between-iff (points_of s) S a.proper.label-width.0;
}

-- TWO LEADERS ARE NAMED ONLY IN ONE ROW; so with distinct rows never
pub leaders-in-one-row : (P : Points) (S : Choice) (i j : ℕ) → Named P S i j TwoLeaders → (i < j) × (P.row i ≡ P.row j)
leaders-in-one-row P S i j x = by x.clashing
  where
    k : (i ≡ j → ⊥) × (S i ≡ false) × (S j ≡ false)
    k = (x.kind TwoLeaders).0 refl

    l : i < j
    l = less i j (λ u. u) (λ g. absurd (k.0 (omega (arith, x.ordered))))

    by : Clashing P S i j → (i < j) × (P.row i ≡ P.row j)
    by (inl y) = absurd (k.0 y.0)
    by (inr y) = (l, outside-apart P S y.1.0 i j (omega (arith, l, x.below)) x.below k.1 k.2 y.1.1 y.1.2)

pub distinct-rows-no-leaders : (P : Points) (S : Choice) (i j : ℕ) → DistinctRows P → Named P S i j TwoLeaders → ⊥
distinct-rows-no-leaders P S i j d x =
    let r = leaders-in-one-row P S i j x in
    let q = d.apart i j (omega (arith, r.0, x.below)) x.below r.1 in
    omega (arith, r.0)
