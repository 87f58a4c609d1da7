-- Cases on a test, and tests that decide facts: a combinator for each connective, so that a test's proof is one line.
-- Assumes nothing.
use Rattle.std.specs.Prelude.{◌≡◌, refl, Bool, true, false, cond, not, ◌&&◌, ◌||◌, ◌⊎◌, ℕ, ◌≤◌, ◌<◌, ltb, leb, eqb}
use Rattle.std.proofs.Common.{sym, ◌∙◌, true≢false, inl, inr, ltb-true, ltb-false, leb-true, eqb-true, lt-ltb, le-leb, eq-eqb, arith}
use Rattle.std.proofs.lemmas.Bool.{eqb-false, not-true}

-- CASES

-- A Bool is not both true and false.
pub not-both : {b : Bool} → b ≡ true → b ≡ false → ⊥
not-both p q = true≢false (sym p ∙ q)

-- A Bool is true or false, with the equation.
pub decide {ℓ} : (b : Bool) {X : Type ℓ} → (b ≡ true → X) → (b ≡ false → X) → X
decide true f g = f refl
decide false f g = g refl

-- Two numbers are equal or not.
pub same {ℓ} : (i j : ℕ) {X : Type ℓ} → (i ≡ j → X) → ((i ≡ j → ⊥) → X) → X
same i j f g = decide (eqb i j) (λ e. f (eqb-true i j e)) (λ e. g (eqb-false i j e))

-- Of two numbers, the first is less or it isn't.
pub less {ℓ} : (i j : ℕ) {X : Type ℓ} → (i < j → X) → (j ≤ i → X) → X
less i j f g = decide (ltb i j) (λ e. f (ltb-true i j e)) (λ e. g (ltb-false i j e))

-- TESTS

-- The test b decides the fact A.
pub record Decides (b : Bool) (A : Type 0) : Type 0 where
  pub is : b ≡ true → A
  pub of : A → b ≡ true

pub dec-lt : (a b : ℕ) → Decides (ltb a b) (a < b)
dec-lt a b = record { is = ltb-true a b; of = lt-ltb a b }

pub dec-le : (a b : ℕ) → Decides (leb a b) (a ≤ b)
dec-le a b = record { is = leb-true a b; of = le-leb a b }

pub dec-eq : (a b : ℕ) → Decides (eqb a b) (a ≡ b)
dec-eq a b = record { is = eqb-true a b; of = eq-eqb a b }

-- A Bool decides that it is true.
pub dec-true : (b : Bool) → Decides b (b ≡ true)
dec-true b = record { is = λ e. e; of = λ e. e }

pub dec-none : Decides false ⊥
dec-none = record { is = λ e. not-both e refl; of = λ x. absurd x }

pub and_left : (a b : Bool) → (a && b) ≡ true → a ≡ true
and_left true b e = refl
and_left false b e = e

pub and_right : (a b : Bool) → (a && b) ≡ true → b ≡ true
and_right true b e = e
and_right false b e = absurd (not-both refl (sym e))

pub and_both : (a b : Bool) → a ≡ true → b ≡ true → (a && b) ≡ true
and_both true b e f = f
and_both false b e f = e

pub or_left : (a b : Bool) → a ≡ true → (a || b) ≡ true
or_left true b e = refl
or_left false b e = absurd (not-both e refl)

pub or_right : (a b : Bool) → b ≡ true → (a || b) ≡ true
or_right true b e = refl
or_right false b e = e

pub or-rest : (a b : Bool) → (a || b) ≡ true → a ≡ false → b ≡ true
or-rest true b e f = absurd (not-both refl f)
or-rest false b e f = e

pub or-false : (b : Bool) → (b || false) ≡ b
or-false true = refl
or-false false = refl

pub or-true : (b : Bool) → (b || true) ≡ true
or-true true = refl
or-true false = refl

pub and-false : (b : Bool) → (b && false) ≡ false
and-false true = refl
and-false false = refl

or_is : (a b : Bool) → (a || b) ≡ true → (a ≡ true) ⊎ (b ≡ true)
or_is true b e = inl refl
or_is false b e = inr e

pub dec-and : {a b : Bool} {A B : Type 0} → Decides a A → Decides b B → Decides (a && b) (A × B)
dec-and {a} {b} d e = record {
  is = λ x. (d.is (and_left a b x), e.is (and_right a b x));
  of = λ y. and_both a b (d.of y.0) (e.of y.1);
}

pub dec-and₃ : {a b c : Bool} {A B C : Type 0} → Decides a A → Decides b B → Decides c C → Decides (a && b && c) (A × B × C)
dec-and₃ {a} {b} {c} d e f =
    let g = dec-and (dec-and d e) f in record { is = λ x. ((g.is x).0.0, (g.is x).0.1, (g.is x).1); of = λ y. g.of ((y.0, y.1), y.2) }

pub dec-and₄ : {a b c d : Bool} {A B C D : Type 0} → Decides a A → Decides b B → Decides c C → Decides d D
    → Decides (a && b && c && d) (A × B × C × D)
dec-and₄ {a} {b} {c} {d} e f g h =
    let k = dec-and (dec-and₃ e f g) h in
    record { is = λ x. ((k.is x).0.0, (k.is x).0.1, (k.is x).0.2, (k.is x).1); of = λ y. k.of ((y.0, y.1, y.2), y.3) }

pub dec-or : {a b : Bool} {A B : Type 0} → Decides a A → Decides b B → Decides (a || b) (A ⊎ B)
dec-or {a} {b} {A} {B} d e = record { is = λ x. there (or_is a b x); of = back }
  where
    there : (a ≡ true) ⊎ (b ≡ true) → A ⊎ B
    there (inl x) = inl (d.is x)
    there (inr x) = inr (e.is x)

    back : A ⊎ B → (a || b) ≡ true
    back (inl x) = or_left a b (d.of x)
    back (inr x) = or_right a b (e.of x)

pub dec-not : {a : Bool} {A : Type 0} → Decides a A → Decides (not a) (A → ⊥)
dec-not {a} {A} d = record { is = λ e x. not-both (d.of x) (not-true a e); of = λ f. not-of a (λ e. f (d.is e)) }
  where
    not-of : (a : Bool) → (a ≡ true → ⊥) → not a ≡ true
    not-of true f = absurd (f refl)
    not-of false f = refl

pub dec-cond : (s : Bool) {a b : Bool} {A B : Type 0} → Decides a A → Decides b B → Decides (cond s a b) (cond s A B)
dec-cond true d e = d
dec-cond false d e = e

-- A Bool that isn't true is false.
pub false_of : (b : Bool) → (b ≡ true → ⊥) → b ≡ false
false_of true f = absurd (f refl)
false_of false f = refl

-- The test of a fact that doesn't hold is false.
pub dec-false : {b : Bool} {A : Type 0} → Decides b A → (A → ⊥) → b ≡ false
dec-false {b} d f = false_of b (λ e. f (d.is e))

-- What decides a fact decides each fact equivalent to it.
pub dec-map : {b : Bool} {A B : Type 0} → (A → B) → (B → A) → Decides b A → Decides b B
dec-map f g d = record { is = λ e. f (d.is e); of = λ x. d.of (g x) }

-- Two tests of one fact are equal.
pub dec-unique : {a b : Bool} {A : Type 0} → Decides a A → Decides b A → a ≡ b
dec-unique {a} {b} d e = decide a (λ x. x ∙ sym (e.of (d.is x))) (λ x. x ∙ sym (dec-false e (λ y. not-both (d.of y) x)))

-- A disjunction of tests decides that the second fact holds unless the first does.
pub dec-unless : {a b : Bool} {A B : Type 0} → Decides a A → Decides b B → Decides (a || b) ((A → ⊥) → B)
dec-unless {a} {b} d e = record {
  is = λ x n. e.is (or-rest a b x (dec-false d n));
  of = λ f. decide a (λ x. or_left a b x) (λ x. or_right a b (e.of (f (λ y. not-both (d.of y) x))));
}

-- Three forms of it: the fact holds if s is true;
pub dec_if : (s : Bool) {b : Bool} {B : Type 0} → Decides b B → Decides (not s || b) (s ≡ true → B)
dec_if true d = record { is = λ x e. d.is x; of = λ f. d.of (f refl) }
dec_if false d = record { is = λ x e. absurd (not-both e refl); of = λ f. refl }

-- the second fact holds if b ≤ n;
pub dec-if-le : (n b : ℕ) {c : Bool} {C : Type 0} → Decides c C → Decides (ltb n b || c) (b ≤ n → C)
dec-if-le n b e =
    let g = dec-unless (dec-lt n b) e in
    record { is = λ x l. g.is x (λ u. omega arith); of = λ f. g.of (λ u. let l : b ≤ n = omega arith in f l) }

-- the second fact holds if q isn't 0.
pub dec-if-pos : (q : ℕ) {c : Bool} {C : Type 0} → Decides c C → Decides (eqb q 0 || c) (1 ≤ q → C)
dec-if-pos q e =
    let g = dec-unless (dec-eq q 0) e in
    record { is = λ x l. g.is x (λ z. omega arith); of = λ f. g.of (λ z. let l : 1 ≤ q = omega arith in f l) }
