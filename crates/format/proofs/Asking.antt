-- Facts about questions: what a number is where an answer is no, and where it is yes; and a cascade of them, one question at a time.
-- Assumes nothing.
use Rattle.std.specs.Prelude.{◌≡◌, refl, Bool, true, false, not, ◌&&◌, ℕ, ◌≤◌, eqb}
use Rattle.std.proofs.Common.{sym, ◌∙◌, eq-eqb, ne_eqb, eqb-true}
use Rattle.std.proofs.lemmas.Bool.{eqb-false, not-true, not-false}
use Rattle.labeling.proofs.Decide.{decide}
use Rattle.format.specs.Sheet.{ask, then_no}
use Rattle.format.specs.Accepted.{NoneOf}

-- A QUESTION whose test is b: the answer is no, and its number is returned; or it is yes, and the later questions decide
pub ask-no : (b : Bool) (k after : ℕ) → b ≡ false → k ≡ ask b k after
ask-no b k after e = rw e

pub ask-yes : (b : Bool) (k after x : ℕ) → b ≡ true → x ≡ after → x ≡ ask b k after
ask-yes b k after x e q = rw e q

-- a result r that equals the test b, and the branch that was taken on `!r`
pub off : (r b : Bool) → r ≡ b → not r ≡ true → b ≡ false
off r b e t = sym e ∙ not-true r t

pub on : (r b : Bool) → r ≡ b → not r ≡ false → b ≡ true
on r b e t = sym e ∙ not-false r t

-- TWO TESTS, one after the other: the first fails, or the second decides
pub and_no : (a b : Bool) → a ≡ false → false ≡ (a && b)
and_no a b e = rw e

pub and_yes : (a b r : Bool) → a ≡ true → r ≡ b → r ≡ (a && b)
and_yes a b r e q = rw e q

-- TWO LISTS OF QUESTIONS: the first has no no, and the later decides; or the first has one
pub then-later : (first later x : ℕ) → first ≡ 0 → x ≡ later → x ≡ then_no first later
then-later first later x e q = rw (eq-eqb first 0 e) q

pub then-first : (first later x : ℕ) → (first ≡ 0 → ⊥) → x ≡ first → x ≡ then_no first later
then-first first later x ne q = rw (ne_eqb first 0 ne) q

-- A CASCADE, QUESTION BY QUESTION

-- A rung: the first no of the whole cascade, and the number that its questions from here on give. The two are the same, since the
-- questions before are answered yes. At the end, `same` says what is returned.
pub record Rung : Type 0 where
  pub no : ℕ
  pub rest : ℕ
  pub same : rest ≡ no

-- before the first question
abbrev pub first_of : ℕ → Rung
first_of m = record { no = m; rest = m; same = refl }

-- the next question, whose test is b, is answered yes
abbrev pub past : (g : Rung) (b : Bool) (k after : ℕ) → g.rest ≡ ask b k after → b ≡ true → Rung
past g b k after q e = record { no = g.no; rest = after; same = ask-yes b k after after e refl ∙ sym q ∙ g.same }

-- or no, and its number is returned
pub stops : (g : Rung) (b : Bool) (k after : ℕ) → g.rest ≡ ask b k after → b ≡ false → k ≡ g.no
stops g b k after q e = ask-no b k after e ∙ sym q ∙ g.same

-- A result r of the code, and the test that it answers.
pub record Answer (r : Bool) : Type 0 where
  pub test : Bool
  pub right : r ≡ test

abbrev pub answers : {r b : Bool} → r ≡ b → Answer r
answers {r} {b} e = record { test = b; right = e }

-- the next question is answered by a result r, and the code branches on `!r`
abbrev pub past_answer : (g : Rung) {r : Bool} (a : Answer r) (k after : ℕ) → g.rest ≡ ask a.test k after → not r ≡ false → Rung
past_answer g {r} a k after q t = past g a.test k after q (on r a.test a.right t)

pub stops-answer : (g : Rung) {r : Bool} (a : Answer r) (k after : ℕ) → g.rest ≡ ask a.test k after → not r ≡ true → k ≡ g.no
stops-answer g {r} a k after q t = stops g a.test k after q (off r a.test a.right t)

-- a list of questions comes next, and has no no
abbrev pub past_list : (g : Rung) (first later : ℕ) → g.rest ≡ then_no first later → first ≡ 0 → Rung
past_list g first later q e = record { no = g.no; rest = later; same = then-later first later later e refl ∙ sym q ∙ g.same }

-- or has one, which is returned
pub stops-list : (g : Rung) (first later x : ℕ) → g.rest ≡ then_no first later → (first ≡ 0 → ⊥) → x ≡ first → x ≡ g.no
stops-list g first later x q ne e = then-first first later x ne e ∙ sym q ∙ g.same

-- NONE IS ANSWERED NO

-- neither of two lists of questions has a no; the later is asked where A holds
pub none_after : {first later : ℕ} {A B : Type 0} → NoneOf first A → (A → NoneOf later B) → NoneOf (then_no first later) (A × B)
none_after {first} {later} a b = record {
  is = λ z. decide (eqb first 0)
      (λ t. let x = a.is (eqb-true first 0 t) in (x, (b x).is (rw t at z)))
      (λ t. let e : first ≡ 0 = rw t at z in absurd (eqb-false first 0 t e));
  of = λ y. rw (eq-eqb first 0 (a.of y.0)) ((b y.0).of y.1);
}

pub none_then : {first later : ℕ} {A B : Type 0} → NoneOf first A → NoneOf later B → NoneOf (then_no first later) (A × B)
none_then a b = none_after a (λ x. b)

-- WHAT EACH NUMBER HAS, the first no has

pub ask-has : (A : ℕ → Type 0) (b : Bool) (k after : ℕ) → A k → A after → A (ask b k after)
ask-has A b k after x y = decide b (λ e. rw e y) (λ e. rw e x)

pub then-has : (A : ℕ → Type 0) (first later : ℕ) → A first → A later → A (then_no first later)
then-has A first later x y = decide (eqb first 0) (λ e. rw e y) (λ e. rw e x)

-- so none is above m, where none of theirs is
pub ask-most : (b : Bool) (m k after : ℕ) → k ≤ m → after ≤ m → ask b k after ≤ m
ask-most b m k after x y = ask-has (λ z. z ≤ m) b k after x y

pub then-most : (m first later : ℕ) → first ≤ m → later ≤ m → then_no first later ≤ m
then-most m first later x y = then-has (λ z. z ≤ m) first later x y
