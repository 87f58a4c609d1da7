-- An outcome of a load, of a verdict and of a mark fixes the answer. Assumes nothing.
use Rattle.std.specs.Prelude.{◌≡◌, refl, Some, Ok, Err}
use Rattle.std.proofs.Common.{sym, ap, ◌∙◌, true≢false}
use Rattle.format.specs.declared.refusal.Refusal.{Refusal}
use Rattle.format.specs.Answers.{number, refusal_of, outcome}
use Rattle.format.proofs.Answers.{refusal-number}
use Rattle.desk.specs.declared.Verdict.{Verdict}
use Rattle.desk.specs.declared.Verdict.TheVariants.{Valid, Clash as ClashVerdict}
use Rattle.desk.specs.Desk.{LoadAnswer, verdict_outcome, MarkAnswer, mark_outcome}

-- a number fixes the refusal
number-fixes : (x y : Refusal) → number x ≡ number y → x ≡ y
number-fixes x y e = sym (refusal-number x) ∙ ap refusal_of e ∙ refusal-number y

-- an outcome fixes the answer, case and refusal
pub load-outcome-fixes : (a b : LoadAnswer) → outcome a ≡ outcome b → a ≡ b
load-outcome-fixes (Ok x) (Ok y) e = refl
load-outcome-fixes (Ok x) (Err y) e = absurd (true≢false (λ i. (sym e i).refused))
load-outcome-fixes (Err x) (Ok y) e = absurd (true≢false (λ i. (e i).refused))
load-outcome-fixes (Err x) (Err y) e = ap Err (number-fixes x y (λ i. (e i).no))

-- an outcome fixes the verdict,
pub verdict-outcome-fixes : (v u : Verdict) → verdict_outcome v ≡ verdict_outcome u → v ≡ u
verdict-outcome-fixes (Valid n f) (Valid m g) e =
    let p : Some n ≡ Some m = λ i. (e i).sum in
    let q : Some f ≡ Some g = λ i. (e i).shortfall in
    cc
verdict-outcome-fixes (Valid n f) (ClashVerdict i j k) e = absurd (true≢false (λ t. (e t).valid))
verdict-outcome-fixes (ClashVerdict i j k) (Valid m g) e = absurd (true≢false (λ t. (sym e t).valid))
verdict-outcome-fixes (ClashVerdict i j k) (ClashVerdict a b c) e =
    let p : Some i ≡ Some a = λ t. (e t).first in
    let q : Some j ≡ Some b = λ t. (e t).second in
    let r : Some k ≡ Some c = λ t. (e t).kind in
    cc

-- and the answer: case, refusal, number and verdict
pub mark-outcome-fixes : (a b : MarkAnswer) → mark_outcome a ≡ mark_outcome b → a ≡ b
mark-outcome-fixes (Ok m) (Ok n) e =
    let p : Some m.number ≡ Some n.number = λ i. (e i).number in
    let q : Some (verdict_outcome m.verdict) ≡ Some (verdict_outcome n.verdict) = λ i. (e i).verdict in
    let w : m.verdict ≡ n.verdict = verdict-outcome-fixes m.verdict n.verdict (cc) in
    let k : m.number ≡ n.number = cc in
    λ i. Ok (record { number = k i; verdict = w i })
mark-outcome-fixes (Ok m) (Err y) e = absurd (true≢false (λ i. (sym e i).refused))
mark-outcome-fixes (Err x) (Ok n) e = absurd (true≢false (λ i. (e i).refused))
mark-outcome-fixes (Err x) (Err y) e = ap Err (number-fixes x y (λ i. (e i).no))
