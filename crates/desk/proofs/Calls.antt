-- A list is marked exactly if its mark's questions are answered yes, said in facts. Assumes nothing.
use Rattle.std.specs.Prelude.{◌≡◌, true, ◌↔◌, List, ℕ, ◌<◌}
use Rattle.mark_questions.specs.MarkQuestions.{list_no}
use Rattle.mark_questions.proofs.Lists.{none_list, none-mark}
use Rattle.desk.specs.Calls.{Calls, loaded_after, last_taken, points_in, last_number, MarkedAfter}

-- which is: a sheet is loaded, 31 to 33 are answered yes with its n, and the last number is below 9,999
pub marked-exactly : (calls : Calls) (l : List ℕ)
    → MarkedAfter calls l ↔ ((loaded_after calls ≡ true) × (list_no (points_in (last_taken calls)) l ≡ 0) × (last_number calls < 9999))
marked-exactly calls l =
    let m = none-mark (loaded_after calls) (points_in (last_taken calls)) (last_number calls) l in
    let n = none_list (points_in (last_taken calls)) l in
    (λ z. ((m.is z).0.0, n.of (m.is z).0.1, (m.is z).1.0), λ a. m.of ((a.0, n.is a.1), (a.2, tt)))
