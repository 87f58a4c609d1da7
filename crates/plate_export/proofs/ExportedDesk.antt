-- The theorems on the definitions of specs/ExportedDesk.antt. Assumes nothing.
use Rattle.std.specs.Prelude.{◌≡◌, List, ℕ, Option}
use Rattle.std.proofs.Common.{sym, ap, ◌∙◌}
use Rattle.format.specs.MakingQuestions.{workspace_after}
use Rattle.desk.specs.Desk.{LoadAnswer, Loading, load_of, MarkAnswer, Marking, mark_of}
use Rattle.desk.proofs.DeskLaws.{loading-exactly, marking-exactly}
use Rattle.desk.specs.declared.Desk.{Desk}
use Rattle.desk.specs.declared.After.{After}
use Rattle.plate_export.specs.declared.DeskLoadResult.{DeskLoadResult}
use Rattle.plate_export.specs.declared.DeskMarkResult.{DeskMarkResult}
use Rattle.plate_export.specs.ExportedDesk.{load_reply, mark_reply}

-- FROM THE CONTRACTS OF LOAD AND MARK

pub load-replied : {d : Desk} {s : List ℕ} {l : Option (List ℕ)} {w w' : List ℕ} {r : After LoadAnswer} {t : DeskLoadResult}
    → Loading d s l w r w' → t ≡ load_reply r → (t ≡ load_reply (load_of d s l w)) × (w' ≡ workspace_after t.number w)
load-replied {w = w} q e = (
  e ∙ ap load_reply ((loading-exactly _ _ _ _ _ _).0 q).0,
  q.workspace ∙ ap (λ x. workspace_after x.number w) (sym e),
)

pub mark-replied : {d : Desk} {l : List ℕ} {r : After MarkAnswer} {t : DeskMarkResult}
    → Marking d l r → t ≡ mark_reply r → t ≡ mark_reply (mark_of d l)
mark-replied q e = e ∙ ap mark_reply ((marking-exactly _ _ _).0 q)
