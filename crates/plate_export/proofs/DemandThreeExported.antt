-- DEMAND 3 OF THE EXPORTED CALLS: the desk after any calls and the plates made, of which its theorem speaks, are what the exported calls
-- hand back and write. Assumes nothing.
use Rattle.std.specs.Prelude.{◌≡◌, refl, false, List, ℕ, ◌≤◌, ◌<◌, length, take, Option, Ok, Err}
use Rattle.std.proofs.Common.{sym, ap, ◌∙◌}
use Rattle.format.specs.Sheet.{point_count}
use Rattle.format.specs.Accepted.{UpTo}
use Rattle.format.specs.MakingQuestions.{making_no}
use Rattle.plate_maker.specs.Making.{make_outcome_of}
use Rattle.desk.specs.Desk.{MarkAnswer, rank_held, mark_of}
use Rattle.desk.specs.declared.Desk.{Desk}
use Rattle.desk.specs.declared.Verdict.{Verdict}
use Rattle.desk.specs.declared.Verdict.TheVariants.{Valid, Clash}
use Rattle.desk.specs.Calls.{load, mark, Calls, no_calls, ◌and_then◌, desk_after, PlateMade}
use Rattle.desk.proofs.DemandThreeProof.{spare-zero as desk-spare-zero, best-held as desk-best-held, ranks-held as desk-ranks-held}
use Rattle.plate_export.specs.declared.MakeResult.{MakeResult}
use Rattle.plate_export.specs.Exported.{MakingExported}
use Rattle.plate_export.specs.ExportedDesk.{verdict_reply, answer_reply}
use Rattle.plate_export.specs.DemandThreeExported.{handed_back, exported_after}

-- the desk in a mark's reply is the one handed back, whatever the answer
verdict-desk : (d : Desk) (k : ℕ) (v : Verdict) → (verdict_reply d k v).desk ≡ d
verdict-desk d k (Valid sum shortfall) = refl
verdict-desk d k (Clash first second kind) = refl

reply-desk : (d : Desk) (a : MarkAnswer) → (answer_reply d a).desk ≡ d
reply-desk d (Ok m) = verdict-desk d m.number m.verdict
reply-desk d (Err r) = refl

-- It is demand 3's desk after these calls. So the next exported call answers as demand 3 says.
pub exported-desk-after : (calls : Calls) → exported_after calls ≡ desk_after calls
unfolding exported_after desk_after
exported-desk-after no_calls = refl
exported-desk-after (calls and_then load s r w) = ap (λ d. handed_back d (load s r w)) (exported-desk-after calls)
exported-desk-after (calls and_then mark l) =
    ap (λ d. handed_back d (mark l)) (exported-desk-after calls) ∙ reply-desk _ (mark_of (desk_after calls) l).answer

-- No byte of a desk is left unset: its spare byte is 0 after any calls.
pub spare-zero : (calls : Calls) → (exported_after calls).held.spare ≡ 0
spare-zero calls = ap (λ d. d.held.spare) (exported-desk-after calls) ∙ desk-spare-zero calls

-- Its best is at most 288, 32 points of rank 9, and its ranks are 1 to 9, after any calls.
pub best-held : (calls : Calls) → (exported_after calls).held.best ≤ 288
best-held calls = rw (exported-desk-after calls) (desk-best-held calls)

pub ranks-held : (calls : Calls) (p : ℕ) → p < point_count (exported_after calls).held.sheet
    → UpTo 9 (rank_held (exported_after calls).held.ranks p)
ranks-held calls p l = rw (exported-desk-after calls) (desk-ranks-held calls p (rw (exported-desk-after calls) at l))

-- Where the number of plate_make or plate_make_ranked is 0, what it wrote is a plate made, in the words of demand 3.
pub exported-plate-made : {s : List ℕ} {l : Option (List ℕ)} {o w o' w' : List ℕ} (r : MakeResult) → MakingExported s l o w r o' w'
    → r.number ≡ 0 → PlateMade s l (take r.written o')
exported-plate-made {s} {l} {o} {w} {o'} {w'} r m z =
    let y : 0 ≡ making_no s l (length o) (length w) = sym z ∙ m.first-no in
    record {
      output = o;
      workspace = w;
      answer = Ok r.written;
      output-after = o';
      workspace-after = w';
      made = record {
        outcome =
            rw (← y) (ap (λ n. record { refused = false; no = 0; written = n }) (m.length ∙ ap (λ k. (make_outcome_of s l k).written) z));
        workspace = rw (← m.first-no) m.workspace;
        output = rw (← m.first-no) m.output;
      };
      not-refused = refl;
      plate = refl;
    }
