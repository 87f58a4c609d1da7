-- What an answer says, whatever the call: document 01's number of each refusal, and of an answer. Assumes nothing.
use Rattle.std.specs.Prelude.{◌≡◌, Bool, true, false, cond, not, ℕ, eqb, Result, Ok, Err}
use Rattle.format.specs.declared.refusal.Refusal.{Refusal}
use Rattle.format.specs.declared.refusal.Refusal.TheVariants.{TooShort, FrameCount, MapSides, LabelSides, PointCount, SheetLength, CallNumber, OffMap, SameCallNumber, SamePixel, OutputRoom, WorkspaceRoom, ListLength, ListPosition, ListOrder, PlateSections, InsideOrder, OutsidePairs, PlateClash, NoSheet, NoNumberLeft, NoValidChoice, RankCount, RankRange}

-- What an answer says: whether the call is refused, and the number of the first no (0 where nothing is refused).
pub record Outcome : Type 0 where
  pub refused : Bool
  pub no : ℕ

-- The outcome of questions whose first no is k, 0 for none.
abbrev pub outcome_of : ℕ → Outcome
outcome_of k = record { refused = not (eqb k 0); no = k }

-- The number of each refusal, as the documents have it behind its question.
abbrev pub number : Refusal → ℕ
number TooShort = 11
number FrameCount = 12
number MapSides = 13
number LabelSides = 14
number PointCount = 15
number SheetLength = 16
number CallNumber = 17
number OffMap = 18
number SameCallNumber = 19
number SamePixel = 20
number OutputRoom = 21
number WorkspaceRoom = 22
number ListLength = 31
number ListPosition = 32
number ListOrder = 33
number PlateSections = 41
number InsideOrder = 42
number OutsidePairs = 43
number PlateClash = 44
number NoSheet = 51
number NoNumberLeft = 52
number NoValidChoice = 61
number RankCount = 62
number RankRange = 63

-- The refusal with the number k; RankRange where k is no refusal's number (IsNumber says that it is one).
unfoldable pub refusal_of : ℕ → Refusal
refusal_of k =
    cond (eqb k 11) TooShort (
    cond (eqb k 12) FrameCount (
    cond (eqb k 13) MapSides (
    cond (eqb k 14) LabelSides (
    cond (eqb k 15) PointCount (
    cond (eqb k 16) SheetLength (
    cond (eqb k 17) CallNumber (
    cond (eqb k 18) OffMap (
    cond (eqb k 19) SameCallNumber (
    cond (eqb k 20) SamePixel (
    cond (eqb k 21) OutputRoom (
    cond (eqb k 22) WorkspaceRoom (
    cond (eqb k 31) ListLength (
    cond (eqb k 32) ListPosition (
    cond (eqb k 33) ListOrder (
    cond (eqb k 41) PlateSections (
    cond (eqb k 42) InsideOrder (
    cond (eqb k 43) OutsidePairs (
    cond (eqb k 44) PlateClash (
    cond (eqb k 51) NoSheet (
    cond (eqb k 52) NoNumberLeft (
    cond (eqb k 61) NoValidChoice (
    cond (eqb k 62) RankCount (
    RankRange)))))))))))))))))))))))

-- The number of an answer's first no, 0 where nothing is refused: "The first no ends the call with its number".
abbrev pub no_of : {A : Type 0} → Result A Refusal → ℕ
no_of (Ok x) = 0
no_of (Err r) = number r

-- The cases of an answer.
abbrev pub outcome : {A : Type 0} → Result A Refusal → Outcome
outcome (Ok x) = record { refused = false; no = 0 }
outcome (Err r) = record { refused = true; no = number r }

-- The answer where the first no is k: x where there is none.
abbrev pub answered : {A : Type 0} → ℕ → A → Result A Refusal
answered k x = cond (eqb k 0) (Ok x) (Err (refusal_of k))

-- k is the number of some answer: 0, or that of a refusal.
pub record IsNumber (k : ℕ) : Type 0 where
  pub is : no_of (answered k (tt {0})) ≡ k
