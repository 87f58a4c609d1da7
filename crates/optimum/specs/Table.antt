-- What the table holds, and what the functions over it ask and leave: definitions. Assumes nothing.
use Rattle.std.specs.Prelude.{◌≡◌, ℕ, suc, ◌+◌, ◌-◌, ◌*◌, ◌<◌, ◌≤◌, max, Bool, true, false, cond, ◌&&◌, List, length, ◌≢◌, nat_le, nat_lt, slice_set}
use Rattle.recurrence.specs.Recurrence.{Heights, Point, between, value, join, recovered}
use Rattle.recurrence.specs.Recovered.{TakesDown}
use Rattle.orders.specs.Arrays.{heights_of}
use Rattle.orders.specs.Sums.{tet}
use Rattle.orders.specs.Layout.{field_cells, weight_bound}
use Rattle.optimum.specs.Places.{table_cells}
use Rattle.optimum.specs.Split.{flagged}
use Rattle.orders.specs.Words.{value_at}
use Rattle.optimum.specs.Entries.{note_at}
use Rattle.optimum.specs.Slabs.{open_below, slab_has, slab_below, slab_value, slab_out, slab_takes, slab_recovered, slab_place, Proper}
use Rattle.optimum.specs.declared.table.Slab.{Slab}
use Rattle.optimum.specs.declared.table.Found.{Found}
use Rattle.optimum.specs.declared.values.Run.{Run}
use Rattle.std.specs.declared.ops.ControlFlow.{ControlFlow}
use Rattle.std.specs.declared.ops.ControlFlow.TheVariants.{Continue, Break}

-- THE CUT of a slab: it is cut at the point of rank k - 1 or, where k is 0, nowhere. The recovery takes in the open points of greater rank,
-- and leaves that point outside.
pub record CutAt (H : Heights) (x : Slab) (k : ℕ) : Type 0 where
  pub below : k ≤ open_below H x
  pub above : TakesDown H k (open_below H x) x.lower x.upper x.reaching
  pub within : (t : ℕ) → k ≡ suc t → slab_has x (H.at_rank t) ≡ true
  pub out : (t : ℕ) → k ≡ suc t → slab_takes H t x ≡ false

-- f is right of a slab: it has its value and, where the slab has a choice, its cut.
pub record Settled (H : Heights) (x : Slab) (f : Found) : Type 0 where
  pub value : f.value ≡ slab_value H x
  pub below : f.cut ≤ open_below H x
  pub cut : 1 ≤ f.value → CutAt H x f.cut

-- The table has room for the values and the notes of 32 points.
abbrev pub Room : List ℕ → Type 0
Room table = table_cells ≤ length table

-- The entry at a place. Its note is 0 as long as nothing is known of it, and then one more than the cut.
abbrev pub entry_at : List ℕ → ℕ → Found
entry_at table i = record { value = value_at table i; cut = note_at table i - 1 }

-- WHAT IS NOTED IS RIGHT.
pub record Memo (H : Heights) (table : List ℕ) : Type 0 where
  pub room : Room table
  pub right : (x : Slab) → Proper H x → (note_at table (slab_place x) ≢ 0) → Settled H x (entry_at table (slab_place x))

-- WHAT THE FUNCTIONS ASK, AND WHAT THEY LEAVE

-- A slab of the points in the array s.
pub record Ready (s : List ℕ) (x : Slab) : Type 0 where
  pub proper : Proper (heights_of s) x

-- With a table for it.
pub record Asked (s table : List ℕ) (x : Slab) : Type 0 where
  pub ready : Ready s x
  pub memo : Memo (heights_of s) table

-- Entries may have been added to the table.
pub record Kept (s table table' : List ℕ) : Type 0 where
  pub memo : Memo (heights_of s) table'
  pub same : length table' ≡ length table

-- No entry of the points in the array is noted.
pub record Unnoted (s table table' : List ℕ) : Type 0 where
  pub same : length table' ≡ length table
  pub none : (i : ℕ) → i < tet ((heights_of s).n + 3) → note_at table' i ≡ 0

-- r is the value of a slab, whose entry is noted now.
pub record Valued (s : List ℕ) (x : Slab) (r : ℕ) (table table' : List ℕ) : Type 0 where
  pub is : r ≡ slab_value (heights_of s) x
  pub kept : Kept s table table'
  pub noted : note_at table' (slab_place x) ≡ 0 → ⊥

-- p is an open point of a slab.
pub record Opened (s : List ℕ) (x : Slab) (p : ℕ) : Type 0 where
  pub ready : Ready s x
  pub point : Point (heights_of s) p
  pub low : x.lower < p
  pub high : p < x.upper
  pub below : (heights_of s).rank p < open_below (heights_of s) x

-- With a table for it, and the weight put inside so far.
pub record Cutting (s table : List ℕ) (x : Slab) (p acc : ℕ) : Type 0 where
  pub opened : Opened s x p
  pub memo : Memo (heights_of s) table
  pub some : 1 ≤ acc
  pub room : acc ≤ 64 * weight_bound

-- r is what p gives outside, with that weight.
pub record ValuedOutside (s : List ℕ) (x : Slab) (p acc r : ℕ) (table table' : List ℕ) : Type 0 where
  pub is : r ≡ join acc (slab_out (heights_of s) ((heights_of s).rank p) x)
  pub kept : Kept s table table'

-- ONE ENTRY

-- The better of two values, with its cut; of equal ones the first.
unfoldable pub better_of : Found → Found → Found
better_of f g = cond (nat_lt f.value g.value) g f

-- Where the entry's loop stands at rank t. acc is one more than the weight of the points put inside so far, and has room for the weights
-- to come; best is the best with a point left outside so far. The value is the greater of best's and of acc joined with the value below
-- rank t. Where the second is greater, every point of rank t or more is taken in; where it isn't, best has its cut.
pub record Running (H : Heights) (x : Slab) (t : ℕ) (r : Run) : Type 0 where
  pub below : t ≤ open_below H x
  pub some : 1 ≤ r.acc
  pub room : r.acc + t * weight_bound ≤ 32 * weight_bound + 1
  pub comes : slab_value H x ≡ max r.best.value (join r.acc (slab_below H t x))
  pub cut_below : r.best.cut ≤ open_below H x
  pub inside : r.best.value < join r.acc (slab_below H t x) → TakesDown H t (open_below H x) x.lower x.upper x.reaching
  pub outside : 1 ≤ r.best.value → join r.acc (slab_below H t x) ≤ r.best.value → CutAt H x r.best.cut

-- A step at rank t: the loop goes on, or ends with the best.
abbrev pub Step : Heights → Slab → ℕ → ControlFlow Found Run → Type 0
Step H x t (Continue r) = Running H x t r
Step H x t (Break f) = Settled H x f

-- What a step leaves.
pub record Stepped (s : List ℕ) (x : Slab) (t : ℕ) (r : ControlFlow Found Run) (table table' : List ℕ) : Type 0 where
  pub step : Step (heights_of s) x t r
  pub kept : Kept s table table'

-- THE RECOVERY

-- The flag of an inside point; that of an outside point is false.
abbrev pub inside_flag : Bool
inside_flag = true

-- A slab that has a choice, and the table.
pub record Recoverable (s table : List ℕ) (x : Slab) : Type 0 where
  pub asked : Asked s table x
  pub some : 1 ≤ slab_value (heights_of s) x

-- The flags of the points that the recovery of the ranks below t puts inside are set, and no others changed.
pub record Flagged (H : Heights) (t : ℕ) (x : Slab) (flags flags' : List Bool) : Type 0 where
  pub same : length flags' ≡ length flags
  pub set : (i : ℕ) → i ≤ H.n → flagged flags' i ≡ cond (slab_recovered H t x i) inside_flag (flagged flags i)

-- They are, and the table may have grown.
pub record FlaggedBelow (s : List ℕ) (t : ℕ) (x : Slab) (flags flags' : List Bool) (table table' : List ℕ) : Type 0 where
  pub flagged : Flagged (heights_of s) t x flags flags'
  pub kept : Kept s table table'

-- The point i is open, and of rank k or more.
unfoldable pub taken : Heights → ℕ → ℕ → ℕ → Bool
taken H k t i = nat_le k (H.rank i) && nat_lt (H.rank i) t

-- Its flag is set.
unfoldable pub flagged_taken : Heights → ℕ → ℕ → ℕ → List Bool → List Bool
flagged_taken H k t i flags = cond (taken H k t i) (slice_set flags i inside_flag) flags

-- The flags of such points below i are set, and no others changed.
pub record Taking (H : Heights) (x : Slab) (k i : ℕ) (flags flags' : List Bool) : Type 0 where
  pub low : x.lower < i
  pub high : i ≤ x.upper
  pub same : length flags' ≡ length flags
  pub set : (j : ℕ) → flagged flags' j ≡ cond (between x.lower j i && taken H k (open_below H x) j) inside_flag (flagged flags j)

-- The flags of the points of rank k or more are set: whatever sets those below from there on sets all of them.
pub record FlaggedDown (H : Heights) (x : Slab) (k : ℕ) (flags flags' : List Bool) : Type 0 where
  pub same : length flags' ≡ length flags
  pub whole : (flags'' : List Bool) → Flagged H k x flags' flags'' → Flagged H (open_below H x) x flags flags''

-- THE WHOLE

-- No flag is set.
pub record Blank (flags : List Bool) : Type 0 where
  pub long : length flags ≡ field_cells
  pub zero : (i : ℕ) → i < field_cells → flagged flags i ≡ false

-- THE RESULT: r is the value of all points, 0 where no choice is without conflicts. Where there is one, each point's flag is as the
-- recovery puts it.
pub record Solved (H : Heights) (flags : List Bool) (r : ℕ) : Type 0 where
  pub best : r ≡ value H H.n 0 (suc H.n) 0
  pub flagged : 1 ≤ r → (i : ℕ) → Point H i → flagged flags i ≡ cond (recovered H H.n 0 (suc H.n) 0 i) inside_flag false
