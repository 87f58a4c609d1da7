-- What the contracts cite: the kinds that are known, with the parts of their calls, and what was read. No contract can speak of what an
-- operating system read, so all that isn't a whole call says nothing more. Assumes nothing.
use Rattle.std.specs.Prelude.{ℕ, ◌+◌, ◌*◌, ◌/◌, ◌%◌, ◌≡◌, cond, List, [], ◌∷◌, ◌++◌, take, eqb, ltb, find, Option, Some, None, option_map, IfSome, Result, Ok, Err, IfOk}
use Rattle.std.specs.Io.KnownBytes.{Consumes}
use Rattle.io.specs.Counts.{IsPrefixLen}
use Rattle.streams.specs.declared.Failed.{Failed}
use Rattle.script.specs.declared.Kinds.{Kinds}
use Rattle.script.specs.declared.Kinds.TheVariants.{Desk, All}
use Rattle.script.specs.declared.CallKind.{CallKind}
use Rattle.script.specs.declared.CallKind.TheVariants.{Load, Mark, LoadRanked, Make, Read, MakeRanked}
use Rattle.script.specs.declared.Part.{Part}
use Rattle.script.specs.declared.Part.TheVariants.{Absent, Sized}
use Rattle.script.specs.declared.Form.{Form}
use Rattle.script.specs.declared.Call.{Call}
use Rattle.script.specs.declared.Stop.{Stop}
use Rattle.script.specs.declared.Stop.TheVariants.{Bad}

-- THE KINDS, and the parts of a call of each

-- the number of a kind, a call's first byte. The calls on a desk: 1 loads a sheet, 2 marks a list, 3 loads a sheet with a rank list. Those
-- without one: 11 makes a plate of a sheet, 12 reads a plate, 13 makes a plate of a sheet with a rank list
abbrev pub number_of : CallKind → ℕ
number_of Load = 1
number_of Mark = 2
number_of LoadRanked = 3
number_of Make = 11
number_of Read = 12
number_of MakeRanked = 13

-- the kinds of calls that a program knows: those on a desk,
abbrev pub known : Kinds → List CallKind
known kinds = Load ∷ Mark ∷ LoadRanked ∷ more_known kinds
  where
    -- and, if it knows all, those without one
    more_known : Kinds → List CallKind
    more_known Desk = []
    more_known All = Make ∷ Read ∷ MakeRanked ∷ []

-- the kind of a call whose first byte is this, where a program knows these kinds
unfoldable pub kind_of : Kinds → ℕ → Option CallKind
kind_of kinds byte = find (λ kind. eqb byte (number_of kind)) (known kinds)

-- a call of one part
abbrev pub one_part : Form
one_part = record { first = Sized; second = Absent }

-- a call of two parts
abbrev pub two_parts : Form
two_parts = record { first = Sized; second = Sized }

-- the form of a call of this kind: a sheet, a list or a plate; or a sheet and a rank list
abbrev pub form : CallKind → Form
form Load = one_part
form Mark = one_part
form LoadRanked = two_parts
form Make = one_part
form Read = one_part
form MakeRanked = two_parts

-- the form of a call whose first byte is this, where a program knows these kinds
abbrev pub form_of : Kinds → ℕ → Option Form
form_of kinds byte = option_map form (kind_of kinds byte)

-- WHAT WAS READ

-- the number in two bytes, low byte first
abbrev pub number_in : ℕ → ℕ → ℕ
number_in low high = low + 256 * high

-- a part of `count` bytes of which `got` were there is whole if none is missing
unfoldable pub part_of : ℕ → ℕ → Result ℕ Stop
part_of count got = cond (ltb got count) (Err Bad) (Ok count)

-- a whole part has as many bytes as its length says, and stands at the start of the buffer
abbrev pub PartOf : ℕ → List ℕ → Result ℕ Stop → Type 0
PartOf count buffer part = IfOk part (λ n. (n ≡ count) × IsPrefixLen n buffer)

-- a whole part of n bytes stands at the start of the buffer; one that the call doesn't have has no bytes
abbrev pub Stands : Part → List ℕ → ℕ → Type 0
Stands Absent buffer n = n ≡ 0
Stands Sized buffer n = IsPrefixLen n buffer

-- what was read of a part
abbrev pub PartIn : Part → List ℕ → Result ℕ Stop → Type 0
PartIn part buffer read = IfOk read (λ n. Stands part buffer n)

-- the parts of a whole call, of n and m bytes, stand in their buffers;
abbrev pub PartsStand : Form → List ℕ → List ℕ → ℕ → ℕ → Type 0
PartsStand form first second n m = Stands form.first first n × Stands form.second second m

-- a kind that isn't known has no whole call
abbrev pub BothStand : Option Form → List ℕ → List ℕ → ℕ → ℕ → Type 0
BothStand (Some form) first second n m = PartsStand form first second n m
BothStand None first second n m = ⊥

-- a call of this kind
abbrev pub CallOf : CallKind → List ℕ → List ℕ → Result Call Stop → Type 0
CallOf kind first second read = IfOk read (λ call. (call.kind ≡ kind) × PartsStand (form kind) first second call.first call.second)

-- P of the call, if one was read
abbrev pub IfCall : Result (Option Call) Stop → (Call → Type 0) → Type 0
IfCall read P = IfOk read (λ next. IfSome next P)

-- a call is of a kind that is known, and has that kind's parts
abbrev pub CallIn : Kinds → List ℕ → List ℕ → Result (Option Call) Stop → Type 0
CallIn kinds first second read =
    IfCall read (λ call. BothStand (form_of kinds (number_of call.kind)) first second call.first call.second)

-- WHAT IS TAKEN of an input whose bytes are known: a whole call's bytes, and no more. `old` and `new` are the bytes that the input has left
-- before and after

-- the bytes of a part of n bytes: its length, low byte first, and those in the buffer; none, if the call doesn't have it
abbrev pub part_bytes : Part → List ℕ → ℕ → List ℕ
part_bytes Absent buffer n = []
part_bytes Sized buffer n = n % 256 ∷ n / 256 ∷ take n buffer

-- the bytes of both parts
abbrev pub parts_bytes : Form → List ℕ → List ℕ → ℕ → ℕ → List ℕ
parts_bytes form first second n m = part_bytes form.first first n ++ part_bytes form.second second m

-- a call's first byte
abbrev pub KindTaken : Option (List ℕ) → Option (List ℕ) → Result (Option ℕ) Failed → Type 0
KindTaken old new read = IfOk read (λ next. IfSome next (λ byte. Consumes old new (byte ∷ [])))

-- a whole part's bytes without its length
abbrev pub BytesTaken : Option (List ℕ) → Option (List ℕ) → List ℕ → Result ℕ Stop → Type 0
BytesTaken old new buffer read = IfOk read (λ n. Consumes old new (take n buffer))

-- a whole part's bytes
abbrev pub PartTaken : Option (List ℕ) → Option (List ℕ) → Part → List ℕ → Result ℕ Stop → Type 0
PartTaken old new part buffer read = IfOk read (λ n. Consumes old new (part_bytes part buffer n))

-- what follows a whole call's first byte
abbrev pub PartsTaken : Option (List ℕ) → Option (List ℕ) → CallKind → List ℕ → List ℕ → Result Call Stop → Type 0
PartsTaken old new kind first second read =
    IfOk read (λ call. Consumes old new (parts_bytes (form kind) first second call.first call.second))

-- a whole call
abbrev pub CallTaken : Option (List ℕ) → Option (List ℕ) → List ℕ → List ℕ → Result (Option Call) Stop → Type 0
CallTaken old new first second read =
    IfCall read (λ call. Consumes old new (number_of call.kind ∷ parts_bytes (form call.kind) first second call.first call.second))
