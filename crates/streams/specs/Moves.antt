-- What the contracts cite: how many bytes were moved. No contract can speak of what an operating system read or wrote, so a failure says
-- nothing more. Assumes nothing.
use Rattle.std.specs.Prelude.{ℕ, ◌≤◌, List, length, take, Result, IfOk}
use Rattle.std.specs.Io.KnownBytes.{Consumes}
use Rattle.std.specs.declared.option.Option.{Option}
use Rattle.io.specs.Counts.{IsPrefixLen}
use Rattle.streams.specs.declared.Failed.{Failed}

-- the bytes read stand at the start of the buffer
abbrev pub ReadInto : List ℕ → Result ℕ Failed → Type 0
ReadInto buffer read = IfOk read (λ n. IsPrefixLen n buffer)

-- the bytes read are those that the input had next, where its bytes are known
abbrev pub Takes : Option (List ℕ) → Option (List ℕ) → List ℕ → Result ℕ Failed → Type 0
Takes old new buffer read = IfOk read (λ n. Consumes old new (take n buffer))

-- the bytes written are the first of the text
abbrev pub WrittenOf : List ℕ → Result ℕ Failed → Type 0
WrittenOf text written = IfOk written (λ n. n ≤ length text)
