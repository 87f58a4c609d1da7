-- What the questions of a plate ask, as facts, and how a plate's bytes are read. proofs/PlateSections.antt has a plate's bytes from its
-- sections, and its sections from the bytes that plate_of gives. Assumes nothing.
use Rattle.std.specs.Prelude.{None, ◌≡◌, true, List, ℕ, ◌+◌, ◌*◌, ◌≤◌}
use Rattle.std.proofs.Math.ListN.{length}
use Rattle.format.specs.Sheet.{point_count, points_of, sheet_length}
use Rattle.format.specs.Accepted.{Proper}
use Rattle.format.specs.Plate.{choice_of}
use Rattle.format.specs.Ascending.{ascending}
use Rattle.clash.specs.FirstClash.{first_clash}
use Rattle.plate_reader.specs.PlateQuestions.{sheet_of, inside_count, inside_list, outside_start}
use Rattle.plate_reader.specs.PlateQuestions.{outside_count, outside_pairs, pairs_right}

-- THE QUESTIONS AS FACTS

-- 41: the sections have all their bytes, end where the plate ends, and hold n points together.
pub record Fitting (p : List ℕ) : Type 0 where
  pub ends : length p ≡ outside_start p + 1 + 2 * outside_count p
  pub together : inside_count p + outside_count p ≡ point_count p

-- What the questions ask of a plate.
pub record Asked (p : List ℕ) : Type 0 where
  pub proper : Proper p
  pub long : sheet_length p ≤ length p
  pub fits : Fitting p
  pub inside : ascending (point_count p) (inside_list p) ≡ true
  pub outside : pairs_right (points_of (sheet_of p)) (choice_of (inside_list p)) (outside_pairs p) ≡ true
  pub apart : first_clash (points_of (sheet_of p)) (choice_of (inside_list p)) ≡ None

-- THE SECTIONS READ BACK

-- The bytes p read as the sheet s, the inside list l, the outside count o and the outside pairs b.
pub record Parts (p s l : List ℕ) (o : ℕ) (b : List ℕ) : Type 0 where
  pub points : point_count p ≡ point_count s
  pub sheet : sheet_of p ≡ s
  pub inside-count : inside_count p ≡ length l
  pub inside : inside_list p ≡ l
  pub outside-count : outside_count p ≡ o
  pub outside : outside_pairs p ≡ b
