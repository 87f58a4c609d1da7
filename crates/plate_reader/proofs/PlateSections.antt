-- What the questions of a plate ask, as facts; a plate's bytes from its sections, and its sections from the bytes that plate_of gives.
-- Assumes nothing.
use Rattle.std.specs.Prelude.{Option, None, Some, ◌≡◌, true, not, List, [], ◌∷◌, ◌++◌, ℕ, suc, ◌+◌, ◌*◌, ◌≤◌, ◌<◌, get_or}
use Rattle.std.proofs.Math.Path.{refl, sym, ap, ap₂}
use Rattle.std.proofs.Common.{◌∙◌, append_assoc, length-drop, take-append-drop, drop-cons, drop-drop, arith}
use Rattle.std.proofs.Math.ListN.{length, take, drop, length-append, get_or-append}
use Rattle.std.proofs.Math.Seq.{length-take-le, get_or-take, take_at, drop_at}
use Rattle.std.proofs.lemmas.List.{get_or_at}
use Rattle.labeling.specs.Points.{outside}
use Rattle.labeling.proofs.Decide.{not-both, Decides, dec-eq, dec-and, dec-true}
use Rattle.labeling.specs.Best.{count, weight, weight_below, one_each}
use Rattle.format.proofs.Asking.{none_then}
use Rattle.format.specs.Sheet.{two_bytes, point_count, points_of, sheet_length}
use Rattle.format.specs.Accepted.{Proper, Accepted, NoneOf}
use Rattle.format.proofs.Accepted.{none-ask, none_left, none-plate-sheet}
use Rattle.format.specs.Plate.{choice_of, inside_below}
use Rattle.format.proofs.PlateLength.{inside-length, inside-outside}
use Rattle.format.specs.Ascending.{ascending}
use Rattle.format.proofs.InsideList.{list-of-choice}
use Rattle.clash.specs.declared.Clash.{Clash}
use Rattle.clash.specs.FirstClash.{is_clash, first_clash}
use Rattle.plate_reader.specs.PlateQuestions.{sheet_of, inside_count, inside_start, inside_list, outside_start}
use Rattle.plate_reader.specs.PlateQuestions.{outside_count, outside_pairs, sections_fit, pairs_right, sections_no, plate_no}
use Rattle.plate_reader.specs.PlateSections.{Fitting, Asked, Parts}

pub dec-fit : (p : List ℕ) → Decides (sections_fit p) (Fitting p)
unfolding sections_fit
dec-fit p =
    let d =
    dec-and (dec-eq (length p) (outside_start p + 1 + 2 * outside_count p)) (dec-eq (inside_count p + outside_count p) (point_count p)) in
    record { is = λ e. let x = d.is e in record { ends = x.0; together = x.1 }; of = λ f. d.of (f.ends, f.together) }

-- 44: there is no clash.
dec-none : (c : Option Clash) → Decides (not (is_clash c)) (c ≡ None)
dec-none None = record { is = λ e. refl; of = λ e. refl }
dec-none (Some c) = record { is = λ e. absurd (not-both refl (sym e)); of = λ e. absurd (not-both refl (ap is_clash e)) }

none-sections : (p : List ℕ)
    → NoneOf (sections_no p)
    (Fitting p
    × ((ascending (point_count p) (inside_list p) ≡ true)
    × ((pairs_right (points_of (sheet_of p)) (choice_of (inside_list p)) (outside_pairs p) ≡ true)
    × ((first_clash (points_of (sheet_of p)) (choice_of (inside_list p)) ≡ None) × Unit {0}))))
unfolding sections_no
none-sections p =
    none-ask 41 (omega arith) (dec-fit p)
    (none-ask 42 (omega arith) (dec-true _)
    (none-ask 43 (omega arith) (dec-true _)
    (none-ask 44 (omega arith) (dec-none _) none_left)))

-- A PLATE HAS NO NO exactly if it has what the questions ask.
pub none-plate : (p : List ℕ) → NoneOf (plate_no p) (Asked p)
unfolding plate_no
none-plate p =
    let d = none_then (none-plate-sheet p) (none-sections p) in
    record {
      is = λ e. let x = d.is e in
          record {
            proper = x.0.0;
            long = x.0.1;
            fits = x.1.0;
            inside = x.1.1.0;
            outside = x.1.1.1.0;
            apart = x.1.1.1.1.0;
          };
      of = λ a. d.of ((a.proper, a.long), (a.fits, (a.inside, (a.outside, (a.apart, tt)))));
    }

-- THE SHEET AT THE START

-- two byte lists with the same sheet at their start: what is proper in the one is so in the other
module _ (s t : List ℕ) (alike : (k : ℕ) → k < sheet_length s → get_or s k 0 ≡ get_or t k 0) where
  two-same : (k : ℕ) → k + 1 < sheet_length s → two_bytes s k ≡ two_bytes t k
  unfolding two_bytes
  two-same k l = ap₂ (λ a b. a + 256 * b) (alike k (omega arith)) (alike (k + 1) l)

  count_same : point_count s ≡ point_count t
  count_same = alike 9 (omega arith)

  -- a field of position i
  field-same : (place i : ℕ) → place ≤ 14 → i < point_count t → two_bytes s (place + 6 * i) ≡ two_bytes t (place + 6 * i)
  field-same place i f l = let c = count_same in two-same (place + 6 * i) (omega arith)

  below-same : (i : ℕ) → i < point_count t → i < point_count s
  below-same i l = let c = count_same in omega arith

  pub proper-same : Proper s → Proper t
  proper-same p = record {
    frame = sym (alike 0 (omega arith)) ∙ p.frame;
    map-width = rw (two-same 1 (omega arith)) at p.map-width;
    map-height = rw (two-same 3 (omega arith)) at p.map-height;
    label-width = rw (two-same 5 (omega arith)) at p.label-width;
    label-height = rw (two-same 7 (omega arith)) at p.label-height;
    few = rw count_same at p.few;
    call-number = λ i l. rw (field-same 10 i (omega arith) l) at (p.call-number i (below-same i l));
    on-map = λ i l.
        rw (field-same 12 i (omega arith) l, field-same 14 i (omega arith) l, two-same 1 (omega arith), two-same 3 (omega arith))
        at (p.on-map i (below-same i l));
    calls = λ i j l m e.
        p.calls i j (below-same i l) (below-same j m) (field-same 10 i (omega arith) l ∙ e ∙ sym (field-same 10 j (omega arith) m));
    pixels = record {
      apart = λ i j l m r c. p.pixels.apart i j (below-same i l) (below-same j m)
          (field-same 14 i (omega arith) l ∙ r ∙ sym (field-same 14 j (omega arith) m))
          (field-same 12 i (omega arith) l ∙ c ∙ sym (field-same 12 j (omega arith) m));
    };
  }

-- the sheet's bytes of a plate
module _ (p : List ℕ) (long : sheet_length p ≤ length p) where
  pub start-same : (k : ℕ) → k < sheet_length p → get_or (sheet_of p) k 0 ≡ get_or p k 0
  unfolding sheet_of
  start-same k l = get_or-take (sheet_length p) p k 0 l

  pub start-count : point_count (sheet_of p) ≡ point_count p
  start-count = start-same 9 (omega arith)

  pub start-accepted : Proper p → Accepted (sheet_of p)
  unfolding sheet_of
  start-accepted q = record {
    proper = proper-same p (sheet_of p) (λ k l. sym (start-same k l)) q;
    long = length-take-le (sheet_length p) p long ∙ ap (λ n. 10 + 6 * n) (sym start-count);
  }

-- A PLATE IS ITS SECTIONS

-- a list cut before and after one element, and again i elements later
split : (l : List ℕ) (a b i o c : ℕ) → b ≡ suc a → o ≡ b + i → c ≡ suc o → o < length l
    → l ≡ take a l ++ (get_or l a 0 ∷ take i (drop b l)) ++ (get_or l o 0 ∷ drop c l)
split l a b i o c eb eo ec short =
    let first : drop a l ≡ get_or l a 0 ∷ drop b l = drop-cons l a 0 (omega arith) ∙ ap (λ n. get_or l a 0 ∷ drop n l) (sym eb) in
    let middle : drop b l ≡ take i (drop b l) ++ drop o l =
    sym (take-append-drop i (drop b l)) ∙ ap (λ t. take i (drop b l) ++ t) (drop-drop i b l ∙ ap (λ n. drop n l) (sym eo)) in
    let last : drop o l ≡ get_or l o 0 ∷ drop c l = drop-cons l o 0 short ∙ ap (λ n. get_or l o 0 ∷ drop n l) (sym ec) in
    sym (take-append-drop a l)
    ∙ ap (λ t. take a l ++ t) (first ∙ ap (λ t. get_or l a 0 ∷ t) (middle ∙ ap (λ t. take i (drop b l) ++ t) last))
    ∙ sym (append_assoc (take a l) (get_or l a 0 ∷ take i (drop b l)) (get_or l o 0 ∷ drop c l))

module _ (p : List ℕ) (f : Fitting p) where
  pub inside-counted : length (inside_list p) ≡ inside_count p
  unfolding inside_list
  inside-counted =
      let e = f.ends in
      length-take-le (inside_count p) (drop (inside_start p) p) (rw (length-drop (inside_start p) p) (omega arith))

  pub outside-bytes : length (outside_pairs p) ≡ 2 * outside_count p
  unfolding outside_pairs
  outside-bytes = let e = f.ends in rw (length-drop (outside_start p + 1) p) (omega arith)

  pub sections : p ≡ sheet_of p ++ (inside_count p ∷ inside_list p) ++ (outside_count p ∷ outside_pairs p)
  unfolding sheet_of inside_list outside_pairs
  sections =
      let e = f.ends in
      split p (sheet_length p) (inside_start p) (inside_count p) (outside_start p) (outside_start p + 1)
      (omega arith) refl (omega arith) (omega arith)

  module _ (long : sheet_length p ≤ length p) (up : ascending (point_count p) (inside_list p) ≡ true) where
    -- the list of the choice that the inside list stands for
    pub inside-read : inside_below (choice_of (inside_list p)) (point_count (sheet_of p)) ≡ inside_list p
    inside-read = rw (start-count p long) (list-of-choice (point_count p) (inside_list p) up)

    -- as many outside points as the outside count says
    pub outside-counted : length (outside (points_of (sheet_of p)) (choice_of (inside_list p))) ≡ outside_count p
    unfolding count weight
    outside-counted =
        let s = sheet_of p in
        let S = choice_of (inside_list p) in
        let c : length (inside_below S (point_count s)) ≡ weight_below one_each S (point_count s) = inside-length S (point_count s) in
        let l : length (inside_below S (point_count s)) ≡ length (inside_list p) = ap length inside-read in
        omega (arith, inside-outside s S, start-count p long, f.together, inside-counted)

module _ (p s l : List ℕ) (o : ℕ) (b : List ℕ) (long : length s ≡ sheet_length s) (is : p ≡ s ++ (length l ∷ l) ++ (o ∷ b)) where
  after-sheet : p ≡ s ++ (length l ∷ (l ++ o ∷ b))
  after-sheet = is ∙ append_assoc s (length l ∷ l) (o ∷ b)

  count-read : point_count p ≡ point_count s
  count-read = rw after-sheet (get_or-append s (length l ∷ (l ++ o ∷ b)) 0 9 (omega arith))

  start-read : sheet_length p ≡ length s
  start-read = let c = count-read in omega arith

  sheet-read : sheet_of p ≡ s
  unfolding sheet_of
  sheet-read = ap₂ take start-read after-sheet ∙ take_at s (length l ∷ (l ++ o ∷ b)) (length s) refl

  inside-count-read : inside_count p ≡ length l
  inside-count-read = ap₂ (λ x k. get_or x k 0) after-sheet start-read ∙ get_or_at s (length l) (l ++ o ∷ b) 0 (length s) refl

  inside-list-read : inside_list p ≡ l
  unfolding inside_list
  inside-list-read =
      let e : drop (inside_start p) p ≡ l ++ o ∷ b =
      ap (drop (inside_start p)) (after-sheet ∙ sym (append_assoc s (length l ∷ []) (l ++ o ∷ b)))
      ∙ drop_at (s ++ length l ∷ []) (l ++ o ∷ b) (inside_start p) (rw length-append (omega (arith, start-read))) in
      ap₂ take inside-count-read e ∙ take_at l (o ∷ b) (length l) refl

  outside-start-read : length (s ++ length l ∷ l) ≡ outside_start p
  outside-start-read = rw length-append (omega (arith, start-read, inside-count-read))

  outside-count-read : outside_count p ≡ o
  outside-count-read = ap (λ x. get_or x (outside_start p) 0) is ∙ get_or_at (s ++ length l ∷ l) o b 0 (outside_start p) outside-start-read

  outside-pairs-read : outside_pairs p ≡ b
  unfolding outside_pairs
  outside-pairs-read =
      ap (drop (outside_start p + 1)) (is ∙ sym (append_assoc (s ++ length l ∷ l) (o ∷ []) b))
      ∙ drop_at (s ++ length l ∷ l ++ o ∷ []) b (outside_start p + 1) (rw length-append (omega (arith, outside-start-read)))

  pub read_back : Parts p s l o b
  read_back = record {
    points = count-read;
    sheet = sheet-read;
    inside-count = inside-count-read;
    inside = inside-list-read;
    outside-count = outside-count-read;
    outside = outside-pairs-read;
  }
