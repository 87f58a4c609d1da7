-- The pairs of the outside section, written one by one; and the plate, section by section. Assumes nothing.
use Rattle.std.specs.Prelude.{◌≡◌, refl, Option, None, Some, MatchOption, List, [], ◌∷◌, ◌++◌, ℕ, ◌+◌, ◌*◌, ◌≤◌, ◌<◌, length, set, drop}
use Rattle.std.proofs.Common.{sym, ◌∙◌, ap, append_assoc, append-nil, zero-add, arith, length-append}
use Rattle.labeling.specs.Points.{Points, placed_from, placed}
use Rattle.labeling.proofs.Margin.{next-most}
use Rattle.format.specs.Sheet.{points_of}
use Rattle.format.specs.Plate.{pairs}
use Rattle.format.proofs.PlateLength.{placed-length, pairs-length}
use Rattle.format.specs.Written.{written}
use Rattle.format.proofs.Written.{written_none, written-more, written_twice, written-first}
use Rattle.plate_maker.specs.Writing.{section_of, plate_of_lists, margin_after, placed_after, SoFar}
use Rattle.format.specs.declared.Pair.{Pair}

-- MARGIN COLUMNS

pub placed_first : (P : Points) (l : List ℕ) → placed_after P None l ≡ placed P l
unfolding placed_after margin_after placed
placed_first P [] = refl
placed_first P (i ∷ l) = refl

pub placed-next : (P : Points) (last : Option Pair) (i : ℕ) (l : List ℕ)
    → placed_after P last (i ∷ l)
    ≡ record { position = i; margin = margin_after P last i } ∷ placed_after P (Some (record { position = i; margin = margin_after P last i })) l
unfolding placed_after margin_after placed_from
placed-next P last i [] = refl
placed-next P last i (x ∷ l) = refl

-- a margin column is at most the number of outside points before it
pub margin-small : (P : Points) (count : ℕ) (last : Option Pair) (i : ℕ) → MatchOption last Unit (λ p. p.margin ≤ count)
    → margin_after P last i ≤ count + 1
unfolding margin_after
margin-small P count None i h = omega arith
margin-small P count (Some p) i h = omega (arith, h, next-most P p.position p.margin i)

-- so it fits in a byte
pub last_small : (count : ℕ) (last : Option Pair) → MatchOption last Unit (λ p. p.margin ≤ count) → count < 255
    → MatchOption last Unit (λ p. p.margin < 255)
last_small count None h l = tt
last_small count (Some p) h l = omega (arith, h)

-- PAIR BY PAIR

pub so-far-none : (P : Points) (d : List ℕ) (at : ℕ) (l : List ℕ) → SoFar P (pairs (placed P l)) d at (length l) l 0 None d
so-far-none P d at l = record {
  done = [];
  is = written_none d at;
  twice = omega arith;
  rest = ap pairs (placed_first P l);
  total = omega arith;
  small = tt;
}

pub so_far_more : (P : Points) (whole d : List ℕ) (at all i : ℕ) (left : List ℕ) (count : ℕ) (last : Option Pair) (output : List ℕ)
    → at + 2 * all ≤ length d → SoFar P whole d at all (i ∷ left) count last output
    → SoFar P whole d at all left (count + 1) (Some (record { position = i; margin = margin_after P last i }))
    (set (set output (at + 2 * count) i) (at + 2 * count + 1) (margin_after P last i))
unfolding pairs
so_far_more P whole d at all i left count last output h f =
    let m = margin_after P last i in
    let one : at + 2 * count ≡ at + length f.done = omega (arith, f.twice) in
    let room : at + 2 * count + 1 < length d = omega (arith, f.total) in
    let two : at + 2 * count + 1 ≡ at + length (f.done ++ i ∷ []) = omega (arith, f.twice, length-append f.done (i ∷ [])) in
    record {
      done = f.done ++ i ∷ [] ++ m ∷ [];
      is = rw (f.is, two, one, written-more d at f.done i (omega arith), written-more d at (f.done ++ i ∷ []) m (omega arith));
      twice = omega (arith, f.twice, length-append (f.done ++ i ∷ []) (m ∷ []), length-append f.done (i ∷ []));
      rest = simp append_assoc (rw (placed-next P last i left) at f.rest);
      total = omega (arith, f.total);
      small = margin-small P count last i f.small;
    }

pub so-far-whole : (P : Points) (whole d : List ℕ) (at all count : ℕ) (last : Option Pair) (output : List ℕ)
    → SoFar P whole d at all [] count last output → (output ≡ written d at whole) × (count ≡ all)
unfolding placed_after pairs
so-far-whole P whole d at all count last output f =
    let e : f.done ≡ whole = sym (append-nil f.done) ∙ f.rest in
    (f.is ∙ ap (written d at) e, omega (arith, f.total))

-- SECTION BY SECTION

pub section-length : (P : Points) (l : List ℕ) → length (section_of P l) ≡ 1 + 2 * length l
unfolding section_of
section-length P l = omega (arith, pairs-length (placed P l), placed-length P l)

-- how long the plate is
pub lists_length : (s inside outside : List ℕ) → length (plate_of_lists s inside outside) ≡ length s + 2 + length inside + 2 * length outside
unfolding plate_of_lists
lists_length s inside outside =
    let I : List ℕ = length inside ∷ inside in
    let O : List ℕ = section_of (points_of s) outside in
    omega (arith, length-append (s ++ I) O, length-append s I, section-length (points_of s) outside)

-- THE PLATE, written section by section
pub plate-written : (s inside outside d : List ℕ) → length s + 2 + length inside + 2 * length outside ≤ length d
    → written (written (written d 0 s) (length s) (length inside ∷ inside)) (length s + 1 + length inside) (section_of (points_of s) outside)
    ≡ plate_of_lists s inside outside ++ drop (length (plate_of_lists s inside outside)) d
unfolding plate_of_lists
plate-written s inside outside d h =
    let I : List ℕ = length inside ∷ inside in
    let O : List ℕ = section_of (points_of s) outside in
    let k = section-length (points_of s) outside in
    let a : length s ≡ 0 + length s = sym (zero-add (length s)) in
    let b : length s + 1 + length inside ≡ 0 + length (s ++ I) = omega (arith, length-append s I) in
    ap (λ k. written (written (written d 0 s) k I) (length s + 1 + length inside) O) a
    ∙ ap (λ l. written l (length s + 1 + length inside) O) (written_twice d 0 s I (omega arith))
    ∙ ap (λ k. written (written d 0 (s ++ I)) k O) b
    ∙ written_twice d 0 (s ++ I) O (omega (arith, length-append s I))
    ∙ written-first d (s ++ I ++ O)
