-- The theorems on the definitions of specs/ChoiceFlags.antt. Assumes nothing.
use Rattle.std.specs.Prelude.{◌≡◌, refl, Bool, true, false, ◌||◌, List, [], ◌∷◌, ◌++◌, ℕ, zero, suc, ◌+◌, ◌<◌, eqb, length, get_or, set, take, Option}
use Rattle.std.proofs.Common.{sym, ap, ◌∙◌, length-append, length-set, ext_get_or, take-suc, get_or-append-add, get_or-set_same, get_or-set_other, eq-eqb, ne_eqb, add-one, arith}
use Rattle.std.proofs.lemmas.List.{get_or-replicate}
use Rattle.std.proofs.Math.ListN.{get_or-append}
use Rattle.labeling.specs.Points.{Points, Choice, among}
use Rattle.labeling.proofs.Decide.{same, or_right, or-false}
use Rattle.labeling.proofs.Margin.{among-last}
use Rattle.format.specs.Plate.{choice_of}
use Rattle.clash.specs.declared.Clash.{Clash}
use Rattle.clash.specs.FirstClash.{pair_clash, own_clash, first_of, ordered_clash, later_clash, clash_of, first_clash}
use Rattle.clash.specs.ChoiceFlags.{nobody_inside, held, flags_below, flags_of}

flags-length : (S : Choice) (m : ℕ) → length (flags_below S m) ≡ m
unfolding flags_below
flags-length S zero = refl
flags-length S (suc m) = rw length-append (omega (arith, flags-length S m))

flags-at : (S : Choice) (m i : ℕ) → i < m → held (flags_below S m) i ≡ S i
unfolding flags_below
flags-at S zero i l = absurd (omega arith)
flags-at S (suc m) i l =
    let F = flags_below S m in
    let long = flags-length S m in
    same i m
    (λ e.
    let q : i ≡ length F + 0 = omega arith in
    ap (held (F ++ S m ∷ [])) q ∙ get_or-append-add F (S m ∷ []) 0 false ∙ ap S (sym e))
    (λ ne. get_or-append F (S m ∷ []) false i (omega arith) ∙ flags-at S m i (omega arith))

-- the flags of a list hold its choice
pub flags-hold : (flags : List Bool) (list : List ℕ) → flags ≡ flags_of list → (i : ℕ) → i < 256 → held flags i ≡ choice_of list i
flags-hold flags list e i l = rw e (flags-at (choice_of list) 256 i l)

-- 256 flags that hold a list's choice are the list's
flags-are : (flags : List Bool) (list : List ℕ) → length flags ≡ 256 → ((i : ℕ) → i < 256 → held flags i ≡ choice_of list i)
    → flags ≡ flags_of list
flags-are flags list long at =
    ext_get_or false flags (flags_of list) (long ∙ sym (flags-length (choice_of list) 256))
    (λ i l. let m : i < 256 = omega arith in at i m ∙ sym (flags-at (choice_of list) 256 i m))

-- MARKED ONE BY ONE

pub flags-none : nobody_inside ≡ flags_of []
unfolding nobody_inside among
flags-none = flags-are nobody_inside [] refl (λ i l. get_or-replicate 256 i false false l)

pub flags-more : (flags : List Bool) (list : List ℕ) (k : ℕ) → k < length list → get_or list k 0 < 256 → flags ≡ flags_of (take k list)
    → set flags (get_or list k 0) true ≡ flags_of (take (k + 1) list)
flags-more flags list k l b h =
    let x = get_or list k 0 in
    let e : take (k + 1) list ≡ take k list ++ (x ∷ []) = rw (add-one, take-suc list k 0) in
    let long : length flags ≡ 256 = ap length h ∙ flags-length (choice_of (take k list)) 256 in
    let m : x < length flags = omega arith in
    flags-are (set flags x true) (take (k + 1) list) (length-set flags x true ∙ long)
    (λ i lt. rw (e, among-last i x (take k list))
    (same i x
    (λ q.
    ap (λ j. get_or (set flags x true) j false) q
    ∙ get_or-set_same flags x true false m
    ∙ sym (or_right (among i (take k list)) (eqb i x) (eq-eqb i x q)))
    (λ ne.
    get_or-set_other flags x i true false ne
    ∙ flags-hold flags (take k list) h i lt
    ∙ sym (ap (λ t. among i (take k list) || t) (ne_eqb i x ne) ∙ or-false (among i (take k list))))))

-- ONLY POSITIONS BELOW n MATTER to the first clash.

first-same : (f g : ℕ → Option Clash) (m : ℕ) → ((i : ℕ) → i < m → f i ≡ g i) → first_of f m ≡ first_of g m
unfolding first_of
first-same f g zero e = refl
first-same f g (suc m) e = rw (first-same f g m (λ i l. e i (omega arith)), e m (omega arith))

pub first-clash-same : (P : Points) (S R : Choice) → ((i : ℕ) → i < P.n → S i ≡ R i) → first_clash P S ≡ first_clash P R
unfolding first_clash clash_of later_clash pair_clash own_clash
first-clash-same P S R e =
    first-same (clash_of P S) (clash_of P R) P.n
    (λ i l. rw (e i l, first-same (ordered_clash P S i) (ordered_clash P R i) P.n (λ j m. rw (e i l, e j m))))
