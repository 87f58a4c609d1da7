-- A sheet reader taken apart, for the walks over it. Assumes nothing.
use mathlib.Core.Path.{◌≡◌, refl}
use Prim.Native.Nat.{◌<◌, ◌^◌}
use mathlib.Core.List.{[], ◌∷◌}
use lib.ListN.{length}
use seplogic.Ra.Ura.{Ura}
use mir.Syntax.{named, w8}
use mir.Val.{Val, vint}
use base.Logic.{ent, sep}
use base.Fml.{Lft, Fml}
use types.Logic.{Logic, sem}
use contract.Lifetimes.{Lfts}
use types.Kit.{‵, ◌⊛◌, given, ◌$◌, ◌∵◌, !, qed, move, drop, use1, split, learn, fjoin, frame, done}
use denote.RattleType.{RattleType, owns}
use denote.Laws.{Is}
use denote.Plain.{uint_Makes}
use denote.Builtin.{u8}
use denote.Signature.{named_lft}
use denote.Slice.{slice_val, ShrSlice}
use denote.Steps.{owned, nothing}
use denote.Struct.Laws as LL
use denote.Struct.Rest.{all_own, field_own, rest, own_open, own_out}
use Rattle.sheet_reader.specs.declared.reader.SheetReader.{SheetReader}
use Rattle.sheet_reader.specs.contracts.reader.SheetReader as T
use Rattle.sheet_reader.proofs.reader.SheetReader.TheLaws as T'

-- the reader's type, over a signature's lifetimes
abbrev pub B : Lfts 1 → RattleType
B κs = T.the_row (named_lft 1 0 tt κs)

-- the machine value of the sheet that a reader keeps
abbrev pub sheet_val : SheetReader → Val
sheet_val d = slice_val d.sheet.ref_ptr (length d.sheet.now)

-- what a reader owns
abbrev pub Own : Lft → SheetReader → Fml
Own κ d = (B (κ, tt)).own_val d (T'.lowered d ∷ [])

-- what its sheet and its place own, as a function of the two takes them
abbrev pub Parts : Lft → SheetReader → Fml
Parts κ d = owns (ShrSlice (named 0) κ u8 ∷ u8 ∷ []) (d.sheet, (d.next, tt)) (sheet_val d ∷ [], (vint w8 d.next ∷ [], tt))

-- A reader is Copy: what it owns gives what its sheet and its place own, and is kept.
pub parted : {M : Type 1} {𝓤 : Ura M} (𝓛 : Logic 𝓤) → (κ : Lft) (d : SheetReader) → d.next < 2 ^ 8
    → ent 𝓤 (sem 𝓛 (Own κ d)) (sep 𝓤 (sem 𝓛 (Parts κ d)) (sem 𝓛 (Own κ d)))
parted 𝓛 κ d fits =
    let D = T.the_type (named_lft 1 0 tt (κ, tt)) in
    let L = T'.the_laws (named_lft 1 0 tt (κ, tt)) in
    qed 𝓛 (‵ (Own κ d) ∷ []) ∵
    use1 𝓛 (‵ (Own κ d) ⊛ ‵ (Own κ d)) ((LL.copy D (T'.the_copy (named_lft 1 0 tt (κ, tt))) 𝓛).twice d (T'.lowered d ∷ [])) $ split ! $
    use1 𝓛 (given (T'.lowered d ∷ [] ≡ T'.lowered d ∷ []) (‵ (all_own D.parts L (d.sheet, (d.next, tt)))))
    (own_open 𝓛 D L (d.sheet, (d.next, tt)) (T'.lowered d)) $
    learn ! (λ _. use1 𝓛 (‵ (field_own D.parts L 0 d.sheet) ⊛ ‵ (rest D.parts L 0 (d.sheet, (d.next, tt))))
    (own_out 𝓛 D.parts L 0 (d.sheet, (d.next, tt))) $
    split ! $
    -- [what the sheet owns; what the place owns; what the reader owns]
    move ! (1 ∷ []) $ drop ! $ nothing ! $ owned ! u8 (Is u8) (uint_Makes 𝓛 w8) d.next _ (refl, fits) $
    fjoin ! $ move ! (1 ∷ 0 ∷ []) $ fjoin ! $ frame ! $ done !)
