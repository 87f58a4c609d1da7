-- A test in a walk by hand, with the code after it: `Types/Run.antt`'s `branches` under `first`, for a loop's test and for an early return.
-- Assumes nothing.
use mathlib.Core.Bool.{Bool, not}
use mathlib.Core.List.{List}
use Prim.Native.Nat.{ℕ}
use lib.Dec.{T as Holds}
use seplogic.Ra.Ura.{Ura}
use mir.Syntax.{Opd as Operand, Body, skip, seq, cond, exit}
use mir.Val.{vbool}
use prog.Wp.{Env, Calls, Loops, Wp, exits, after_seq}
use types.Logic.{Logic}
use types.Kit.{Item, Post, post, prop, runs, any_q, Seq, ◌$◌}
use types.Run.{Opd, first, branches, skips, jumps}

module _ {M : Type 1} {𝓤 : Ura M} {𝓛 : Logic 𝓤} {K : Type 0}
    {Γ : List (Item 𝓤)} {E : Env 𝓤 𝓛.H} {C : Calls 𝓤 𝓛.H} {Λ : Loops 𝓤 𝓛.H} {q : Post 𝓤 𝓛.H} where
  -- `while c { b }`: the turn goes on, or the loop is left
  open 𝓛 use {H}

  pub while-test : K → {c : Operand} {n : ℕ} {b : Body} {t : Bool} → Opd K 𝓛 Γ E c (vbool t)
      → (Holds t → Seq K 𝓛 Γ (runs C Λ E b q)) → (Holds (not t) → Seq K 𝓛 Γ (prop (post 𝓤 H q (exits n))))
      → Seq K 𝓛 Γ (runs C Λ E (seq (cond c skip (exit n)) b) q)
  while-test k o on off = first k $ branches k o (λ h. skips k $ record { prf = (on h).prf }) (λ h. jumps k $ record { prf = (off h).prf })

  -- `if c { a } b`, where a returns
  pub return-test : K → {c : Operand} {a b : Body} {t : Bool} → Opd K 𝓛 Γ E c (vbool t)
      → (Holds t → Seq K 𝓛 Γ (runs C Λ E a (any_q (after_seq 𝓤 H (Wp 𝓤 H C Λ E b (post 𝓤 H q)) (post 𝓤 H q)))))
      → (Holds (not t) → Seq K 𝓛 Γ (runs C Λ E b q))
      → Seq K 𝓛 Γ (runs C Λ E (seq (cond c a skip) b) q)
  return-test k o on off = first k $ branches k o (λ h. on h) (λ h. skips k $ record { prf = (off h).prf })
