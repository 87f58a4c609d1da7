-- The theorems on the definitions of specs/Calls.antt. Assumes nothing.
use Rattle.std.specs.Prelude.{ℕ, ◌≡◌, refl, Bool, true, false, cond, eqb, List, [], ◌∷◌, find, Option, Some, None, Result, Ok}
use Rattle.std.proofs.Common.{eqb-true, arith}
use Rattle.io.specs.Counts.{IsPrefixLen}
use Rattle.script.specs.declared.Kinds.{Kinds}
use Rattle.script.specs.declared.CallKind.{CallKind}
use Rattle.script.specs.declared.Part.{Part}
use Rattle.script.specs.declared.Part.TheVariants.{Absent, Sized}
use Rattle.script.specs.declared.Form.{Form}
use Rattle.script.specs.declared.Call.{Call}
use Rattle.script.specs.declared.Stop.{Stop}
use Rattle.script.specs.Calls.{number_of, known, kind_of, form, form_of, Stands, BothStand, CallIn}

-- A LAW, for those who call

stands-counts : (part : Part) (buffer : List ℕ) (n : ℕ) → Stands part buffer n → IsPrefixLen n buffer
stands-counts Absent buffer n h = rw h (omega arith, refl)
stands-counts Sized buffer n h = h

both-count : (form : Option Form) (first second : List ℕ) (n m : ℕ) → BothStand form first second n m → IsPrefixLen n first × IsPrefixLen m second
both-count (Some form) first second n m h = (stands-counts form.first first n h.0, stands-counts form.second second m h.1)
both-count None first second n m h = absurd h

pub call-counts : (kinds : Kinds) (first second : List ℕ) (a : Result (Option Call) Stop) (call : Call) →
    CallIn kinds first second a →
    a ≡ Ok (Some call) →
    IsPrefixLen call.first first × IsPrefixLen call.second second
call-counts kinds first second a call h e =
    both-count (form_of kinds (number_of call.kind)) first second call.first call.second (rw e at h)

-- A KIND AND ITS NUMBER

found-first : (byte : ℕ) (k kind : CallKind) (found : Option CallKind) (b : Bool) →
    eqb byte (number_of k) ≡ b →
    (found ≡ Some kind → number_of kind ≡ byte) →
    cond b (Some k) found ≡ Some kind →
    number_of kind ≡ byte
found-first byte k kind found true t later e = let same : byte ≡ number_of k = eqb-true byte (number_of k) t in cc
found-first byte k kind found false t later e = later e

found-numbered : (byte : ℕ) (kinds : List CallKind) (kind : CallKind) →
    find (λ k. eqb byte (number_of k)) kinds ≡ Some kind →
    number_of kind ≡ byte
found-numbered byte [] kind e = cc
found-numbered byte (k ∷ ks) kind e =
    found-first byte k kind (find (λ l. eqb byte (number_of l)) ks) (eqb byte (number_of k)) refl (found-numbered byte ks kind) e

-- the kind of a first byte has it for its number,
pub kind-numbered : (kinds : Kinds) (byte : ℕ) (kind : CallKind) → kind_of kinds byte ≡ Some kind → number_of kind ≡ byte
unfolding kind_of
kind-numbered kinds byte kind e = found-numbered byte (known kinds) kind e

-- and the form of a call of that kind
pub kind-formed : (kinds : Kinds) (byte : ℕ) (kind : CallKind) →
    kind_of kinds byte ≡ Some kind →
    form_of kinds (number_of kind) ≡ Some (form kind)
kind-formed kinds byte kind e = rw (kind-numbered kinds byte kind e, e) refl
