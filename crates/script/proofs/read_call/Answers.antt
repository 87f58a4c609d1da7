use Rattle.std.specs.Prelude.{◌≡◌, Some}
use Rattle.std.proofs.Common.{sym, ◌∙◌}
use Rattle.std.proofs.KnownBytes.{Consumes-trans}
use Rattle.script.specs.Calls.{kind_of}
use Rattle.script.proofs.Calls.{kind-numbered, kind-formed}
use Rattle.script.proofs.read_call.Goals as goal

pub returns-clause-call : goal.returns-clause-call
returns-clause-call g c =
    let e : kind_of c.args.kinds c.in-Some.byte ≡ Some c.in_ok-kind.kind = sym c.kind_of.ensures ∙ c.in_ok-kind.ensures.ok_part in
    rw (c.in_ok-call.ensures.call.0, kind-formed _ _ _ e) c.in_ok-call.ensures.call.1

pub returns-clause-bytes : goal.returns-clause-bytes
returns-clause-bytes g c =
    let e : kind_of c.args.kinds c.in-Some.byte ≡ Some c.in_ok-kind.kind = sym c.kind_of.ensures ∙ c.in_ok-kind.ensures.ok_part in
    rw (c.in_ok-call.ensures.call.0, kind-numbered _ _ _ e)
    (Consumes-trans _ _ _ _ _ (rw c.in-Some.is at c.in_ok-byte.ensures) c.in_ok-call.ensures.bytes)
