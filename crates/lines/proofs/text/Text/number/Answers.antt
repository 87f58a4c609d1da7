-- `lines::text::Text::number` meets its contract. Assumes nothing.
use Rattle.std.specs.Prelude.{List, ℕ, take}
use Rattle.std.proofs.Common.{subst, arith}
use Rattle.lines.specs.Text.{spaced}
use Rattle.lines.specs.Writing.{Added}
use Rattle.lines.proofs.Put.{added_put}
use Rattle.lines.proofs.text.Text.number.Goals as goal

pub returns : goal.returns
returns g c =
    let put = c.put_number-self-inside in
    subst (λ (t : List ℕ). Added 6 (spaced c.args.number) t (take put.result put.new.bytes)) c.self.view_is
    (added_put (omega (arith, c.self.invariant, c.self.told)) put.ensures)
