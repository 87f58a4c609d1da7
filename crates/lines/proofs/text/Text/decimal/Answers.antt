-- `lines::text::Text::decimal` meets its contract. Assumes nothing.
use Rattle.std.specs.Prelude.{List, ℕ, take}
use Rattle.std.proofs.Common.{subst, arith}
use Rattle.lines.specs.Text.{decimal}
use Rattle.lines.specs.Writing.{Added}
use Rattle.lines.proofs.Put.{added_put}
use Rattle.lines.proofs.text.Text.decimal.Goals as goal

pub returns : goal.returns
returns g c =
    let put = c.put_decimal-self-inside in
    subst (λ (t : List ℕ). Added 5 (decimal c.args.number) t (take put.result put.new.bytes)) c.self.view_is
    (added_put (omega (arith, c.self.invariant, c.self.told)) put.ensures)
