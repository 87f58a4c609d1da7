-- `lines::margins::margin_of` meets its contract. Assumes nothing.
use Rattle.std.proofs.Common.{◌≡◌, ap, ◌∙◌, List, ℕ, slice_index, unwrap_or, eqb, rules, tests, Bor, MatchOption}
use Rattle.std.specs.Option.{option_map}
use Rattle.std.proofs.lemmas.Iterator.{YieldsList-from_slice}
use Rattle.std.proofs.lemmas.Iterator.Search.{find_from_yields_List}
use Rattle.lines.proofs.PairLaws.{pairs_of, found-value, margin-found}
use Rattle.lines.proofs.margins.margin_of.Goals as goal

pub returns : goal.returns
returns c =
    let p = c.args.pairs.now in
    let i = c.args.position in
    let e : MatchOption c.find.result (c.map_or.result ≡ 0) (λ (x : Bor (List ℕ)). c.map_or.result ≡ slice_index x.now 1) = search rules in
    found-value c.find.result (λ (x : Bor (List ℕ)). x.now) c.map_or.result e
    ∙ ap (λ o. unwrap_or (option_map (λ q. slice_index q 1) o) 0)
    (find_from_yields_List (λ (pair : List ℕ). eqb i (slice_index pair 0)) _ _ c.find.result c.find.ensures.ran
    (YieldsList-from_slice (pairs_of p) cc) (λ x b q k. search (rules, tests)))
    ∙ margin-found i p
