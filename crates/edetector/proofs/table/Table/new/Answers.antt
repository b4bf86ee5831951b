-- Each limit in turn, by the lemmas on what breaks it.
use Rattle.std.proofs.Common.{◌≡◌, true, false, take, length, Ok, refl, ap, sym, ◌∙◌, arith, rules}
use Rattle.std.specs.List.{sum}
use Rattle.std.proofs.lemmas.Bool.{false≢true}
use Rattle.std.proofs.lemmas.List.{length-map}
use Rattle.edetector.specs.Tables.{weights_in, most_total, is_within, table_fault, unless_fault}
use Rattle.edetector.proofs.Limits.{weights_broken}
use Rattle.edetector.proofs.UnitLists.{units_without, units_sum, units_light, units_broken, units_unbroken, padded_units}
use Rattle.edetector.proofs.table.Table.new.Goals as goal

pub returns-then-not-all_within : goal.returns-then-not-all_within
returns-then-not-all_within g c =
    let ws = weights_in c.args.weights.now in
    let long = length-map c.args.weights.now (λ w. w.0) in
    sym (ap (λ f. unless_fault f ws)
    (weights_broken g.row.LEAST ws (omega (arith, long)) (omega (arith, long))
    (units_without g.row.LEAST c.args.weights.now (λ all. false≢true (c.if-not-all_within.ensures.1 all)))))

pub total_of-total-requires : goal.total_of-total-requires
total_of-total-requires g c = units_light g.row.LEAST c.args.weights.now (omega arith) (c.if-not-all_within.ensures.0 refl)

pub returns-then-not-contains : goal.returns-then-not-contains
returns-then-not-contains g c =
    let given = c.args.weights.now in
    let ws = weights_in given in
    let out : is_within 1 most_total c.total_of-total.result ≡ false = search rules in
    sym (ap (λ f. unless_fault f ws) (units_broken g.row.LEAST given (omega arith) (omega arith) (c.if-not-all_within.ensures.0 refl) _ c.total_of-total.ensures out))

pub invariant_of-result : goal.invariant_of-result
invariant_of-result g c =
    let given = c.args.weights.now in
    let ws = weights_in given in
    let same : take (length given) (weights_in c.padded_weights.result) ≡ ws = padded_units given c.padded_weights.result c.padded_weights.ensures.front in
    let within : is_within 1 most_total c.total_of-total.result ≡ true = search rules in
    record {
      unbroken = ap (table_fault g.row.LEAST) same ∙ units_unbroken g.row.LEAST given (omega arith) (omega arith) (c.if-not-all_within.ensures.0 refl) _ c.total_of-total.ensures within;
      sums = ap sum same ∙ sym (units_sum given) ∙ sym c.total_of-total.ensures;
      room = c.padded_weights.ensures.room;
      fits = omega arith;
      behind = c.padded_weights.ensures.behind;
    }

pub returns : goal.returns
returns g c =
    let given = c.args.weights.now in
    let ws = weights_in given in
    let within : is_within 1 most_total c.total_of-total.result ≡ true = search rules in
    ap Ok (padded_units given c.padded_weights.result c.padded_weights.ensures.front)
    ∙ sym (ap (λ f. unless_fault f ws) (units_unbroken g.row.LEAST given (omega arith) (omega arith) (c.if-not-all_within.ensures.0 refl) _ c.total_of-total.ensures within))
