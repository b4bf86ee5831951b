use Rattle.std.proofs.Common.{Err, sym, ap, ◌∙◌, ap₂}
use Rattle.std.proofs.lemmas.Result.{err_from_is_err_and}
use Rattle.edetector.specs.Bettors.{fixed_meaning, adaptive_meaning, mixture_meaning}
use Rattle.edetector.specs.NamedBettors.{tally_of}
use Rattle.plantlog.specs.declared.record.BettorChoice.{BettorChoice}
use Rattle.playback.specs.Replayed.{meaning_of, has_alternative}
use Rattle.playback.proofs.Opens.{unmade_told, header_taken, first_refused, second_refused, third_refused, first_taken, third_taken, goes_adaptive}
use Rattle.playback.proofs.open.open.Goals as goal

pub returns-in_err-null-clause-value : goal.returns-in_err-null-clause-value
returns-in_err-null-clause-value c =
    let x = err_from_is_err_and c.from_residual.result c.from_residual.ensures.1 in
    unmade_told c.from_residual.result c.args.records c.args.books.now _ (x.1 ∙ ap Err x.2) c.requires.begins ∙ first_refused _ c.args.records _ c.in_err-null.ensures.value

pub returns-in_err-setup-clause-value : goal.returns-in_err-setup-clause-value
returns-in_err-setup-clause-value c =
    let x = err_from_is_err_and c.from_residual-in_err-setup.result c.from_residual-in_err-setup.ensures.1 in
    unmade_told c.from_residual-in_err-setup.result c.args.records c.args.books.now _ (x.1 ∙ ap Err x.2) c.requires.begins ∙ second_refused _ c.header.new.records _ _ c.in_err-setup.ensures.value ∙ first_taken _ c.args.records _ c.in_ok-null.ensures.moved _ c.in_ok-null.ensures.value

pub returns-in_err-fixed-in-Fixed-clause-value : goal.returns-in_err-fixed-in-Fixed-clause-value
returns-in_err-fixed-in-Fixed-clause-value c =
    let x = err_from_is_err_and c.from_residual-in_err-fixed-in-Fixed.result c.from_residual-in_err-fixed-in-Fixed.ensures.1 in
    let other = ap has_alternative c.in-Fixed.is in
    unmade_told c.from_residual-in_err-fixed-in-Fixed.result c.args.records c.args.books.now _ (x.1 ∙ ap Err x.2) c.requires.begins
    ∙ third_refused _ c.header-2.new.records _ c.in_ok-setup.setup _ other c.in_err-fixed-in-Fixed.ensures.value
    ∙ header_taken _ c.args.records c.header.new.records c.header-2.new.records c.in_ok-null.ensures.moved c.in_ok-setup.ensures.moved _ _ c.in_ok-null.ensures.value c.in_ok-setup.ensures.value

pub returns-in_err-fixed-in-Mixture-clause-value : goal.returns-in_err-fixed-in-Mixture-clause-value
returns-in_err-fixed-in-Mixture-clause-value c =
    let x = err_from_is_err_and c.from_residual-in_err-fixed-in-Mixture.result c.from_residual-in_err-fixed-in-Mixture.ensures.1 in
    let other = ap has_alternative c.in-Mixture.is in
    unmade_told c.from_residual-in_err-fixed-in-Mixture.result c.args.records c.args.books.now _ (x.1 ∙ ap Err x.2) c.requires.begins
    ∙ third_refused _ c.header-2.new.records _ c.in_ok-setup.setup _ other c.in_err-fixed-in-Mixture.ensures.value
    ∙ header_taken _ c.args.records c.header.new.records c.header-2.new.records c.in_ok-null.ensures.moved c.in_ok-setup.ensures.moved _ _ c.in_ok-null.ensures.value c.in_ok-setup.ensures.value

pub returns-in-Adaptive-clause-value : goal.returns-in-Adaptive-clause-value
returns-in-Adaptive-clause-value c =
    let n = c.in_ok-null.null in
    let plays = ap₂ adaptive_meaning c.new.ensures.table c.new.ensures.tally in
    c.run.ensures.value ∙ goes_adaptive _ c.header-2.new.records n c.in_ok-setup.setup _ c.in-Adaptive.is plays
    ∙ header_taken _ c.args.records c.header.new.records c.header-2.new.records c.in_ok-null.ensures.moved c.in_ok-setup.ensures.moved _ _ c.in_ok-null.ensures.value c.in_ok-setup.ensures.value

pub returns-in_ok-fixed-in-Fixed-clause-value : goal.returns-in_ok-fixed-in-Fixed-clause-value
returns-in_ok-fixed-in-Fixed-clause-value c =
    let n = c.in_ok-null.null in
    let f = c.in_ok-fixed-in-Fixed.field-0 in
    let alts = f.alternative in
    let other = ap has_alternative c.in-Fixed.is in
    let plays = ap (λ x. fixed_meaning x alts) c.in_ok-fixed-in-Fixed.ensures.table ∙ sym (ap (λ (b : BettorChoice). meaning_of b n alts) c.in-Fixed.is) in
    c.run-in-Fixed.ensures.value
    ∙ third_taken _ c.header-2.new.records c.fixed.new.records c.in_ok-fixed-in-Fixed.ensures.moved n c.in_ok-setup.setup alts _ other c.in_ok-fixed-in-Fixed.ensures.value plays
    ∙ header_taken _ c.args.records c.header.new.records c.header-2.new.records c.in_ok-null.ensures.moved c.in_ok-setup.ensures.moved _ _ c.in_ok-null.ensures.value c.in_ok-setup.ensures.value

pub returns-in_ok-fixed-in-Mixture-clause-value : goal.returns-in_ok-fixed-in-Mixture-clause-value
returns-in_ok-fixed-in-Mixture-clause-value c =
    let n = c.in_ok-null.null in
    let f = c.in_ok-fixed-in-Mixture.field-0 in
    let a = c.new-in-Mixture.result in
    let alts = f.alternative in
    let other = ap has_alternative c.in-Mixture.is in
    let plays =
    ap (λ m. mixture_meaning (fixed_meaning m.first.null m.first.alternative) (adaptive_meaning m.second.null (tally_of m.second))) c.new-mixture.ensures
    ∙ ap (λ x. mixture_meaning (fixed_meaning x alts) (adaptive_meaning a.null (tally_of a))) c.in_ok-fixed-in-Mixture.ensures.table
    ∙ ap₂ (λ x y. mixture_meaning (fixed_meaning n alts) (adaptive_meaning x y)) c.new-in-Mixture.ensures.table c.new-in-Mixture.ensures.tally
    ∙ sym (ap (λ (b : BettorChoice). meaning_of b n alts) c.in-Mixture.is) in
    c.run-in-Mixture.ensures.value
    ∙ third_taken _ c.header-2.new.records c.fixed-in-Mixture.new.records c.in_ok-fixed-in-Mixture.ensures.moved n c.in_ok-setup.setup alts _ other c.in_ok-fixed-in-Mixture.ensures.value plays
    ∙ header_taken _ c.args.records c.header.new.records c.header-2.new.records c.in_ok-null.ensures.moved c.in_ok-setup.ensures.moved _ _ c.in_ok-null.ensures.value c.in_ok-setup.ensures.value
