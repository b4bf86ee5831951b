-- After any calls of a monitor, by their contracts.
use Rattle.std.proofs.Common.{◌≡◌, ℕ, List, [], ◌∷◌, refl, ap, ◌∙◌}
use Rattle.edetector.specs.declared.monitor.Monitor.{Monitor}
use Rattle.edetector.specs.Bettors.{Meaning}
use Rattle.edetector.specs.Monitors.{Outcome, outcome, Answer, calls_outcome, view, terms_of, AfterCalls}

module _ {B R : Type 0} (meaning : B → Meaning) (base : R → ℕ → ℕ) where
  pub after_calls : AfterCalls meaning base
  after_calls m n [] [] e = rw e (refl, refl)
  after_calls m n [] (a ∷ answers) e = absurd e
  after_calls m n (c ∷ cs) [] e = absurd e
  after_calls m n (c ∷ cs) (a ∷ answers) (between, one, later) =
      let rest = after_calls between n cs answers later in
      let t = terms_of meaning base m in
      let behind : outcome answers (view meaning n) ≡ calls_outcome t (view meaning between) cs = rest.0 ∙ ap (λ x. calls_outcome x (view meaning between) cs) one.1 in (
        ap (λ (o : Outcome (List Answer)). outcome (a ∷ o.answer) o.after) behind
            ∙ ap (λ (o : Outcome Answer). let r = calls_outcome t o.after cs in outcome (o.answer ∷ r.answer) r.after) one.0,
        rest.1 ∙ one.1,
      )
