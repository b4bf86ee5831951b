-- Results taken apart.
use Rattle.std.proofs.Common.{◌≡◌, ℕ, ◌⊎◌, Some, None, Ok, Err, Option, Result, sym, refl, ap, inl, inr, arith}
use Rattle.edetector.specs.Tables.{unless_fault}
use Rattle.plantlog.specs.Results.{of_ok, of_err, and_then}

pub ok_is : {T E : Type 0} {x y : T} → ◌≡◌ {A = Result T E} (Ok x) (Ok y) → x ≡ y
ok_is e = cc

pub err_no_ok : {T E : Type 0} {e : E} {y : T} → ◌≡◌ {A = Result T E} (Err e) (Ok y) → ⊥
err_no_ok e = let z : ◌≡◌ {A = ℕ} 0 1 = cc in omega arith

-- what was accepted after one step was accepted at both
pub then_was : {T U E : Type 0} (r : Result T E) (go : T → Result U E) (y : U) → and_then r go ≡ Ok y → (x : T) × (r ≡ Ok x) × (go x ≡ Ok y)
then_was (Ok x) go y e = (x, refl, e)
then_was (Err f) go y e = absurd (err_no_ok e)

pub of_ok_was : {T U E : Type 0} (f : T → U) (r : Result T E) (y : U) → of_ok f r ≡ Ok y → (x : T) × (r ≡ Ok x) × (f x ≡ y)
of_ok_was f (Ok x) y e = (x, refl, ok_is e)
of_ok_was f (Err e) y h = absurd (err_no_ok h)

pub err_is : {T E : Type 0} {e f : E} → ◌≡◌ {A = Result T E} (Err e) (Err f) → e ≡ f
err_is e = cc

-- what was refused was refused at the first step, or at the second
pub then_refused : {T U E : Type 0} (r : Result T E) (go : T → Result U E) (e : E) → and_then r go ≡ Err e → (r ≡ Err e) ⊎ ((x : T) × (r ≡ Ok x) × (go x ≡ Err e))
then_refused (Ok x) go e h = inr (x, refl, h)
then_refused (Err f) go e h = inl (ap (λ g. Err g) (err_is h))

pub of_ok_refused : {T U E : Type 0} (f : T → U) (r : Result T E) (e : E) → of_ok f r ≡ Err e → r ≡ Err e
of_ok_refused f (Ok x) e h = absurd (err_no_ok (sym h))
of_ok_refused f (Err g) e h = ap (λ g. Err g) (err_is h)

pub of_err_refused : {T E D : Type 0} (f : E → D) (r : Result T E) (d : D) → of_err f r ≡ Err d → (e : E) × (r ≡ Err e) × (f e ≡ d)
of_err_refused f (Ok x) d h = absurd (err_no_ok (sym h))
of_err_refused f (Err e) d h = (e, refl, err_is h)

pub of_err_was : {T E D : Type 0} (f : E → D) (r : Result T E) (x : T) → of_err f r ≡ Ok x → r ≡ Ok x
of_err_was f (Ok y) x h = ap (λ y. Ok y) (ok_is h)
of_err_was f (Err e) x h = absurd (err_no_ok h)

-- a value that is there where no fault is, and a fault that stands in its place
pub unless_ok : {X E : Type 0} (fault : Option E) (x y : X) → Ok y ≡ unless_fault fault x → (fault ≡ None) × (y ≡ x)
unless_ok None x y e = (refl, ok_is e)
unless_ok (Some f) x y e = absurd (err_no_ok (sym e))

pub unless_err : {X E : Type 0} (fault : Option E) (x : X) (f : E) → Err f ≡ unless_fault fault x → fault ≡ Some f
unless_err None x f e = absurd (err_no_ok e)
unless_err (Some g) x f e = cc
