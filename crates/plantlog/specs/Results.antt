-- Results of one step after another.
use Rattle.std.specs.Prelude.{Ok, Err, Result}

-- the accepted value seen through f; a refusal stays
abbrev pub of_ok : {T U E : Type 0} → (T → U) → Result T E → Result U E
of_ok f (Ok x) = Ok (f x)
of_ok f (Err e) = Err e

-- the refusal seen through f; an accepted value stays
abbrev pub of_err : {T E D : Type 0} → (E → D) → Result T E → Result T D
of_err f (Ok x) = Ok x
of_err f (Err e) = Err (f e)

-- go on from an accepted value; the first refusal decides
abbrev pub and_then : {T U E : Type 0} → Result T E → (T → Result U E) → Result U E
and_then (Ok x) go = go x
and_then (Err e) go = Err e
