-- Kinds of records by their bytes, and what a record says by its kind.
use Rattle.std.proofs.Common.{◌≡◌, ℕ, Bool, true, false, cond, eqb, List, [], ◌∷◌, Some, None, Option, sym, refl, ap, ◌∙◌}
use Rattle.std.proofs.lemmas.Bool.{eqb-true}
use Rattle.plantlog.specs.declared.record.RecordKind.{RecordKind}
use Rattle.plantlog.specs.declared.record.RecordKind.TheVariants.{Table as ATable, Setup as ASetup, Alternative as AnAlternative, Count as ACount, Rearm as ARearm, End as AnEnd}
use Rattle.plantlog.specs.Layouts.{AllSaid, kinds, kind_byte, layout, all_numbers, first_fault}
use Rattle.plantlog.specs.Format.{Fields, Table, Setup, Alternative, Count, Rearm, End, kind_of, said_in, says, numbers_bytes, body, fields_fault}
use Rattle.plantlog.specs.FirstRecord.{kind_among}
use Rattle.plantlog.proofs.WriteFacts.{some_is, some_none}

pub said_back : (f : Fields) → says (kind_of f) (said_in f) ≡ f
said_back (Table ws) = refl
said_back (Setup s) = refl
said_back (Alternative ws) = refl
said_back (Count head count) = refl
said_back Rearm = refl
said_back (End counts) = refl

-- what is read of a kind is a record of that kind
pub record Says (k : RecordKind) (said : AllSaid (layout k)) : Type 0 where
  pub body : body (says k said) ≡ kind_byte k ∷ numbers_bytes (all_numbers (layout k) said)
  pub fault : fields_fault (says k said) ≡ first_fault (layout k) said

pub says_so : (k : RecordKind) (said : AllSaid (layout k)) → Says k said
says_so ATable said = record { body = refl; fault = refl }
says_so ASetup said = record { body = refl; fault = refl }
says_so AnAlternative said = record { body = refl; fault = refl }
says_so ACount said = record { body = refl; fault = refl }
says_so ARearm said = record { body = refl; fault = refl }
says_so AnEnd said = record { body = refl; fault = refl }

pub kind_back : (k : RecordKind) → kind_among kinds (kind_byte k) ≡ Some k
kind_back ATable = refl
kind_back ASetup = refl
kind_back AnAlternative = refl
kind_back ACount = refl
kind_back ARearm = refl
kind_back AnEnd = refl

by_test : (byte : ℕ) (j k : RecordKind) (b : Bool) (o : Option RecordKind) → eqb byte (kind_byte j) ≡ b → cond b (Some j) o ≡ Some k → (o ≡ Some k → kind_byte k ≡ byte) → kind_byte k ≡ byte
by_test byte j k true o t e later = ap kind_byte (sym (some_is e)) ∙ sym (eqb-true byte (kind_byte j) t)
by_test byte j k false o t e later = later e

pub kind_was : (ks : List RecordKind) (byte : ℕ) (k : RecordKind) → kind_among ks byte ≡ Some k → kind_byte k ≡ byte
kind_was [] byte k e = cc
kind_was (j ∷ ks) byte k e = by_test byte j k (eqb byte (kind_byte j)) (kind_among ks byte) refl e (kind_was ks byte k)

-- a byte of no kind
pub no_kind : (byte : ℕ) → kind_among kinds byte ≡ None → (k : RecordKind) → byte ≡ kind_byte k → ⊥
no_kind byte e k is = absurd (let z : ◌≡◌ {A = Option RecordKind} (Some k) None = sym (ap (kind_among kinds) is ∙ kind_back k) ∙ e in some_none z)
