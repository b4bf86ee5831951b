-- Numbers as the log writes them: a byte has seven bits of one, from the low end on, and is 128 more where another goes on with it.
use Rattle.std.specs.Prelude.{◌≡◌, ℕ, zero, suc, ◌+◌, ◌-◌, ◌*◌, ◌/◌, ◌%◌, ◌^◌, ◌<◌, ◌≤◌, Bool, true, false, if◌then◌else◌, ◌&&◌, List, [], ◌∷◌, ◌++◌, length, Ok, Err, Result, ◌==◌, nat_lt}
use Rattle.plantlog.specs.Results.{of_err}
use Rattle.plantlog.specs.NumberFaults.{number_fault_number}
use Rattle.plantlog.specs.declared.number.NumberFault.{NumberFault}
use Rattle.plantlog.specs.declared.number.NumberFault.TheVariants.{Wide, CutShort, Padded}

-- the bytes of a number, no more than it needs; the last of m + 1 takes all that is left
abbrev pub groups : ℕ → ℕ → List ℕ
groups zero n = n ∷ []
groups (suc m) n = if nat_lt n 128 then n ∷ [] else (n % 128 + 128) ∷ groups m (n / 128)

-- a number of 32 bits takes at most five
unfoldable pub number_bytes : ℕ → List ℕ
number_bytes n = groups 4 n

-- a lower group d goes before the number read behind it
abbrev pub below_more : ℕ → Result (ℕ × List ℕ) NumberFault → Result (ℕ × List ℕ) NumberFault
below_more d (Ok p) = Ok (d + 128 * p.0, p.1)
below_more d (Err e) = Err e

-- a group that ends its number: it may be 0 only if none came before
abbrev pub last_group : Bool → ℕ → List ℕ → Result (ℕ × List ℕ) NumberFault
last_group several b rest = if several && b == 0 then Err Padded else Ok (b, rest)

-- a number and the bytes behind it; m groups may come after this one, and several says that one came before
abbrev pub first_number_by : ℕ → Bool → List ℕ → Result (ℕ × List ℕ) NumberFault
first_number_by m several [] = Err CutShort
first_number_by zero several (b ∷ rest) = if nat_lt 15 b then Err Wide else last_group several b rest
first_number_by (suc m) several (b ∷ rest) = if nat_lt b 128 then last_group several b rest else below_more (b - 128) (first_number_by m true rest)

unfoldable pub first_number : List ℕ → Result (ℕ × List ℕ) NumberFault
first_number bytes = first_number_by 4 false bytes

-- every one of the bytes promises another
abbrev pub AllGoOn : List ℕ → Type 0
AllGoOn [] = Unit {0}
AllGoOn (b ∷ bs) = (128 ≤ b) × AllGoOn bs

-- no number stands in front of the bytes: a fifth byte has more than four bits; every byte that is there promises another; a byte that was promised is 0 and adds nothing
abbrev pub Malformed : NumberFault → List ℕ → Type 0
Malformed Wide bs = (cs : List ℕ) × (b : ℕ) × (rest : List ℕ) × (bs ≡ cs ++ b ∷ rest) × AllGoOn cs × (length cs ≡ 4) × (15 < b)
Malformed CutShort bs = AllGoOn bs × (length bs ≤ 4)
Malformed Padded bs = (cs : List ℕ) × (rest : List ℕ) × (bs ≡ cs ++ 0 ∷ rest) × AllGoOn cs × (0 < length cs) × (length cs ≤ 4)

-- what the bytes say: the number that is written in front and what is behind it, or why there is none
abbrev pub NumberRead : List ℕ → Result (ℕ × List ℕ) NumberFault → Type 0
NumberRead bs (Ok p) = (bs ≡ number_bytes p.0 ++ p.1) × (p.0 < 2 ^ 32)
NumberRead bs (Err cause) = Malformed cause bs

-- one number both ways, and a refusal of each kind by its number
abbrev pub NumberExamples : Type 0
NumberExamples =
    (number_bytes 300 ≡ 0xac ∷ 0x02 ∷ [])
    × (first_number (0xac ∷ 0x02 ∷ []) ≡ Ok (300, []))
    × (of_err number_fault_number (first_number (0xac ∷ [])) ≡ Err 11)
    × (of_err number_fault_number (first_number (0x80 ∷ 0x00 ∷ [])) ≡ Err 12)
    × (of_err number_fault_number (first_number (0xff ∷ 0xff ∷ 0xff ∷ 0xff ∷ 0x10 ∷ [])) ≡ Err 13)
